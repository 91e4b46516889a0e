use Rattle.std.proofs.Common.{◌∙◌, sym, ap}
use Rattle.verilog_sim.specs.Batches.{instructions_of_all}
use Rattle.verilog_sim.specs.Updates.{held_by}
use Rattle.verilog_sim.proofs.Ahead.{loaded_ready, ahead_kept}
use Rattle.verilog_sim.proofs.Answering.{part_of_feeding, no_literal, literal_free}
use Rattle.verilog_sim.proofs.Clocking.{update_small, load_small, clocked}
use Rattle.verilog_sim.proofs.Compiling.{instructions_at}
use Rattle.verilog_sim.proofs.Evaluated.{kept_on_instructions}
use Rattle.verilog_sim.proofs.Gifting.{given_inputs}
use Rattle.verilog_sim.proofs.Updating.{update_safe, load_safe}
use Rattle.verilog_sim.proofs.evaluate.step.Goals as goal

pub load-requires : goal.load-requires
load-requires c =
    let m = c.requires.0 in
    let r = c.requires.3 in
    let v = c.requires.4 in
    let p = c.requires.5 in
    record {
      safe = load_safe m _ c.args.updates.now r.simulable.runnable v.words.nets r.updates_are;
      nets = r.kept.words.nets ∙ sym v.words.nets;
      small = load_small m c.args.program.now.narrow c.args.updates.now r.simulable.runnable r.updates_are p.narrow
          c.args.ahead.now c.args.values.now (λ n e. r.kept.words.words n) v.words.words;
    }

pub evaluate-requires : goal.evaluate-requires
evaluate-requires c =
    let m = c.requires.0 in
    let r = c.requires.3 in
    let p = c.requires.5 in
    let i = c.args.interface.now in
    let g = c.args.stimulus.now in
    let us = c.args.updates.now in
    let held = held_by us c.args.ahead.now in
    let ready = loaded_ready m us i g.steady.now g.offers.now held c.args.ahead.now c.args.values.now c.load.new.values
    c.args.memories.now r c.requires.4 c.load.ensures in
    let instructions = instructions_at m p.edge (instructions_of_all c.args.program.now.edge.items)
    (instructions_of_all c.as_slice-batches.result.now) (ap instructions_of_all c.as_slice-batches.ensures.value) p.edge_are in
    let part = part_of_feeding m p.order p.edge _ p.ordered p.sees in
    (m, p.edge, us, held, ready, part, instructions)

pub clock-requires-clause-safe : goal.clock-requires-clause-safe
clock-requires-clause-safe c =
    let m = c.requires.0 in
    let r = c.requires.3 in
    let p = c.requires.5 in
    let i = c.args.interface.now in
    let g = c.args.stimulus.now in
    let us = c.args.updates.now in
    let held = held_by us c.args.ahead.now in
    let ready = loaded_ready m us i g.steady.now g.offers.now held c.args.ahead.now c.args.values.now c.load.new.values
    c.args.memories.now r c.requires.4 c.load.ensures in
    let instructions = instructions_at m p.edge (instructions_of_all c.args.program.now.edge.items)
    (instructions_of_all c.as_slice-batches.result.now) (ap instructions_of_all c.as_slice-batches.ensures.value) p.edge_are in
    let part = part_of_feeding m p.order p.edge _ p.ordered p.sees in
    let by = c.evaluate.ensures m p.edge us held ready part instructions in
    update_safe m _ _ us r.simulable.runnable by.settles.nets r.kept.blocks r.updates_are

pub clock-requires-clause-small : goal.clock-requires-clause-small
clock-requires-clause-small c =
    let m = c.requires.0 in
    let r = c.requires.3 in
    let p = c.requires.5 in
    let i = c.args.interface.now in
    let g = c.args.stimulus.now in
    let us = c.args.updates.now in
    let held = held_by us c.args.ahead.now in
    let ready = loaded_ready m us i g.steady.now g.offers.now held c.args.ahead.now c.args.values.now c.load.new.values
    c.args.memories.now r c.requires.4 c.load.ensures in
    let instructions = instructions_at m p.edge (instructions_of_all c.args.program.now.edge.items)
    (instructions_of_all c.as_slice-batches.result.now) (ap instructions_of_all c.as_slice-batches.ensures.value) p.edge_are in
    let part = part_of_feeding m p.order p.edge _ p.ordered p.sees in
    let by = c.evaluate.ensures m p.edge us held ready part instructions in
    update_small m c.args.program.now.narrow us r.simulable.runnable r.updates_are p.narrow c.evaluate.new.values by.settles.words

pub clock-requires-clause-nets : goal.clock-requires-clause-nets
clock-requires-clause-nets c =
    let m = c.requires.0 in
    let r = c.requires.3 in
    let p = c.requires.5 in
    let i = c.args.interface.now in
    let g = c.args.stimulus.now in
    let us = c.args.updates.now in
    let held = held_by us c.args.ahead.now in
    let ready = loaded_ready m us i g.steady.now g.offers.now held c.args.ahead.now c.args.values.now c.load.new.values
    c.args.memories.now r c.requires.4 c.load.ensures in
    let instructions = instructions_at m p.edge (instructions_of_all c.args.program.now.edge.items)
    (instructions_of_all c.as_slice-batches.result.now) (ap instructions_of_all c.as_slice-batches.ensures.value) p.edge_are in
    let part = part_of_feeding m p.order p.edge _ p.ordered p.sees in
    let by = c.evaluate.ensures m p.edge us held ready part instructions in
    r.kept.words.nets ∙ sym by.settles.nets

pub returns : goal.returns
returns c = λ m os net r v p.
    let i = c.args.interface.now in
    let g = c.args.stimulus.now in
    let us = c.args.updates.now in
    let held = held_by us c.args.ahead.now in
    let run = r.simulable.runnable in
    let ready = loaded_ready m us i g.steady.now g.offers.now held c.args.ahead.now c.args.values.now c.load.new.values
    c.args.memories.now r v c.load.ensures in
    let instructions = instructions_at m p.edge (instructions_of_all c.args.program.now.edge.items)
    (instructions_of_all c.as_slice-batches.result.now) (ap instructions_of_all c.as_slice-batches.ensures.value) p.edge_are in
    let part = part_of_feeding m p.order p.edge _ p.ordered p.sees in
    let by = c.evaluate.ensures m p.edge us held ready part instructions in
    let free = literal_free m p.edge run part (no_literal p.order p.edge _ p.sees) in
    let before = kept_on_instructions m p.edge i g.reset g.steady.now g.offers.now g.accepts.now g.holds.now held
    c.load.new.values c.evaluate.new.values c.args.memories.now run part free ready.kept by in
    let wrote = c.clock.ensures.written m r.kept.words.depths in
    let now = clocked m os p.order p.edge us i g.reset g.steady.now g.offers.now g.accepts.now g.holds.now held
    c.load.new.values c.evaluate.new.values (held_by us c.clock.new.ahead) c.args.memories.now c.clock.new.memories run
    p.ordered p.sees (given_inputs m i r.simulable g.reset g.steady.now g.offers.now g.accepts.now g.holds.now)
    ready.kept by r.updates_are wrote.1 in (
      ahead_kept m i us g.steady.now c.args.ahead.now c.clock.new.ahead c.args.memories.now run r.updates_are r.kept
          c.clock.new.memories c.clock.ensures.nets c.clock.ensures.others c.clock.auto.memories wrote.0 now.words,
      record {
        words = record {
          nets = before.words.nets;
          words = before.words.words;
          depths = wrote.0;
          cells = now.words.cells;
        };
        constant = before.constant;
      },
      record {
        values = now.all.values;
        evaluated = now.all.evaluated;
        seen = now.all.same;
        after = now.after;
      },
    )
