use Rattle.std.proofs.Common.{◌∙◌, refl, eqb, ap, arith}
use Rattle.verilog_sim.proofs.Gifting.{given_inputs, done_in}
use Rattle.verilog_sim.proofs.Evaluated.{kept_on_instructions}
use Rattle.verilog_sim.proofs.Answering.{part_of_feeding, no_literal, literal_free, completed}
use Rattle.verilog_sim.proofs.Compiling.{instructions_at}
use Rattle.verilog_sim.specs.Batches.{instructions_of_all}
use Rattle.verilog_sim.proofs.evaluate.is_done.Goals as goal

pub evaluate-requires : goal.evaluate-requires
evaluate-requires c =
    let p = c.requires.5 in (
      c.requires.0,
      p.feeding,
      c.requires.2,
      c.requires.3,
      c.requires.4,
      part_of_feeding c.requires.0 p.order p.feeding
          _ p.ordered p.feeds,
      instructions_at c.requires.0 p.feeding (instructions_of_all c.args.program.now.feeding.items)
          (instructions_of_all c.as_slice-batches.result.now) (ap instructions_of_all c.as_slice-batches.ensures.value) p.feeding_are,
    )

pub get-requires : goal.get-requires
get-requires c =
    let p = c.requires.5 in
    let r = c.requires.4 in
    let by = c.evaluate.ensures c.requires.0 p.feeding c.requires.2 c.requires.3 r
    (part_of_feeding c.requires.0 p.order p.feeding _ p.ordered p.feeds)
    (instructions_at c.requires.0 p.feeding (instructions_of_all c.args.program.now.feeding.items)
    (instructions_of_all c.as_slice-batches.result.now) (ap instructions_of_all c.as_slice-batches.ensures.value)
    p.feeding_are) in
    let lt = done_in c.requires.0 c.args.interface.now r.simulable in
    omega (arith, lt, by.settles.nets)

pub returns : goal.returns
returns c = λ m os updates held r p.
    let g = c.args.stimulus.now in
    let part = part_of_feeding m p.order p.feeding _ p.ordered p.feeds in
    let by = c.evaluate.ensures m p.feeding updates held r part
    (instructions_at m p.feeding (instructions_of_all c.args.program.now.feeding.items)
    (instructions_of_all c.as_slice-batches.result.now) (ap instructions_of_all c.as_slice-batches.ensures.value)
    p.feeding_are) in
    let free = literal_free m p.feeding r.simulable.runnable part (no_literal p.order p.feeding _ p.feeds) in
    let all = completed m p.order p.feeding _ c.args.interface.now g.reset g.steady.now g.offers.now g.accepts.now
    g.holds.now held c.evaluate.new.values c.args.memories.now r.simulable.runnable p.ordered p.feeds
    (given_inputs m c.args.interface.now r.simulable g.reset g.steady.now g.offers.now g.accepts.now g.holds.now)
    by in
    record {
      kept = kept_on_instructions m p.feeding c.args.interface.now g.reset g.steady.now g.offers.now g.accepts.now g.holds.now
          held c.args.values.now c.evaluate.new.values c.args.memories.now r.simulable.runnable part free r.kept by;
      values = all.values;
      evaluated = all.evaluated;
      answer_is = ap (λ n. eqb n 1) (c.get.ensures ∙ all.same c.args.interface.now.done refl);
    }
