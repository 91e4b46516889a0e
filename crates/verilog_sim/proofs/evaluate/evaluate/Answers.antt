use Rattle.std.proofs.Common.{◌≡◌, ◌∙◌, ◌<◌, ℕ, List, length, subst, sym, ap}
use Rattle.verilog_sim.specs.Batches.{instructions_of_all}
use Rattle.verilog_sim.specs.Gifts.{Every, gifts, written}
use Rattle.verilog_sim.specs.Settled.{AreWords, Settles}
use Rattle.verilog_sim.proofs.Compiling.{instructions_safe}
use Rattle.verilog_sim.proofs.Written.{length_written}
use Rattle.verilog_sim.proofs.Gifting.{given_within, given_fits, driven_words, by_instructions}
use Rattle.verilog_sim.proofs.evaluate.evaluate.Goals as goal

pub drive-requires : goal.drive-requires
drive-requires c =
    let r = c.requires.4 in
    let g = c.args.stimulus.now in
    let i = c.args.interface.now in
    record {
      nets = subst (λ (n : ℕ). Every (λ (x : ℕ × ℕ). x.0 < n) (gifts i g.reset g.steady.now g.offers.now g.accepts.now g.holds.now)) (sym r.kept.words.nets)
          (given_within c.requires.0 i r.simulable g.reset g.steady.now g.offers.now g.accepts.now g.holds.now);
      many = sym r.kept.steady_ports;
    }

pub settle-requires : goal.settle-requires
settle-requires c =
    let r = c.requires.4 in
    let g = c.args.stimulus.now in
    let i = c.args.interface.now in
    let gs = gifts i g.reset g.steady.now g.offers.now g.accepts.now g.holds.now in
    let nets : length c.drive.new.values ≡ length c.requires.0.nets = ap length c.drive.ensures ∙ length_written c.args.values.now gs ∙ r.kept.words.nets in
    rw (nets, r.kept.blocks)
    (record { safe = instructions_safe c.requires.0 c.requires.1 (instructions_of_all c.args.batches.now) r.simulable.runnable c.requires.5 c.requires.6 })

pub returns : goal.returns
returns c = λ m assigns updates held r part instructions.
    let p = r.simulable in
    let k = r.kept in
    let g = c.args.stimulus.now in
    let i = c.args.interface.now in
    let old = c.args.values.now in
    let gs = gifts i g.reset g.steady.now g.offers.now g.accepts.now g.holds.now in
    let driven : c.drive.new.values ≡ written old gs = c.drive.ensures in
    let fits = given_fits m i p g.reset g.steady.now g.offers.now g.accepts.now g.holds.now k.steady_ports k.steady_words r.offered in
    let words = driven_words m i p g.reset g.steady.now g.offers.now g.accepts.now g.holds.now old c.args.memories.now k.words fits in
    let settled = c.settle.ensures m assigns instructions part.in_order (subst (λ (l : List ℕ). AreWords m l c.args.memories.now) (sym driven) words) in
    by_instructions m i p g.reset g.steady.now g.offers.now g.accepts.now g.holds.now assigns held old c.settle.new.values
    c.args.memories.now k.loaded k.constant k.words.nets words
    (subst (λ (l : List ℕ). Settles m assigns c.args.memories.now l c.settle.new.values) driven settled)
