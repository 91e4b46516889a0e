use Rattle.std.proofs.Common.{◌+◌, ℕ, List, length, refl, sym, subst, ◌∙◌, arith}
use Rattle.std.proofs.lemmas.Option.{slice_get_read}
use Rattle.verilog_sim.specs.First.{AreLiteralsSet}
use Rattle.verilog_sim.proofs.Starting.{none_more, one_more_set}
use Rattle.verilog_sim.proofs.start.set_literals.Goals.{in-Literal, in_default}
use Rattle.verilog_sim.proofs.start.set_literals.Goals as goal

pub loop-assign-preserved : goal.loop-assign-preserved
loop-assign-preserved c =
    let i = c.loop-assign.assign-index in
    let a = c.assign-item.result in
    let all = c.args.assigns.now in
    let at = slice_get_read all (length all) i a refl c.loop-assign-test.true c.assign-item.is in
    let lt = c.requires i a at in
    elim c.match-assign.branch [
      | in-Literal w ↦ (
          let more = one_more_set all c.args.values.now c.loop-assign.values i a at c.loop-assign.invariant w.in-Literal.word w.in-Literal.is (omega (arith, lt, c.loop-assign.invariant.size)) in
          subst (λ (l : List ℕ). AreLiteralsSet all c.args.values.now l (i + 1)) (sym (w.values-is ∙ w.set.ensures)) (rw w.bits.ensures more))
      | in_default w ↦ (
          let more = none_more all c.args.values.now c.loop-assign.values i a at c.loop-assign.invariant w.in_default.not-Literal in
          subst (λ (l : List ℕ). AreLiteralsSet all c.args.values.now l (i + 1)) (sym w.values-is) more)
    ]
