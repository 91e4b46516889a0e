use Rattle.std.proofs.Common.{false, ◌∙◌, ◌≡◌, ◌+◌, Some, length, refl, sym, subst, arith}
use Rattle.std.specs.Prelude.{slice_get}
use Rattle.std.proofs.lemmas.Option.{slice_get_read}
use Rattle.std.proofs.lemmas.Bool.{false≢true}
use Rattle.std.proofs.lemmas.List.{length-set}
use Rattle.verilog_sim.specs.Instructions.{IsSafe}
use Rattle.verilog_sim.specs.Settled.{Progress}
use Rattle.verilog_sim.proofs.InOrder.{instruction_between, instructions_between}
use Rattle.verilog_sim.proofs.settle.settle_instructions.Goals as goal

pub value_of-value-requires : goal.value_of-value-requires
value_of-value-requires c =
    let i = c.loop-instruction.instruction-index in
    rw c.loop-instruction.invariant.0
    (record { safe = subst (IsSafe (length c.args.values.now) (length c.args.memories.now)) (sym c.instruction-item.is) (c.requires.safe i c.instruction-item.result c.loop-instruction-test.true) })

pub set-requires : goal.set-requires
set-requires c =
    let i = c.loop-instruction.instruction-index in
    let safe = subst (IsSafe (length c.args.values.now) (length c.args.memories.now)) (sym c.instruction-item.is) (c.requires.safe i c.instruction-item.result c.loop-instruction-test.true) in
    omega (arith, safe.target, c.loop-instruction.invariant.0)

pub loop-instruction-init : goal.loop-instruction-init
loop-instruction-init c = (
  refl,
  λ m order old before rest are o h p.
      let none : length before ≡ length before + 0 = omega arith in
      subst (Progress m order c.args.memories.now old c.args.values.now) none p,
)

pub loop-instruction-preserved : goal.loop-instruction-preserved
loop-instruction-preserved c =
    let l = c.instruction-item.result in
    let i = c.loop-instruction.instruction-index in
    let at : slice_get c.args.instructions.now i ≡ Some l = slice_get_read c.args.instructions.now (length c.args.instructions.now) i l refl c.loop-instruction-test.true c.instruction-item.is in
    let safe = subst (IsSafe (length c.args.values.now) (length c.args.memories.now)) (sym c.instruction-item.is) (c.requires.safe i l c.loop-instruction-test.true) in
    rw c.set.ensures (
      length-set c.loop-instruction.values l.target c.value_of-value.result ∙ c.loop-instruction.invariant.0,
      λ m order old before rest are o h p. instruction_between m order c.args.memories.now before
          c.args.instructions.now rest old c.loop-instruction.values i l c.value_of-value.result false
          (λ e. absurd (false≢true e)) are o h at (omega (
            arith,
            safe.target,
            c.loop-instruction.invariant.0,
          )) safe.some safe.at_most (λ _. c.value_of-value.ensures)
          (c.loop-instruction.invariant.1 m order old before rest are o h p),
    )

pub returns-clause-advances : goal.returns-clause-advances
returns-clause-advances c = λ m order old before rest are o h p.
    instructions_between m order c.args.memories.now before c.args.instructions.now old
    c.loop-instruction.values c.loop-instruction.instruction-index (omega arith)
    (c.loop-instruction.invariant.1 m order old before rest are o h p)
