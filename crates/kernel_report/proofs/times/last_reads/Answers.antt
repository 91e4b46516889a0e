use Rattle.std.proofs.Common.{◌≡◌, ◌-◌, ◌<◌, length, get_or, ap, ◌∙◌, pos, to_z, of_z, FitsSigned, w64, arith, rules}
use Rattle.std.specs.Prelude.{◌-ℤ◌, None}
use Rattle.std.proofs.lemmas.Int.{to_z-of_z}
use Rattle.std.proofs.lemmas.List.{get_or_read}
use Rattle.cycle_find.specs.Constraints.{numbers_of}
use Rattle.offset_edges.specs.declared.edge.Edge.{Edge}
use Rattle.offset_edges.specs.Schedules.{greater}
use Rattle.kernel_report.proofs.Kept.{read_more}
use Rattle.kernel_report.proofs.times.last_reads.Goals as goal

pub loop-number-preserved : goal.loop-number-preserved
loop-number-preserved c =
    let edges = c.args.edges.now in
    let reads = c.loop-number.reads.items in
    let i = c.loop-number.number in
    let j = i - 1 in
    let d : Edge = record { from = 0; to = 0; offset = pos 0 } in
    let e : Edge = get_or edges j d in
    let some = c.loop-number-test.true in
    let place : j < length edges = omega (arith, c.loop-number.auto.number) in
    let counted = c.loop-number.invariant.counted in
    let from = (c.requires.edges j place).from in
    let within : e.from < length reads = omega arith in
    let time : FitsSigned w64 c.read_at.result = search rules in
    let last : FitsSigned w64 c.later.result = search rules in
    let is : to_z w64 (of_z w64 c.later.result) ≡ greater (numbers_of c.args.times.now e.to -ℤ e.offset) (get_or reads e.from None) =
    to_z-of_z w64 c.later.result last ∙ c.later.ensures
    ∙ ap (λ z. greater z c.index.result.now) (to_z-of_z w64 c.read_at.result time ∙ c.read_at.ensures)
    ∙ ap (λ o. greater (numbers_of c.args.times.now e.to -ℤ e.offset) o)
    (get_or_read reads e.from c.index.result.now within c.index.ensures None) in
    record {
      counted = search rules;
      reads =
          read_more (numbers_of c.args.times.now) edges d reads i j (to_z w64 (of_z w64 c.later.result)) place (omega arith)
          within is c.loop-number.invariant.reads;
    }
