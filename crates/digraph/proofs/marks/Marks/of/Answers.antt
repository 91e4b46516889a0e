use Rattle.std.proofs.Common.{◌≤◌, ◌∙◌, get_or, refl, arith}
use Rattle.std.proofs.lemmas.Option.{slice_get-get_or, slice_get_within}
use Rattle.digraph.proofs.Marking.{none_first, first_more}
use Rattle.digraph.proofs.marks.Marks.of.Goals as goal

pub loop-i-init : goal.loop-i-init
loop-i-init c = record { size = refl; first = none_first c.args.numbers.now c.in_ok-marks.marks c.in_ok-marks.ensures.none }

pub mark-requires : goal.mark-requires
mark-requires c =
    let numbers = c.args.numbers.now in let i = c.loop-i.i in
    let most : get_or numbers i 0 ≤ c.greatest.result = c.greatest.ensures i (get_or numbers i 0) (slice_get-get_or numbers i 0 c.loop-i-test.true) in
    omega (arith, c.loop-i.invariant.size, c.in_ok-marks.ensures.size)

pub loop-i-preserved : goal.loop-i-preserved
loop-i-preserved c =
    let numbers = c.args.numbers.now in let i = c.loop-i.i in
    record {
      size = c.mark.ensures.size ∙ c.loop-i.invariant.size;
      first = first_more numbers c.loop-i.marks c.mark.new.self i (get_or numbers i 0)
          (slice_get-get_or numbers i 0 c.loop-i-test.true) c.mark.ensures.marked
          c.mark.ensures.others c.loop-i.invariant.first;
    }

pub returns : goal.returns
returns c = λ n.
    let h = c.loop-i.invariant.first n in
    (λ m. let w = h.0 m in (w.0, w.2), λ w. h.1 (w.0, omega (arith, slice_get_within c.args.numbers.now w.0 n w.1), w.1))
