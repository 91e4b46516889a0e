use Rattle.std.proofs.Common.{◌≡◌, ◌+◌, ◌<◌, ◌^◌, ◌++◌, ◌∙◌, ℕ, List, length, get_or, ap, subst, arith}
use Rattle.std.proofs.lemmas.Option.{slice_get-get_or}
use Rattle.rtl_ir.specs.Operands.{reads}
use Rattle.rtl_check.specs.Paths.{IsAssigned}
use Rattle.rtl_check.proofs.Edges.{steps_assign, adds_now, small_now}
use Rattle.rtl_check.proofs.paths.add_assigns.Goals as goal

pub loop-place-preserved : goal.loop-place-preserved
loop-place-preserved c =
    let m = c.args.module.now in let j = c.loop-place.place in let a = c.at-assign.result.now in
    let g = c.loop-place.graph in let e = c.index-number.ensures.number in let d =
    c.index-graph-number.result in let old = get_or g a.target d in let there = get_or g
    c.index-number.result d in let now = c.join.new.self in
    let small : a.target < 2 ^ 32 = omega arith in
    let lt : a.target < length g = let w = c.requires j a c.at-assign.ensures small in omega arith in
    let was = slice_get-get_or g a.target d lt in
    let more : c.push_reads.new.nets ≡ reads a.expr = c.in_ok-push_reads.ensures.ok ∙ ap (λ (l : List ℕ). l ++ reads a.expr) c.new-reads.ensures in
    let is : now ≡ old ++ reads a.expr = subst (λ (k : ℕ). now ≡ get_or g k d ++ reads a.expr) e (c.in_ok-join.ensures ∙ ap (λ (l : List ℕ). there ++ l) (c.own.ensures ∙ more)) in
    rw e (record {
      added = adds_now (IsAssigned m j) (IsAssigned m (j + 1)) c.args.graph.now g a.target old (reads a.expr) now was is (steps_assign m j a c.at-assign.ensures) c.loop-place.invariant.added;
      small = λ s. small_now g a.target old (reads a.expr) now was is c.in_ok-push_reads.ensures.small (c.loop-place.invariant.small s);
    })
