use Rattle.std.proofs.Common.{◌≡◌, ◌<◌, ◌^◌, ℕ, ℤ, pos, ◌+ℤ◌, ◌-ℤ◌, eqb, cond, Bool, true, false, unsigned_abs, ap, arith, rules}
use Rattle.std.proofs.lemmas.Int.{ints}
use Rattle.cycle_find.specs.Constraints.{numbers_of}
use Rattle.schedule_problem.specs.declared.problem.Term.{Term}
use Rattle.schedule_problem.specs.Flow.{from_of, to_of, weight_of}
use Rattle.schedule_flow.specs.Network.{at_node}
use Rattle.schedule_problem.proofs.Sums.{total-more}
use Rattle.schedule_flow.proofs.network.surpluses.Goals as goal

small_at : (a w v : ℕ) → w < 2 ^ 32 → unsigned_abs (at_node a w v) < 2 ^ 32
small_at a w v h = go (eqb a v) where
  go : (b : Bool) → unsigned_abs (cond b (pos w) (pos 0)) < 2 ^ 32
  go true = h
  go false = omega arith

pub loop-t-preserved : goal.loop-t-preserved
loop-t-preserved c =
    let terms = c.as_slice-terms.result.now in
    let t = c.loop-t.t in
    let a = c.term_number-term.result in
    let inv = c.loop-t.invariant in
    let w : a.weight < 2 ^ 32 = search rules in
    let F : ℕ → Term → ℤ = λ v b. at_node b.from b.weight v in
    let T : ℕ → Term → ℤ = λ v b. at_node b.to b.weight v in
    let is : (v : ℕ) → numbers_of c.subtract.new.rest v ≡
    ((numbers_of c.loop-t.rest v +ℤ at_node a.from a.weight v) -ℤ at_node a.to a.weight v) =
    λ (v : ℕ). omega (arith, ints, c.subtract.ensures v, c.add.ensures v) in
    record {
      so_far = λ v.
          let m1 = total-more t (λ k. cond (eqb (from_of terms k) v) (pos (weight_of terms k)) (pos 0)) in
          let m2 = total-more t (λ k. cond (eqb (to_of terms k) v) (pos (weight_of terms k)) (pos 0)) in
          let e1 = ap (F v) c.term_number-term.ensures in
          let e2 = ap (T v) c.term_number-term.ensures in
          omega (arith, ints, is v, inv.so_far v, m1, m2, e1, e2);
      small = λ v. omega (arith, ints, is v, inv.small v, small_at a.from a.weight v w, small_at a.to a.weight v w);
      light =
          let m = total-more t (λ k. pos (weight_of terms k)) in
          let e : a.weight ≡ weight_of terms t = ap (λ (b : Term). b.weight) c.term_number-term.ensures in
          omega (arith, ints, m, inv.light, e, w);
    }
