use Rattle.std.proofs.Common.{◌≡◌, ℕ, ℤ, ◌+ℤ◌, ◌-ℤ◌, ◌<◌, ◌^◌, ap, arith, rules}
use Rattle.std.proofs.lemmas.Int.{ints}
use Rattle.cycle_find.specs.Constraints.{numbers_of}
use Rattle.schedule_problem.specs.declared.problem.Term.{Term}
use Rattle.schedule_problem.specs.Flow.{from_of, to_of, weight_of}
use Rattle.dual_check.specs.Balance.{at_node}
use Rattle.dual_check.proofs.Adding.{small_at, amount_more}
use Rattle.dual_check.proofs.balance.weigh.Goals as goal

pub loop-t-preserved : goal.loop-t-preserved
loop-t-preserved c =
    let terms = c.as_slice-terms.result.now in
    let t = c.loop-t.t in
    let a = c.term_number-term.result in
    let inv = c.loop-t.invariant in
    let w : a.weight < 2 ^ 32 = search rules in
    let F : ℕ → Term → ℤ = λ v b. at_node b.from b.weight v in
    let T : ℕ → Term → ℤ = λ v b. at_node b.to b.weight v in
    let is : (v : ℕ) → numbers_of c.take.new.rest v ≡ ((numbers_of c.loop-t.rest v +ℤ at_node a.from a.weight v) -ℤ at_node a.to a.weight v) =
    λ (v : ℕ). omega (arith, ints, c.take.ensures v, c.add.ensures v) in
    record {
      so_far = λ v.
          let s = ap (F v) c.term_number-term.ensures in
          let e = ap (T v) c.term_number-term.ensures in
          let starts = amount_more t (from_of terms) (weight_of terms) v in
          let ends = amount_more t (to_of terms) (weight_of terms) v in
          omega (arith, ints, is v, inv.so_far v, starts, ends, s, e);
      small = λ v.
          let s = small_at a.from a.weight (2 ^ 32) v w in
          let e = small_at a.to a.weight (2 ^ 32) v w in
          omega (arith, ints, is v, inv.small v, s, e);
    }
