use Rattle.std.proofs.Common.{◌≡◌, ℕ, ℤ, ◌+ℤ◌, ◌-ℤ◌, ◌^◌, ap, arith}
use Rattle.std.proofs.lemmas.Int.{ints}
use Rattle.cycle_find.specs.Constraints.{numbers_of, start_of, end_of}
use Rattle.cycle_find.specs.declared.arcs.Arc.{Arc}
use Rattle.schedule_problem.specs.Flow.{flow_of}
use Rattle.dual_check.specs.Balance.{at_node}
use Rattle.dual_check.proofs.Adding.{small_at, amount_more}
use Rattle.dual_check.proofs.balance.carry.Goals as goal

pub loop-j-preserved : goal.loop-j-preserved
loop-j-preserved c =
    let list = c.as_slice-list.result.now in
    let j = c.loop-j.j in
    let f = flow_of c.args.flow.now in
    let a = c.arc_number-arc.result in
    let inv = c.loop-j.invariant in
    let F : ℕ → Arc → ℤ = λ v b. at_node b.from (f j) v in
    let T : ℕ → Arc → ℤ = λ v b. at_node b.to (f j) v in
    let is : (v : ℕ) → numbers_of c.take.new.rest v ≡ ((numbers_of c.loop-j.rest v +ℤ at_node a.to (f j) v) -ℤ at_node a.from (f j) v) =
    λ (v : ℕ). omega (arith, ints, c.take.ensures v, c.add.ensures v) in
    record {
      so_far = λ v.
          let e = ap (T v) c.arc_number-arc.ensures in
          let s = ap (F v) c.arc_number-arc.ensures in
          omega (arith, ints, is v, inv.so_far v, amount_more j (end_of list) f v, amount_more j (start_of list) f v, e, s);
      small = λ v.
          let e = small_at a.to (f j) (2 ^ 63) v (c.requires.carried j) in
          let s = small_at a.from (f j) (2 ^ 63) v (c.requires.carried j) in
          omega (arith, ints, is v, inv.small v, e, s);
    }
