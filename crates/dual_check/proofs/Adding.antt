-- Amounts that are added at nodes.
use Rattle.std.proofs.Common.{◌≡◌, ℕ, ◌+◌, ◌<◌, eqb, cond, Bool, true, false, pos, ◌+ℤ◌, unsigned_abs, arith}
use Rattle.schedule_problem.specs.Flow.{amount_at}
use Rattle.schedule_problem.proofs.Sums.{total-more}
use Rattle.dual_check.specs.Balance.{at_node}

-- what is added at a node is as small as the amount, at any node
pub small_at : (a w b v : ℕ) → w < b → unsigned_abs (at_node a w v) < b
small_at a w b v h = go (eqb a v) where
  go : (t : Bool) → unsigned_abs (cond t (pos w) (pos 0)) < b
  go true = h
  go false = omega (arith, h)

-- one amount more
pub amount_more : (n : ℕ) (place amount : ℕ → ℕ) (v : ℕ)
    → amount_at (n + 1) place amount v ≡ (amount_at n place amount v +ℤ at_node (place n) (amount n) v)
amount_more n place amount v = total-more n (λ k. cond (eqb (place k) v) (pos (amount k)) (pos 0))
