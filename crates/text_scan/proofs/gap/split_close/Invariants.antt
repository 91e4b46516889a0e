use Rattle.std.proofs.Common.{◌≡◌, ◌<◌, ◌∷◌, ℕ, List, drop}
use Rattle.text_scan.proofs.gap.split_close.Given as goal

-- no `*/` so far
abbrev pub invariant-loop-at : goal.invariant-loop-at
invariant-loop-at l = (k : ℕ) → k < l.at → (rest : List ℕ) → drop k l.text ≡ 42 ∷ 47 ∷ rest → ⊥
