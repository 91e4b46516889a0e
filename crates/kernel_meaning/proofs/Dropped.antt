-- The newest of a list that are dropped one after another.
use Rattle.std.proofs.Common.{
  ◌≡◌,
  ℕ,
  suc,
  ◌-◌,
  ◌<◌,
  List,
  [],
  ◌∷◌,
  length,
  drop,
  ap,
  arith,
}

pub drop-one : {X : Type 0} → (count : ℕ) (l : List X) → count < length l
    → drop (length (drop 1 l) - count) (drop 1 l) ≡ drop (length l - count) l
drop-one count [] h = absurd (omega arith)
drop-one count (x ∷ l) h =
    let more : suc (length l - count) ≡ suc (length l) - count = omega (arith, h) in
    ap (λ n. drop n (x ∷ l)) more
