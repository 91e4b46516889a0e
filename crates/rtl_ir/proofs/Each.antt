-- What holds of each item of a list that is written out.
use Rattle.std.proofs.Common.{◌≡◌, ℕ, zero, suc, List, [], ◌∷◌, Some, subst}
use Rattle.std.specs.Prelude.{slice_get}

pub none_has : {A : Type 0} (P : ℕ → A → Type 0) → (k : ℕ) (x : A) → slice_get [] k ≡ Some x → P k x
none_has P k x e = absurd (cc)

pub each_has : {A : Type 0} (P : ℕ → A → Type 0) (x : A) (xs : List A) → P 0 x → ((k : ℕ) (y : A) → slice_get xs k ≡ Some y → P (suc k) y) → (k : ℕ) (y : A) → slice_get (x ∷ xs) k ≡ Some y → P k y
each_has P x xs first more zero y e = let q : x ≡ y = cc in subst (P 0) q first
each_has P x xs first more (suc k) y e = more k y e
