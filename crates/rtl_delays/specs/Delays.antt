-- Nets that show what a value was so many advances ago.
use Rattle.std.specs.Prelude.{
  ◌≡◌,
  ℕ,
  zero,
  suc,
  ◌-◌,
  ◌≤◌,
  if◌then◌else◌,
  nat_eq,
  List,
  [],
  ◌∷◌,
  Option,
  Some,
  None,
}
use Rattle.rtl_ir.specs.declared.design.Module.{Module}
use Rattle.rtl_ir.specs.Value.{Family, Contents}
use Rattle.rtl_ir.specs.Grow.{Holds}
use Rattle.rtl_delays.specs.Steps.{Steps}

-- a word where there is one; where it is undefined, any will do
abbrev pub IsWord : Option ℕ → ℕ → Type 0
IsWord None x = Unit {0}
IsWord (Some word) x = x ≡ word

-- no edge is a reset edge
abbrev pub NoReset : ℕ → List Family → Type 0
NoReset reset [] = Unit {0}
NoReset reset (v ∷ vs) = (v reset ≡ 0) × NoReset reset vs

-- the value that is the word of a net
abbrev pub of_net : ℕ → Family → ℕ
of_net n = λ v. v n

-- After p advances: the net `to` has the word that the value `from` had d advances ago, and any
-- word before there was one. It advances where the net `run` is 1. f are the words of `from` by the
-- number of advances before; they are asked for only where it advances.
abbrev pub Delays : ℕ → (Family → ℕ) → ℕ → (ℕ → Option ℕ) → ℕ → ℕ → List Family → Type 0
Delays run from to f d p [] = Unit {0}
Delays run from to f d p (v ∷ vs) =
    (d ≤ p → IsWord (f (p - d)) (v to))
    × ((v run ≡ 1 → IsWord (f p) (from v))
    → Delays run from to f d (if nat_eq (v run) 1 then suc p else p) vs)

-- so it is from any contents, after a reset edge, in every module that this one grows into
abbrev pub IsDelay : Module → ℕ → ℕ → (Family → ℕ) → ℕ → ℕ → Type 0
IsDelay m run reset from to d =
    (f : ℕ → Option ℕ) (c : Contents) (v : Family) (vs : List Family)
    → Steps m c (v ∷ vs)
    → v reset ≡ 1
    → NoReset reset vs
    → Delays run from to f d 0 vs

-- a net that shows a value in every family
abbrev pub Shows : Module → (Family → ℕ) → ℕ → Type 0
Shows m from to = (c : Contents) (v : Family) → Holds m c v → v to ≡ from v

-- a net that shows a value as it stands, or so many advances later
abbrev pub IsTap : Module → ℕ → ℕ → (Family → ℕ) → ℕ → ℕ → Type 0
IsTap m run reset from to zero = Shows m from to
IsTap m run reset from to (suc d) = IsDelay m run reset from to (suc d)
