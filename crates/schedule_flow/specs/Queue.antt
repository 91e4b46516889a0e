-- Nodes that wait in a search, each with a distance.
use Rattle.std.specs.Prelude.{◌≡◌, ◌≤◌, ◌⊎◌, ℕ, List}
use Rattle.std.specs.List.{Contains}
use Rattle.std.specs.declared.cmp.Reverse.{Reverse}
use Rattle.std.specs.declared.cmp.Ordering.{Ordering}
use Rattle.std.specs.Ordering.{nat_cmp, ordering_then}

-- a distance and a node
abbrev pub Entry : Type 0
Entry = Reverse ℕ × ℕ

-- the lesser distance comes first
abbrev pub nearer : Entry → Entry → Ordering
nearer a b = ordering_then (nat_cmp b.0.0 a.0.0) (nat_cmp a.1 b.1)

-- node v waits at distance d
abbrev pub Waits : List Entry → ℕ → ℕ → Type 0
Waits entries d v = (e : Entry) × Contains entries e × (e.0.0 ≡ d) × (e.1 ≡ v)

-- node v waits at distance d besides
pub record IsQueued (old new : List Entry) (d v : ℕ) : Type 0 where
  pub here : Waits new d v
  pub kept : (c u : ℕ) → Waits old c u → Waits new c u
  pub only : (c u : ℕ) → Waits new c u → Waits old c u ⊎ ((c ≡ d) × (u ≡ v))

-- an entry with the least distance was taken out
pub record IsNearest (old new : List Entry) (d v : ℕ) : Type 0 where
  pub here : Waits old d v
  pub least : (c u : ℕ) → Waits old c u → d ≤ c
  pub kept : (c u : ℕ) → Waits old c u → Waits new c u ⊎ ((c ≡ d) × (u ≡ v))
  pub only : (c u : ℕ) → Waits new c u → Waits old c u
