-- Sets of names, for private clauses.
use Rattle.std.specs.Prelude.{ℕ, ◌≡◌, List, bytes_eq}
use Rattle.std.specs.BTreeSet.{BTreeSet, contains}
use Rattle.std.specs.Cmp.Lexicographic.{slice_cmp}
use Rattle.std.specs.List.{list_any}
use Rattle.std.specs.Ordering.{nat_cmp}
use denote.Ref.{Bor}

-- the set has exactly these names
abbrev pub HasKeys : BTreeSet (Bor (List ℕ)) → List (List ℕ) → Type 0
HasKeys set names = (q : Bor (List ℕ)) → contains (λ x y. slice_cmp nat_cmp x.now y.now) set q ≡ list_any (bytes_eq q.now) names
