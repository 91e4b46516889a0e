-- Nodes whose children stand in one list.
use Rattle.std.specs.Prelude.{◌≡◌, ℕ, zero, suc, ◌-◌, ◌≤◌, List, [], ◌∷◌, Some, take, drop, slice_get}
use Rattle.maxj_syntax.specs.declared.draft.Draft.{Draft}
use Rattle.maxj_syntax.specs.declared.draft.Packed.{Packed}
use Rattle.maxj_syntax.specs.declared.nodes.Lent.{Lent}

-- the nodes, the first one's children from a place on, and each other's from where those of the one before it end
abbrev pub drafts : ℕ → List Packed → List ℕ → List Draft
drafts from [] children = []
drafts from (p ∷ ps) children = record {
  kind = p.kind;
  word = p.word;
  span = p.span;
  children = take (p.end - from) (drop from children);
} ∷ drafts p.end ps children

-- no node's children end before they begin, and the last one's end with the list
abbrev pub AreEnds : ℕ → List Packed → ℕ → Type 0
AreEnds from [] size = from ≡ size
AreEnds from (p ∷ ps) size = (from ≤ p.end) × AreEnds p.end ps size

-- where the children of the node with a number begin
abbrev pub start_at : ℕ → List Packed → ℕ → ℕ
start_at from [] n = from
start_at from (p ∷ ps) zero = from
start_at from (p ∷ ps) (suc n) = start_at p.end ps n

-- the node with the number n
abbrev pub IsLent : List Draft → ℕ → Lent → Type 0
IsLent nodes n lent = slice_get nodes n ≡ Some (record { kind = lent.kind; word = lent.word; span = lent.span; children = lent.children.now })
