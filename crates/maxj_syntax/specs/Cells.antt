-- Nodes with their words, and nodes by the tokens that these are.
use Rattle.std.specs.Prelude.{ℕ, List, [], Option, Some, None, map, slice_get, codes}
use Rattle.mx_base.specs.declared.span.Span.{Span}
use Rattle.maxj_tokens.specs.Tokens.{written}
use Rattle.maxj_tokens.specs.Scanning.{PlacedToken}
use Rattle.maxj_syntax.specs.declared.tree.NodeKind.{NodeKind}
use Rattle.maxj_syntax.specs.declared.draft.NodeWord.{NodeWord}
use Rattle.maxj_syntax.specs.declared.draft.NodeWord.TheVariants as W
use Rattle.maxj_syntax.specs.declared.draft.Draft.{Draft}

-- a node: its kind, its word, the bytes that it stands for, and the numbers of its children
pub record Cell : Type 0 where
  pub kind : NodeKind
  pub word : List ℕ
  pub span : Span
  pub children : List ℕ

abbrev pub written_or_none : Option PlacedToken → List ℕ
written_or_none None = []
written_or_none (Some t) = written t.token

-- the word of a node of these tokens
abbrev pub word_in : List PlacedToken → NodeWord → List ℕ
word_in tokens W.Nothing = []
word_in tokens (W.Token n) = written_or_none (slice_get tokens n)
word_in tokens W.Memory = codes "Memory"

abbrev pub cell_in : List PlacedToken → Draft → Cell
cell_in tokens d = record { kind = d.kind; word = word_in tokens d.word; span = d.span; children = d.children }

abbrev pub cells_of : List PlacedToken → List Draft → List Cell
cells_of tokens ds = map (cell_in tokens) ds
