-- The type that a tree says, level by level.
use Rattle.std.proofs.Common.{
  ◌≡◌,
  ◌<◌,
  ◌≤◌,
  ℕ,
  ◌+◌,
  List,
  [],
  ◌∷◌,
  length,
  Some,
  None,
  Ok,
  Err,
  refl,
  ap,
  ◌∙◌,
  arith,
}
use Rattle.std.specs.Prelude.{Option, Result, slice_get}
use Rattle.mx_base.specs.declared.span.Span.{Span}
use Rattle.maxj_syntax.specs.Cells.{Cell}
use Rattle.maxj_syntax.specs.Tree.{Node, Trees, Nil}
use Rattle.maxj_syntax.specs.declared.tree.NodeKind.{NodeKind}
use Rattle.maxj_syntax.specs.declared.tree.NodeKind.TheVariants as N
use Rattle.kernel_meaning.specs.declared.value.Declared.{Declared}
use Rattle.kernel_meaning.specs.Values.{base_of, placed, raised, declared_by}
use Rattle.kernel_plans.specs.Trees.{tree_of, trees_of}
use Rattle.kernel_plans.proofs.Parts.{child}

-- arrays of a type, so many levels
abbrev pub raised_by : ℕ → Result Declared ℕ → Result Declared ℕ
raised_by rank (Err at) = Err at
raised_by rank (Ok of) = Ok (record { base = of.base; rank = of.rank + rank })

pub raised_none : (type : Result Declared ℕ) → raised_by 0 type ≡ type
raised_none (Err at) = refl
raised_none (Ok of) =
    let e : of.rank + 0 ≡ of.rank = omega arith in
    ap (λ n. Ok (record { base = of.base; rank = n })) e

pub raised_more : (rank : ℕ) (type : Result Declared ℕ) → raised_by rank (raised type)
    ≡ raised_by (rank + 1) type
raised_more rank (Err at) = refl
raised_more rank (Ok of) =
    let e : of.rank + 1 + rank ≡ of.rank + (rank + 1) = omega arith in
    ap (λ n. Ok (record { base = of.base; rank = n })) e

-- an array of the elements' type
pub element : (cells : List Cell) (kind : NodeKind) (word : List ℕ) (span : Span) (id : ℕ)
    (children : List ℕ) (r : Option ℕ) → kind ≡ N.ArrayOf → 1 ≤ length children → length children < 2
    → ((n : ℕ) → slice_get children 0 ≡ Some n → n < id → r ≡ Some n)
    → ((n : ℕ) → slice_get children 0 ≡ Some n → id ≤ n → r ≡ None)
    → declared_by (Node kind word span (trees_of cells id children))
    ≡ raised (declared_by (tree_of cells r))
element cells kind word span id [] r k some one before past = absurd (omega arith)
element cells kind word span id (c ∷ d ∷ ds) r k some one before past = absurd (omega arith)
element cells kind word span id (c ∷ []) r k some one before past =
    ap (λ k. declared_by (Node k word span (trees_of cells id (c ∷ [])))) k
    ∙ ap (λ t. raised (declared_by t)) (child cells id c r (before c refl) (past c refl))

-- no array
pub no_element : (cells : List Cell) (kind : NodeKind) (word : List ℕ) (span : Span) (id : ℕ)
    (children : List ℕ) → kind ≡ N.ArrayOf → length children < 1
    → declared_by (Node kind word span (trees_of cells id children)) ≡ Err span.from
no_element cells kind word span id [] k h = ap (λ k. declared_by (Node k word span Nil)) k
no_element cells kind word span id (c ∷ cs) k h = absurd (omega arith)

pub more_elements : (cells : List Cell) (kind : NodeKind) (word : List ℕ) (span : Span) (id : ℕ)
    (children : List ℕ) → kind ≡ N.ArrayOf → 2 ≤ length children
    → declared_by (Node kind word span (trees_of cells id children)) ≡ Err span.from
more_elements cells kind word span id [] k h = absurd (omega arith)
more_elements cells kind word span id (c ∷ []) k h = absurd (omega arith)
more_elements cells kind word span id (c ∷ d ∷ ds) k h =
    ap (λ k. declared_by (Node k word span (trees_of cells id (c ∷ d ∷ ds)))) k

-- a type that is no array
pub plain_type : (kind : NodeKind) (word : List ℕ) (span : Span) (trees : Trees) → kind ≡ N.Plain
    → declared_by (Node kind word span trees) ≡ placed span.from (base_of word)
plain_type kind word span trees k = ap (λ k. declared_by (Node k word span trees)) k

-- no type
pub no_type : (kind : NodeKind) (word : List ℕ) (span : Span) (trees : Trees)
    → (kind ≡ N.ArrayOf → ⊥) → (kind ≡ N.Plain → ⊥)
    → declared_by (Node kind word span trees) ≡ Err span.from
no_type N.ArrayOf word span trees a p = absurd (a refl)
no_type N.Plain word span trees a p = absurd (p refl)
no_type _ word span trees a p = refl

pub no_name : (kind : NodeKind) (word : List ℕ) (span : Span) (trees : Trees)
    → (kind ≡ N.ArrayOf → ⊥) → base_of word ≡ None
    → declared_by (Node kind word span trees) ≡ Err span.from
no_name N.ArrayOf word span trees a e = absurd (a refl)
no_name N.Plain word span trees a e = ap (placed span.from) e
no_name _ word span trees a e = refl
