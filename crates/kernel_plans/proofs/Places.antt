-- The parts of a node by their places.
use Rattle.std.proofs.Common.{
  ◌≡◌,
  ◌∙◌,
  ◌<◌,
  ◌≤◌,
  ℕ,
  zero,
  suc,
  List,
  [],
  ◌∷◌,
  length,
  Some,
  None,
  false,
  refl,
  ap,
  sym,
  arith,
}
use Rattle.std.specs.Prelude.{Option, slice_get}
use Rattle.mx_base.specs.declared.span.Span.{Span}
use Rattle.maxj_syntax.specs.Cells.{Cell}
use Rattle.maxj_syntax.specs.Tree.{Tree, Trees, Node, Nil, Cons}
use Rattle.maxj_syntax.specs.declared.tree.NodeKind.{NodeKind}
use Rattle.maxj_syntax.specs.declared.tree.NodeKind.TheVariants as N
use Rattle.kernel_meaning.specs.Nodes.{missing}
use Rattle.kernel_meaning.specs.Plans.{part, number_of_trees, is_least, is_new}
use Rattle.kernel_plans.specs.Dots.{IsUndotted}
use Rattle.kernel_plans.specs.Trees.{tree_of, trees_of}
use Rattle.kernel_plans.proofs.Parts.{child}

-- a part has the tree of its number; where there is none, the number is missing
abbrev pub IsPart : List Cell → Option ℕ → Option Tree → Type 0
IsPart cells r None = r ≡ None
IsPart cells r (Some tree) = tree ≡ tree_of cells r

pub part_is : (cells : List Cell) (id : ℕ) (children : List ℕ) (place : ℕ) (r : Option ℕ)
    → (slice_get children place ≡ None → r ≡ None)
    → ((n : ℕ) → slice_get children place ≡ Some n → n < id → r ≡ Some n)
    → ((n : ℕ) → slice_get children place ≡ Some n → id ≤ n → r ≡ None)
    → IsPart cells r (part (trees_of cells id children) place)
part_is cells id [] place r past before after = past refl
part_is cells id (n ∷ ns) zero r past before after = child cells id n r (before n refl) (after n refl)
part_is cells id (n ∷ ns) (suc place) r past before after =
    part_is cells id ns place r past before after

-- what is said alike of no part and of a missing one is said of the number's tree
pub said_alike : {X : Type 0} (f : Option Tree → X) → f None ≡ f (Some missing)
    → (cells : List Cell) (r : Option ℕ) (o : Option Tree) → IsPart cells r o
    → f o ≡ f (Some (tree_of cells r))
said_alike f e cells r None h = e ∙ ap (λ n. f (Some (tree_of cells n))) (sym h)
said_alike f e cells r (Some tree) h = ap (λ t. f (Some t)) h

-- there are as many trees as parts
pub number_of_trees-is : (cells : List Cell) (id : ℕ) (children : List ℕ)
    → number_of_trees (trees_of cells id children) ≡ length children
number_of_trees-is cells id [] = refl
number_of_trees-is cells id (n ∷ ns) = ap suc (number_of_trees-is cells id ns)

-- the tree of the only part
pub only_part : (cells : List Cell) (id : ℕ) (children : List ℕ) (r : Option ℕ)
    → length children ≡ 1
    → ((n : ℕ) → slice_get children 0 ≡ Some n → n < id → r ≡ Some n)
    → ((n : ℕ) → slice_get children 0 ≡ Some n → id ≤ n → r ≡ None)
    → trees_of cells id children ≡ Cons (tree_of cells r) Nil
only_part cells id [] r h before after = absurd (omega (arith, h))
only_part cells id (n ∷ []) r h before after =
    ap (λ t. Cons t Nil) (child cells id n r (before n refl) (after n refl))
only_part cells id (n ∷ m ∷ ns) r h before after = absurd (omega (arith, h))

-- a node without parts, or with several, is no name behind a dot
pub several_undotted : (kind : NodeKind) (word : List ℕ) (span : Span) (cells : List Cell) (id : ℕ)
    (children : List ℕ) → (length children ≡ 1 → ⊥)
    → IsUndotted (Node kind word span (trees_of cells id children))
several_undotted N.Dot word span cells id [] h = tt
several_undotted N.Dot word span cells id (n ∷ []) h = absurd (h refl)
several_undotted N.Dot word span cells id (n ∷ m ∷ ns) h = tt
several_undotted _ word span cells id children h = tt

two_parts : (sign : List ℕ) (t u : Tree) (us : Trees) → is_least sign (Cons t (Cons u us)) ≡ false
two_parts sign (Node N.Whole word span trees) u us = refl
two_parts sign (Node _ word span trees) u us = refl

pub several_least : (sign : List ℕ) (cells : List Cell) (id : ℕ) (children : List ℕ)
    → (length children ≡ 1 → ⊥) → is_least sign (trees_of cells id children) ≡ false
several_least sign cells id [] h = refl
several_least sign cells id (n ∷ []) h = absurd (h refl)
several_least sign cells id (n ∷ m ∷ ns) h = two_parts sign _ _ _

pub other_least : (sign : List ℕ) (kind : NodeKind) (word : List ℕ) (span : Span) (trees : Trees)
    → (kind ≡ N.Whole → ⊥) → is_least sign (Cons (Node kind word span trees) Nil) ≡ false
other_least sign N.Whole word span trees h = absurd (h refl)
other_least sign _ word span trees h = refl

pub other_new : (kind : NodeKind) (word : List ℕ) (span : Span) (trees : Trees)
    → (kind ≡ N.New → ⊥) → is_new (Some (Node kind word span trees)) ≡ false
other_new N.New word span trees h = absurd (h refl)
other_new _ word span trees h = refl
