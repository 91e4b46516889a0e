-- Trees from a place on.
use Rattle.std.proofs.Common.{
  ◌≡◌,
  ◌∙◌,
  ◌<◌,
  ◌≤◌,
  ℕ,
  zero,
  suc,
  List,
  [],
  ◌∷◌,
  length,
  Some,
  None,
  true,
  false,
  refl,
  ap,
  sym,
  arith,
}
use Rattle.std.specs.Prelude.{Option, Bool, nat_lt, slice_get}
use Rattle.std.proofs.lemmas.Bool.Decides.{nat_tests}
use Rattle.maxj_syntax.specs.Cells.{Cell}
use Rattle.maxj_syntax.specs.Tree.{Tree, Trees, Nil, Cons}
use Rattle.kernel_meaning.specs.Nodes.{child_by, tree_at}
use Rattle.kernel_meaning.specs.Plans.{number_of_trees}
use Rattle.kernel_plans.specs.declared.branch.Branch.{Branch}
use Rattle.kernel_plans.specs.Trees.{tree_of, trees_of, branch_tree}
use Rattle.kernel_machine.specs.Left.{from_place, parts}
use Rattle.kernel_machine.specs.Positions.{IsPart}

pub from-past : (cells : List Cell) (id : ℕ) (children : List ℕ) (place : ℕ)
    → length children ≤ place → from_place place (trees_of cells id children) ≡ Nil
from-past cells id [] zero h = refl
from-past cells id [] (suc place) h = refl
from-past cells id (n ∷ ns) zero h = absurd (omega arith)
from-past cells id (n ∷ ns) (suc place) h = from-past cells id ns place (omega arith)

is-below : (n m : ℕ) → nat_lt n m ≡ true → n < m
is-below n m h = grind (arith, nat_tests)

is-above : (n m : ℕ) → nat_lt n m ≡ false → m ≤ n
is-above n m h = grind (arith, nat_tests)

child-is : (cells : List Cell) (id n : ℕ) (part : Option ℕ) → (n < id → part ≡ Some n)
    → (id ≤ n → part ≡ None) → child_by (tree_at cells) n (nat_lt n id) ≡ tree_of cells part
child-is cells id n part before missing = by (nat_lt n id) refl
  where
    by : (b : Bool) → nat_lt n id ≡ b → child_by (tree_at cells) n b ≡ tree_of cells part
    by true e = sym (ap (tree_of cells) (before (is-below n id e)))
    by false e = sym (ap (tree_of cells) (missing (is-above n id e)))

pub from-part : (cells : List Cell) (id : ℕ) (children : List ℕ) (place : ℕ) (part : Option ℕ)
    → ((n : ℕ) → slice_get children place ≡ Some n → n < id → part ≡ Some n)
    → ((n : ℕ) → slice_get children place ≡ Some n → id ≤ n → part ≡ None)
    → place < length children
    → from_place place (trees_of cells id children)
    ≡ Cons (tree_of cells part) (from_place (suc place) (trees_of cells id children))
from-part cells id [] place part before missing h = absurd (omega arith)
from-part cells id (n ∷ ns) zero part before missing h =
    ap (λ t. Cons t (trees_of cells id ns)) (child-is cells id n part (before n refl)
    (missing n refl))
from-part cells id (n ∷ ns) (suc place) part before missing h =
    from-part cells id ns place part before missing (omega arith)

-- of a tree that is a branch
pub at-part : (cells : List Cell) (tree : Tree) (b : Branch) (place after : ℕ) (part : Option ℕ)
    → tree ≡ branch_tree cells b → IsPart b place part → place < length b.children.now
    → after ≡ suc place
    → from_place place (parts tree) ≡ Cons (tree_of cells part) (from_place after (parts tree))
at-part cells tree b place after part e says h next = rw (e, next) (says cells h)

pub at-end : (cells : List Cell) (tree : Tree) (b : Branch) (place : ℕ)
    → tree ≡ branch_tree cells b → length b.children.now ≤ place → from_place place
    (parts tree) ≡ Nil
at-end cells tree b place e h = rw e (from-past cells b.id b.children.now place h)

pub how-many : (cells : List Cell) (id : ℕ) (children : List ℕ)
    → number_of_trees (trees_of cells id children) ≡ length children
how-many cells id [] = refl
how-many cells id (n ∷ ns) = ap suc (how-many cells id ns)

pub one-part : (cells : List Cell) (b : Branch) (first : Option ℕ) → length b.children.now ≡ 1
    → IsPart b 0 first → trees_of cells b.id b.children.now ≡ Cons (tree_of cells first) Nil
one-part cells b first h says =
    says cells (omega arith)
    ∙ ap (Cons (tree_of cells first)) (from-past cells b.id b.children.now 1 (omega arith))

pub two-parts : (cells : List Cell) (b : Branch) (first second : Option ℕ)
    → length b.children.now ≡ 2 → IsPart b 0 first → IsPart b 1 second
    → trees_of cells b.id b.children.now
    ≡ Cons (tree_of cells first) (Cons (tree_of cells second) Nil)
two-parts cells b first second h says then =
    says cells (omega arith)
    ∙ ap (Cons (tree_of cells first)) (then cells (omega arith)
    ∙ ap (Cons (tree_of cells second)) (from-past cells b.id b.children.now 2 (omega arith)))

pub three-parts : (cells : List Cell) (b : Branch) (first second third : Option ℕ)
    → length b.children.now ≡ 3 → IsPart b 0 first → IsPart b 1 second → IsPart b 2 third
    → trees_of cells b.id b.children.now
    ≡ Cons (tree_of cells first) (Cons (tree_of cells second) (Cons (tree_of cells third) Nil))
three-parts cells b first second third h says then last =
    says cells (omega arith)
    ∙ ap (Cons (tree_of cells first)) (then cells (omega arith)
    ∙ ap (Cons (tree_of cells second)) (last cells (omega arith)
    ∙ ap (Cons (tree_of cells third)) (from-past cells b.id b.children.now 3 (omega arith))))

pub four-parts : (cells : List Cell) (b : Branch) (first second third fourth : Option ℕ)
    → length b.children.now ≡ 4 → IsPart b 0 first → IsPart b 1 second → IsPart b 2 third
    → IsPart b 3 fourth
    → trees_of cells b.id b.children.now
    ≡ Cons (tree_of cells first) (Cons (tree_of cells second) (Cons (tree_of cells third)
    (Cons (tree_of cells fourth) Nil)))
four-parts cells b first second third fourth h says then third_says last =
    says cells (omega arith)
    ∙ ap (Cons (tree_of cells first)) (then cells (omega arith)
    ∙ ap (Cons (tree_of cells second)) (third_says cells (omega arith)
    ∙ ap (Cons (tree_of cells third)) (last cells (omega arith)
    ∙ ap (Cons (tree_of cells fourth)) (from-past cells b.id b.children.now 4 (omega arith)))))

pub parts-many : (cells : List Cell) (tree : Tree) (b : Branch) → tree ≡ branch_tree cells b
    → number_of_trees (parts tree) ≡ length b.children.now
parts-many cells tree b e = rw e (how-many cells b.id b.children.now)

-- the second of two parts
second-by : (trees others : Trees) (tree : Tree) → number_of_trees trees ≡ 2
    → from_place 1 trees ≡ Cons tree others → (first : Tree) × (trees ≡ Cons first (Cons tree Nil))
second-by Nil others tree two e = absurd (cc)
second-by (Cons a Nil) others tree two e = absurd (cc)
second-by (Cons a (Cons b Nil)) others tree two e = (a, ap (λ t. Cons a (Cons t Nil)) (same e))
  where
    same : Cons b Nil ≡ Cons tree others → b ≡ tree
    same e = cc
second-by (Cons a (Cons b (Cons c trees))) others tree two e = absurd (cc)

pub second-of-two : (cells : List Cell) (b : Branch) (second : Option ℕ)
    → length b.children.now ≡ 2 → IsPart b 1 second
    → (first : Tree) × (trees_of cells b.id b.children.now ≡ Cons first (Cons (tree_of cells second)
    Nil))
second-of-two cells b second two says =
    second-by (trees_of cells b.id b.children.now) _ (tree_of cells second)
    (how-many cells b.id b.children.now ∙ two) (says cells (omega arith))
