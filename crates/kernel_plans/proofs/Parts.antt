-- The parts of a node, one after another.
use Rattle.std.proofs.Common.{
  ◌≡◌,
  ◌<◌,
  ◌≤◌,
  ℕ,
  zero,
  suc,
  List,
  [],
  ◌∷◌,
  length,
  drop,
  Some,
  None,
  true,
  false,
  refl,
  sym,
  ap,
  ◌∙◌,
  arith,
}
use Rattle.std.specs.Prelude.{Option, Bool, nat_lt, slice_get, slice_index_or}
use Rattle.std.proofs.lemmas.Bool.Decides.{nat_tests}
use Rattle.maxj_syntax.specs.Cells.{Cell}
use Rattle.maxj_syntax.specs.Tree.{Cons}
use Rattle.kernel_meaning.specs.Nodes.{child_by, tree_at}
use Rattle.kernel_plans.specs.Trees.{tree_of, trees_of}

-- what stands at a place within a list
pub there : (xs : List ℕ) (place : ℕ) → place < length xs → (x : ℕ) × (slice_get xs place ≡ Some x)
there [] place h = absurd (omega arith)
there (x ∷ xs) zero h = (x, refl)
there (x ∷ xs) (suc place) h = there xs place (omega arith)

-- what is left from there on begins with it
pub split : (xs : List ℕ) (place x : ℕ) → slice_get xs place ≡ Some x → drop place xs
    ≡ x ∷ drop (suc place) xs
split [] place x e = absurd (cc)
split (y ∷ ys) zero x e = let p : y ≡ x = cc in ap (λ z. z ∷ ys) p
split (y ∷ ys) (suc place) x e = split ys place x e

below : (c id : ℕ) → nat_lt c id ≡ true → c < id
below c id e = grind (arith, nat_tests)

not_below : (c id : ℕ) → nat_lt c id ≡ false → id ≤ c
not_below c id e = grind (arith, nat_tests)

-- the tree of a part
pub child : (cells : List Cell) (id c : ℕ) (r : Option ℕ) → (c < id → r ≡ Some c)
    → (id ≤ c → r ≡ None) → child_by (tree_at cells) c (nat_lt c id) ≡ tree_of cells r
child cells id c r before past = by_test (nat_lt c id) refl
  where
    by_test : (b : Bool) → nat_lt c id ≡ b → child_by (tree_at cells) c b ≡ tree_of cells r
    by_test true e = ap (tree_of cells) (sym (before (below c id e)))
    by_test false e = ap (tree_of cells) (sym (past (not_below c id e)))

-- the trees from a place on begin with that of the part there
pub next_part : (cells : List Cell) (id : ℕ) (children : List ℕ) (place : ℕ) (r : Option ℕ)
    → place < length children → ((n : ℕ) → slice_get children place ≡ Some n → n < id → r ≡ Some n)
    → ((n : ℕ) → slice_get children place ≡ Some n → id ≤ n → r ≡ None)
    → trees_of cells id (drop place children)
    ≡ Cons (tree_of cells r) (trees_of cells id (drop (suc place) children))
next_part cells id children place r h before past =
    let x = there children place h in
    ap (trees_of cells id) (split children place x.0 x.1)
    ∙ ap (λ t. Cons t (trees_of cells id (drop (suc place) children)))
    (child cells id x.0 r (before x.0 x.1) (past x.0 x.1))

-- nothing is left behind the last
pub past_end : {A : Type 0} (xs : List A) → drop (length xs) xs ≡ []
past_end [] = refl
past_end (x ∷ xs) = past_end xs

-- what is left from a place on, of any list
pub split_or : {A : Type 0} (xs : List A) (place : ℕ) (d : A) → place < length xs → drop place xs
    ≡ slice_index_or xs place d ∷ drop (suc place) xs
split_or [] place d h = absurd (omega arith)
split_or (x ∷ xs) zero d h = refl
split_or (x ∷ xs) (suc place) d h = split_or xs place d (omega arith)
