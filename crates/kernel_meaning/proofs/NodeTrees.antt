-- The function on nodes gives the tree that stands at a node.
use Rattle.std.proofs.Common.{
  ◌≡◌,
  ℕ,
  zero,
  suc,
  ◌<◌,
  List,
  [],
  ◌∷◌,
  refl,
  ap,
  ◌∙◌,
  arith,
  Some,
  None,
  true,
  false,
}
use Rattle.std.specs.Prelude.{Option, Bool, nat_lt, slice_get}
use Rattle.std.proofs.lemmas.Bool.Decides.{nat_tests}
use Rattle.mx_base.specs.declared.span.Span.{Span}
use Rattle.maxj_syntax.specs.declared.tree.NodeKind.{NodeKind}
use Rattle.maxj_syntax.specs.Cells.{Cell}
use Rattle.maxj_syntax.specs.Tree.{Tree, Node, Trees, Nil, Cons, IsAt, AreAt}
use Rattle.kernel_meaning.specs.Nodes.{child_by, trees_by, tree_by, tree_to, tree_at}

is_below : (n m : ℕ) → n < m → nat_lt n m ≡ true
is_below n m h = grind (arith, nat_tests)

is_not_below : (n m : ℕ) → nat_lt n m ≡ true → n < m
is_not_below n m h = grind (arith, nat_tests)

-- children are read alike where both readings agree below their node
same_child : (f g : ℕ → Tree) (n top : ℕ) (b : Bool) → nat_lt n top ≡ b
    → ((m : ℕ) → m < top → f m ≡ g m) → child_by f n b ≡ child_by g n b
same_child f g n top true e h = h n (is_not_below n top e)
same_child f g n top false e h = refl

same_trees : (f g : ℕ → Tree) (top : ℕ) (ns : List ℕ) → ((m : ℕ) → m < top → f m ≡ g m)
    → trees_by f top ns ≡ trees_by g top ns
same_trees f g top [] h = refl
same_trees f g top (n ∷ ns) h =
    let head = same_child f g n top (nat_lt n top) refl h in
    let tail = same_trees f g top ns h in
    cc

same_tree : (f g : ℕ → Tree) (n : ℕ) (cell : Option Cell) → ((m : ℕ) → m < n → f m ≡ g m)
    → tree_by f n cell ≡ tree_by g n cell
same_tree f g n None h = refl
same_tree f g n (Some cell) h = ap (Node cell.kind cell.word cell.span)
    (same_trees f g n cell.children h)

-- depth enough is depth enough
deep : (nodes : List Cell) (more other n : ℕ) → n < more → n < other → tree_to more nodes n
    ≡ tree_to other nodes n
unfolding tree_to
deep nodes zero other n p q = absurd (omega arith)
deep nodes (suc more) zero n p q = absurd (omega arith)
deep nodes (suc more) (suc other) n p q =
    same_tree (tree_to more nodes) (tree_to other nodes) n (slice_get nodes n)
    (λ m lt. deep nodes more other m (omega arith) (omega arith))

-- one level, of any list of nodes
pub one_level : (nodes : List Cell) (n : ℕ) → tree_at nodes n
    ≡ tree_by (tree_at nodes) n (slice_get nodes n)
unfolding tree_at tree_to
one_level nodes n = same_tree (tree_to n nodes) (tree_at nodes) n (slice_get nodes n)
    (λ m lt. deep nodes n (suc m) m lt (omega arith))

cell_tree : (nodes : List Cell) (n : ℕ) (cell : Cell) (kind : NodeKind) (word : List ℕ)
    (span : Span) (trees : Trees) → cell.kind ≡ kind → cell.word ≡ word → cell.span ≡ span
    → trees_by (tree_at nodes) n cell.children ≡ trees →
    tree_by (tree_at nodes) n (Some cell) ≡ Node kind word span trees
cell_tree nodes n cell kind word span trees k w s t = cc

joined_trees : (nodes : List Cell) (top n : ℕ) (ns : List ℕ) (t : Tree) (ts : Trees) → nat_lt n top
    ≡ true → tree_at nodes n ≡ t → trees_by (tree_at nodes) top ns ≡ ts
    → trees_by (tree_at nodes) top (n ∷ ns) ≡ Cons t ts
joined_trees nodes top n ns t ts b h hs =
    let c : child_by (tree_at nodes) n (nat_lt n top) ≡ t = ap (child_by (tree_at nodes) n) b ∙ h in
    cc

mutual
  -- the tree that stands at a node is the one that is read there
  pub read_tree : (nodes : List Cell) (n : ℕ) (t : Tree) → IsAt nodes n t → tree_at nodes n ≡ t
  read_tree nodes n (Node kind word span trees) h =
      let parts = read_trees nodes n h.0.children trees h.5 in
      one_level nodes n ∙ (ap (tree_by (tree_at nodes) n) h.1 ∙ cell_tree nodes n h.0 kind word span
      trees h.2 h.3 h.4 parts)

  pub read_trees : (nodes : List Cell) (top : ℕ) (ns : List ℕ) (ts : Trees) → AreAt nodes top ns ts
      → trees_by (tree_at nodes) top ns ≡ ts
  read_trees nodes top ns Nil h = ap (trees_by (tree_at nodes) top) h
  read_trees nodes top ns (Cons t ts) h =
      ap (trees_by (tree_at nodes) top) h.2 ∙ joined_trees nodes top h.0 h.1 t ts
      (is_below h.0 top h.3) (read_tree nodes h.0 t h.4) (read_trees nodes top h.1 ts h.5)
