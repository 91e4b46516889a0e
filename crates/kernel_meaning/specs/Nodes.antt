-- The tree below a node of a list, as a function: a child that doesn't stand before its node counts
-- as missing, so any list has trees.
use Rattle.std.specs.Prelude.{
  ℕ,
  zero,
  suc,
  List,
  [],
  ◌∷◌,
  Bool,
  true,
  false,
  Option,
  Some,
  None,
  nat_lt,
  slice_get,
}
use Rattle.maxj_syntax.specs.Cells.{Cell}
use Rattle.maxj_syntax.specs.Tree.{Tree, Node, Trees, Nil, Cons}
use Rattle.maxj_syntax.specs.declared.tree.NodeKind.TheVariants as N

-- what stands where no node is
abbrev pub missing : Tree
missing = Node N.Empty [] (record { from = 0; to = 0 }) Nil

abbrev pub child_by : (ℕ → Tree) → ℕ → Bool → Tree
child_by tree n true = tree n
child_by tree n false = missing

abbrev pub trees_by : (ℕ → Tree) → ℕ → List ℕ → Trees
trees_by tree top [] = Nil
trees_by tree top (n ∷ ns) = Cons (child_by tree n (nat_lt n top)) (trees_by tree top ns)

abbrev pub tree_by : (ℕ → Tree) → ℕ → Option Cell → Tree
tree_by tree n None = missing
tree_by tree n (Some cell) = Node cell.kind cell.word cell.span (trees_by tree n cell.children)

-- the tree below a node, at most so many levels deep
unfoldable pub tree_to : ℕ → List Cell → ℕ → Tree
tree_to zero nodes n = missing
tree_to (suc depth) nodes n = tree_by (tree_to depth nodes) n (slice_get nodes n)

-- the tree below a node
unfoldable pub tree_at : List Cell → ℕ → Tree
tree_at nodes n = tree_to (suc n) nodes n
