-- Trees by the numbers of their nodes.
use Rattle.std.specs.Prelude.{ℕ, List, Option, Some, None}
use Rattle.maxj_syntax.specs.Cells.{Cell}
use Rattle.maxj_syntax.specs.Tree.{Tree, Node, Trees}
use Rattle.kernel_meaning.specs.Nodes.{missing, trees_by, tree_at}
use Rattle.kernel_plans.specs.declared.branch.Branch.{Branch}

-- the tree of a number; none, or a number past the nodes, is missing
abbrev pub tree_of : List Cell → Option ℕ → Tree
tree_of cells None = missing
tree_of cells (Some n) = tree_at cells n

-- the trees of numbers, of which each stands before the node `top` or is missing
abbrev pub trees_of : List Cell → ℕ → List ℕ → Trees
trees_of cells top children = trees_by (tree_at cells) top children

-- the tree of a branch
abbrev pub branch_tree : List Cell → Branch → Tree
branch_tree cells b = Node b.kind b.word.now b.span (trees_of cells b.id b.children.now)
