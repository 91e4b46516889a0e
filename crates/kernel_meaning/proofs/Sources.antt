-- Trees as they are read, written briefly, and their runs.
use Rattle.std.specs.Prelude.{ℕ, List, [], ◌∷◌, ◌++◌}
use Rattle.maxj_syntax.specs.declared.tree.NodeKind.{NodeKind}
use Rattle.maxj_syntax.specs.Tree.{Tree, Node, Trees, Nil, Cons}
use Rattle.kernel_meaning.specs.Answer.{Answer}
use Rattle.kernel_meaning.specs.Plans.{OfKernel}
use Rattle.kernel_meaning.specs.Constructors.{run_of, ctor_of, members_of}

abbrev pub trees_of : List Tree → Trees
trees_of [] = Nil
trees_of (tree ∷ trees) = Cons tree (trees_of trees)

-- a kind, a word, the bytes from and to, and the parts
abbrev pub node : NodeKind → List ℕ → ℕ → ℕ → List Tree → Tree
node kind word from to parts = Node kind word (record { from = from; to = to }) (trees_of parts)

abbrev pub leaf : NodeKind → List ℕ → ℕ → ℕ → Tree
leaf kind word from to = node kind word from to []

-- a string as it is written
abbrev pub quoted_word : List ℕ → List ℕ
quoted_word word = 34 ∷ word ++ 34 ∷ []

-- the run of a kernel without further parameters, here of 3,000 steps at most
abbrev pub shown : Tree → Answer
shown class = run_of OfKernel (members_of class) [] 3000 (ctor_of (members_of class))
