-- Names with dots between them, from the last dot inwards.
use Rattle.maxj_syntax.specs.Tree.{Tree, Node, Nil, Cons}
use Rattle.maxj_syntax.specs.declared.tree.NodeKind.TheVariants as N

-- the tree is no name behind a dot
abbrev pub IsUndotted : Tree → Type 0
IsUndotted (Node N.Dot word span (Cons base Nil)) = ⊥
IsUndotted (Node _ word span trees) = Unit {0}
