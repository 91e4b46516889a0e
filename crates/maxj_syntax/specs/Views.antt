-- Nodes that a tree lends.
use Rattle.maxj_syntax.specs.Cells.{Cell}
use Rattle.maxj_syntax.specs.declared.tree.Node.{Node}

abbrev pub node_view : Node → Cell
node_view n = record { kind = n.kind; word = n.word.now; span = n.span; children = n.children.now }
