use Rattle.std.proofs.Common.{ap, sym, ◌∙◌}
use Rattle.kernel_meaning.specs.Nodes.{tree_by, tree_at}
use Rattle.kernel_meaning.proofs.NodeTrees.{one_level}
use Rattle.kernel_plans.specs.Trees.{tree_of}
use Rattle.kernel_plans.proofs.branch.branch_at.Goals as goal

pub returns-in-Some-node-clause-tree : goal.returns-in-Some-node-clause-tree
returns-in-Some-node-clause-tree c =
    let cells = c.args.tree.now in
    ap (tree_of cells) c.in-Some.is
    ∙ (one_level cells c.in-Some.number
    ∙ ap (tree_by (tree_at cells) c.in-Some.number) c.in-Some-node.ensures.some)

pub returns-in-Some-node-clause-within : goal.returns-in-Some-node-clause-within
returns-in-Some-node-clause-within c = λ within.
    within c.in-Some.number _ c.in-Some-node.ensures.some

pub returns-in-None-clause-tree : goal.returns-in-None-clause-tree
returns-in-None-clause-tree c =
    let cells = c.args.tree.now in
    ap (tree_of cells) c.in-Some.is
    ∙ (one_level cells c.in-Some.number
    ∙ (ap (tree_by (tree_at cells) c.in-Some.number) c.in-None.ensures.none
    ∙ sym (c.missing_branch-in-None.ensures.tree cells)))
