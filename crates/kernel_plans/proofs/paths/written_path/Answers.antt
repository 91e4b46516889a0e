-- What stands before the dots is the first name, where there is a path.
use Rattle.std.proofs.Common.{◌∙◌, ap, sym, is_some, Some}
use Rattle.kernel_meaning.specs.Names as Names
use Rattle.kernel_plans.specs.Trees.{trees_of}
use Rattle.kernel_plans.proofs.Dotted.{on_dots, path_begins}
use Rattle.kernel_plans.proofs.paths.written_path.Goals as goal

pub loop-word-init : goal.loop-word-init
loop-word-init c = λ s some.
    let cells = c.args.tree.now in
    let b = c.loop-base.branch in
    let behind = c.loop-base.behind in
    let whole = ap (Names.path_of s) c.branch_at-branch.ensures.tree ∙ c.loop-base.invariant s in
    let begun = path_begins s b.kind b.word.now b.span (trees_of cells b.id b.children.now) behind
    c.in_default.ensures.none (sym (ap is_some whole) ∙ some) in
    whole ∙ ap (λ p. on_dots p behind) (begun ∙ ap Some (sym c.in_ok-path.ensures))
