-- The path of the part's tree, or none.
use Rattle.std.proofs.Common.{◌∙◌, refl, sym}
use Rattle.kernel_meaning.specs.Plans as Plans
use Rattle.kernel_plans.specs.Trees.{tree_of}
use Rattle.kernel_plans.proofs.Calling.{path_text, no_text}
use Rattle.kernel_plans.proofs.Places.{part_is, said_alike}
use Rattle.kernel_plans.proofs.Same.{if_ok}
use Rattle.kernel_plans.proofs.calls.path_at.Goals as goal

pub returns-then-is_path : goal.returns-then-is_path
returns-then-is_path c =
    let b = c.args.branch.now in
    let s = c.args.state.now in
    let p = c.part-part.ensures in
    let part = part_is c.args.tree.now b.id b.children.now c.args.place c.part-part.result p.past p.before
    p.missing in
    let alike = said_alike (Plans.path_at s) refl c.args.tree.now c.part-part.result _ part in
    let some = c.root.ensures.path s ∙ (sym c.is_path.ensures ∙ c.if-is_path.true) in
    if_ok _ _ _
    (λ text told. sym (alike ∙ path_text s (tree_of c.args.tree.now c.part-part.result) text (told s some)))
    c.written_path.ensures

pub returns-else-is_path : goal.returns-else-is_path
returns-else-is_path c =
    let b = c.args.branch.now in
    let s = c.args.state.now in
    let p = c.part-part.ensures in
    let part = part_is c.args.tree.now b.id b.children.now c.args.place c.part-part.result p.past p.before
    p.missing in
    let alike = said_alike (Plans.path_at s) refl c.args.tree.now c.part-part.result _ part in
    let none = c.root.ensures.path s ∙ (sym c.is_path.ensures ∙ c.if-is_path.false) in
    c.from_vec.ensures ∙ (c.new.ensures.items
    ∙ sym (alike ∙ no_text s (tree_of c.args.tree.now c.part-part.result) none))
