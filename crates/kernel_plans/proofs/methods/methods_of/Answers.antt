use Rattle.std.proofs.Common.{◌≡◌, ◌<◌, ◌-◌, suc, length, drop, sym, subst, arith}
use Rattle.kernel_plans.specs.Trees.{trees_of}
use Rattle.kernel_plans.specs.Tables.{AreMethods}
use Rattle.kernel_plans.proofs.Parts.{past_end, next_part}
use Rattle.kernel_plans.proofs.methods.methods_of.Goals as goal

pub loop-place-init : goal.loop-place-init
loop-place-init c =
    let cells = c.args.tree.now in
    let b = c.args.class.now in
    subst (λ l. AreMethods cells (trees_of cells b.id l) c.new-methods.result)
    (sym (past_end b.children.now)) (c.new-methods.ensures cells)

pub loop-place-preserved : goal.loop-place-preserved
loop-place-preserved c =
    let cells = c.args.tree.now in
    let b = c.args.class.now in
    let place = c.loop-place.place in
    let within : place - 1 < length b.children.now =
    omega (arith, c.loop-place-test.true, c.loop-place.auto.place) in
    let next : place ≡ suc (place - 1) = omega (arith, c.loop-place-test.true) in
    let rest = trees_of cells b.id (drop (suc (place - 1)) b.children.now) in
    let old : AreMethods cells rest c.loop-place.methods =
    subst (λ p. AreMethods cells (trees_of cells b.id (drop p b.children.now)) c.loop-place.methods)
    next c.loop-place.invariant in
    subst (λ t. AreMethods cells t c.put.new.self)
    (sym (next_part cells b.id b.children.now (place - 1) c.part.result within c.part.ensures.before
    c.part.ensures.missing)) (c.in_ok-put.ensures rest old)

pub returns : goal.returns
returns c =
    let cells = c.args.tree.now in
    let b = c.args.class.now in
    let none : c.loop-place.place ≡ 0 = omega (arith, c.loop-place-test.false) in
    subst (λ p. AreMethods cells (trees_of cells b.id (drop p b.children.now)) c.loop-place.methods)
    none c.loop-place.invariant
