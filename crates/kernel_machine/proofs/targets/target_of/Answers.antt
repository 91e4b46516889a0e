-- A place is followed down to its name.
use Rattle.std.proofs.Common.{◌∙◌, refl, ap}
use Rattle.kernel_meaning.specs.Run.{target}
use Rattle.kernel_machine.proofs.Places
use Rattle.kernel_machine.proofs.Sets
use Rattle.kernel_machine.proofs.targets.target_of.Goals as goal

pub loop-named-init : goal.loop-named-init
loop-named-init c = λ here user state next. rw c.new-indices.ensures refl

pub returns-then-named-ne2 : goal.returns-then-named-ne2
returns-then-named-ne2 c = λ here user state next.
    ap (λ t. target here user t state next) c.node_at-named.ensures.tree
    ∙ c.loop-named.invariant here user state next
    ∙ Sets.follow-odd c.args.class.now.cells here user c.loop-named.named state _ c.in-Index.is
    c.if-named-ne2.true

pub returns-in_default-first_part : goal.returns-in_default-first_part
returns-in_default-first_part c = λ here user state next.
    ap (λ t. target here user t state next) c.node_at-named.ensures.tree
    ∙ c.loop-named.invariant here user state next
    ∙ Sets.follow-index c.args.class.now.cells here user c.loop-named.named c.first_part.result
    c.part-index.result c.loop-named.indices state next c.in-Index.is
    (Places.two-parts c.args.class.now.cells c.loop-named.named c.first_part.result
    c.part-index.result c.if-named-ne2.false c.first_part.ensures.part c.part-index.ensures)
    ∙ Sets.follow-missing c.args.class.now.cells here user c.first_part.result state _
    c.in_default-first_part.is

pub loop-named-preserved : goal.loop-named-preserved
loop-named-preserved c = λ here user state next.
    c.loop-named.invariant here user state next
    ∙ Sets.follow-index c.args.class.now.cells here user c.loop-named.named c.first_part.result
    c.part-index.result c.loop-named.indices state next c.in-Index.is
    (Places.two-parts c.args.class.now.cells c.loop-named.named c.first_part.result
    c.part-index.result c.if-named-ne2.false c.first_part.ensures.part c.part-index.ensures)
    ∙ rw (c.in-Some.is, c.node_at-named-in-Index.ensures.tree, c.in_ok-push-in-Index.ensures.ok) refl

pub returns-in-Name : goal.returns-in-Name
returns-in-Name c = (
  c.in-Name.is,
  λ here user state next.
      ap (λ t. target here user t state next) c.node_at-named.ensures.tree
      ∙ c.loop-named.invariant here user state next,
)

pub returns-in_default : goal.returns-in_default
returns-in_default c = λ here user state next.
    ap (λ t. target here user t state next) c.node_at-named.ensures.tree
    ∙ c.loop-named.invariant here user state next
    ∙ Sets.follow-other c.args.class.now.cells here user c.loop-named.named state _
    c.in_default.not-Name c.in_default.not-Index
