-- The part that stands at a place.
use Rattle.kernel_machine.proofs.Places.{from-part}
use Rattle.kernel_machine.proofs.parts.part.Goals as goal

pub returns : goal.returns
returns c = λ cells h.
    from-part cells c.args.node.now.id c.args.node.now.children.now c.args.place c.part.result
    c.part.ensures.before c.part.ensures.missing h
