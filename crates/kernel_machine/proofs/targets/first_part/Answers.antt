-- The first part.
use Rattle.kernel_machine.proofs.Places
use Rattle.kernel_machine.proofs.targets.first_part.Goals as goal

pub returns-clause-part : goal.returns-clause-part
returns-clause-part c = λ cells h.
    Places.from-part cells c.args.node.now.id c.args.node.now.children.now 0 c.part.result
    c.part.ensures.before c.part.ensures.missing h
