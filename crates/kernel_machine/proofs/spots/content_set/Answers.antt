-- What must be set.
use Rattle.kernel_meaning.specs.Arrays.{content}
use Rattle.kernel_machine.proofs.Sets
use Rattle.kernel_machine.proofs.spots.content_set.Goals as goal

pub returns-clause-is : goal.returns-clause-is
returns-clause-is c =
    Sets.set-by c.args.at c.in_ok-value.value (content c.args.spot.now c.args.state.now)
    c.present.result c.in_ok-value.ensures.is c.present.ensures

pub returns-clause-fit : goal.returns-clause-fit
returns-clause-fit c =
    Sets.fit-by c.args.at c.in_ok-value.value c.present.result c.in_ok-value.ensures.fit
    c.present.ensures
