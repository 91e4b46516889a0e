use Rattle.cycle_find.specs.Constraints.{numbers_of}
use Rattle.fifo_sharing.proofs.Deciding.{have_one_list}
use Rattle.fifo_sharing.proofs.law.chains_are_one.Goals as goal

pub returns : goal.returns
returns c = have_one_list c.args.problem.now (numbers_of c.args.times.now)
