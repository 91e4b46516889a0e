use Rattle.counter_chains.proofs.Regular.{is_regular}
use Rattle.counter_chains.proofs.Ticks.{begins, steps, fits, states, parts}
use Rattle.counter_chains.proofs.laws.chains_by_ticks.Goals as goal

pub returns-clause-begins : goal.returns-clause-begins
returns-clause-begins c = begins

pub returns-clause-steps : goal.returns-clause-steps
returns-clause-steps c = steps

pub returns-clause-fits : goal.returns-clause-fits
returns-clause-fits c = fits

pub returns-clause-states : goal.returns-clause-states
returns-clause-states c = states

pub returns-clause-parts : goal.returns-clause-parts
returns-clause-parts c = parts

pub returns-clause-least : goal.returns-clause-least
returns-clause-least c = λ d h. (is_regular d h).some

pub returns-clause-most : goal.returns-clause-most
returns-clause-most c = λ d h. (is_regular d h).most

pub returns-clause-inside : goal.returns-clause-inside
returns-clause-inside c = λ d h. (is_regular d h).inside
