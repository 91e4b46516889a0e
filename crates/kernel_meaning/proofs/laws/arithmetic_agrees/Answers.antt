-- Types, faults and literals agree.
use Rattle.kernel_meaning.proofs.FirstFaults.{types_agree, faults_agree}
use Rattle.kernel_meaning.proofs.LiteralBits.{words_agree, refusals_agree}
use Rattle.kernel_meaning.proofs.laws.arithmetic_agrees.Goals as goal

pub returns-clause-types : goal.returns-clause-types
returns-clause-types c = types_agree

pub returns-clause-faults : goal.returns-clause-faults
returns-clause-faults c = faults_agree

pub returns-clause-words : goal.returns-clause-words
returns-clause-words c = words_agree

pub returns-clause-refusals : goal.returns-clause-refusals
returns-clause-refusals c = refusals_agree
