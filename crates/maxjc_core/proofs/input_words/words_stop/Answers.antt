use Rattle.std.proofs.Common.{◌≡◌, Some, sym, subst}
use Rattle.simulation.specs.Errors.{stop_of}
use Rattle.maxjc_core.specs.ErrorCauses.{IfCause, stop_cause}
use Rattle.maxjc_core.proofs.InputReading.{own-line}
use Rattle.maxjc_core.proofs.input_words.words_stop.Goals as goal

pub returns-in_default-clause-cause : goal.returns-in_default-clause-cause
returns-in_default-clause-cause c =
    subst (λ stop. IfCause (stop_cause stop) (λ cause. stop_cause (stop_of c.args.error) ≡ Some cause))
    (sym c.from.ensures)
    (own-line c.args.error c.in_default.not-ReadFault c.requires c.in_default.not-NoMemory)
