use Rattle.rtl_delays.proofs.Accepted.{keeps_rules, formed}
use Rattle.rtl_delays.proofs.laws.acceptance.Goals as goal

pub returns : goal.returns
returns c = record { rules = keeps_rules; formed = formed }
