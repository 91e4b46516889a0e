use Rattle.std.proofs.Common.{sym, subst}
use Rattle.rtl_delays.specs.Partial.{HasPortsAlone}
use Rattle.rtl_delays.proofs.Begun.{empty_alone}
use Rattle.kernel_parts_tests.proofs.ports.empty.Goals as goal

pub returns : goal.returns
returns c = subst HasPortsAlone (sym c.new.ensures) (empty_alone _)
