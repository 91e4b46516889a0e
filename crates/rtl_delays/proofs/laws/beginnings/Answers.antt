use Rattle.rtl_delays.proofs.Begun.{empty_alone, port_alone}
use Rattle.rtl_delays.proofs.laws.beginnings.Goals as goal

pub returns : goal.returns
returns c = record { empty = empty_alone; port = λ m n name w output s h some most adds. port_alone h some most adds }
