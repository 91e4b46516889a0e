use Rattle.top_ports.proofs.Interfaces.{is_interface}
use Rattle.top_ports.proofs.reading.interface.Goals as goal

pub returns-clause-is : goal.returns-clause-is
returns-clause-is c =
    (is_interface c.args.top.now c.requires.0 _ _ _ _ _ c.requires.1 c.net_at.ensures
    c.net_at-2.ensures c.in_ok-kernels.ensures c.in_ok-scalars.ensures
    c.in_ok-inputs.ensures c.in_ok-outputs.ensures c.net_at-3.ensures).1

pub returns-clause-shape : goal.returns-clause-shape
returns-clause-shape c = λ s top.
    (is_interface c.args.top.now s _ _ _ _ _ top c.net_at.ensures c.net_at-2.ensures
    c.in_ok-kernels.ensures c.in_ok-scalars.ensures c.in_ok-inputs.ensures
    c.in_ok-outputs.ensures c.net_at-3.ensures).0
