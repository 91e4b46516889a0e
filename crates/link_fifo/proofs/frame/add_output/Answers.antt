use Rattle.std.proofs.Common.{refl}
use Rattle.link_fifo.proofs.Framing.{ported}
use Rattle.link_fifo.proofs.frame.add_output.Goals as goal

pub returns : goal.returns
returns c =
    ported _ _ _ _ _ _ _ c.in_ok-input.ensures.port.is c.in_ok-text-3.ensures
    (ported _ _ _ _ _ _ _ c.in_ok-output-2.ensures.port.is c.in_ok-text-2.ensures
    (ported _ _ _ _ _ _ _ c.in_ok-output.ensures.port.is c.in_ok-text.ensures refl))
