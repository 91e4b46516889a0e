use Rattle.std.proofs.Common.{◌∙◌, sym}
use Rattle.std.proofs.lemmas.Result.{IfOk-weaker}
use Rattle.rtl_build.specs.Ports.{HasOutput}
use Rattle.rtl_build.proofs.netlist.Netlist.output.Goals as goal

pub returns-clause-signal : goal.returns-clause-signal
returns-clause-signal c =
    IfOk-weaker _ _ (HasOutput c.port.new.self) (λ s made. record { net = made.within; output = made.direction; width = made.wide ∙ sym made.width }) c.port.ensures
