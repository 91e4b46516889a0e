use Rattle.std.proofs.Common.{◌∙◌, sym, arith}
use Rattle.std.proofs.lemmas.Result.{IfOk-weaker}
use Rattle.rtl_build.specs.Signals.{HasSignal}
use Rattle.rtl_build.proofs.netlist.Netlist.input.Goals as goal

pub returns-clause-signal : goal.returns-clause-signal
returns-clause-signal c =
    IfOk-weaker _ _ (HasSignal c.port.new.self) (λ s made. record {
      net = made.within;
      inner = made.direction;
      width = made.wide ∙ sym made.width;
      some = omega (arith, made.width, c.requires.some);
      at_most = omega (arith, made.width, c.requires.at_most);
    }) c.port.ensures
