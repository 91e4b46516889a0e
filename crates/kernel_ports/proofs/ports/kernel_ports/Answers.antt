use Rattle.std.proofs.Common.{length, ap, sym, subst}
use Rattle.rtl_ir.specs.declared.design.Module.{Module}
use Rattle.rtl_delays.specs.Partial.{HasPortsAlone}
use Rattle.rtl_delays.proofs.Begun.{empty_alone}
use Rattle.kernel_ports.proofs.Spelled.{plain_from}
use Rattle.kernel_ports.proofs.Chaining.{built}
use Rattle.kernel_ports.proofs.ports.kernel_ports.Goals as goal

pub add_all-requires-clause-alone : goal.add_all-requires-clause-alone
add_all-requires-clause-alone c = subst HasPortsAlone (sym c.new-netlist.ensures) (empty_alone _)

pub add_all-requires-clause-none : goal.add_all-requires-clause-none
add_all-requires-clause-none c = ap (λ (x : Module). length x.nets) c.new-netlist.ensures

pub returns : goal.returns
returns c =
    let d = c.in_ok-signals.ensures in
    built c.args.kernel.now (plain_from c.args.kernel.now.name c.args.kernel.now.named) c.new-netlist.ensures c.in_ok-joined.ensures c.name.ensures d.ports d.signals
