use Rattle.std.proofs.Common.{false, ◌≡◌, ◌∙◌, [], ◌∷◌, ◌++◌, length, sym, ap, subst}
use Rattle.rtl_ir.specs.declared.design.Module.{Module}
use Rattle.verilog_read.specs.Built.{IsSaid}
use Rattle.verilog_read.specs.Walk.{port_scope, port_tree}
use Rattle.verilog_read.proofs.PortLemmas.{port_said}
use Rattle.verilog_read.proofs.builder.Builder.add_port.Goals as goal

pub returns : goal.returns
returns c = λ named modules before b.
    let m = c.args.self.now.module in
    let e = c.in_ok-net.ensures.module in
    let scope = port_scope modules (before ++ port_tree c.args.name.now c.args.width c.args.output ∷ []) in
    let t = c.in_ok-net.ensures.tables b.tables in
    let ports : c.push.new.self ≡ m.ports ++ record { net = length m.nets; output = c.args.output } ∷ [] =
    c.in_ok-push.ensures.ok ∙ ap (λ (x : Module). x.ports
    ++ record { net = c.in_ok-net.net; output = c.args.output } ∷ []) e ∙ ap (λ k. m.ports
    ++ record { net = k; output = c.args.output } ∷ []) c.in_ok-net.ensures.number in
    record {
      said = subst (λ (x : Module). IsSaid named scope (record x { ports = c.push.new.self })) (sym e) (subst (λ ps. IsSaid named scope (record m {
        ports = ps;
        nets = m.nets ++ record { name = c.args.name.now; width = c.args.width; reg = false } ∷ [];
      })) (sym ports) (port_said named modules before c.args.name.now c.args.width c.args.output m b.said));
      tables = record { nets = t.nets; registers = t.registers; memories = t.memories };
    }
