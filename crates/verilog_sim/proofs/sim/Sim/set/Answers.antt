use Rattle.std.proofs.Common.{◌≡◌, ◌<◌, ◌^◌, Some, length, get_or, subst, sym}
use Rattle.rtl_ir.specs.declared.design.Module.{Module}
use Rattle.rtl_ir.specs.Value.{width_of}
use Rattle.rtl_ir.specs.Flat.{top_of}
use Rattle.verilog_sim.specs.State.{State}
use Rattle.verilog_sim.proofs.Edges.{set_kept}
use Rattle.verilog_sim.proofs.sim.Sim.set.Goals as goal

pub invariant_of-self : goal.invariant_of-self
invariant_of-self c =
    set_kept c.self.invariant c.args.port c.args.value
    (subst (λ (s : State). c.args.port < length s.steady) (sym c.self.view_is) c.requires.port)
    (subst (λ (s : State). (m : Module) → top_of s.design ≡ Some m → c.args.value < 2 ^ width_of m (get_or s.outer.steady c.args.port 0)) (sym c.self.view_is) c.requires.value)
