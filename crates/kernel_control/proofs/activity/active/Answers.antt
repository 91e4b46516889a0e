use Rattle.std.proofs.Common.{◌≡◌, sym, subst, arith}
use Rattle.std.specs.Prelude.{IfOk}
use Rattle.rtl_ir.specs.Value.{bit}
use Rattle.rtl_build.specs.Signals.{Makes}
use Rattle.kernel_control.specs.Due.{is_in_ticks}
use Rattle.kernel_control.proofs.activity.active.Goals as goal

pub returns-then-time-eq0 : goal.returns-then-time-eq0
returns-then-time-eq0 c =
    let test = c.if-time-eq0.true in
    let first : c.args.time ≡ 0 = omega (arith, test) in
    subst (λ t. IfOk c.active_at_start.result (Makes c.args.netlist.now c.active_at_start.new.netlist 6 1
    (λ v. bit (is_in_ticks (v c.args.position.net) (v c.args.ticks.net) t)))) (sym first) c.active_at_start.ensures
