use Rattle.top_ports.specs.Roles.{role_view}
use Rattle.top_ports.specs.Stages.{next, from_scalar}
use Rattle.top_ports.proofs.PlaceLemmas.{ticks_next, if_follows, if_none}
use Rattle.top_ports.proofs.stage.next_stage.Goals as goal

pub returns-in_default-role-4 : goal.returns-in_default-role-4
returns-in_default-role-4 c =
    let m = c.args.top.now in
    let r = role_view c.args.role in
    let o = c.after_scalar.result in
    record {
      some = λ q h.
          let w = ticks_next m c.args.place c.args.stage c.as_slice.result.now c.args.role q c.as_slice.ensures c.in-Ticks.is c.in_default-role-4.not-Hold h in
          if_follows m o (next q r) (from_scalar w.kernels r) w.next_is (c.after_scalar.ensures.some w.kernels w.ports);
      none = λ q h.
          let w = ticks_next m c.args.place c.args.stage c.as_slice.result.now c.args.role q c.as_slice.ensures c.in-Ticks.is c.in_default-role-4.not-Hold h in
          if_none o (next q r) (from_scalar w.kernels r) w.next_is (c.after_scalar.ensures.none w.kernels w.ports);
    }
