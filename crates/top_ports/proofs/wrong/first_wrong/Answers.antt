use Rattle.std.proofs.Common.{◌∙◌, sym, subst, ap, arith}
use Rattle.rtl_ir.specs.Ports.{port_view, ports_of}
use Rattle.top_ports.specs.Shapes.{IsFirstWrong}
use Rattle.top_ports.specs.Stages.{Sees}
use Rattle.top_ports.proofs.FirstWrong.{wrong_port, wrong_end, right_end}
use Rattle.top_ports.proofs.PlaceLemmas.{port_at, all_run, done_seen, seen_done, some}
use Rattle.top_ports.proofs.wrong.first_wrong.Goals as goal

pub returns-in-None-clause-wrong : goal.returns-in-None-clause-wrong
returns-in-None-clause-wrong c =
    let m = c.args.top.now in
    let k = c.loop-place.place in
    let p = c.at.result.now in
    subst (IsFirstWrong (ports_of m)) (sym c.port_name.ensures)
    (wrong_port m k (port_view m p) c.loop-place.invariant.0 (port_at m k p c.at.ensures) c.loop-place.invariant.1.reached c.in-None.ensures.none)

pub returns-in-Done-clause-right : goal.returns-in-Done-clause-right
returns-in-Done-clause-right c =
    let m = c.args.top.now in
    let q = c.loop-place.invariant.0 in
    let at = c.loop-place.invariant.1 in
    let e = seen_done m c.loop-place.stage q c.in-Done.is at.sees in
    right_end m (all_run m c.loop-place.place q (omega (arith, c.len-place-end.ensures)) at.reached ∙ ap some e)

pub returns-in_default : goal.returns-in_default
returns-in_default c =
    let m = c.args.top.now in
    let q = c.loop-place.invariant.0 in
    let at = c.loop-place.invariant.1 in
    record {
      wrong = wrong_end m q (all_run m c.loop-place.place q (omega (
        arith,
        c.len-place-end.ensures,
      )) at.reached) (λ e. c.in_default.not-Done
          (done_seen m c.loop-place.stage (subst (Sees m c.loop-place.stage) e at.sees)));
      right = tt;
    }
