use Rattle.std.proofs.Common.{◌∙◌, ◌++◌, ap, sym, append-nil, arith}
use Rattle.project_rtl.specs.Tops.{valid_nets}
use Rattle.project_design.proofs.Ending.{valid_step, none_more}
use Rattle.project_design.proofs.top.valid_nets.Goals as goal

pub loop-host-preserved : goal.loop-host-preserved
loop-host-preserved c =
    let l = c.loop-host in
    let p = l.invariant.port in
    record {
      told = valid_step l.port l._host-index c.args.hosts.now l.nets.items c.push.new.self.items _ c.loop-host-test.true c.in_ok-push.ensures.items l.invariant.told;
      port = omega arith;
    }

pub returns : goal.returns
returns c =
    let l = c.loop-host in
    sym (append-nil l.nets.items)
    ∙ ap (λ xs. l.nets.items ++ valid_nets l.port xs) (sym (none_more c.args.hosts.now l._host-index c.loop-host-test.false))
    ∙ l.invariant.told

pub overflow_add-port : goal.overflow_add-port
overflow_add-port c =
    let p = c.loop-host.invariant.port in
    let lt = c.loop-host-test.true in
    let r = c.requires in
    omega arith
