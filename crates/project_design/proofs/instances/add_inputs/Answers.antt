use Rattle.std.proofs.Common.{◌≡◌, ◌+◌, ◌∷◌, [], ◌++◌, List, length, sym, ap, subst, ◌∙◌, arith, append-nil, length-append}
use Rattle.std.specs.Prelude.{codes}
use Rattle.rtl_ir.specs.declared.design.Instance.{Instance}
use Rattle.manager_links.specs.declared.hosts.HostPort.{HostPort}
use Rattle.project_rtl.specs.Tops.{instance, input_instances}
use Rattle.project_design.specs.Building.{IsKnown}
use Rattle.project_design.proofs.Ending.{none_more}
use Rattle.project_design.proofs.Instancing.{input_step}
use Rattle.project_design.proofs.instances.add_inputs.Goals as goal

pub stream_net-requires-clause-blocks : goal.stream_net-requires-clause-blocks
stream_net-requires-clause-blocks c = c.requires.blocks

pub stream_net-requires-clause-known : goal.stream_net-requires-clause-known
stream_net-requires-clause-known c =
    subst (λ (h : HostPort). IsKnown c.args.blocks.now.project.now h.port) (sym c.host-item.is)
    (c.requires.known c.loop-host.host-index c.host-item.result c.loop-host-test.true)

pub fifo_nets-requires-clause-taken : goal.fifo_nets-requires-clause-taken
fifo_nets-requires-clause-taken c =
    let p = c.loop-host.invariant.port in
    let lt = c.loop-host-test.true in
    let r = c.requires.small in
    let s = c.stream_net.ensures.small in
    omega arith

pub fifo_nets-requires-clause-given : goal.fifo_nets-requires-clause-given
fifo_nets-requires-clause-given c =
    let p = c.loop-host.invariant.port in
    let lt = c.loop-host-test.true in
    let r = c.requires.small in
    let s = c.stream_net.ensures.small in
    omega arith

pub add_instance-requires : goal.add_instance-requires
add_instance-requires c =
    let n = c.loop-host.invariant.count in
    let lt = c.loop-host-test.true in
    let r = c.requires.few in
    omega arith

pub overflow_add-port : goal.overflow_add-port
overflow_add-port c =
    let p = c.loop-host.invariant.port in
    let lt = c.loop-host-test.true in
    let r = c.requires.small in
    omega arith

pub loop-host-preserved : goal.loop-host-preserved
loop-host-preserved c =
    let l = c.loop-host in
    let new = c.add_instance.new.instances in
    let len : length new ≡ length l.instances + 1 =
    ap (λ (a : List Instance). length a) c.in_ok-add_instance.ensures ∙ length-append l.instances (instance (length l.instances) c.in_ok-name.name c.in_ok-nets.nets ∷ []) in
    let p = l.invariant.port in
    let q = l.invariant.count in
    record {
      told = input_step c.args.blocks.now.project.now l.port l.host-index c.stream_net.result
          c.args.hosts.now c.host-item.result c.in_ok-name.name c.in_ok-nets.nets l.instances
          new _ c.loop-host-test.true c.host-item.is
          (c.in_ok-name.ensures ∙ ap (λ b. codes "fifo$in$" ++ b) c.as_bytes.ensures) c.stream_net.ensures.is c.in_ok-nets.ensures c.in_ok-add_instance.ensures l.invariant.told;
      port = omega arith;
      count = omega arith;
    }

pub returns : goal.returns
returns c =
    let l = c.loop-host in
    sym (append-nil l.instances)
    ∙ ap (λ xs. l.instances ++ input_instances c.args.blocks.now.project.now (length l.instances) l.port xs) (sym (none_more c.args.hosts.now l.host-index c.loop-host-test.false))
    ∙ l.invariant.told
