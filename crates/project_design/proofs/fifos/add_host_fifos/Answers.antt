use Rattle.std.proofs.Common.{length, map, take, ap, sym, subst, refl}
use Rattle.manager_links.specs.Hosts.{HasType}
use Rattle.project_rtl.specs.Projects.{host_queue}
use Rattle.project_design.specs.Building.{AddsFifos}
use Rattle.project_design.proofs.Making.{no_fifos, one_fifo_more, take_whole, queue}
use Rattle.project_design.proofs.fifos.add_host_fifos.Goals as goal

pub loop-host-init : goal.loop-host-init
loop-host-init c = no_fifos (length c.args.modules.now.items) c.args.modules.now.items

pub host_width-requires : goal.host_width-requires
host_width-requires c = subst (HasType c.args.kernels.now) (sym c.host-item.is) (c.requires c.loop-host.host-index c.host-item.result c.loop-host-test.true)

pub add_fifo-requires-clause-some : goal.add_fifo-requires-clause-some
add_fifo-requires-clause-some c = c.host_width.ensures.some

pub add_fifo-requires-clause-narrow : goal.add_fifo-requires-clause-narrow
add_fifo-requires-clause-narrow c = c.host_width.ensures.at_most

pub loop-host-preserved : goal.loop-host-preserved
loop-host-preserved c =
    let l = c.loop-host in
    let old = c.args.modules.now.items in
    one_fifo_more host_queue c.args.hosts.now l.host-index c.host-item.result (length old) (queue c.host_width.result 2) old l.modules.items c.add_fifo.new.modules.items
    c.loop-host-test.true c.host-item.is (ap (λ w. queue w 2) c.host_width.ensures.is) refl l.invariant c.in_ok-add_fifo.ensures

pub returns : goal.returns
returns c =
    let l = c.loop-host in
    let old = c.args.modules.now.items in
    subst (λ xs. AddsFifos (length old) (map host_queue xs) old l.modules.items) (take_whole c.args.hosts.now l.host-index c.loop-host-test.false) l.invariant
