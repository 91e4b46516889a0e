use Rattle.std.proofs.Common.{length, map, take, get_or, ap, subst, refl}
use Rattle.project_rtl.specs.Projects.{link_queue}
use Rattle.project_design.specs.Building.{AddsFifos}
use Rattle.project_design.proofs.Making.{no_fifos, one_fifo_more, take_whole, queue, same_item}
use Rattle.project_design.proofs.Linking.{no_link}
use Rattle.project_design.proofs.fifos.add_link_fifos.Goals as goal

pub loop-link-init : goal.loop-link-init
loop-link-init c = no_fifos (length c.args.modules.now.items) c.args.modules.now.items

pub link_width-requires : goal.link_width-requires
link_width-requires c = c.requires.from c.loop-link.link-index no_link c.loop-link-test.true

pub add_fifo-requires-clause-some : goal.add_fifo-requires-clause-some
add_fifo-requires-clause-some c = c.link_width.ensures.some

pub add_fifo-requires-clause-narrow : goal.add_fifo-requires-clause-narrow
add_fifo-requires-clause-narrow c = c.link_width.ensures.at_most

pub add_fifo-requires-clause-least : goal.add_fifo-requires-clause-least
add_fifo-requires-clause-least c = c.requires.least c.loop-link.link-index no_link c.loop-link-test.true

pub add_fifo-requires-clause-most : goal.add_fifo-requires-clause-most
add_fifo-requires-clause-most c = c.requires.most c.loop-link.link-index no_link c.loop-link-test.true

pub loop-link-preserved : goal.loop-link-preserved
loop-link-preserved c =
    let l = c.loop-link in
    let old = c.args.modules.now.items in
    let link = get_or c.args.links.now l.link-index no_link in
    one_fifo_more (link_queue c.args.kernels.now) c.args.links.now l.link-index link (length old) (queue c.link_width.result link.depth) old l.modules.items c.add_fifo.new.modules.items
    c.loop-link-test.true (same_item c.args.links.now l.link-index no_link c.loop-link-test.true) (ap (λ w. queue w link.depth) c.link_width.ensures.is) refl l.invariant c.in_ok-add_fifo.ensures

pub returns : goal.returns
returns c =
    let l = c.loop-link in
    let old = c.args.modules.now.items in
    subst (λ xs. AddsFifos (length old) (map (link_queue c.args.kernels.now) xs) old l.modules.items) (take_whole c.args.links.now l.link-index c.loop-link-test.false) l.invariant
