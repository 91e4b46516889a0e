use Rattle.std.proofs.Common.{◌≤◌, ◌∙◌, ◌++◌, ap, sym, subst, map}
use Rattle.std.specs.Prelude.{All}
use Rattle.stream_graph.specs.declared.kernel.Kernel.{Kernel}
use Rattle.manager_links.specs.declared.links.Link.{Link}
use Rattle.manager_links.specs.Hosts.{HasType}
use Rattle.manager_links.specs.Links.{IsWithinLimit}
use Rattle.project_design.specs.Building.{IsLinkedFrom}
use Rattle.project_design.proofs.Making.{all_fifos, queues_are}
use Rattle.project_design.proofs.Linking.{links_from, links_deep}
use Rattle.project_design.proofs.fifos.fifos.Goals as goal

pub add_host_fifos-requires : goal.add_host_fifos-requires
add_host_fifos-requires c =
    subst (λ ks. All (HasType ks) c.inputs.result.now) (sym c.kernels-kernels.ensures)
    (subst (All (HasType c.args.project.now.kernels)) (sym c.inputs.ensures) c.args.project.now.whole.inputs.typed)

pub add_host_fifos-requires-2 : goal.add_host_fifos-requires-2
add_host_fifos-requires-2 c =
    subst (λ ks. All (HasType ks) c.outputs.result.now) (sym c.kernels-kernels.ensures)
    (subst (All (HasType c.args.project.now.kernels)) (sym c.outputs.ensures) c.args.project.now.whole.outputs.typed)

pub add_link_fifos-requires-clause-from : goal.add_link_fifos-requires-clause-from
add_link_fifos-requires-clause-from c =
    subst (λ ks. All (IsLinkedFrom ks) c.as_slice.result.now) (sym c.kernels-kernels.ensures)
    (subst (All (IsLinkedFrom c.args.project.now.kernels)) (sym c.as_slice.ensures) (links_from c.args.project.now c.args.links.now c.requires.links.ends))

pub add_link_fifos-requires-clause-least : goal.add_link_fifos-requires-clause-least
add_link_fifos-requires-clause-least c =
    subst (All (λ (link : Link). 2 ≤ link.depth)) (sym c.as_slice.ensures) (links_deep c.args.project.now c.requires.times c.args.links.now c.requires.links)

pub add_link_fifos-requires-clause-most : goal.add_link_fifos-requires-clause-most
add_link_fifos-requires-clause-most c = subst (All IsWithinLimit) (sym c.as_slice.ensures) c.requires.within

pub returns : goal.returns
returns c =
    queues_are c.args.project.now c.args.links.now c.kernels-kernels.result.now c.inputs.result.now c.outputs.result.now c.as_slice.result.now _
    c.kernels-kernels.ensures c.inputs.ensures c.outputs.ensures c.as_slice.ensures
    (all_fifos _ _ _ _ _ _ _ c.new-modules.ensures.items c.in_ok-add_host_fifos.ensures c.in_ok-add_host_fifos-2.ensures c.in_ok-add_link_fifos.ensures)
