use Rattle.std.proofs.Common.{◌≡◌, ◌+◌, ◌∙◌, length, ap, sym, subst, arith}
use Rattle.project_rtl.specs.Tops.{done_assigns, instances_of}
use Rattle.project_design.specs.Building.{ArePlaces}
use Rattle.project_design.proofs.Placing.{counted}
use Rattle.project_design.proofs.Topping.{made_top, nets_are}
use Rattle.project_design.proofs.top.top.Goals as goal

pub of-places-requires : goal.of-places-requires
of-places-requires c =
    let n = nets_are c.args.project.now c.finish-top.result (c.finish-top.ensures.whole ∙ c.in_ok-ports_alone.ensures) in
    let e = c.len.ensures in
    omega arith

pub of-requires-clause-scalar : goal.of-requires-clause-scalar
of-requires-clause-scalar c = c.of-places.ensures.scalars ∙ sym (counted c.args.project.now).scalar

pub of-requires-clause-net : goal.of-requires-clause-net
of-requires-clause-net c = ap (λ n. n + 1) c.of-places.ensures.done ∙ sym (counted c.args.project.now).net

pub assigns-requires-clause-blocks : goal.assigns-requires-clause-blocks
assigns-requires-clause-blocks c = c.in_ok-blocks.ensures.are

pub assigns-requires-clause-places : goal.assigns-requires-clause-places
assigns-requires-clause-places c = subst (λ p. ArePlaces p c.of-places.result) (sym c.in_ok-blocks.ensures.project) c.of-places.ensures

pub instances_of-requires-clause-blocks : goal.instances_of-requires-clause-blocks
instances_of-requires-clause-blocks c = c.in_ok-blocks.ensures.are

pub instances_of-requires-clause-places : goal.instances_of-requires-clause-places
instances_of-requires-clause-places c = subst (λ p. ArePlaces p c.of-places.result) (sym c.in_ok-blocks.ensures.project) c.of-places.ensures

pub returns : goal.returns
returns c =
    made_top c.args.project.now c.finish-top.result c.add_all_wires.new.nets c.in_ok-top.field-0 c.in_ok-top-2.field-0
    (c.finish-top.ensures.whole ∙ c.in_ok-ports_alone.ensures)
    c.in_ok-add_all_wires.ensures
    (c.in_ok-top.ensures ∙ ap done_assigns c.in_ok-blocks.ensures.project)
    (c.in_ok-top-2.ensures ∙ ap instances_of c.in_ok-blocks.ensures.project)
