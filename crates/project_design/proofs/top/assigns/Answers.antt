use Rattle.std.proofs.Common.{◌≡◌, ◌+◌, ◌-◌, ◌*◌, ◌<◌, ◌∙◌, List, ℕ, length, ap, sym, subst, arith}
use Rattle.std.specs.Prelude.{IfOk}
use Rattle.rtl_ir.specs.Ports.{first_output}
use Rattle.manager_links.specs.declared.hosts.HostPort.{HostPort}
use Rattle.project_rtl.specs.Shapes.{shape_of}
use Rattle.project_rtl.specs.Tops.{valid_nets}
use Rattle.project_design.proofs.Few.{is_few}
use Rattle.project_design.proofs.Placing.{counted}
use Rattle.project_design.proofs.Blocking.{block_read, ended_is, next_is}
use Rattle.project_design.proofs.Topping.{done_made, ended_count, valid_count}
use Rattle.project_design.proofs.top.assigns.Goals as goal

pub ended_net-next-requires-clause-few : goal.ended_net-next-requires-clause-few
ended_net-next-requires-clause-few c =
    let project = c.args.blocks.now.project.now in
    let e = c.len.ensures in
    let o = c.args.blocks.now.each.ok.0 in
    let n = c.requires.blocks.count in
    let s = (is_few project).some in
    let lt : c.len.result - 1 < length project.kernels = omega arith in
    let here = block_read c.args.blocks.now (c.len.result - 1) c.index.result.now c.requires.blocks lt c.index.ensures in
    here.is.is.few_streams

pub ended_net-next-requires-clause-small : goal.ended_net-next-requires-clause-small
ended_net-next-requires-clause-small c =
    let project = c.args.blocks.now.project.now in
    let e = c.len.ensures in
    let o = c.args.blocks.now.each.ok.0 in
    let n = c.requires.blocks.count in
    let s = (is_few project).some in
    let lt : c.len.result - 1 < length project.kernels = omega arith in
    let here = block_read c.args.blocks.now (c.len.result - 1) c.index.result.now c.requires.blocks lt c.index.ensures in
    here.is.net_small

pub overflow_add-next : goal.overflow_add-next
overflow_add-next c =
    let project = c.args.blocks.now.project.now in
    let e = c.len.ensures in
    let o = c.args.blocks.now.each.ok.0 in
    let n = c.requires.blocks.count in
    let s = (is_few project).some in
    let lt : c.len.result - 1 < length project.kernels = omega arith in
    let here = block_read c.args.blocks.now (c.len.result - 1) c.index.result.now c.requires.blocks lt c.index.ensures in
    let few = here.is.is.few_streams in
    let small = here.is.net_small in
    let r = c.ended_net-next.ensures in
    omega arith

pub ended_net-first-requires-clause-few : goal.ended_net-first-requires-clause-few
ended_net-first-requires-clause-few c =
    let project = c.args.blocks.now.project.now in
    let here = block_read c.args.blocks.now 0 c.index-2.result.now c.requires.blocks (is_few project).some c.index-2.ensures in
    here.is.is.few_streams

pub ended_net-first-requires-clause-small : goal.ended_net-first-requires-clause-small
ended_net-first-requires-clause-small c =
    let project = c.args.blocks.now.project.now in
    let here = block_read c.args.blocks.now 0 c.index-2.result.now c.requires.blocks (is_few project).some c.index-2.ensures in
    here.is.net_small

pub done_assigns-requires : goal.done_assigns-requires
done_assigns-requires c =
    let project = c.args.blocks.now.project.now in
    let e = c.len.ensures in
    let o = c.args.blocks.now.each.ok.0 in
    let n = c.requires.blocks.count in
    let s = (is_few project).some in
    let lt : c.len.result - 1 < length project.kernels = omega arith in
    let here = block_read c.args.blocks.now (c.len.result - 1) c.index.result.now c.requires.blocks lt c.index.ensures in
    let few = here.is.is.few_streams in
    let small = here.is.net_small in
    let r = c.ended_net-next.ensures in
    let f = counted project in
    let fk = f.few in
    let fo = f.few_outputs in
    let one = ap (λ (l : List ℕ). length l) (c.as_slice.ensures.value ∙ c.in_ok-ended.ensures) ∙ ended_count project in
    let two = ap (λ (l : List ℕ). length l) (c.as_slice-2.ensures.value ∙ c.in_ok-valids.ensures) ∙ valid_count c.args.places.outputs c.outputs.result.now in
    let three = ap (λ (l : List HostPort). length l) c.outputs.ensures in
    omega arith

pub returns : goal.returns
returns c =
    let project = c.args.blocks.now.project.now in
    let e = c.len.ensures in
    let o = c.args.blocks.now.each.ok.0 in
    let n = c.requires.blocks.count in
    let s = (is_few project).some in
    let lt : c.len.result - 1 < length project.kernels = omega arith in
    let here = block_read c.args.blocks.now (c.len.result - 1) c.index.result.now c.requires.blocks lt c.index.ensures in
    let before = block_read c.args.blocks.now 0 c.index-2.result.now c.requires.blocks s c.index-2.ensures in
    let end : c.len.result - 1 + 1 ≡ length project.kernels = omega arith in
    subst (λ target. IfOk c.done_assigns.result (λ l. l ≡ target))
    (done_made project c.args.places.done (c.ended_net-next.result + 1) c.ended_net-first.result c.as_slice.result.now c.as_slice-2.result.now
    c.requires.places.done
    (ap (λ k. k + 1) c.ended_net-next.ensures ∙ next_is project (c.len.result - 1) c.index.result.now here end)
    (c.ended_net-first.ensures ∙ ended_is project 0 c.index-2.result.now before)
    (c.as_slice.ensures.value ∙ c.in_ok-ended.ensures)
    (c.as_slice-2.ensures.value ∙ c.in_ok-valids.ensures ∙ ap (λ p. valid_nets p c.outputs.result.now) c.requires.places.outputs ∙ ap (valid_nets (first_output (shape_of project))) c.outputs.ensures))
    c.done_assigns.ensures
