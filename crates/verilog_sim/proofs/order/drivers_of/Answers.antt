use Rattle.std.proofs.Common.{◌≡◌, ◌<◌, ℕ, List, Some, length, get_or, arith, subst, refl}
use Rattle.std.specs.Prelude.{slice_get}
use Rattle.std.proofs.lemmas.Option.{slice_get_read}
use Rattle.rtl_ir.specs.declared.design.Assign.{Assign}
use Rattle.verilog_sim.proofs.Driving.{no_drivers, one_driver}
use Rattle.verilog_sim.proofs.order.drivers_of.Goals as goal

-- the assignment at a place of the list that was read
assign_at : (items assigns : List Assign) (k : ℕ) (a : Assign) → items ≡ assigns → k < length items → a ≡ get_or items k a → slice_get assigns k ≡ Some a
assign_at items assigns k a e lt is = subst (λ (l : List Assign). slice_get l k ≡ Some a) e (slice_get_read items (length items) k a refl lt is)

pub index_mut-requires : goal.index_mut-requires
index_mut-requires c =
    let at = assign_at c.as_slice-assign-items.result.now c.args.module.now.assigns c.loop-k.k c.assign-item.result c.as_slice-assign-items.ensures c.loop-k-test.true c.assign-item.is in
    let lt = (c.requires.assigns c.loop-k.k c.assign-item.result at).target in
    omega (arith, lt, c.loop-k.invariant.nodes, c.loop-k.graph.ok)

pub index_mut-requires-in-loop-k : goal.index_mut-requires-in-loop-k
index_mut-requires-in-loop-k c =
    let at = assign_at c.as_slice-assign-items.result.now c.args.module.now.assigns c.loop-k.k c.assign-item.result c.as_slice-assign-items.ensures c.loop-k-test.true c.assign-item.is in
    let lt = (c.requires.assigns c.loop-k.k c.assign-item.result at).target in
    omega (arith, lt, c.loop-k.invariant.nets, c.loop-k.by_net.ok)

pub loop-k-init : goal.loop-k-init
loop-k-init c =
    rw (c.in_ok-graph.ensures, c.in_ok-by_net.ensures, c.len.ensures, c.len-2.ensures) (no_drivers c.args.module.now)

pub loop-k-preserved : goal.loop-k-preserved
loop-k-preserved c =
    let at = assign_at c.as_slice-assign-items.result.now c.args.module.now.assigns c.loop-k.k c.assign-item.result c.as_slice-assign-items.ensures c.loop-k-test.true c.assign-item.is in
    rw (
      c.index.ensures.number,
      c.index-in-loop-k.ensures.number,
      c.own.ensures,
      c.in_ok-reads.ensures,
    )
    (one_driver c.args.module.now c.loop-k.graph.items c.loop-k.by_net.items c.loop-k.k
    c.assign-item.result c.requires at c.loop-k.invariant)
