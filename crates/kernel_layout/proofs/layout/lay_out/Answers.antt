use Rattle.std.proofs.Common.{◌≡◌, ◌∙◌, ◌<◌, length, refl, sym, subst}
use Rattle.std.specs.Prelude.{slice_index, slice_index_or}
use Rattle.cycle_find.specs.Constraints.{numbers_of}
use Rattle.stream_graph.proofs.NodeLemmas.{orderly}
use Rattle.offset_edges.proofs.EdgeLemmas.{edges_small}
use Rattle.kernel_layout.specs.Waits.{AreShared}
use Rattle.kernel_layout.specs.Layouts.{AreReads, AreLatencies, AreAllWaits, IsOrder, HaveNoLoop}
use Rattle.kernel_layout.proofs.Laying.{times_from, producers_below, waits_are}
use Rattle.kernel_layout.proofs.Looping.{no_loop}
use Rattle.kernel_layout.proofs.layout.lay_out.Goals as goal

pub all_reads-requires-clause-times : goal.all_reads-requires-clause-times
all_reads-requires-clause-times c =
    times_from c.args.kernel.now.nodes (slice_index c.args.latencies.now) (numbers_of c.args.times.now) c.requires.begin c.requires.most c.requires.legal

pub all_waits-requires : goal.all_waits-requires
all_waits-requires c = record {
  producers = λ k d h.
      let nodes = c.args.kernel.now.nodes in
      let ticks = slice_index c.args.latencies.now in
      let s = numbers_of c.args.times.now in
      let t = times_from nodes ticks s c.requires.begin c.requires.most c.requires.legal in
      let e = edges_small nodes (orderly nodes c.args.kernel.now.made) c.args.kernel.now.few in
      subst (λ n. (slice_index_or c.args.chains.now k d).producer < n) (sym c.requires.latencies)
      (producers_below nodes ticks s t c.requires.legal e c.args.chains.now c.requires.chains k d h);
}

pub order-requires-clause-loops : goal.order-requires-clause-loops
order-requires-clause-loops c =
    let nodes = c.args.kernel.now.nodes in
    let s = numbers_of c.args.times.now in
    let same : c.as_slice.result.now ≡ c.in_ok-reads.reads.items = c.as_slice.ensures.value in
    subst HaveNoLoop (sym same) (no_loop nodes s (orderly nodes c.args.kernel.now.made) c.in_ok-reads.reads.items c.in_ok-reads.ensures c.requires.causal)

pub returns : goal.returns
returns c =
    let nodes = c.args.kernel.now.nodes in
    let ticks = slice_index c.args.latencies.now in
    let s = numbers_of c.args.times.now in
    let t = times_from nodes ticks s c.requires.begin c.requires.most c.requires.legal in
    let e = edges_small nodes (orderly nodes c.args.kernel.now.made) c.args.kernel.now.few in
    let shared = subst (λ n. AreShared c.args.chains.now n c.in_ok-waits.waits.items) c.requires.latencies c.in_ok-waits.ensures in
    let waits = waits_are nodes ticks s t c.requires.legal e c.args.chains.now c.requires.chains c.in_ok-waits.waits.items shared in
    let same : c.as_slice.result.now ≡ c.in_ok-reads.reads.items = c.as_slice.ensures.value in
    record {
      reads = subst (λ reads. AreReads nodes s (length nodes) reads) (sym c.from_vec.ensures) c.in_ok-reads.ensures;
      pipeline =
          subst (λ latencies. AreLatencies ticks (length nodes) latencies) (sym c.from_vec-2.ensures)
          (subst (λ latencies. AreLatencies ticks (length nodes) latencies) (sym (c.in_ok-to_vec.ensures.items_if_clones_equal (λ x y e. e)))
          (record { counted = c.requires.latencies; each = λ n h. refl }));
      waits = subst (λ waits. AreAllWaits nodes ticks s (length nodes) waits) (sym c.from_vec-3.ensures) waits;
      order = subst (λ reads. IsOrder reads c.in_ok-order.order) (same ∙ sym c.from_vec.ensures) c.in_ok-order.ensures;
    }
