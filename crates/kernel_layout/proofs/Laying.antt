-- The layout, from its parts.
use Rattle.std.proofs.Common.{arith, ◌≡◌, ◌∙◌, ◌<◌, ◌≤◌, ◌^◌, ℕ, zero, suc, List, [], ◌∷◌, length, get_or, refl, sym, ap, subst}
use Rattle.std.specs.Prelude.{pos, ◌≤ℤ◌, slice_index_or, Contains, Option, Some, None, ◌↔◌}
use Rattle.std.specs.List.Sorted.{IsStrictlyIncreasing}
use Rattle.std.proofs.lemmas.Int.{ints}
use Rattle.cycle_find.specs.Constraints.{Numbers}
use Rattle.fifo_sharing.specs.declared.chain.Chain.{Chain}
use Rattle.fifo_sharing.specs.Chains.{IsDelayOf, producers, AreChains}
use Rattle.stream_graph.specs.declared.node.Node.{Node}
use Rattle.offset_edges.specs.Edges.{edges_of, edge_at, IsSmall}
use Rattle.offset_edges.specs.Schedules.{IsLegal}
use Rattle.kernel_layout.specs.Reads.{AreTimes}
use Rattle.kernel_layout.specs.Waits.{AreWaits, no_chain, chain_at, IsChainAt, taps_of, AreShared}
use Rattle.kernel_layout.specs.Layouts.{AreAllWaits}
use Rattle.kernel_layout.proofs.Arcs.{problem, read_behind, delay_from}

producers_length : (chains : List Chain) → length (producers chains) ≡ length chains
producers_length [] = refl
producers_length (c ∷ chains) = ap suc (producers_length chains)

-- the default of the one list is another than that of the other
producer_at : (chains : List Chain) (i d : ℕ) → i < length chains → get_or (producers chains) i d ≡ (chain_at chains i).producer
producer_at [] i d h = absurd (omega (arith, h))
producer_at (c ∷ chains) zero d h = refl
producer_at (c ∷ chains) (suc i) d h = producer_at chains i d (omega (arith, h))

module _ (nodes : List Node) (ticks : ℕ → ℕ) (s : Numbers) where
  -- in a legal schedule no word is read before it was computed
  pub times_from : ((v : ℕ) → v < length nodes → pos 0 ≤ℤ s v) → ((v : ℕ) → v < length nodes → s v ≤ℤ pos (2 ^ 46)) → IsLegal ticks (edges_of nodes) s
      → AreTimes nodes s
  times_from begin most legal = record {
    begin = begin;
    most = most;
    behind = λ j h. let l = legal j h in omega (arith, ints, l);
  }

  module _ (t : AreTimes nodes s) (legal : IsLegal ticks (edges_of nodes) s) (small : (j : ℕ) → j < length (edges_of nodes) → IsSmall (length nodes) (edge_at (edges_of nodes) j))
      (chains : List Chain) (c : AreChains (problem nodes ticks s) s chains) where
    abbrev IsDelay : ℕ → ℕ → Type 0
    IsDelay u d = IsDelayOf (problem nodes ticks s) s u d

    producer_below : (u d : ℕ) → IsDelay u d → u < length nodes
    producer_below u d h =
        let r = read_behind nodes ticks s u d h in
        subst (λ n. n < length nodes) r.2 (small r.0 r.1).from

    pub producers_below : (k : ℕ) (z : Chain) → k < length chains → (slice_index_or chains k z).producer < length nodes
    producers_below k z h =
        let x = c.each k z h in
        producer_below (slice_index_or chains k z).producer (slice_index_or chains k z).words x.longest

    -- the taps of a node are its delays
    record IsTapped (u : ℕ) (taps : List ℕ) : Type 0 where
      each : (d : ℕ) → Contains taps d ↔ IsDelay u d
      up : IsStrictlyIncreasing taps

    tapped : (u : ℕ) (number : Option ℕ) → IsChainAt chains (length chains) u number → IsTapped u (taps_of chains number)
    tapped u None h = record {
      each = λ d. (
        (λ k. let l = k.1 in absurd (omega (arith, l))),
        (λ x.
            let p = c.all u d x in
            let size = producers_length chains in
            let l = p.1 in
            let inside : p.0 < length chains = omega (arith, size, l) in
            absurd (h p.0 inside (sym (producer_at chains p.0 u inside) ∙ p.2))),
      );
      up = λ k l. absurd (omega (arith, l));
    }
    tapped u (Some i) h =
        let x = c.each i no_chain h.within in
        subst (λ n. IsTapped n (chain_at chains i).taps) h.producer (record { each = x.taps; up = x.rising })

    waits_of : (u : ℕ) (taps : List ℕ) → IsTapped u taps → AreWaits nodes ticks s u taps
    waits_of u taps h = record {
      rising = h.up;
      each = λ wait. (
        (λ c. let d = (h.each wait).0 c in (d.4, read_behind nodes ticks s u wait d)),
        (λ r. (h.each wait).1 (delay_from nodes ticks s u wait r.1 r.0)),
      );
      late = λ behind r.
          let l = legal r.0 r.1 in
          let is = r.3 in
          let t : ticks (edge_at (edges_of nodes) r.0).from ≡ ticks u = ap ticks r.2 in
          omega (arith, ints, l, is, t);
    }

    pub waits_are : (waits : List (List ℕ)) → AreShared chains (length nodes) waits → AreAllWaits nodes ticks s (length nodes) waits
    waits_are waits a = record {
      counted = a.counted;
      each = λ n h.
          let x = a.each n h in
          subst (AreWaits nodes ticks s n) (sym x.is) (waits_of n (taps_of chains x.number) (tapped n x.number x.chain));
    }
