use Rattle.std.proofs.Common.{false, arith, ap, sym, ◌∙◌, length, ◌-◌, get_or, refl}
use Rattle.std.proofs.lemmas.Option.{IfSome_then}
use Rattle.std.proofs.lemmas.List.{get_or_read}
use Rattle.std.proofs.lemmas.Grind.{get_or_default_zero}
use Rattle.digraph.proofs.Steps.{closed, opened, stuck, waiting, old, longer}
use Rattle.digraph.proofs.search.visit.Goals as goal

pub loop-search-preserved-in-Continue-branch-2 : goal.loop-search-preserved-in-Continue-branch-2
loop-search-preserved-in-Continue-branch-2 c =
    let s = c.loop-search.search in
    let from = c.index.ensures ∙ get_or_default_zero s.next.items (c.len-top.result - 1) c.index.result.now (omega (arith, c.loop-search.invariant.searches.nexts)) in
    let k = closed c.args.graph.now s c.close.new.search
    (c.len-top.result - 1) c.index-node.result.now c.first_waiting-at.result
    c.loop-search.invariant.searches (omega arith) (sym
    (c.index-node.ensures ∙ get_or_default_zero s.path.items
    (c.len-top.result - 1) c.index-node.result.now (omega arith)))
    (λ i a b. rw (
      sym c.reads_at-reads.ensures,
      sym c.as_slice.ensures.value,
    ) (c.first_waiting-at.ensures.ranked i (omega (
      arith,
      from,
    )) b)) (c.if-at-len.true ∙ c.len-in-loop-search.ensures ∙ ap length
    c.reads_at-reads.ensures) (c.in_ok-close.ensures) in
    record {
      searches = k.searches;
      kept = λ x h. k.kept x (c.loop-search.invariant.kept x h);
      root = λ h. k.root h ∙ c.loop-search.invariant.root (omega arith);
      ended = λ h. rw (sym (c.loop-search.invariant.root (omega arith))) (k.ended h);
    }

pub loop-search-preserved : goal.loop-search-preserved
loop-search-preserved c =
    let s = c.loop-search.search in
    let from = c.index.ensures ∙ get_or_default_zero s.next.items (c.len-top.result - 1) c.index.result.now (omega (arith, c.loop-search.invariant.searches.nexts)) in
    let w = waiting c.args.graph.now s.rank.items s.fresh.items s.path.items s.next.items
    s.order.items (c.len-top.result - 1) c.index-node.result.now c.first_waiting-at.result
    c.reads_at-reads.result.now c.requires.graph c.loop-search.invariant.searches
    (omega arith) c.index-node.ensures c.reads_at-reads.ensures
    c.first_waiting-at.ensures.within (λ e. c.if-at-len.false
    (e ∙ sym c.len-in-loop-search.ensures)) (λ i a b. rw (sym c.as_slice.ensures.value)
    (c.first_waiting-at.ensures.ranked i (omega (
      arith,
      from,
    )) b)) (λ h. rw (sym c.as_slice.ensures.value)
    (c.first_waiting-at.ensures.waiting h)) in
    let o = rw c.read_at-waiting.ensures at c.in_ok-open-2.ensures in
    record {
      searches = opened c.args.graph.now _ c.open-then-index.new.search _ _ _ _ _ _ w.searches
          w.waits w.node (sym (get_or_read s.fresh.items _ _ (omega (
            arith,
            w.node,
            w.searches.marks,
          )) (rw c.read_at-waiting.ensures at c.index-else-at-len.ensures)
          false) ∙ c.if-index.true) w.zero refl refl refl refl refl o;
      kept = λ x h. rw o.rank (c.loop-search.invariant.kept x h);
      root = λ h. ap (λ l. get_or l 0 0) o.path ∙ old s.path.items _ 0 w.some ∙ c.loop-search.invariant.root w.some;
      ended = λ h. absurd (omega (arith, ap length o.path, longer s.path.items (get_or c.reads_at-reads.result.now c.first_waiting-at.result 0)));
    }

pub returns-else-index-clause-searches : goal.returns-else-index-clause-searches
returns-else-index-clause-searches c =
    let s = c.loop-search.search in
    let from = c.index.ensures ∙ get_or_default_zero s.next.items (c.len-top.result - 1) c.index.result.now (omega (arith, c.loop-search.invariant.searches.nexts)) in
    (waiting c.args.graph.now s.rank.items s.fresh.items s.path.items s.next.items s.order.items
    (c.len-top.result - 1) c.index-node.result.now c.first_waiting-at.result
    c.reads_at-reads.result.now c.requires.graph c.loop-search.invariant.searches
    (omega arith) c.index-node.ensures c.reads_at-reads.ensures
    c.first_waiting-at.ensures.within (λ e. c.if-at-len.false
    (e ∙ sym c.len-in-loop-search.ensures)) (λ i a b. rw (sym c.as_slice.ensures.value)
    (c.first_waiting-at.ensures.ranked i (omega (
      arith,
      from,
    )) b)) (λ h. rw (sym c.as_slice.ensures.value)
    (c.first_waiting-at.ensures.waiting h))).searches

pub returns-else-index-clause-walk : goal.returns-else-index-clause-walk
returns-else-index-clause-walk c =
    let s = c.loop-search.search in
    let from = c.index.ensures ∙ get_or_default_zero s.next.items (c.len-top.result - 1) c.index.result.now (omega (arith, c.loop-search.invariant.searches.nexts)) in
    let w = waiting c.args.graph.now s.rank.items s.fresh.items s.path.items s.next.items
    s.order.items (c.len-top.result - 1) c.index-node.result.now c.first_waiting-at.result
    c.reads_at-reads.result.now c.requires.graph c.loop-search.invariant.searches
    (omega arith) c.index-node.ensures c.reads_at-reads.ensures
    c.first_waiting-at.ensures.within (λ e. c.if-at-len.false
    (e ∙ sym c.len-in-loop-search.ensures)) (λ i a b. rw (sym c.as_slice.ensures.value)
    (c.first_waiting-at.ensures.ranked i (omega (
      arith,
      from,
    )) b)) (λ h. rw (sym c.as_slice.ensures.value)
    (c.first_waiting-at.ensures.waiting h)) in
    IfSome_then c.place_of.result c.place_of.ensures.found
    (λ at h. stuck c.args.graph.now s.rank.items s.fresh.items s.path.items _ s.order.items
    (get_or c.reads_at-reads.result.now c.first_waiting-at.result 0) at w.searches w.waits
    w.some (rw (sym c.as_slice-else-index.ensures.value) h.0)
    (rw (sym c.as_slice-else-index.ensures.value, sym c.read_at-waiting.ensures) h.1))
