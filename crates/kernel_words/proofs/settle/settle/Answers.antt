use Rattle.std.proofs.Common.{◌≡◌, ◌∙◌, ◌-◌, ◌<◌, [], ◌∷◌, ◌++◌, length, get_or, true, sym, ap, subst, arith}
use Rattle.std.specs.Prelude.{option_to_list, vec_len}
use Rattle.stream_graph.proofs.NodeLemmas.{orderly}
use Rattle.kernel_types.proofs.Typing.{typed}
use Rattle.kernel_family.specs.declared.place.Place.{Place}
use Rattle.kernel_family.specs.Steps.{IsStep}
use Rattle.kernel_words.specs.Streams.{cell_at}
use Rattle.kernel_words.specs.Filling.{is_open, IsPlace, IsKnown, IsPut}
use Rattle.kernel_words.proofs.Settling.{IsSettling, work, begin, top_is, top_place, top_unknown, deeper, deeper_less, shallower, shallower_less, popped_of}
use Rattle.kernel_words.proofs.settle.settle.Goals as goal

pub loop-stack-init : goal.loop-stack-init
loop-stack-init c =
    subst (λ xs. IsSettling c.args.kernel.now.nodes c.args.run.now c.args.streams.now c.args.streams.now c.args.taken.now xs c.args.place)
    (sym (c.in_ok-push.ensures.items ∙ ap (λ ys. ys ++ c.args.place ∷ []) c.requires.empty))
    (begin c.args.kernel.now.nodes c.args.run.now c.args.streams.now c.args.taken.now c.args.place c.requires.filling c.requires.place
    (sym c.is_open.ensures ∙ c.if-not-is_open.false))

pub first_open-requires-clause-place : goal.first_open-requires-clause-place
first_open-requires-clause-place c =
    let items = c.loop-stack.stack.items in
    let len : c.len-in-loop-stack.result ≡ length c.loop-stack.stack.items = c.len-in-loop-stack.ensures ∙ c.loop-stack.stack.ok.0 in
    let some = c.loop-stack-test.true in
    let first = c.len.ensures in
    let again = c.len-in-loop-stack.ensures in
    let top = top_is items c.len-in-loop-stack.result c.index-top.result.now len (omega (arith, some, first, again)) c.index-top.ensures in
    let held : length c.loop-stack.stack.items ≡ c.len-in-loop-stack.result = sym len in
    subst (λ (a : Place). IsPlace c.args.kernel.now.nodes c.loop-stack.streams.ticks a) (sym top)
    (top_place c.args.kernel.now.nodes (orderly c.args.kernel.now.nodes c.args.kernel.now.made) (typed c.args.kernel.now.nodes c.args.kernel.now.made) c.requires.causal
    c.args.run.now
    c.args.streams.now c.loop-stack.streams c.loop-stack.taken items c.args.place c.loop-stack.invariant (omega (arith, some, first, again, held)))

pub loop-stack-smaller-in-Continue-branch-2 : goal.loop-stack-smaller-in-Continue-branch-2
loop-stack-smaller-in-Continue-branch-2 c =
    let items = c.loop-stack.stack.items in
    let len : c.len-in-loop-stack.result ≡ length c.loop-stack.stack.items = c.len-in-loop-stack.ensures ∙ c.loop-stack.stack.ok.0 in
    let some = c.loop-stack-test.true in
    let first = c.len.ensures in
    let again = c.len-in-loop-stack.ensures in
    let held : length c.loop-stack.stack.items ≡ c.len-in-loop-stack.result = sym len in
    let top = top_is items c.len-in-loop-stack.result c.index-top.result.now len (omega (arith, some, first, again)) c.index-top.ensures in
    subst (λ xs. work c.args.kernel.now.nodes c.loop-stack.streams xs < work c.args.kernel.now.nodes c.loop-stack.streams c.loop-stack.stack.items)
    (sym c.in_ok-push-in-Some.ensures.items)
    (deeper_less c.args.kernel.now.nodes (orderly c.args.kernel.now.nodes c.args.kernel.now.made) (typed c.args.kernel.now.nodes c.args.kernel.now.made)
    c.requires.causal c.args.run.now
    c.args.streams.now c.loop-stack.streams c.loop-stack.taken items c.args.place c.loop-stack.invariant (omega (arith, some, first, again, held))
    c.in-Some.next (subst (λ (a : Place). IsStep c.args.kernel.now.nodes a c.in-Some.next) top c.in-Some.ensures.step) c.in-Some.ensures.place c.in-Some.ensures.unknown)

pub loop-stack-preserved-in-Continue-branch-2 : goal.loop-stack-preserved-in-Continue-branch-2
loop-stack-preserved-in-Continue-branch-2 c =
    let items = c.loop-stack.stack.items in
    let len : c.len-in-loop-stack.result ≡ length c.loop-stack.stack.items = c.len-in-loop-stack.ensures ∙ c.loop-stack.stack.ok.0 in
    let some = c.loop-stack-test.true in
    let first = c.len.ensures in
    let again = c.len-in-loop-stack.ensures in
    let held : length c.loop-stack.stack.items ≡ c.len-in-loop-stack.result = sym len in
    let top = top_is items c.len-in-loop-stack.result c.index-top.result.now len (omega (arith, some, first, again)) c.index-top.ensures in
    subst (λ xs. IsSettling c.args.kernel.now.nodes c.args.run.now c.args.streams.now c.loop-stack.streams c.loop-stack.taken xs c.args.place)
    (sym c.in_ok-push-in-Some.ensures.items)
    (deeper c.args.kernel.now.nodes (orderly c.args.kernel.now.nodes c.args.kernel.now.made) (typed c.args.kernel.now.nodes c.args.kernel.now.made) c.requires.causal c.args.run.now
    c.args.streams.now c.loop-stack.streams c.loop-stack.taken items c.args.place c.loop-stack.invariant (omega (arith, some, first, again, held))
    c.in-Some.next (subst (λ (a : Place). IsStep c.args.kernel.now.nodes a c.in-Some.next) top c.in-Some.ensures.step) c.in-Some.ensures.place c.in-Some.ensures.unknown)

pub fill-requires-clause-place : goal.fill-requires-clause-place
fill-requires-clause-place c =
    let items = c.loop-stack.stack.items in
    let len : c.len-in-loop-stack.result ≡ length c.loop-stack.stack.items = c.len-in-loop-stack.ensures ∙ c.loop-stack.stack.ok.0 in
    let some = c.loop-stack-test.true in
    let first = c.len.ensures in
    let again = c.len-in-loop-stack.ensures in
    let held : length c.loop-stack.stack.items ≡ c.len-in-loop-stack.result = sym len in
    let top = top_is items c.len-in-loop-stack.result c.index-top.result.now len (omega (arith, some, first, again)) c.index-top.ensures in
    subst (λ (a : Place). IsPlace c.args.kernel.now.nodes c.loop-stack.streams.ticks a) (sym top)
    (top_place c.args.kernel.now.nodes (orderly c.args.kernel.now.nodes c.args.kernel.now.made) (typed c.args.kernel.now.nodes c.args.kernel.now.made) c.requires.causal
    c.args.run.now
    c.args.streams.now c.loop-stack.streams c.loop-stack.taken items c.args.place c.loop-stack.invariant (omega (arith, some, first, again, held)))

pub fill-requires-clause-unknown : goal.fill-requires-clause-unknown
fill-requires-clause-unknown c =
    let items = c.loop-stack.stack.items in
    let len : c.len-in-loop-stack.result ≡ length c.loop-stack.stack.items = c.len-in-loop-stack.ensures ∙ c.loop-stack.stack.ok.0 in
    let some = c.loop-stack-test.true in
    let first = c.len.ensures in
    let again = c.len-in-loop-stack.ensures in
    let held : length c.loop-stack.stack.items ≡ c.len-in-loop-stack.result = sym len in
    let top = top_is items c.len-in-loop-stack.result c.index-top.result.now len (omega (arith, some, first, again)) c.index-top.ensures in
    subst (λ (a : Place). is_open (cell_at c.loop-stack.streams a.node a.tick) ≡ true) (sym top)
    (top_unknown c.args.kernel.now.nodes (orderly c.args.kernel.now.nodes c.args.kernel.now.made) (typed c.args.kernel.now.nodes c.args.kernel.now.made)
    c.requires.causal c.args.run.now
    c.args.streams.now c.loop-stack.streams c.loop-stack.taken items c.args.place c.loop-stack.invariant (omega (arith, some, first, again, held)))

pub loop-stack-smaller : goal.loop-stack-smaller
loop-stack-smaller c =
    let items = c.loop-stack.stack.items in
    let len : c.len-in-loop-stack.result ≡ length c.loop-stack.stack.items = c.len-in-loop-stack.ensures ∙ c.loop-stack.stack.ok.0 in
    let some = c.loop-stack-test.true in
    let first = c.len.ensures in
    let again = c.len-in-loop-stack.ensures in
    let held : length c.loop-stack.stack.items ≡ c.len-in-loop-stack.result = sym len in
    let top = top_is items c.len-in-loop-stack.result c.index-top.result.now len (omega (arith, some, first, again)) c.index-top.ensures in
    let taken_off : c.loop-stack.stack.items ≡ c.pop.new.self.items ++ get_or c.loop-stack.stack.items (vec_len c.loop-stack.stack - 1) (record { node = 0; tick = 0 }) ∷ [] =
    c.pop.ensures.items ∙ ap (λ r. c.pop.new.self.items ++ option_to_list r) (c.pop.ensures.value (record { node = 0; tick = 0 }) (omega (arith, some, first))) in
    shallower_less c.args.kernel.now.nodes (orderly c.args.kernel.now.nodes c.args.kernel.now.made) (typed c.args.kernel.now.nodes c.args.kernel.now.made)
    c.requires.causal c.args.run.now
    c.args.streams.now c.loop-stack.streams c.loop-stack.taken items c.args.place c.loop-stack.invariant (omega (arith, some, first, again, held))
    c.fill.new.streams c.fill.new.taken c.fill.ensures.put.0 c.pop.new.self.items c.fill.ensures.filling
    (subst (λ (a : Place). IsPut c.loop-stack.streams c.fill.new.streams a c.fill.ensures.put.0) top c.fill.ensures.put.1)
    (subst (λ (a : Place). IsKnown c.fill.new.streams a) top c.fill.ensures.known) c.fill.ensures.kept
    (popped_of c.loop-stack.stack.items c.pop.new.self.items _ taken_off)

pub loop-stack-preserved : goal.loop-stack-preserved
loop-stack-preserved c =
    let items = c.loop-stack.stack.items in
    let len : c.len-in-loop-stack.result ≡ length c.loop-stack.stack.items = c.len-in-loop-stack.ensures ∙ c.loop-stack.stack.ok.0 in
    let some = c.loop-stack-test.true in
    let first = c.len.ensures in
    let again = c.len-in-loop-stack.ensures in
    let held : length c.loop-stack.stack.items ≡ c.len-in-loop-stack.result = sym len in
    let top = top_is items c.len-in-loop-stack.result c.index-top.result.now len (omega (arith, some, first, again)) c.index-top.ensures in
    let taken_off : c.loop-stack.stack.items ≡ c.pop.new.self.items ++ get_or c.loop-stack.stack.items (vec_len c.loop-stack.stack - 1) (record { node = 0; tick = 0 }) ∷ [] =
    c.pop.ensures.items ∙ ap (λ r. c.pop.new.self.items ++ option_to_list r) (c.pop.ensures.value (record { node = 0; tick = 0 }) (omega (arith, some, first))) in
    shallower c.args.kernel.now.nodes (orderly c.args.kernel.now.nodes c.args.kernel.now.made) (typed c.args.kernel.now.nodes c.args.kernel.now.made) c.requires.causal
    c.args.run.now
    c.args.streams.now c.loop-stack.streams c.loop-stack.taken items c.args.place c.loop-stack.invariant (omega (arith, some, first, again, held))
    c.fill.new.streams c.fill.new.taken c.fill.ensures.put.0 c.pop.new.self.items c.fill.ensures.filling
    (subst (λ (a : Place). IsPut c.loop-stack.streams c.fill.new.streams a c.fill.ensures.put.0) top c.fill.ensures.put.1)
    (subst (λ (a : Place). IsKnown c.fill.new.streams a) top c.fill.ensures.known) c.fill.ensures.kept
    (popped_of c.loop-stack.stack.items c.pop.new.self.items _ taken_off)
