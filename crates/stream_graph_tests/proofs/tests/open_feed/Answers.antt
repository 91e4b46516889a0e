use Rattle.std.proofs.Common.{◌∙◌, ◌++◌, ◌∷◌, [], ap, sym, subst, refl, arith}
use Rattle.fix_arith.specs.declared.types.StreamType.TheVariants.{UInt}
use Rattle.kernel_calls.specs.declared.call.Call.TheVariants as C
use Rattle.kernel_calls.specs.Laws.{AreLawful}
use Rattle.stream_graph.specs.Counts.{Counted}
use Rattle.stream_graph_tests.proofs.tests.open_feed.Goals as goal

pub feed-feed-requires : goal.feed-feed-requires
feed-feed-requires g c =
    (c.in_ok-graph.ensures.room (C.Feed (UInt 8) ∷ [])
    (c.feed-counted.new.self, subst (λ t. Counted t (C.Feed (UInt 8)) c.feed-counted.new.self) c.new-tally.ensures.empty c.feed-counted.ensures.call, refl)).0

pub finish-requires-clause-lawful : goal.finish-requires-clause-lawful
finish-requires-clause-lawful g c =
    subst (λ l. AreLawful [] l)
    (sym (c.feed-feed.ensures.call.calls ∙ ap (λ l. l ++ C.Feed (UInt 8) ∷ []) c.in_ok-graph.ensures.empty))
    ((omega arith, omega arith), tt)
