use Rattle.std.proofs.Common.{◌∙◌, ap, sym, subst, [], ◌++◌}
use Rattle.kernel_calls.specs.Laws.{Received, AreLawful}
use Rattle.stream_graph.specs.Counts.{Counted}
use Rattle.stream_graph.proofs.CallerLemmas.{all_received}
use Rattle.offset_edges_tests.specs.Calls.{self_fed}
use Rattle.offset_edges_tests.proofs.Lawful.{self_fed_lawful}
use Rattle.offset_edges_tests.proofs.kernels.self_fed.Goals as goal

pub make_self_fed-requires-2-clause-room : goal.make_self_fed-requires-2-clause-room
make_self_fed-requires-2-clause-room c =
    c.in_ok-graph.ensures.room self_fed
    (subst (λ t. Received Counted t self_fed c.make_self_fed.new.builder) c.new-tally.ensures.empty c.make_self_fed.ensures)

pub finish-requires-clause-lawful : goal.finish-requires-clause-lawful
finish-requires-clause-lawful c =
    subst (λ l. AreLawful [] l)
    (sym (all_received self_fed c.in_ok-graph.graph c.make_self_fed-2.new.builder c.make_self_fed-2.ensures
    ∙ ap (λ l. l ++ self_fed) c.in_ok-graph.ensures.empty))
    self_fed_lawful
