use Rattle.std.proofs.Common.{◌∙◌, ap, sym, subst, [], ◌++◌}
use Rattle.kernel_calls.specs.Laws.{Received, AreLawful}
use Rattle.stream_graph.specs.Counts.{Counted}
use Rattle.stream_graph.proofs.CallerLemmas.{all_received}
use Rattle.offset_edges_tests.specs.Calls.{double}
use Rattle.offset_edges_tests.proofs.Lawful.{double_lawful}
use Rattle.offset_edges_tests.proofs.kernels.double.Goals as goal

pub make_double-requires-2-clause-room : goal.make_double-requires-2-clause-room
make_double-requires-2-clause-room c =
    c.in_ok-graph.ensures.room double
    (subst (λ t. Received Counted t double c.make_double.new.builder) c.new-tally.ensures.empty c.in_ok-make_double.ensures)

pub finish-requires-clause-lawful : goal.finish-requires-clause-lawful
finish-requires-clause-lawful c =
    subst (λ l. AreLawful [] l)
    (sym (all_received double c.in_ok-graph.graph c.make_double-2.new.builder c.in_ok-make_double-2.ensures
    ∙ ap (λ l. l ++ double) c.in_ok-graph.ensures.empty))
    double_lawful
