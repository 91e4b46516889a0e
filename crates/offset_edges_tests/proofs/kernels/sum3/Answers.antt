use Rattle.std.proofs.Common.{◌∙◌, ap, sym, subst, [], ◌++◌}
use Rattle.kernel_calls.specs.Laws.{Received, AreLawful}
use Rattle.stream_graph.specs.Counts.{Counted}
use Rattle.stream_graph.proofs.CallerLemmas.{all_received}
use Rattle.stream_graph_tests.specs.Sum3.{sum3}
use Rattle.offset_edges_tests.proofs.Lawful.{sum3_lawful}
use Rattle.offset_edges_tests.proofs.kernels.sum3.Goals as goal

pub make-requires-2-clause-room : goal.make-requires-2-clause-room
make-requires-2-clause-room c =
    c.in_ok-graph.ensures.room sum3
    (subst (λ t. Received Counted t sum3 c.make.new.builder) c.new-tally.ensures.empty c.in_ok-make.ensures)

pub finish-requires-clause-lawful : goal.finish-requires-clause-lawful
finish-requires-clause-lawful c =
    subst (λ l. AreLawful [] l)
    (sym (all_received sum3 c.in_ok-graph.graph c.make-2.new.builder c.in_ok-make-2.ensures
    ∙ ap (λ l. l ++ sum3) c.in_ok-graph.ensures.empty))
    sum3_lawful
