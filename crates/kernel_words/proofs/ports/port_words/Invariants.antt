use Rattle.std.proofs.Common.{◌≡◌}
use Rattle.std.specs.Prelude.{pos}
use Rattle.stream_equations.specs.Equations.{enabled}
use Rattle.stream_equations.specs.Words.{words_before}
use Rattle.kernel_words.specs.Streams.{values_of}
use Rattle.kernel_words.proofs.ports.port_words.Given as goal

abbrev pub invariant-loop-tick : goal.invariant-loop-tick
invariant-loop-tick l =
    l.words.items ≡ words_before (enabled l.kernel.nodes (values_of l.streams) l.node) (λ t. values_of l.streams l.node (pos t)) l.tick
