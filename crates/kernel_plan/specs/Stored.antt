-- The bits of the registers behind the nodes of a kernel.
use Rattle.std.specs.Prelude.{ℕ, zero, suc, ◌+◌, ◌*◌, List, length}
use Rattle.stream_graph.specs.declared.node.Node.{Node}
use Rattle.stream_graph.specs.LookUps.{width_at}

-- for each of the first so many nodes its width times its latency
abbrev pub latency_bits_below : (ℕ → ℕ) → List Node → ℕ → ℕ
latency_bits_below ticks nodes zero = 0
latency_bits_below ticks nodes (suc n) =
    latency_bits_below ticks nodes n + width_at nodes n * ticks n

-- for each node
abbrev pub latency_bits : (ℕ → ℕ) → List Node → ℕ
latency_bits ticks nodes = latency_bits_below ticks nodes (length nodes)
