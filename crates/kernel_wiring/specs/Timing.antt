-- By what a kernel's module knows in which tick a node is.
use Rattle.std.specs.Prelude.{◌≡◌, ℕ, ◌≤◌, ◌^◌, List, length, All, slice_index}
use Rattle.rtl_ir.specs.declared.design.Module.{Module}
use Rattle.stream_graph.specs.declared.node.Node.{Node}
use Rattle.kernel_control.specs.Nets.{HasWidth}
use Rattle.kernel_wiring.specs.declared.timing.Timing.{Timing}

-- The position and the number of ticks have 48 bits, and each node has a time, at most 2^46.
pub record IsTiming (m : Module) (nodes : List Node) (timing : Timing) : Type 0 where
  pub position : HasWidth m 48 timing.position
  pub ticks : HasWidth m 48 timing.ticks
  pub counted : length timing.times ≡ length nodes
  pub small : All (λ time. time ≤ 2 ^ 46) timing.times

-- the time of a node
abbrev pub time_at : Timing → ℕ → ℕ
time_at timing n = slice_index timing.times n
