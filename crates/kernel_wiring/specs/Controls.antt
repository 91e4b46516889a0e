-- The controls of a kernel's ports.
use Rattle.std.specs.Prelude.{◌≡◌, ℕ, ◌<◌, List, length, slice_index_or, All, Option, None}
use Rattle.rtl_build.specs.declared.signal.Signal.{Signal}
use Rattle.stream_graph.specs.declared.node.Node.{Node}
use Rattle.kernel_layout.specs.declared.layout.Layout.{Layout}
use Rattle.kernel_wiring.specs.Words.{control_at, reads_at, IsReadIn}

-- all signals that nodes read are there
abbrev pub AreThere : Layout → List (List Signal) → List Signal → List Node → Type 0
AreThere layout late words nodes =
    (n : ℕ) → n < length nodes → All (IsReadIn layout late words) (reads_at layout n)

-- these are the signals of the controls of the ports among the nodes, in node order
pub record AreControls (nodes : List Node) (layout : Layout) (late : List (List Signal))
    (words : List Signal) (controls : List (Option Signal)) : Type 0
  where
    pub counted : length controls ≡ length nodes
    pub each :
        (n : ℕ)
        → n < length nodes
        → slice_index_or controls n None ≡ control_at nodes layout late words n
