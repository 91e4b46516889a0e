-- The wires of all nodes.
use Rattle.std.specs.Prelude.{◌≡◌, ℕ, ◌+◌, ◌*◌, ◌<◌, ◌≤◌, true, false, List, length}
use Rattle.rtl_ir.specs.declared.design.Module.{Module}
use Rattle.rtl_build.specs.declared.signal.Signal.{Signal}
use Rattle.stream_graph.specs.declared.node.Node.{Node}
use Rattle.stream_graph.specs.LookUps.{kind_at}
use Rattle.rtl_delays.specs.Extends.{Extends, AddsNoRegister}
use Rattle.rtl_delays.specs.Driven.{KeepsUndriven}
use Rattle.rtl_delays.specs.Stored.{stored_bits}
use Rattle.kernel_layout.specs.declared.layout.Layout.{Layout}
use Rattle.kernel_control.specs.Nets.{MayEnable}
use Rattle.kernel_wiring.specs.declared.timing.Timing.{Timing}
use Rattle.kernel_wiring.specs.Costs.{word_nets}
use Rattle.kernel_wiring.specs.Words.{
  has_word,
  is_wired,
  signal_at,
  taps_at,
  control_at,
  IsWordOf,
}
use Rattle.kernel_wiring.specs.OneNode.{IsWired}

-- What wires alone change of a module, at most so many of them.
pub record AddsOnlyWires (old new : Module) (most : ℕ) : Type 0 where
  pub extends : Extends old new
  pub updates : new.updates ≡ old.updates
  pub mems : new.mems ≡ old.mems
  pub nets : length new.nets ≤ length old.nets + most
  pub stored : stored_bits new ≡ stored_bits old
  pub undriven : KeepsUndriven old new
  pub registers : AddsNoRegister old new

-- The nodes of a kernel have their wires. The words that were given are as before; each word
-- stands in the module with its node's width; the net of each node that got wires has its word, by
-- the nets that it reads and, for a hold, the one that was given; and the controls of ports are
-- bits.
pub record AddsNodes (old new : Module) (nodes : List Node) (layout : Layout)
    (late : List (List Signal)) (timing : Timing) (before after : List Signal) : Type 0
  where
    pub wires : AddsOnlyWires old new (word_nets nodes)
    pub counted : length after ≡ length before
    pub given :
        (n : ℕ) → is_wired (kind_at nodes n) ≡ false → signal_at after n ≡ signal_at before n
    pub words :
        (n : ℕ)
        → n < length nodes
        → has_word (kind_at nodes n) ≡ true
        → IsWordOf new nodes n (signal_at after n)
    pub built :
        (n : ℕ)
        → n < length nodes
        → IsWired new nodes timing (taps_at layout late after n) (signal_at before n).net
        (signal_at after n).net n (kind_at nodes n)
    pub controls :
        (n : ℕ) → n < length nodes → MayEnable new (control_at nodes layout late after n)
