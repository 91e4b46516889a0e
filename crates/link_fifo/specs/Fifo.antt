-- What the module of a FIFO is to a design that has it.
use Rattle.std.specs.Prelude.{◌≡◌, ℕ, ◌≤◌, true, List, [], ◌∷◌, length, Some, slice_get, codes, All}
use Rattle.rtl_ir.specs.declared.design.Design.{Design}
use Rattle.rtl_ir.specs.declared.design.Mem.{Mem}
use Rattle.rtl_ir.specs.declared.design.Net.{Net}
use Rattle.rtl_ir.specs.declared.design.Port.{Port}
use Rattle.rtl_ir.specs.declared.design.Module.{Module}
use Rattle.rtl_ir.specs.Typed.{is_input}
use Rattle.rtl_ir.specs.Rules.{IsSound, Way}
use Rattle.rtl_ir.specs.Formed.{IsFormedModule}
use Rattle.rtl_ir.specs.Ports.{PortView, input_port, output_port, ports_of}
use Rattle.rtl_build.specs.Wires.{is_output}
use Rattle.link_fifo.specs.Netlist.{input, output}
use Rattle.link_fifo.specs.Queue.{IsFifo}
use Rattle.link_fifo.specs.Storage.{StoresQueue}
use Rattle.link_fifo.specs.TextNames.{is_text_name}

-- the ports of a FIFO with words of this width, in order
abbrev pub fifo_ports : ℕ → List PortView
fifo_ports width =
    input_port (codes "clk") 1
    ∷ input_port (codes "reset") 1
    ∷ input_port (codes "in$data") width
    ∷ input_port (codes "in$valid") 1
    ∷ output_port (codes "in$ready") 1
    ∷ output_port (codes "out$data") width
    ∷ output_port (codes "out$valid") 1
    ∷ input_port (codes "out$ready") 1
    ∷ []

-- The module of this name is a FIFO: it has these ports, whose nets are its first ones, and is a
-- queue after a reset; no output hangs on an input of the same edge; it stores what a queue needs
-- and no more; it keeps all rules in every design; and it has few nets and at most one memory,
-- with short names such as a text has.
pub record IsFifoModule (name : List ℕ) (width depth : ℕ) (m : Module) : Type 0 where
  pub named : m.name ≡ name
  pub ports : ports_of m ≡ fifo_ports width
  pub numbered : (k : ℕ) (p : Port) → slice_get m.ports k ≡ Some p → p.net ≡ k
  pub no_instances : m.instances ≡ []
  pub runs : IsFifo m depth 1 input output
  pub apart :
      (d : Design) (a b : ℕ)
      → is_input m.ports a ≡ true
      → is_output m.ports b ≡ true
      → Way d m a b
      → ⊥
  pub stored : StoresQueue m width depth
  pub sound : (d : Design) → IsSound d m
  pub formed : (earlier : List Module) → IsFormedModule earlier m
  pub few : length m.nets ≤ 64
  pub few_mems : length m.mems ≤ 1
  pub short_nets : All (λ (n : Net). length n.name ≤ 16) m.nets
  pub short_mems : All (λ (k : Mem). length k.name ≤ 16) m.mems
  pub text_nets : All (λ (n : Net). is_text_name n.name ≡ true) m.nets
  pub text_mems : All (λ (k : Mem). is_text_name k.name ≡ true) m.mems
