-- A design between the files of its streams, before its reset edge and after so many edges.
use Rattle.std.specs.Prelude.{◌≡◌, ◌≢◌, ℕ, ◌+◌, ◌^◌, ◌≤◌, List, [], ◌∷◌, length, map, Some, slice_get}
use Rattle.mx_base.specs.Files.{Name, Held}
use Rattle.rtl_ir.specs.declared.design.Module.{Module}
use Rattle.rtl_ir.specs.Flat.{Families, top_of}
use Rattle.rtl_ir.specs.Parts.{own_of}
use Rattle.rtl_ir.specs.Run.{Channel}
use Rattle.rtl_ir.specs.Value.{width_of}
use Rattle.stall_source.specs.Stalls.{Answers}
use Rattle.verilog_sim.specs.State.{State, contents}
use Rattle.simulation.specs.Inputs.{words_of}
use Rattle.simulation.specs.Runs.{Setup, IsRun, contents_after}
use Rattle.simulation.specs.Ends.{left_after}
use Rattle.simulation.specs.Inward.{input_of, AreAt, AreUnrefused}
use Rattle.simulation.specs.Outward.{output_of, ArePut, DifferInName, all_moved}
use Rattle.simulation.specs.declared.bench.Bench.{Bench}
use Rattle.simulation.specs.declared.input.Input.{Input}
use Rattle.simulation.specs.declared.output.Output.{Output}

-- the words of streams have the widths of their ports
abbrev pub HaveWidthsOf : State → List (Name × ℕ) → List Channel → Type 0
HaveWidthsOf sim named chs =
    (m : Module)
    → top_of sim.design ≡ Some m
    → (k : ℕ) (n : Name × ℕ) (c : Channel)
    → slice_get named k ≡ Some n
    → slice_get chs k ≡ Some c
    → n.1 ≡ width_of m c.word

-- no file is one of these and one of those
abbrev pub AreOther : List (Name × ℕ) → List (Name × ℕ) → Type 0
AreOther inputs outputs = (j k : ℕ) (a b : Name × ℕ) → slice_get inputs j ≡ Some a → slice_get outputs k ≡ Some b → a.0 ≢ b.0

-- its lists have an item for each port, and words the widths of the ports
pub record IsBench (b : Bench) : Type 0 where
  pub top : Module
  pub is_top : top_of b.sim.design ≡ Some top
  pub inputs : length b.inputs.items ≡ length b.sim.outer.inputs
  pub outputs : length b.outputs.items ≡ length b.sim.outer.outputs
  pub stalled : length b.stalled.items ≡ length b.sim.outer.inputs + length b.sim.outer.outputs + length b.sim.outer.holds
  pub ports : length b.stalled.items ≤ 2 ^ 32
  pub offers : length b.offers.items ≡ length b.sim.outer.inputs
  pub accepts : length b.accepts.items ≡ length b.sim.outer.outputs
  pub events : length b.events.items ≡ length b.sim.outer.inputs + length b.sim.outer.outputs
  pub input_widths : HaveWidthsOf b.sim (map input_of b.inputs.items) b.sim.outer.inputs
  pub output_widths : HaveWidthsOf b.sim (map output_of b.outputs.items) b.sim.outer.outputs
  pub unrefused : AreUnrefused b.inputs.items
  pub apart : DifferInName (map output_of b.outputs.items)
  pub others : AreOther (map input_of b.inputs.items) (map output_of b.outputs.items)

-- a setup with the top module of its design, this pattern number and so many edges
pub record IsSetup (s : Setup) (pick edges : ℕ) : Type 0 where
  pub top : top_of s.design ≡ Some s.top
  pub picked : s.pick ≡ pick
  pub counted : s.edges ≡ edges

-- the simulator is of this setup
pub record IsOf (s : Setup) (sim : State) : Type 0 where
  pub design : sim.design ≡ s.design
  pub outer : sim.outer ≡ s.outer
  pub steady : sim.steady ≡ s.steady

-- nothing is made yet
pub record Begins (s : Setup) (files : Held) (sim : State) (inputs : List Input) (outputs : List Output) : Type 0 where
  pub is : IsOf s sim
  pub held : contents sim ≡ s.contents
  pub at : AreAt files s.inputs (map words_of s.inputs) inputs
  pub put : ArePut files (λ k. []) outputs

-- the reset edge and so many edges are made
pub record Going (stalls : Answers) (s : Setup) (files : Held) (sim : State) (inputs : List Input) (outputs : List Output) (edges : ℕ) : Type 0 where
  pub restart : Families
  pub vs : List Families
  pub run : IsRun stalls s restart vs
  pub count : length vs ≡ edges
  pub is : IsOf s sim
  pub held : contents sim ≡ contents_after s s.contents (restart ∷ vs)
  pub at : AreAt files s.inputs (left_after s.outer.inputs (map words_of s.inputs) (own_of vs)) inputs
  pub put : ArePut files (all_moved s.outer.outputs (own_of (restart ∷ vs))) outputs
