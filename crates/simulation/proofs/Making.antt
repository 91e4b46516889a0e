-- A bench that is made for a plan.
use Rattle.std.proofs.Common.{◌≡◌, ◌⊎◌, ℕ, ◌+◌, ◌-◌, ◌*◌, ◌^◌, ◌≤◌, List, [], ◌++◌, length, map, take, min, Some, None, option_map, unwrap_or, inl, inr, refl, sym, ap, ◌∙◌, subst, arith}
use Rattle.std.specs.Prelude.{slice_get}
use Rattle.std.proofs.lemmas.List.{length-map}
use Rattle.mx_base.specs.Files.{Name, Held, file_of}
use Rattle.rtl_ir.specs.declared.design.Design.{Design}
use Rattle.rtl_ir.specs.declared.design.Module.{Module}
use Rattle.rtl_ir.specs.Flat.{top_of}
use Rattle.rtl_ir.specs.Formed.{IsFormedModule}
use Rattle.rtl_ir.specs.Ports.{Shape, HasShape, outer_of, first_input, first_output}
use Rattle.rtl_ir.specs.Rules.{IsAccepted}
use Rattle.rtl_ir.specs.Run.{Outer}
use Rattle.rtl_ir.specs.Value.{width_of}
use Rattle.std.specs.Prelude.{slice_index, sum_by}
use Rattle.rtl_ir.specs.declared.design.Instance.{Instance}
use Rattle.verilog_sim.proofs.CellTotals.{total_top}
use Rattle.verilog_sim.specs.Start.{cells_of, cells_after, all_cells, filled, IsRefusal}
use Rattle.verilog_sim.specs.State.{State, contents}
use Rattle.verilog_sim.specs.declared.error.SimError.{SimError}
use Rattle.verilog_sim.specs.declared.error.SimError.TheVariants as refusals
use Rattle.verilog_sim.proofs.Outer.{length_steady}
use Rattle.verilog_sim.proofs.Shapes.{length_channels, length_seconds}
use Rattle.word_files.specs.Lines.{lines_of}
use Rattle.simulation.specs.Inputs.{InputFile, words_of, input_files}
use Rattle.simulation.specs.Outputs.{ChangesOnlyOutputs}
use Rattle.simulation.specs.Plans.{FitsShape, AreApart, setup_of}
use Rattle.simulation.specs.Errors.{refused_by}
use Rattle.simulation.specs.Inward.{input_of, IsAt, AreAt, AreBegun}
use Rattle.simulation.specs.Outward.{output_of, ArePut, DifferInName}
use Rattle.simulation.specs.Benches.{IsBench, Begins, HaveWidthsOf, AreOther}
use Rattle.simulation.specs.declared.bench.Bench.{Bench}
use Rattle.simulation.specs.declared.input.Input.{Input}
use Rattle.simulation.specs.declared.output.Output.{Output}
use Rattle.simulation.specs.declared.plan.Plan.{Plan}
use Rattle.simulation.specs.declared.stop.Stop.TheVariants as stops
use Rattle.simulation.proofs.Lists.{map_at, map_from, same_map_at, same_some}
use Rattle.simulation.proofs.Reading.{begins}
use Rattle.simulation.proofs.Shaping.{input_width, output_width, plan_length, few_ports}

-- the answer of a refusal
pub refusal_of : (cells : ℕ) (e : SimError) → IsRefusal cells e → (refused_by e ≡ stops.TooManyCells (min cells (2 ^ 64 - 1))) ⊎ (refused_by e ≡ stops.NoMemory)
refusal_of cells (refusals.TooManyCells n) r = inl (ap stops.TooManyCells r.1)
refusal_of cells refusals.NoMemory r = inr refl

-- the cells of the top module are among those of the design
pub own_cells : (d : Design) (m : Module) → IsAccepted d → top_of d ≡ Some m → all_cells d ≤ 2 ^ 26 → cells_of m ≤ 2 ^ 26
own_cells d m accepted top small =
    let all : cells_of m + sum_by (λ (i : Instance). slice_index (cells_after [] d.modules) i.«module») m.instances ≡ all_cells d = total_top d accepted.formed m top in
    omega (arith, all)

-- a design that is accepted is formed
pub formed_top : (d : Design) (m : Module) → IsAccepted d → top_of d ≡ Some m → IsFormedModule (take (length d.modules - 1) d.modules) m
formed_top d m accepted top = accepted.formed.each (length d.modules - 1) m top

module _ (d : Design) (m : Module) (s : Shape) (p : Plan) (has : HasShape m s) (fits : FitsShape p s) where
  pub inputs_length : length p.inputs ≡ length (outer_of s m).inputs
  inputs_length = plan_length (λ (i : Name × ℕ). i.1) (λ (x : Name × ℕ). x.1) p.inputs s.inputs fits.inputs ∙ sym (length_channels m (first_input s) s.inputs)

  pub outputs_length : length p.outputs ≡ length (outer_of s m).outputs
  outputs_length = plan_length (λ (i : Name × ℕ). i.1) (λ (x : Name × ℕ). x.1) p.outputs s.outputs fits.outputs ∙ sym (length_channels m (first_output s) s.outputs)

  pub holds_length : length p.ticks ≡ length (outer_of s m).holds
  holds_length = fits.kernels ∙ sym (length_seconds m 2 s.kernels)

  pub steady_length : length p.ticks + length p.scalars ≡ length (outer_of s m).steady
  steady_length = let a = fits.kernels in let b = fits.scalars in omega (arith, length_steady m s)

  pub inputs_wide : (sim : State) → sim.design ≡ d → sim.outer ≡ outer_of s m → top_of d ≡ Some m → HaveWidthsOf sim p.inputs sim.outer.inputs
  inputs_wide sim design outer top = λ m' top' k n c en ec. (
      let same : m ≡ m' = same_some (top_of d) m m' top (ap top_of (sym design) ∙ top') in
      let x = same_map_at (λ (i : Name × ℕ). i.1) (λ (x : Name × ℕ). x.1) p.inputs s.inputs k n fits.inputs en in
      subst (λ (y : Module). n.1 ≡ width_of y c.word) same (sym x.2 ∙ input_width m s k x.0 c has x.1 (ap (λ (o : Outer). slice_get o.inputs k) (sym outer) ∙ ec)))

  pub outputs_wide : (sim : State) → sim.design ≡ d → sim.outer ≡ outer_of s m → top_of d ≡ Some m → HaveWidthsOf sim p.outputs sim.outer.outputs
  outputs_wide sim design outer top = λ m' top' k n c en ec. (
      let same : m ≡ m' = same_some (top_of d) m m' top (ap top_of (sym design) ∙ top') in
      let x = same_map_at (λ (i : Name × ℕ). i.1) (λ (x : Name × ℕ). x.1) p.outputs s.outputs k n fits.outputs en in
      subst (λ (y : Module). n.1 ≡ width_of y c.word) same (sym x.2 ∙ output_width m s k x.0 c has x.1 (ap (λ (o : Outer). slice_get o.outputs k) (sym outer) ∙ ec)))

  pub few : IsAccepted d → top_of d ≡ Some m → all_cells d ≤ 2 ^ 26
      → 2 * length (outer_of s m).holds + 3 * length (outer_of s m).inputs + 3 * length
      (outer_of s m).outputs + length (outer_of s m).steady ≤ 2 ^ 27
  few accepted top cells = omega (
    arith,
    few_ports (take (length d.modules - 1) d.modules) m s (formed_top d m accepted top) has
        (own_cells d m accepted top cells),
    length_channels m (first_input s) s.inputs,
    length_channels m (first_output s) s.outputs,
    length_seconds m 2 s.kernels,
    length_steady m s,
  )

-- its lists have an item for each port
pub bench_made :
    (d : Design) (m : Module) (s : Shape) (p : Plan) (b : Bench)
    → IsAccepted d → top_of d ≡ Some m → HasShape m s → FitsShape p s → AreApart p → all_cells d ≤ 2 ^ 26
    → b.sim.design ≡ d → b.sim.outer ≡ outer_of s m
    → map input_of b.inputs.items ≡ p.inputs → AreBegun b.inputs.items → map output_of b.outputs.items ≡ p.outputs
    → length b.stalled.items ≡ length p.inputs + length p.outputs + length p.ticks
    → length b.offers.items ≡ length p.inputs
    → length b.accepts.items ≡ length p.outputs
    → length b.events.items ≡ length p.inputs + length p.outputs
    → IsBench b
bench_made d m s p b accepted top has fits apart cells design outer inputs begun outputs stalled offers accepts events =
    let ins : length p.inputs ≡ length b.sim.outer.inputs = inputs_length d m s p has fits ∙ ap (λ (o : Outer). length o.inputs) (sym outer) in
    let outs : length p.outputs ≡ length b.sim.outer.outputs = outputs_length d m s p has fits ∙ ap (λ (o : Outer). length o.outputs) (sym outer) in
    let holds : length p.ticks ≡ length b.sim.outer.holds = holds_length d m s p has fits ∙ ap (λ (o : Outer). length o.holds) (sym outer) in
    record {
      top = m;
      is_top = ap top_of design ∙ top;
      inputs = sym (length-map b.inputs.items input_of) ∙ ap length inputs ∙ ins;
      outputs = sym (length-map b.outputs.items output_of) ∙ ap length outputs ∙ outs;
      stalled = omega (arith, stalled, ins, outs, holds);
      ports = omega (arith, stalled, inputs_length d m s p has fits, outputs_length d m s p has fits, holds_length d m s p has fits, few d m s p has fits accepted top cells);
      offers = offers ∙ ins;
      accepts = accepts ∙ outs;
      events = omega (arith, events, ins, outs);
      input_widths = subst (λ (l : List (Name × ℕ)). HaveWidthsOf b.sim l b.sim.outer.inputs) (sym inputs) (inputs_wide d m s p has fits b.sim design outer top);
      output_widths = subst (λ (l : List (Name × ℕ)). HaveWidthsOf b.sim l b.sim.outer.outputs) (sym outputs) (outputs_wide d m s p has fits b.sim design outer top);
      unrefused = λ k i at. (begun k i at).unread.unrefused;
      apart = subst DifferInName (sym outputs) apart.outputs;
      others = subst (λ (l : List (Name × ℕ)). AreOther l (map output_of b.outputs.items)) (sym inputs) (subst (AreOther p.inputs) (sym outputs) apart.inputs);
    }

-- the inputs stand at the begin of their files
pub inputs_begin : (first held : Held) (named : List (Name × ℕ)) (is : List Input)
    → map input_of is ≡ named → AreBegun is → ((k : ℕ) (i : Name × ℕ)
    → slice_get named k ≡ Some i → file_of held i.0 ≡ file_of first i.0)
    → AreAt held (input_files first named) (map words_of (input_files first named)) is
inputs_begin first held named is e begun same =
    let file = λ (i : Name × ℕ). (let f : InputFile = record { name = i.0; width = i.1; lines = option_map lines_of (unwrap_or (file_of first i.0) None) } in f) in
    let size : length named ≡ length is = sym (ap length e) ∙ length-map is input_of in
    record {
      files = length-map named file ∙ size;
      lists = length-map (input_files first named) words_of ∙ length-map named file ∙ size;
      each = λ k f left i ef el ei. (
          let n = map_from file named k f ef in
          let words : left ≡ words_of f = same_some (slice_get (map words_of (input_files first named)) k) left (words_of f) el (map_at words_of (input_files first named) k f ef) in
          let here : n.0 ≡ input_of i = same_some (slice_get named k) n.0 (input_of i) n.1 (ap (λ (l : List (Name × ℕ)). slice_get l k) (sym e) ∙ map_at input_of is k i ei) in
          let name : i.reader.name ≡ f.name = ap (λ (x : Name × ℕ). x.0) (sym here) ∙ ap (λ (x : InputFile). x.name) n.2 in
          let width : i.reader.width ≡ f.width = ap (λ (x : Name × ℕ). x.1) (sym here) ∙ ap (λ (x : InputFile). x.width) n.2 in
          let lines : f.lines ≡ option_map lines_of (unwrap_or (file_of held f.name) None) =
          ap (λ (x : InputFile). x.lines) (sym n.2) ∙ ap
          (λ o. option_map lines_of (unwrap_or o None)) (sym (same k n.0 n.1)) ∙ ap
          (λ (x : Name). option_map lines_of (unwrap_or (file_of held x) None))
          (ap (λ (x : InputFile). x.name) n.2) in
          subst (λ l. IsAt held f l i) (sym words) (begins held f i name width lines (begun k i ei)));
    }

pub begins_made :
    (d : Design) (m : Module) (s : Shape) (p : Plan) (first held : Held) (sim : State) (is : List Input) (os : List Output)
    → AreApart p → sim.design ≡ d → sim.outer ≡ outer_of s m → sim.steady ≡ p.ticks ++ p.scalars → contents sim ≡ filled d m p.fill
    → map input_of is ≡ p.inputs → AreBegun is → ChangesOnlyOutputs p.outputs first held → ArePut held (λ k. []) os
    → Begins (setup_of d m s p first) held sim is os
begins_made d m s p first held sim is os apart design outer steady held_at inputs begun only put =
    record {
      is = record { design = design; outer = outer; steady = steady };
      held = held_at;
      at = inputs_begin first held p.inputs is inputs begun (λ k i at. only.others i.0 (λ j o eo. apart.inputs k j i o at eo));
      put = put;
    }
