-- What is handed to a run: values for the ports that keep one value, and files for the streams.
use Rattle.std.specs.Prelude.{◌≡◌, ◌≢◌, ℕ, ◌<◌, ◌^◌, List, [], ◌∷◌, ◌++◌, length, map, Option, Some, None, slice_get, bytes_eq, if◌then◌else◌}
use Rattle.mx_base.specs.Files.{Name, Held}
use Rattle.rtl_ir.specs.declared.design.Design.{Design}
use Rattle.rtl_ir.specs.declared.design.Module.{Module}
use Rattle.rtl_ir.specs.declared.interface.Interface.{Interface}
use Rattle.rtl_ir.specs.declared.interface.KernelPorts.{KernelPorts}
use Rattle.rtl_ir.specs.declared.interface.StreamPorts.{StreamPorts}
use Rattle.rtl_ir.specs.Ports.{Shape, outer_of}
use Rattle.verilog_sim.specs.Start.{filled}
use Rattle.word_files.specs.declared.run_file.RunFile.{RunFile}
use Rattle.word_files.specs.RunFiles.{scalar_entries}
use Rattle.simulation.specs.Inputs.{input_files}
use Rattle.simulation.specs.Runs.{Setup}
use Rattle.simulation.specs.declared.plan.Plan.{Plan}

-- each of these is below 2 to the power of its width
abbrev pub AreBelow : List ℕ → List ℕ → Type 0
AreBelow values widths = (k value width : ℕ) → slice_get values k ≡ Some value → slice_get widths k ≡ Some width → value < 2 ^ width

-- the plan has a value for each kernel and scalar, and a file for each stream, of the widths of the shape
pub record FitsShape (p : Plan) (s : Shape) : Type 0 where
  pub kernels : length p.ticks ≡ length s.kernels
  pub ticks : (k value : ℕ) → slice_get p.ticks k ≡ Some value → value < 2 ^ 48
  pub scalars : length p.scalars ≡ length s.scalars
  pub values : AreBelow p.scalars (map (λ (a : Name × Name × ℕ). a.2) s.scalars)
  pub inputs : map (λ (i : Name × ℕ). i.1) p.inputs ≡ map (λ (x : Name × ℕ). x.1) s.inputs
  pub outputs : map (λ (o : Name × ℕ). o.1) p.outputs ≡ map (λ (y : Name × ℕ). y.1) s.outputs

-- an output has a file of its own: no input reads it, and no other output writes it
pub record AreApart (p : Plan) : Type 0 where
  pub outputs : (j k : ℕ) (a b : Name × ℕ) → slice_get p.outputs j ≡ Some a → slice_get p.outputs k ≡ Some b → a.0 ≡ b.0 → j ≡ k
  pub inputs : (j k : ℕ) (a b : Name × ℕ) → slice_get p.inputs j ≡ Some a → slice_get p.outputs k ≡ Some b → a.0 ≢ b.0

-- the run of a design that a plan says, with files that hold this
abbrev pub setup_of : Design → Module → Shape → Plan → Held → Setup
setup_of d m s p held = record {
  design = d;
  top = m;
  outer = outer_of s m;
  steady = p.ticks ++ p.scalars;
  contents = filled d m p.fill;
  inputs = input_files held p.inputs;
  pick = p.pick;
  edges = p.edges;
}

-- what the first pair of this name has
abbrev pub look_up : {A : Type 0} → List (Name × A) → Name → Option A
look_up [] name = None
look_up (x ∷ xs) name = if bytes_eq x.0 name then Some x.1 else look_up xs name

-- the plan of a run file, for the ports of a design, in the order of the ports
pub record IsPlanOf (run : RunFile) (ports : Interface) (p : Plan) : Type 0 where
  pub ticks : map (λ t. Some t) p.ticks ≡ map (λ (k : KernelPorts). look_up run.ticks k.name) ports.kernels
  pub scalars : map (λ x. Some x) p.scalars ≡ map (λ (a : Name × ℕ). look_up run.scalars a.0) (scalar_entries ports)
  pub input_files : map (λ (i : Name × ℕ). Some i.0) p.inputs ≡ map (λ (x : StreamPorts). look_up run.inputs x.name) ports.inputs
  pub input_widths : map (λ (i : Name × ℕ). i.1) p.inputs ≡ map (λ (x : StreamPorts). x.width) ports.inputs
  pub output_files : map (λ (o : Name × ℕ). Some o.0) p.outputs ≡ map (λ (y : StreamPorts). look_up run.outputs y.name) ports.outputs
  pub output_widths : map (λ (o : Name × ℕ). o.1) p.outputs ≡ map (λ (y : StreamPorts). y.width) ports.outputs
  pub edges : p.edges ≡ run.edges
  pub pick : p.pick ≡ run.pick
  pub fill : p.fill ≡ run.fill
