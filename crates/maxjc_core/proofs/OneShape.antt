-- What is asked of the ports of a run hangs on their names and widths alone.
use Rattle.std.proofs.Common.{◌≡◌, ℕ, List, [], ◌∷◌, ◌++◌, map, true, refl, sym, ap, subst, ◌∙◌}
use Rattle.std.specs.Prelude.{codes}
use Rattle.mx_base.specs.Files.{Name}
use Rattle.rtl_ir.specs.declared.interface.Interface.{Interface}
use Rattle.rtl_ir.specs.declared.interface.KernelPorts.{KernelPorts}
use Rattle.rtl_ir.specs.declared.interface.StreamPorts.{StreamPorts}
use Rattle.rtl_ir.specs.Interfaces.{shape_of, scalar_shape, stream_shape}
use Rattle.rtl_ir.specs.Ports.{Shape}
use Rattle.word_files.specs.declared.run_file.RunFile.{RunFile}
use Rattle.word_files.specs.RunFiles.{SameNames, names, in_range, scalar_entries, TicksFit, ScalarsFit, InputsFit, OutputsFit}
use Rattle.simulation.specs.declared.plan.Plan.{Plan}
use Rattle.simulation.specs.Plans.{look_up, IsPlanOf}

pub fused : {A B C : Type 0} (f : A → B) (g : B → C) (xs : List A) → map (λ x. g (f x)) xs ≡ map g (map f xs)
fused f g [] = refl
fused f g (x ∷ xs) = ap (λ l. g (f x) ∷ l) (fused f g xs)

-- lists that are mapped to the same are mapped to the same further on
mapped : {A B C : Type 0} (f : A → B) (g : B → C) (xs ys : List A) → map f xs ≡ map f ys → map (λ x. g (f x)) xs ≡ map (λ y. g (f y)) ys
mapped f g xs ys e = fused f g xs ∙ ap (map g) e ∙ sym (fused f g ys)

abbrev entry_of : Name × Name × ℕ → Name × ℕ
entry_of s = (s.0 ++ codes "." ++ s.1, s.2)

module _ (p q : Interface) (same : shape_of p ≡ shape_of q) where
  entries : scalar_entries p ≡ scalar_entries q
  entries = mapped scalar_shape entry_of p.scalars q.scalars (ap (λ (s : Shape). s.scalars) same)

  inputs : map stream_shape p.inputs ≡ map stream_shape q.inputs
  inputs = ap (λ (s : Shape). s.inputs) same

  outputs : map stream_shape p.outputs ≡ map stream_shape q.outputs
  outputs = ap (λ (s : Shape). s.outputs) same

  kernels : map (λ (k : KernelPorts). k.name) p.kernels ≡ map (λ (k : KernelPorts). k.name) q.kernels
  kernels = ap (λ (s : Shape). s.kernels) same

  input_names : map (λ (x : StreamPorts). x.name) p.inputs ≡ map (λ (x : StreamPorts). x.name) q.inputs
  input_names = mapped stream_shape (λ x. x.0) p.inputs q.inputs inputs

  output_names : map (λ (y : StreamPorts). y.name) p.outputs ≡ map (λ (y : StreamPorts). y.name) q.outputs
  output_names = mapped stream_shape (λ y. y.0) p.outputs q.outputs outputs

pub ticks_along : (r : RunFile) (p q : Interface) → shape_of p ≡ shape_of q → TicksFit r p → TicksFit r q
ticks_along r p q same h = subst (SameNames (names r.ticks)) (kernels p q same) h

pub scalars_along : (r : RunFile) (p q : Interface) → shape_of p ≡ shape_of q → ScalarsFit r p → ScalarsFit r q
scalars_along r p q same h = subst (λ (l : List (Name × ℕ)). SameNames (names r.scalars) (names l) × (in_range r.scalars l ≡ true)) (entries p q same) h

pub inputs_along : (r : RunFile) (p q : Interface) → shape_of p ≡ shape_of q → InputsFit r p → InputsFit r q
inputs_along r p q same h = subst (SameNames (names r.inputs)) (input_names p q same) h

pub outputs_along : (r : RunFile) (p q : Interface) → shape_of p ≡ shape_of q → OutputsFit r p → OutputsFit r q
outputs_along r p q same h = subst (SameNames (names r.outputs)) (output_names p q same) h

pub plan_along : (r : RunFile) (p q : Interface) → shape_of p ≡ shape_of q → (plan : Plan) → IsPlanOf r p plan → IsPlanOf r q plan
plan_along r p q same plan h = record {
  ticks = h.ticks ∙ mapped (λ (k : KernelPorts). k.name) (look_up r.ticks) p.kernels q.kernels (kernels p q same);
  scalars = h.scalars ∙ ap (map (λ (a : Name × ℕ). look_up r.scalars a.0)) (entries p q same);
  input_files = h.input_files ∙ mapped (λ (x : StreamPorts). x.name) (look_up r.inputs) p.inputs q.inputs (input_names p q same);
  input_widths = h.input_widths ∙ mapped stream_shape (λ x. x.1) p.inputs q.inputs (inputs p q same);
  output_files = h.output_files ∙ mapped (λ (y : StreamPorts). y.name) (look_up r.outputs) p.outputs q.outputs (output_names p q same);
  output_widths = h.output_widths ∙ mapped stream_shape (λ y. y.1) p.outputs q.outputs (outputs p q same);
  edges = h.edges;
  pick = h.pick;
  fill = h.fill;
}
