-- A run of an accepted design ends in one way alone.
use Rattle.std.proofs.Common.{◌≡◌, ℕ, ◌+◌, ◌-◌, ◌<◌, ◌≤◌, ◌^◌, List, [], length, Some, None, sym, ap, ◌∙◌, arith}
use Rattle.std.specs.Prelude.{option_map, unwrap_or}
use Rattle.std.proofs.lemmas.List.{length-map}
use Rattle.mx_base.specs.Files.{Name, Held, file_of}
use Rattle.rtl_ir.specs.declared.design.Design.{Design}
use Rattle.rtl_ir.specs.declared.design.Module.{Module}
use Rattle.rtl_ir.specs.Flat.{Families, top_of}
use Rattle.rtl_ir.specs.Ports.{Shape, HasShape, first_input, first_output}
use Rattle.rtl_ir.specs.Rules.{IsAccepted}
use Rattle.rtl_ir.proofs.Only.{at_most_one}
use Rattle.stall_source.specs.Stalls.{Answers, IsDecided}
use Rattle.word_files.specs.Lines.{lines_of}
use Rattle.verilog_sim.proofs.Shapes.{length_channels, length_seconds}
use Rattle.simulation.specs.Ends.{End, Ends}
use Rattle.simulation.specs.Inputs.{input_files}
use Rattle.simulation.specs.Plans.{FitsShape, setup_of}
use Rattle.simulation.specs.declared.plan.Plan.{Plan}
use Rattle.simulation.proofs.OnceInputs.{same_inputs}
use Rattle.simulation.proofs.OnceEnds.{IsBounded, IsFixed, runs_end_alike}

bounded : (d : Design) (m : Module) (s : Shape) (p : Plan) (held : Held) → FitsShape p s
    → p.pick < 2 ^ 64 → p.edges < 2 ^ 64
    → length s.inputs + length s.outputs + length s.kernels ≤ 2 ^ 32
    → IsBounded (setup_of d m s p held)
bounded d m s p held fit pick edges few = record {
  pick = pick;
  edges = edges;
  ports = omega (arith, few, length_channels m (first_input s) s.inputs, length_channels m (first_output s) s.outputs, length_seconds m 2 s.kernels);
  files = omega (arith, held_inputs, length_channels m (first_input s) s.inputs, streams);
}
  where
    held_inputs : length (input_files held p.inputs) ≡ length p.inputs
    held_inputs = length-map p.inputs (λ (i : Name × ℕ). record { name = i.0; width = i.1; lines = option_map lines_of (unwrap_or (file_of held i.0) None) })

    streams : length p.inputs ≡ length s.inputs
    streams = sym (length-map p.inputs (λ (i : Name × ℕ). i.1)) ∙ ap length fit.inputs ∙ length-map s.inputs (λ (x : Name × ℕ). x.1)

fixed : (d : Design) (m : Module) (s : Shape) (p : Plan) (held : Held) → IsAccepted d → top_of d ≡ Some m → HasShape m s → IsFixed (setup_of d m s p held)
fixed d m s p held accepted top has c v w f g same =
    at_most_one d accepted (length d.modules - 1) m top c v w f g (same_inputs m (v []) (w []) s has same)

pub one_end :
    (stalls : Answers) → IsDecided stalls
    → (d : Design) (m : Module) (s : Shape) (p : Plan) (held : Held)
    → IsAccepted d → top_of d ≡ Some m → HasShape m s → FitsShape p s
    → p.pick < 2 ^ 64 → p.edges < 2 ^ 64 → length s.inputs + length s.outputs + length s.kernels ≤ 2 ^ 32
    → (r q : Families) (vs ws : List Families) (a b : End)
    → Ends stalls (setup_of d m s p held) r vs a → Ends stalls (setup_of d m s p held) q ws b → a ≡ b
one_end stalls decided d m s p held accepted top has fit pick edges few r q vs ws a b =
    runs_end_alike stalls decided (setup_of d m s p held) (bounded d m s p held fit pick edges few) (fixed d m s p held accepted top has) r q vs ws a b
