-- What reading a text and a run file says of their bytes.
use Rattle.std.proofs.Common.{◌≡◌, ℕ, List, Some, Ok, subst, refl}
use Rattle.rtl_ir.specs.declared.design.Design.{Design}
use Rattle.rtl_ir.specs.declared.design.Module.{Module}
use Rattle.rtl_ir.specs.Flat.{top_of}
use Rattle.verilog_read.specs.Refused.{IsReadAs}
use Rattle.word_files.specs.declared.run_file.RunFile.{RunFile}
use Rattle.word_files.specs.RunFiles.{Reads}
use Rattle.top_ports.specs.Shapes.{IsTop}
use Rattle.rtl_ir.specs.declared.interface.Interface.{Interface}
use Rattle.rtl_ir.specs.Interfaces.{shape_of}
use Rattle.simulation.specs.declared.plan.Plan.{Plan}
use Rattle.maxjc_core.specs.CauseLines.{Cause}
use Rattle.maxjc_core.specs.LoadStops.{FitAs, IsOnlyDesign}
use Rattle.maxjc_core.specs.RunFiles.{IsRunFault, IsPlanned, IsUnfit, IsUnfitFor, HasNoPlan}
use Rattle.maxjc_core.specs.SimulateCauses.{BreaksForm}
use Rattle.maxjc_core.specs.ErrorCauses.{cause_told}
use Rattle.maxjc_core.specs.CompileStops.{IfRefused}
use Rattle.maxjc_core.specs.declared.stop.Stop.{Stop}
use Rattle.maxjc_core.specs.declared.stop.Stop.TheVariants as stops
use Rattle.maxjc_core.proofs.Refusing.{IsTextFault, if_cause_so}

-- a refusal has a further property that its cause has
pub refused_so : (stop : Stop) (P Q : Cause → Type 0) → ((cause : Cause) → P cause → Q cause) → IfRefused stop P → IfRefused stop Q
refused_so (stops.Refused r) P Q f p = if_cause_so (cause_told r) P Q f p
refused_so stops.ReadFault P Q f p = tt
refused_so stops.NoMemory P Q f p = tt

pub text_breaks : (text run : List ℕ) (cause : Cause) → IsTextFault text cause → BreaksForm text run cause
text_breaks text run cause r = BreaksForm.of_text r.0 cause r.1 r.2

run_breaks : (text run : List ℕ) (d : Design) → IsReadAs text d → (cause : Cause) → IsRunFault run cause → BreaksForm text run cause
run_breaks text run d is cause (IsRunFault.not_json h) = BreaksForm.no_json d is h
run_breaks text run d is cause (IsRunFault.shape key h) = BreaksForm.of_run d key is h

-- the module that was taken is the top module
pub top_is : (text : List ℕ) (d : Design) (is : IsReadAs text d) (m : Module) → top_of d ≡ Some m → IsTop m is.shape
top_is text d is m top =
    let e = is.is_top in
    let same : is.top ≡ m = cc in
    subst (λ (x : Module). IsTop x is.shape) same is.is_run

plan_unfit : (text run : List ℕ) (d : Design) (is : IsReadAs text d) (r : RunFile)
    → Reads run (Ok r) → (ports : Interface) → shape_of ports ≡ is.shape → (cause : Cause)
    → IsUnfitFor r ports cause → BreaksForm text run cause
plan_unfit text run d is r says ports are cause (IsUnfitFor.at_key key fits) = BreaksForm.unfit d is r ports key says are fits

-- a run file that has no plan for the ports of the design
pub plan_breaks : (text run : List ℕ) (d : Design) (is : IsReadAs text d) (cause : Cause)
    → HasNoPlan run is.shape cause → BreaksForm text run cause
plan_breaks text run d is cause (HasNoPlan.of_form c fault) = run_breaks text run d is cause fault
plan_breaks text run d is cause (HasNoPlan.unfit r c says u) =
    plan_unfit text run d is r says u.ports u.are cause u.unfit

pub fit_as : (text run : List ℕ) (d : Design) (is : IsReadAs text d) (r : RunFile) → Reads run (Ok r) → (p : Plan) → IsPlanned r is.shape p → IsOnlyDesign text d → FitAs text run d p
fit_as text run d is r says p planned only = record {
  fit = record {
    design = d;
    is = is;
    run_file = r;
    says = says;
    ports = planned.ports;
    are = planned.are;
    ticks = planned.ticks;
    scalars = planned.scalars;
    inputs = planned.inputs;
    outputs = planned.outputs;
    plan = p;
    planned = planned.planned;
  };
  design_is = refl;
  plan_is = refl;
  only = only;
}
