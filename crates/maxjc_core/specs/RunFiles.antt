-- What a run file says beside ports of these names and widths, and why it is refused.
use Rattle.std.specs.Prelude.{ℕ, ◌≡◌, List, Ok, Err}
use Rattle.rtl_ir.specs.Interfaces.{shape_of}
use Rattle.rtl_ir.specs.Ports.{Shape}
use Rattle.rtl_ir.specs.declared.interface.Interface.{Interface}
use Rattle.simulation.specs.Plans.{IsPlanOf}
use Rattle.simulation.specs.declared.plan.Plan.{Plan}
use Rattle.word_files.specs.RunFiles.{Reads, Fits, TicksFit, ScalarsFit, InputsFit, OutputsFit}
use Rattle.word_files.specs.declared.error.RunFileError.TheVariants as run_errors
use Rattle.word_files.specs.declared.run_file.RunFile.{RunFile}
use Rattle.maxjc_core.specs.CauseLines.{Cause, NotJson, RunShape}

-- ---- what is handed to a run

-- a plan of a run file, for the ports of a shape
pub record IsPlanned (run : RunFile) (s : Shape) (plan : Plan) : Type 0 where
  pub ports : Interface
  pub are : shape_of ports ≡ s
  pub ticks : TicksFit run ports
  pub scalars : ScalarsFit run ports
  pub inputs : InputsFit run ports
  pub outputs : OutputsFit run ports
  pub planned : IsPlanOf run ports plan

-- the bytes are a run file that fits the ports of the shape, and this is its plan
pub record IsPlanOfBytes (bytes : List ℕ) (s : Shape) (plan : Plan) : Type 0 where
  pub run : RunFile
  pub says : Reads bytes (Ok run)
  pub planned : IsPlanned run s plan

-- ---- why there is none

-- the cause of a run file's bytes
pub data IsRunFault (bytes : List ℕ) : Cause → Type 0 where
  not_json : Reads bytes (Err run_errors.NotJson) → IsRunFault bytes NotJson
  shape : (key : List ℕ) → Reads bytes (Err (run_errors.Shape key)) → IsRunFault bytes (RunShape key)

-- the cause of a run file that doesn't fit these ports
pub data IsUnfitFor (run : RunFile) (ports : Interface) : Cause → Type 0 where
  at_key :
      (key : List ℕ)
      → Fits run ports (Err (run_errors.Shape key))
      → IsUnfitFor run ports (RunShape key)

-- or the ports of a shape
pub record IsUnfit (run : RunFile) (s : Shape) (cause : Cause) : Type 0 where
  pub ports : Interface
  pub are : shape_of ports ≡ s
  pub unfit : IsUnfitFor run ports cause

-- the cause for which bytes have no plan for the ports of a shape, in the order in which it is
-- looked for
pub data HasNoPlan (bytes : List ℕ) (s : Shape) : Cause → Type 0 where
  of_form : (cause : Cause) → IsRunFault bytes cause → HasNoPlan bytes s cause
  unfit :
      (run : RunFile) (cause : Cause)
      → Reads bytes (Ok run)
      → IsUnfit run s cause
      → HasNoPlan bytes s cause
