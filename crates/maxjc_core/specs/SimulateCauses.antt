-- Why `simulate` refuses its files, in the order in which this is looked for.
use Rattle.std.specs.Prelude.{ℕ, ◌≡◌, ◌⊎◌, ◌<◌, ◌≤◌, ◌-◌, ◌^◌, min, List, [], ◌∷◌, Option, Some, None, Ok, Err}
use Rattle.mx_base.specs.Files.{Held, Lacks}
use Rattle.rtl_ir.specs.declared.error.RtlError.{RtlError}
use Rattle.rtl_ir.specs.declared.error.RtlError.TheVariants as rules
use Rattle.rtl_ir.specs.Flat.{Families}
use Rattle.stall_source.specs.Stalls.{Answers}
use Rattle.word_files.specs.RunFiles.{Reads, Fits}
use Rattle.word_files.specs.declared.error.RunFileError.TheVariants as run_errors
use Rattle.verilog_sim.specs.Start.{all_cells}
use Rattle.verilog_read.specs.Refused.{Refuses, IsReadAs}
use Rattle.rtl_ir.specs.Interfaces.{shape_of}
use Rattle.rtl_ir.specs.declared.design.Design.{Design}
use Rattle.word_files.specs.declared.run_file.RunFile.{RunFile}
use Rattle.rtl_ir.specs.declared.interface.Interface.{Interface}
use Rattle.verilog_read.specs.declared.error.VerilogError.{VerilogError}
use Rattle.verilog_read.specs.declared.error.VerilogError.TheVariants as errors
use Rattle.simulation.specs.Inputs as lines
use Rattle.simulation.specs.Ends.{Ends, Stopped}
use Rattle.simulation.specs.Answers.{IsMissing}
use Rattle.maxjc_core.specs.Command.{RunNames}
use Rattle.maxjc_core.specs.CauseLines.{Cause, TooLarge, NoToken, Syntax, Rule, PortShape, TooManyCells, NotJson, RunShape, BadLine, WordRange}
use Rattle.maxjc_core.specs.CompileCauses.{file_limit, IsWithin, IsPast}
use Rattle.maxjc_core.specs.Loading.{text_limit, AreRead, IsLoaded, setup}

-- the number of a rule, and the names that break it. Want of memory is no cause
abbrev pub rule_cause : RtlError → Option Cause
rule_cause (rules.Unknown name) = Some (Rule 1 (name ∷ []))
rule_cause (rules.Width name) = Some (Rule 2 (name ∷ []))
rule_cause (rules.TwoDrivers name) = Some (Rule 3 (name ∷ []))
rule_cause (rules.CombLoop names) = Some (Rule 4 names)
rule_cause (rules.NoDriver name) = Some (Rule 5 (name ∷ []))
rule_cause (rules.SameName name) = Some (Rule 6 (name ∷ []))
rule_cause rules.NoMemory = None

abbrev pub text_cause : VerilogError → Option Cause
text_cause (errors.NoToken place) = Some (NoToken place)
text_cause (errors.Syntax place) = Some (Syntax place)
text_cause (errors.Rtl e) = rule_cause e
text_cause (errors.PortShape name) = Some (PortShape name)
text_cause errors.NoMemory = None

-- the run file is read after a text within its limit
pub record AfterText (names : RunNames) (held : Held) (P : Type 0) : Type 0 where
  pub text : List ℕ
  pub text_is : IsWithin text_limit held names.text text
  pub then_run : P

-- the cause of bytes that don't fit together, in the order in which it is looked for
pub data BreaksForm (text run : List ℕ) : Cause → Type 0 where
  of_text : (e : VerilogError) (cause : Cause) → Refuses text e → text_cause e ≡ Some cause → BreaksForm text run cause
  no_json : (d : Design) → IsReadAs text d → Reads run (Err run_errors.NotJson) → BreaksForm text run NotJson
  of_run : (d : Design) (key : List ℕ) → IsReadAs text d → Reads run (Err (run_errors.Shape key)) → BreaksForm text run (RunShape key)
  unfit :
      (d : Design) (is : IsReadAs text d) (r : RunFile) (ports : Interface) (key : List ℕ)
      → Reads run (Ok r)
      → shape_of ports ≡ is.shape
      → Fits r ports (Err (run_errors.Shape key))
      → BreaksForm text run (RunShape key)

-- the cause stands before anything is run, and none before it
pub data IsFaulty (names : RunNames) (held : Held) : Cause → Type 0 where
  text_too_large : IsPast text_limit held names.text → IsFaulty names held (TooLarge names.text)
  run_too_large : AfterText names held (IsPast file_limit held names.run) → IsFaulty names held (TooLarge names.run)
  of_form : (files : AreRead names held) (cause : Cause) → BreaksForm files.text files.run cause → IsFaulty names held cause

-- the design has too many cells to be run, or not
abbrev pub IsVast : {names : RunNames} {held : Held} → IsLoaded names held → Type 0
IsVast l = 2 ^ 26 < all_cells l.fit.design

abbrev pub IsSmall : {names : RunNames} {held : Held} → IsLoaded names held → Type 0
IsSmall l = all_cells l.fit.design ≤ 2 ^ 26

-- the cause stands, also one that is met in the run
pub data StandsIn (stalls : Answers) (names : RunNames) (held : Held) : Cause → Type 0 where
  before : (cause : Cause) → IsFaulty names held cause → StandsIn stalls names held cause
  vast : (l : IsLoaded names held) → IsVast l → StandsIn stalls names held (TooManyCells (min (all_cells l.fit.design) (2 ^ 64 - 1)))
  bad_line :
      (l : IsLoaded names held) (restart : Families) (vs : List Families) (file : List ℕ) (line : ℕ)
      → IsSmall l
      → Ends stalls (setup l) restart vs (Stopped (lines.BadLine file line))
      → StandsIn stalls names held (BadLine file line)
  word_range :
      (l : IsLoaded names held) (restart : Families) (vs : List Families) (file : List ℕ) (line : ℕ)
      → IsSmall l
      → Ends stalls (setup l) restart vs (Stopped (lines.WordRange file line))
      → StandsIn stalls names held (WordRange file line)

-- a file that is to be read before the run isn't held
abbrev pub LacksFile : RunNames → Held → Type 0
LacksFile names held = Lacks held names.text ⊎ AfterText names held (Lacks held names.run)

-- a file that is to be read isn't held: the text, the run file, or an input at the edge where its line is to be read
abbrev pub LacksInput : Answers → RunNames → Held → Type 0
LacksInput stalls names held = LacksFile names held ⊎ ((l : IsLoaded names held) × IsSmall l × IsMissing stalls (setup l))
