-- What loading a text and a run file answers, as the code has it.
use Rattle.std.specs.Prelude.{ℕ, ◌≡◌, List, IsSome, Result, Ok, Err}
use Rattle.mx_base.specs.Files.{Held}
use Rattle.rtl_ir.specs.declared.design.Design.{Design}
use Rattle.simulation.specs.declared.plan.Plan.{Plan}
use Rattle.rtl_reading.specs.Reads.{ReadsAs}
use Rattle.verilog_read.specs.Refused.{IsReadAs}
use Rattle.simulation.specs.Plans.{FitsShape, AreApart}
use Rattle.maxjc_core.specs.Command.{RunNames}
use Rattle.maxjc_core.specs.Loading.{FitTogether, AreRead}
use Rattle.maxjc_core.specs.SimulateCauses.{IsFaulty}
use Rattle.maxjc_core.specs.CompileStops.{IfRefused}
use Rattle.maxjc_core.specs.declared.stop.Stop.{Stop}
use Rattle.maxjc_core.specs.declared.load.Loaded.{Loaded}

-- no other design is read from the text
abbrev pub IsOnlyDesign : List ℕ → Design → Type 0
IsOnlyDesign text design = (other : Design) → ReadsAs text other → other ≡ design

-- the design and the plan of bytes that fit together
pub record FitAs (text run : List ℕ) (design : Design) (plan : Plan) : Type 0 where
  pub fit : FitTogether text run
  pub design_is : fit.design ≡ design
  pub plan_is : fit.plan ≡ plan
  pub only : IsOnlyDesign text design

-- the same of files that were loaded
pub record IsLoadedAs (names : RunNames) (held : Held) (design : Design) (plan : Plan) : Type 0 where
  pub files : AreRead names held
  pub is : FitAs files.text files.run design plan

-- what can be run: the top module has the ports of a shape that the plan fits, and outputs have files of their own
pub record CanRun (design : Design) (plan : Plan) : Type 0 where
  pub bytes : List ℕ
  pub is : IsReadAs bytes design
  pub fits : FitsShape plan is.shape
  pub apart : AreApart plan

-- of what the files hold, where they are told
abbrev pub LoadAnswers : RunNames → Held → Result Loaded Stop → Type 0
LoadAnswers names held (Ok l) = IsSome held → IsLoadedAs names held l.design l.plan
LoadAnswers names held (Err stop) = IfRefused stop (λ cause. IsSome held → IsFaulty names held cause)
