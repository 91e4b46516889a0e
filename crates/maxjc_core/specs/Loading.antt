-- What `simulate` reads: a text and a run file that fits its design.
use Rattle.std.specs.Prelude.{ℕ, ◌≡◌, List, Ok}
use Rattle.mx_base.specs.Files.{Held}
use Rattle.rtl_ir.specs.declared.design.Design.{Design}
use Rattle.word_files.specs.declared.run_file.RunFile.{RunFile}
use Rattle.rtl_ir.specs.declared.interface.Interface.{Interface}
use Rattle.word_files.specs.RunFiles.{Reads, TicksFit, ScalarsFit, InputsFit, OutputsFit}
use Rattle.rtl_ir.specs.Interfaces.{shape_of}
use Rattle.verilog_read.specs.Refused.{IsReadAs}
use Rattle.simulation.specs.declared.plan.Plan.{Plan}
use Rattle.simulation.specs.Plans.{IsPlanOf, setup_of}
use Rattle.simulation.specs.Runs.{Setup}
use Rattle.maxjc_core.specs.Command.{RunNames}
use Rattle.maxjc_core.specs.CompileCauses.{file_limit, IsWithin}

-- the most bytes of a text: 2 ^ 26
abbrev pub text_limit : ℕ
text_limit = 67108864

-- the bytes of a text and of a run file: the text is that of a design that can be run, the run file is of its form and fits
-- the ports of the design, and this is what is run
pub record FitTogether (text run : List ℕ) : Type 0 where
  pub design : Design
  pub is : IsReadAs text design
  pub run_file : RunFile
  pub says : Reads run (Ok run_file)
  pub ports : Interface
  pub are : shape_of ports ≡ is.shape
  pub ticks : TicksFit run_file ports
  pub scalars : ScalarsFit run_file ports
  pub inputs : InputsFit run_file ports
  pub outputs : OutputsFit run_file ports
  pub plan : Plan
  pub planned : IsPlanOf run_file ports plan

-- both files are held and within their limits
pub record AreRead (names : RunNames) (held : Held) : Type 0 where
  pub text : List ℕ
  pub text_is : IsWithin text_limit held names.text text
  pub run : List ℕ
  pub run_is : IsWithin file_limit held names.run run

-- and they fit together
pub record IsLoaded (names : RunNames) (held : Held) : Type 0 where
  pub files : AreRead names held
  pub fit : FitTogether files.text files.run

-- what is run
abbrev pub setup : {names : RunNames} {held : Held} → IsLoaded names held → Setup
setup {names} {held} l = setup_of l.fit.design l.fit.is.top l.fit.is.shape l.fit.plan held
