-- A text of a design behind what was there before.
use Rattle.std.specs.Prelude.{◌≡◌, ℕ, List, ◌++◌}
use Rattle.rtl_ir.specs.declared.design.Design.{Design}
use Rattle.rtl_ir.specs.Rules.{IsAccepted}
use Rattle.rtl_text.specs.Text.{TextOf}
use Rattle.rtl_reading.specs.Reads.{ReadsAs}
use Rattle.rtl_reading.specs.Renumbered.{AreRenumbered}

pub record AppendsText (before after : List ℕ) (d : Design) : Type 0 where
  pub text : List ℕ
  pub appended : after ≡ before ++ text
  pub of : TextOf text d

-- a text that reads as the design
pub record AppendsReading (before after : List ℕ) (d : Design) : Type 0 where
  pub text : List ℕ
  pub appended : after ≡ before ++ text
  pub reads : ReadsAs text d

-- a text that reads as an accepted design, and this is the printed one up to the numbers of its nets
pub record AppendsRenumbered (before after : List ℕ) (d : Design) : Type 0 where
  pub text : List ℕ
  pub appended : after ≡ before ++ text
  pub read : Design
  pub reads : ReadsAs text read
  pub accepted : IsAccepted read
  pub same : AreRenumbered d read
