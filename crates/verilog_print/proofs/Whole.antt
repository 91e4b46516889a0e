-- What is printed of a formed design is a text of it, and reading it gives the design back.
use Rattle.std.specs.Prelude.{map}
use Rattle.grammar.proofs.Leftmost.{derives_from_runs}
use Rattle.rtl_ir.specs.declared.design.Module.{Module}
use Rattle.rtl_ir.specs.declared.design.Design.{Design}
use Rattle.rtl_ir.specs.Formed.{IsFormed}
use Rattle.rtl_ir.specs.Rules.{IsAccepted}
use Rattle.rtl_text.specs.Productions.{Is, Choice}
use Rattle.rtl_text.specs.Text.{TextOf}
use Rattle.rtl_reading.specs.Reads.{IsText, ReadsAs, ArePortsFirst}
use Rattle.rtl_reading.specs.Renumbered.{AreRenumbered}
use Rattle.std.proofs.Common.{◌≡◌, ◌∙◌, ◌++◌, ℕ, List, ap}
use Rattle.verilog_print.specs.Printed.{modules_text}
use Rattle.verilog_print.proofs.Modules.{module_tree, file_spells}
use Rattle.verilog_print.proofs.Same.{modules_are}
use Rattle.verilog_print.proofs.Known.{none_is_unknown}
use Rattle.verilog_print.proofs.Numbered.{modules_numbered}
use Rattle.rtl_reading.proofs.Accepted.{accepted_again}
use Rattle.verilog_print.specs.Lines.{AppendsLines}
use Rattle.verilog_print.proofs.Lines.{in_lines}
use Rattle.verilog_print.proofs.Plain.{lines_plain}
use Rattle.verilog_print.proofs.Moves.{moved_design, modules_move, modules_numbered as moved_numbered, modules_renumbered}

-- the bytes are the trees of these modules
is_text : (modules : List Module) → IsFormed modules → IsText (modules_text modules) (map (module_tree modules) modules)
is_text modules f = let spelled = file_spells modules f in record { tokens = spelled.tokens; read = spelled.read; derived = derives_from_runs Is Choice spelled.derived }

pub text_of : (d : Design) → IsFormed d.modules → TextOf (modules_text d.modules) d
text_of d f =
    let is : IsText (modules_text d.modules) (map (module_tree d.modules) d.modules) = is_text d.modules f in
    record { tokens = is.tokens; trees = map (module_tree d.modules) d.modules; read = is.read; derived = is.derived; modules = modules_are d f }

pub reads_as : (d : Design) → IsAccepted d → ArePortsFirst d → ReadsAs (modules_text d.modules) d
reads_as d a first = record {
  trees = map (module_tree d.modules) d.modules;
  is = is_text d.modules a.formed;
  known = none_is_unknown d a;
  modules = modules_are d a.formed;
  numbered = modules_numbered d a.formed first;
}

-- the design with its nets in the order of the text
pub reads_moved : (d : Design) → IsAccepted d → ReadsAs (modules_text d.modules) (moved_design d)
reads_moved d a = record {
  trees = map (module_tree d.modules) d.modules;
  is = is_text d.modules a.formed;
  known = none_is_unknown d a;
  modules = modules_move d a.formed;
  numbered = moved_numbered d a.formed;
}

pub moved : (d : Design) → IsAccepted d → AreRenumbered d (moved_design d)
moved d a = modules_renumbered d a.formed

pub moved_accepted : (d : Design) → IsAccepted d → IsAccepted (moved_design d)
moved_accepted d a = accepted_again d (moved_design d) (moved d a) a

pub appends_lines : (before after : List ℕ) (d : Design) → IsFormed d.modules → after ≡ before ++ modules_text d.modules → AppendsLines before after d
appends_lines before after d f e = record { appended = e ∙ ap (λ (l : List ℕ). before ++ l) (in_lines d.modules); each = lines_plain d.modules f }
