-- The line that a text says that isn't read.
use Rattle.std.specs.Prelude.{ℕ, List, [], ◌∷◌, Option, Some, None, codes}
use Rattle.std.specs.Fmt.{decimal}
use Rattle.refusal_line.specs.Lines.{refused}
use Rattle.rtl_check.specs.Lines as rules
use Rattle.verilog_read.specs.declared.error.VerilogError.{VerilogError}
use Rattle.verilog_read.specs.declared.error.VerilogError.TheVariants.{NoToken, Syntax, Rtl, PortShape, NoMemory}

-- the line of the fault. Want of memory is none
abbrev pub said : VerilogError → Option (List ℕ)
said (NoToken place) = Some (refused (codes "V1") (decimal place ∷ []))
said (Syntax place) = Some (refused (codes "V2") (decimal place ∷ []))
said (Rtl error) = rules.said error
said (PortShape name) = Some (refused (codes "V4") (name ∷ []))
said NoMemory = None
