-- The line that a broken rule says.
use Rattle.std.specs.Prelude.{ℕ, List, [], ◌∷◌, Option, Some, None, codes}
use Rattle.std.specs.Fmt.{decimal}
use Rattle.refusal_line.specs.Lines.{refused}
use Rattle.rtl_ir.specs.declared.error.RtlError.{RtlError}
use Rattle.rtl_ir.specs.declared.error.RtlError.TheVariants.{Unknown, Width, TwoDrivers, CombLoop, NoDriver, SameName, NoMemory}

-- the number of the rule, and the names that break it
abbrev pub rule_line : ℕ → List (List ℕ) → List ℕ
rule_line number names = refused (codes "V3") (decimal number ∷ names)

-- the line of the rule that is broken. Want of memory breaks none
abbrev pub said : RtlError → Option (List ℕ)
said (Unknown name) = Some (rule_line 1 (name ∷ []))
said (Width name) = Some (rule_line 2 (name ∷ []))
said (TwoDrivers name) = Some (rule_line 3 (name ∷ []))
said (CombLoop names) = Some (rule_line 4 names)
said (NoDriver name) = Some (rule_line 5 (name ∷ []))
said (SameName name) = Some (rule_line 6 (name ∷ []))
said NoMemory = None
