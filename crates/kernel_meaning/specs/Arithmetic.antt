-- The types and the words of literals that a building run computes are those of the operations.
use Rattle.std.specs.Prelude.{◌≡◌, ◌↔◌, List, Ok, Err, ℤ}
use Rattle.mx_bits.specs.declared.op.Op.{Op}
use Rattle.mx_bits.specs.declared.word.Word.{Word}
use Rattle.fix_arith.specs.declared.number.Number.{Number}
use Rattle.fix_arith.specs.declared.types.RoundMode.{RoundMode}
use Rattle.fix_arith.specs.declared.types.StreamType.{StreamType}
use Rattle.fix_arith.specs.declared.types.TypeError.{TypeError}
use Rattle.fix_arith.specs.Types.{width_of}
use Rattle.fix_arith.specs.Typing.{HasType, IsFirstFault}
use Rattle.fix_arith.specs.Literals.{IsLiteral}
use Rattle.kernel_meaning.specs.Typing.{typing, literal_bits}

-- a type is given exactly where the operation has it
abbrev pub TypesAgree : Type 0
TypesAgree = (op : Op) (types : List StreamType) (amount : ℤ) (t : StreamType)
    → (typing op types amount ≡ Ok t) ↔ HasType op types amount t

-- a fault is told exactly where it is the operation's first one
abbrev pub FaultsAgree : Type 0
FaultsAgree = (op : Op) (types : List StreamType) (amount : ℤ) (e : TypeError)
    → (typing op types amount ≡ Err e) ↔ IsFirstFault op types amount e

-- the bits of a word of the type are given exactly where it is the literal's
abbrev pub WordsAgree : Type 0
WordsAgree = (n : Number) (mode : RoundMode) (t : StreamType) (word : Word)
    → word.width ≡ width_of t
    → (literal_bits mode n.negative n.digits n.tens t ≡ Ok word.bits) ↔ IsLiteral n mode t (Ok word)

-- a literal is refused exactly where it has no word
abbrev pub RefusalsAgree : Type 0
RefusalsAgree = (n : Number) (mode : RoundMode) (t : StreamType) (e : TypeError)
    → (literal_bits mode n.negative n.digits n.tens t ≡ Err e) ↔ IsLiteral n mode t (Err e)
