-- Names that a growing module gives to what it adds.
use Rattle.std.specs.Prelude.{◌≡◌, ℕ, ◌≤◌, List, ◌++◌, length, codes}
use Rattle.std.specs.Fmt.{decimal}
use Rattle.rtl_ir.specs.declared.design.Module.{Module}
use Rattle.rtl_ir.specs.Formed.{name_of}

-- the name of the register that is net number n
abbrev pub register_name : ℕ → List ℕ
register_name n = codes "r" ++ decimal n

-- the name of memory number k
abbrev pub memory_name : ℕ → List ℕ
memory_name k = codes "m" ++ decimal k

-- no net past the ports is named `position`
abbrev pub HasNoPosition : Module → Type 0
HasNoPosition m = (k : ℕ) → length m.ports ≤ k → name_of m k ≡ codes "position" → ⊥

-- A name that the next register may have: `r` and its number, or `position` where no net past the
-- ports is named so.
pub data MayName (m : Module) (name : List ℕ) : Type 0 where
  Numbered : name ≡ register_name (length m.nets) → MayName m name
  Position : name ≡ codes "position" → HasNoPosition m → MayName m name
