-- The names in a text that is written. None of them is a reserved word of Verilog (IEEE 1364-2005,
-- annex B).
use Rattle.std.specs.Prelude.{◌≡◌, ℕ, ◌&&◌, ◌||◌, nat_eq, bytes_eq, Bool, true, false, List, [], ◌∷◌, codes}
use Rattle.std.specs.List.{All, list_all, list_any}
use Rattle.rtl_ir.specs.declared.design.Net.{Net}
use Rattle.rtl_ir.specs.declared.design.Mem.{Mem}
use Rattle.rtl_ir.specs.declared.design.Instance.{Instance}
use Rattle.rtl_ir.specs.declared.design.Module.{Module}
use Rattle.rtl_ir.specs.Names.{is_letter, is_digit}

-- it has a `$`
abbrev pub has_dollar : List ℕ → Bool
has_dollar name = list_any (nat_eq 36) name

-- a letter, and then digits
abbrev pub is_numbered : List ℕ → Bool
is_numbered [] = false
is_numbered (b ∷ []) = false
is_numbered (b ∷ d ∷ ds) = is_letter b && list_all is_digit (d ∷ ds)

-- one of these
abbrev pub is_fixed_name : List ℕ → Bool
is_fixed_name name =
    list_any (bytes_eq name)
    (codes "clk" ∷ codes "reset" ∷ codes "done" ∷ codes "position" ∷ [])

-- a name with a `$` in it, a letter with digits, or one of four
abbrev pub is_text_name : List ℕ → Bool
is_text_name name = has_dollar name || (is_numbered name || is_fixed_name name)

-- the module and all that it declares have such names
pub record HasTextNames (m : Module) : Type 0 where
  pub own : is_text_name m.name ≡ true
  pub nets : All (λ (n : Net). is_text_name n.name ≡ true) m.nets
  pub mems : All (λ (k : Mem). is_text_name k.name ≡ true) m.mems
  pub instances : All (λ (i : Instance). is_text_name i.name ≡ true) m.instances
