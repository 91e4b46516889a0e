-- The names of nets and memories are such as a text has.
use Rattle.std.proofs.Common.{
  ◌≡◌,
  ℕ,
  ◌+◌,
  ◌<◌,
  ◌≤◌,
  ◌^◌,
  ◌||◌,
  Bool,
  true,
  false,
  List,
  [],
  ◌∷◌,
  length,
  refl,
  arith,
}
use Rattle.std.specs.List.{All, list_all}
use Rattle.std.specs.Fmt.{decimal}
use Rattle.std.proofs.lemmas.Fmt.{decimal_nonempty}
use Rattle.std.proofs.lemmas.List.Elements.{All-nil, All-cons, All-append}
use Rattle.std.proofs.lemmas.List.Sums.{AllPass-from_list_all}
use Rattle.rtl_ir.specs.declared.design.Mem.{Mem}
use Rattle.rtl_ir.specs.declared.design.Net.{Net}
use Rattle.rtl_ir.specs.Names.{is_letter, is_digit}
use Rattle.rtl_build.specs.Wires.{wire_name}
use Rattle.link_fifo.specs.Netlist.{wire, frame_nets, wires_from, wire_widths, the_nets, the_mems}
use Rattle.link_fifo.specs.TextNames.{has_dollar, is_numbered, is_fixed_name, is_text_name}
use Rattle.rtl_delays.proofs.Spelled.{digits_are}

-- ---- a letter and digits

numbered : (b : ℕ) (ds : List ℕ) → is_letter b ≡ true → list_all is_digit ds ≡ true
    → 0 < length ds → is_numbered (b ∷ ds) ≡ true
numbered b [] letter digits some = absurd (omega (arith, some))
numbered b (d ∷ ds) letter digits some = rw (letter, digits) refl

middle : (a b c : Bool) → b ≡ true → (a || (b || c)) ≡ true
middle true b c h = refl
middle false true c h = refl
middle false false c h = absurd (cc)

pub numbered_text : (b n : ℕ) → is_letter b ≡ true → n < 2 ^ 64
    → is_text_name (b ∷ decimal n) ≡ true
numbered_text b n letter few =
    middle (has_dollar (b ∷ decimal n)) (is_numbered (b ∷ decimal n))
    (is_fixed_name (b ∷ decimal n))
    (numbered b (decimal n) letter (digits_are n few) (decimal_nonempty n few))

-- ---- nets and memories

abbrev HasTextName : Net → Type 0
HasTextName n = is_text_name n.name ≡ true

pub wires_text : (n : ℕ) (ws : List ℕ) → n + length ws ≤ 2 ^ 63
    → All (λ (x : Net). is_text_name x.name ≡ true) (wires_from n ws)
wires_text n [] few = All-nil HasTextName
wires_text n (w ∷ ws) few =
    All-cons HasTextName (wire (wire_name n) w) (wires_from (n + 1) ws)
    (numbered_text 119 n refl (omega (arith, few))) (wires_text (n + 1) ws (omega (arith, few)))

pub nets_text : (w p q : ℕ) → All (λ (x : Net). is_text_name x.name ≡ true) (the_nets w p q)
nets_text w p q =
    All-append HasTextName (frame_nets w p q) (wires_from 10 (wire_widths p q))
    (AllPass-from_list_all (λ (n : Net). is_text_name n.name) (frame_nets w p q) refl)
    (wires_text 10 (wire_widths p q) (omega arith))

pub mems_text : (w depth : ℕ) → All (λ (k : Mem). is_text_name k.name ≡ true) (the_mems w depth)
mems_text w depth =
    AllPass-from_list_all (λ (k : Mem). is_text_name k.name) (the_mems w depth) refl
