-- The names of a kernel's ports are names, and none of them is one that a module gives to its own nets.
use Rattle.std.proofs.Common.{◌≡◌, ℕ, Bool, true, false, ◌&&◌, ◌||◌, List, [], ◌∷◌, ◌++◌, refl, sym, ap, ◌∙◌, arith}
use Rattle.std.specs.Prelude.{codes, nat_eq, ◌==◌}
use Rattle.std.proofs.lemmas.Bool.Decides.{nat_tests}
use Rattle.maxj_tokens.specs.Tokens.{is_name_byte}
use Rattle.std.specs.List.{list_all}
use Rattle.std.proofs.lemmas.List.Folds.{list_all-append}
use Rattle.rtl_ir.specs.Names.{is_letter, is_digit, continues_name, is_name}
use Rattle.rtl_ir.specs.Ports.{PortView, is_plain_byte, is_plain_name, host_input_ports, host_output_ports}
use Rattle.rtl_delays.specs.Partial.{is_own_name}
use Rattle.kernel_calls.specs.Laws.{is_port_name}
use Rattle.kernel_control.specs.Ports.{scalar_ports}

same_byte : (b : ℕ) → is_name_byte b ≡ is_plain_byte b
same_byte b =
    let e : (b == 95) ≡ nat_eq b 95 = grind (arith, nat_tests) in
    or_assoc (is_letter b) (is_digit b) (b == 95) ∙ ap (λ r. is_letter b || is_digit b || r) e
  where
    or_assoc : (x y z : Bool) → x || (y || z) ≡ (x || y) || z
    or_assoc true y z = refl
    or_assoc false y z = refl

same_bytes : (bs : List ℕ) → list_all is_name_byte bs ≡ list_all is_plain_byte bs
same_bytes [] = refl
same_bytes (b ∷ bs) = ap (λ r. r && list_all is_name_byte bs) (same_byte b) ∙ ap (λ r. is_plain_byte b && r) (same_bytes bs)

pub plain_from : (name : List ℕ) → is_port_name name ≡ true → is_plain_name name ≡ true
plain_from [] h = h
plain_from (b ∷ bs) h = ap (λ r. is_letter b && r) (sym (same_bytes bs)) ∙ h

plain_continues : (a b c d : Bool) → (a || b || c) ≡ true → (a || c || b || d) ≡ true
plain_continues true b c d h = refl
plain_continues false true true d h = refl
plain_continues false true false d h = refl
plain_continues false false true d h = refl
plain_continues false false false d h = absurd (cc)

pub both : (a b : Bool) → (a && b) ≡ true → (a ≡ true) × (b ≡ true)
both true b h = (refl, h)
both false b h = absurd (cc)

all_continue : (bs : List ℕ) → list_all is_plain_byte bs ≡ true → list_all continues_name bs ≡ true
all_continue [] h = refl
all_continue (b ∷ bs) h =
    let parts = both (is_plain_byte b) (list_all is_plain_byte bs) h in
    rw (plain_continues (is_letter b) (is_digit b) (nat_eq b 95) (nat_eq b 36) parts.0, all_continue bs parts.1) refl

plain_letters : (name : List ℕ) → is_plain_name name ≡ true → list_all is_plain_byte name ≡ true
plain_letters [] h = refl
plain_letters (b ∷ bs) h = let parts = both (is_letter b) (list_all is_plain_byte bs) h in rw (parts.0, parts.1) refl

plain_bytes : (name : List ℕ) → is_plain_name name ≡ true → list_all continues_name name ≡ true
plain_bytes name h = all_continue name (plain_letters name h)

with_end : (bs end : List ℕ) → list_all continues_name bs ≡ true → list_all continues_name end ≡ true → list_all continues_name (bs ++ end) ≡ true
with_end bs end h k = list_all-append continues_name bs end ∙ ap (λ b. b && list_all continues_name end) h ∙ k

pub kernel_named : (n : List ℕ) → is_plain_name n ≡ true → is_name (codes "kernel$" ++ n) ≡ true
kernel_named n h = rw (plain_bytes n h) refl

-- the name may stand in a module, and is none of its own
pub record IsPortName (name : List ℕ) : Type 0 where
  pub is : is_name name ≡ true
  pub apart : is_own_name name ≡ false

abbrev pub AreSpelled : List PortView → Type 0
AreSpelled [] = Unit {0}
AreSpelled (v ∷ vs) = IsPortName v.name × AreSpelled vs

pub spelled_on : (us vs : List PortView) → AreSpelled us → AreSpelled vs → AreSpelled (us ++ vs)
spelled_on [] vs h k = k
spelled_on (u ∷ us) vs h k = (h.0, spelled_on us vs h.1 k)

scalar_named : (n : List ℕ) → is_plain_name n ≡ true → IsPortName (codes "scalar$" ++ n)
scalar_named n h = record { is = rw (plain_bytes n h) refl; apart = refl }

input_named : (n end : List ℕ) → is_plain_name n ≡ true → list_all continues_name end ≡ true → IsPortName (codes "in$" ++ n ++ end)
input_named n end h k = record { is = rw (with_end n end (plain_bytes n h) k) refl; apart = refl }

output_named : (n end : List ℕ) → is_plain_name n ≡ true → list_all continues_name end ≡ true → IsPortName (codes "out$" ++ n ++ end)
output_named n end h k = record { is = rw (with_end n end (plain_bytes n h) k) refl; apart = refl }

-- these have plain names
abbrev pub ArePlain : List (List ℕ × ℕ) → Type 0
ArePlain [] = Unit {0}
ArePlain (x ∷ xs) = (is_plain_name x.0 ≡ true) × ArePlain xs

pub scalars_spelled : (xs : List (List ℕ × ℕ)) → ArePlain xs → AreSpelled (scalar_ports xs)
scalars_spelled [] h = tt
scalars_spelled (x ∷ xs) h = (scalar_named x.0 h.0, scalars_spelled xs h.1)

pub inputs_spelled : (xs : List (List ℕ × ℕ)) → ArePlain xs → AreSpelled (host_input_ports xs)
inputs_spelled [] h = tt
inputs_spelled (x ∷ xs) h = (
  input_named x.0 (codes "$data") h.0 refl,
  (input_named x.0 (codes "$valid") h.0 refl, (input_named x.0 (codes "$ready") h.0 refl, inputs_spelled xs h.1)),
)

pub outputs_spelled : (xs : List (List ℕ × ℕ)) → ArePlain xs → AreSpelled (host_output_ports xs)
outputs_spelled [] h = tt
outputs_spelled (x ∷ xs) h = (
  output_named x.0 (codes "$data") h.0 refl,
  (output_named x.0 (codes "$valid") h.0 refl, (output_named x.0 (codes "$ready") h.0 refl, outputs_spelled xs h.1)),
)
