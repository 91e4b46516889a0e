-- The names of a kernel's ports differ.
use Rattle.std.proofs.Common.{◌≡◌, ℕ, Bool, true, false, ◌&&◌, ◌||◌, List, [], ◌∷◌, ◌++◌, refl, ap, ◌∙◌, arith}
use Rattle.std.specs.Prelude.{codes, nat_eq, bytes_eq}
use Rattle.std.specs.List.{list_all, list_any}
use Rattle.std.proofs.lemmas.Bool.Decides.{nat_tests}
use Rattle.rtl_ir.specs.Names.{is_letter}
use Rattle.rtl_ir.specs.Ports.{PortView, is_plain_byte, is_plain_name, host_input_ports, host_output_ports, output_port}
use Rattle.kernel_control.specs.Ports.{scalar_ports}
use Rattle.kernel_ports.proofs.Spelled.{both, ArePlain}
use Rattle.stream_graph.proofs.NamesDiffer.{or_first, or_second}

-- whether a port has this name
abbrev pub is_named : List ℕ → PortView → Bool
is_named name v = bytes_eq name v.name

abbrev pub is_there : List ℕ → List PortView → Bool
is_there name vs = list_any (is_named name) vs

-- no port has the name of a later one
abbrev pub AreApart : List PortView → Type 0
AreApart [] = Unit {0}
AreApart (v ∷ vs) = (is_there v.name vs ≡ false) × AreApart vs

-- none of the first ports has the name of one of the second ones
abbrev pub AreOther : List PortView → List PortView → Type 0
AreOther [] vs = Unit {0}
AreOther (u ∷ us) vs = (is_there u.name vs ≡ false) × AreOther us vs

pub there_on : (name : List ℕ) (us vs : List PortView) → is_there name us ≡ false → is_there name vs ≡ false → is_there name (us ++ vs) ≡ false
there_on name [] vs h k = k
there_on name (u ∷ us) vs h k = neither (is_named name u) (is_there name us) (is_there name (us ++ vs)) h (λ r. there_on name us vs r k)
  where
    neither : (a b c : Bool) → a || b ≡ false → (b ≡ false → c ≡ false) → a || c ≡ false
    neither true b c h f = h
    neither false b c h f = f h

pub apart_on : (us vs : List PortView) → AreApart us → AreApart vs → AreOther us vs → AreApart (us ++ vs)
apart_on [] vs h k o = k
apart_on (u ∷ us) vs h k o = (there_on u.name us vs h.0 o.0, apart_on us vs h.1 k o.1)

pub other_on : (us vs ws : List PortView) → AreOther us vs → AreOther us ws → AreOther us (vs ++ ws)
other_on [] vs ws h k = tt
other_on (u ∷ us) vs ws h k = (there_on u.name vs ws h.0 k.0, other_on us vs ws h.1 k.1)

pub both_other : (us vs ws : List PortView) → AreOther us ws → AreOther vs ws → AreOther (us ++ vs) ws
both_other [] vs ws h k = k
both_other (u ∷ us) vs ws h k = (h.0, both_other us vs ws h.1 k)

-- ---- names of another kind begin with another byte: `s` of a scalar, `i` of an input, `o` of an output

pub no_scalar : (b : ℕ) (bs : List ℕ) (xs : List (List ℕ × ℕ)) → nat_eq b 115 ≡ false → is_there (b ∷ bs) (scalar_ports xs) ≡ false
no_scalar b bs [] h = refl
no_scalar b bs (x ∷ xs) h = rw (h, no_scalar b bs xs h) refl

pub no_input : (b : ℕ) (bs : List ℕ) (xs : List (List ℕ × ℕ)) → nat_eq b 105 ≡ false → is_there (b ∷ bs) (host_input_ports xs) ≡ false
no_input b bs [] h = refl
no_input b bs (x ∷ xs) h = rw (h, no_input b bs xs h) refl

pub no_output : (b : ℕ) (bs : List ℕ) (xs : List (List ℕ × ℕ)) → nat_eq b 111 ≡ false → is_there (b ∷ bs) (host_output_ports xs) ≡ false
no_output b bs [] h = refl
no_output b bs (x ∷ xs) h = rw (h, no_output b bs xs h) refl

pub scalars_no_inputs : (xs ys : List (List ℕ × ℕ)) → AreOther (scalar_ports xs) (host_input_ports ys)
scalars_no_inputs [] ys = tt
scalars_no_inputs (x ∷ xs) ys = (no_input 115 (codes "calar$" ++ x.0) ys refl, scalars_no_inputs xs ys)

pub scalars_no_outputs : (xs ys : List (List ℕ × ℕ)) → AreOther (scalar_ports xs) (host_output_ports ys)
scalars_no_outputs [] ys = tt
scalars_no_outputs (x ∷ xs) ys = (no_output 115 (codes "calar$" ++ x.0) ys refl, scalars_no_outputs xs ys)

pub inputs_no_outputs : (xs ys : List (List ℕ × ℕ)) → AreOther (host_input_ports xs) (host_output_ports ys)
inputs_no_outputs [] ys = tt
inputs_no_outputs (x ∷ xs) ys = (
  no_output 105 (codes "n$" ++ x.0 ++ codes "$data") ys refl,
  (
    no_output 105 (codes "n$" ++ x.0 ++ codes "$valid") ys refl,
    (no_output 105 (codes "n$" ++ x.0 ++ codes "$ready") ys refl, inputs_no_outputs xs ys),
  ),
)

-- none of these has the name of the last port
pub scalars_no_end : (xs : List (List ℕ × ℕ)) → AreOther (scalar_ports xs) (output_port (codes "ended$") 1 ∷ [])
scalars_no_end [] = tt
scalars_no_end (x ∷ xs) = (refl, scalars_no_end xs)

pub inputs_no_end : (xs : List (List ℕ × ℕ)) → AreOther (host_input_ports xs) (output_port (codes "ended$") 1 ∷ [])
inputs_no_end [] = tt
inputs_no_end (x ∷ xs) = (refl, (refl, (refl, inputs_no_end xs)))

pub outputs_no_end : (xs : List (List ℕ × ℕ)) → AreOther (host_output_ports xs) (output_port (codes "ended$") 1 ∷ [])
outputs_no_end [] = tt
outputs_no_end (x ∷ xs) = (refl, (refl, (refl, outputs_no_end xs)))

-- ---- names of one kind

-- whether one of these has the name
abbrev pub is_of : List ℕ → List (List ℕ × ℕ) → Bool
is_of name xs = list_any (λ (x : List ℕ × ℕ). bytes_eq name x.0) xs

-- none has the name of a later one
abbrev pub AreDifferent : List (List ℕ × ℕ) → Type 0
AreDifferent [] = Unit {0}
AreDifferent (x ∷ xs) = (is_of x.0 xs ≡ false) × AreDifferent xs

scalar_new : (name : List ℕ) (xs : List (List ℕ × ℕ)) → is_of name xs ≡ false → is_there (codes "scalar$" ++ name) (scalar_ports xs) ≡ false
scalar_new name [] h = refl
scalar_new name (x ∷ xs) h = neither (bytes_eq name x.0) (is_of name xs) (is_there (codes "scalar$" ++ name) (scalar_ports xs)) h (scalar_new name xs)
  where
    neither : (a b c : Bool) → a || b ≡ false → (b ≡ false → c ≡ false) → a || c ≡ false
    neither true b c h f = h
    neither false b c h f = f h

pub scalars_apart : (xs : List (List ℕ × ℕ)) → AreDifferent xs → AreApart (scalar_ports xs)
scalars_apart [] h = tt
scalars_apart (x ∷ xs) h = (scalar_new x.0 xs h.0, scalars_apart xs h.1)

-- a plain byte is no `$`
no_dollar : (b : ℕ) → is_plain_byte b ≡ true → nat_eq b 36 ≡ false
no_dollar b h = grind (arith, nat_tests)

-- plain names with two ends are the same where the names are and the ends are
ends : (n m s t : List ℕ) → list_all is_plain_byte n ≡ true → list_all is_plain_byte m ≡ true
    → bytes_eq (n ++ 36 ∷ s) (m ++ 36 ∷ t) ≡ (bytes_eq n m && bytes_eq s t)
ends [] [] s t h k = refl
ends [] (y ∷ m) s t h k =
    let y_plain = (both (is_plain_byte y) (list_all is_plain_byte m) k).0 in
    let other : nat_eq 36 y ≡ false = let e = no_dollar y y_plain in grind (arith, nat_tests, e) in
    rw other refl
ends (x ∷ n) [] s t h k =
    let x_plain = (both (is_plain_byte x) (list_all is_plain_byte n) h).0 in
    rw (no_dollar x x_plain) refl
ends (x ∷ n) (y ∷ m) s t h k =
    ap (λ b. nat_eq x y && b)
    (ends n m s t (both (is_plain_byte x) (list_all is_plain_byte n) h).1 (both (is_plain_byte y) (list_all is_plain_byte m) k).1)
    ∙ and_assoc (nat_eq x y) (bytes_eq n m) (bytes_eq s t)
  where
    and_assoc : (a b c : Bool) → (a && (b && c)) ≡ ((a && b) && c)
    and_assoc true b c = refl
    and_assoc false b c = refl

false_both : (a b : Bool) → a ≡ false → (a && b) ≡ false
false_both true b h = absurd (cc)
false_both false b h = refl

both_false : (a b : Bool) → b ≡ false → (a && b) ≡ false
both_false true b h = h
both_false false b h = refl

none_of_two : (a b : Bool) → a ≡ false → b ≡ false → a || b ≡ false
none_of_two true b h k = absurd (cc)
none_of_two false b h k = k

letters : (name : List ℕ) → is_plain_name name ≡ true → list_all is_plain_byte name ≡ true
letters [] h = refl
letters (b ∷ bs) h = let parts = both (is_letter b) (list_all is_plain_byte bs) h in rw (parts.0, parts.1) refl

-- two names of different front differ
fronts : (n m s t : List ℕ) → is_plain_name n ≡ true → is_plain_name m ≡ true → bytes_eq n m ≡ false
    → bytes_eq (n ++ 36 ∷ s) (m ++ 36 ∷ t) ≡ false
fronts n m s t h k e = ends n m s t (letters n h) (letters m k) ∙ false_both (bytes_eq n m) (bytes_eq s t) e

-- two names of different end differ
backs : (n s t : List ℕ) → is_plain_name n ≡ true → bytes_eq s t ≡ false → bytes_eq (n ++ 36 ∷ s) (n ++ 36 ∷ t) ≡ false
backs n s t h e = ends n n s t (letters n h) (letters n h) ∙ both_false (bytes_eq n n) (bytes_eq s t) e

input_new : (name s : List ℕ) (xs : List (List ℕ × ℕ)) → is_plain_name name ≡ true → ArePlain xs → is_of name xs ≡ false
    → is_there (codes "in$" ++ name ++ 36 ∷ s) (host_input_ports xs) ≡ false
input_new name s [] p q h = refl
input_new name s (x ∷ xs) p q h =
    let e = or_first (bytes_eq name x.0) (is_of name xs) h in
    let rest = input_new name s xs p q.1 (or_second (bytes_eq name x.0) (is_of name xs) h) in
    none_of_two _ _ (fronts name x.0 s (codes "data") p q.0 e)
    (none_of_two _ _ (fronts name x.0 s (codes "valid") p q.0 e) (none_of_two _ _ (fronts name x.0 s (codes "ready") p q.0 e) rest))

pub inputs_apart : (xs : List (List ℕ × ℕ)) → ArePlain xs → AreDifferent xs → AreApart (host_input_ports xs)
inputs_apart [] p h = tt
inputs_apart (x ∷ xs) p h = (
  none_of_two _ _ (backs x.0 (codes "data") (codes "valid") p.0 refl)
      (none_of_two _ _ (backs x.0 (codes "data") (codes "ready") p.0 refl) (input_new x.0 (codes "data") xs p.0 p.1 h.0)),
  (
    none_of_two _ _ (backs x.0 (codes "valid") (codes "ready") p.0 refl) (input_new x.0 (codes "valid") xs p.0 p.1 h.0),
    (input_new x.0 (codes "ready") xs p.0 p.1 h.0, inputs_apart xs p.1 h.1),
  ),
)

output_new : (name s : List ℕ) (xs : List (List ℕ × ℕ)) → is_plain_name name ≡ true → ArePlain xs → is_of name xs ≡ false
    → is_there (codes "out$" ++ name ++ 36 ∷ s) (host_output_ports xs) ≡ false
output_new name s [] p q h = refl
output_new name s (x ∷ xs) p q h =
    let e = or_first (bytes_eq name x.0) (is_of name xs) h in
    let rest = output_new name s xs p q.1 (or_second (bytes_eq name x.0) (is_of name xs) h) in
    none_of_two _ _ (fronts name x.0 s (codes "data") p q.0 e)
    (none_of_two _ _ (fronts name x.0 s (codes "valid") p q.0 e) (none_of_two _ _ (fronts name x.0 s (codes "ready") p q.0 e) rest))

pub outputs_apart : (xs : List (List ℕ × ℕ)) → ArePlain xs → AreDifferent xs → AreApart (host_output_ports xs)
outputs_apart [] p h = tt
outputs_apart (x ∷ xs) p h = (
  none_of_two _ _ (backs x.0 (codes "data") (codes "valid") p.0 refl)
      (none_of_two _ _ (backs x.0 (codes "data") (codes "ready") p.0 refl) (output_new x.0 (codes "data") xs p.0 p.1 h.0)),
  (
    none_of_two _ _ (backs x.0 (codes "valid") (codes "ready") p.0 refl) (output_new x.0 (codes "valid") xs p.0 p.1 h.0),
    (output_new x.0 (codes "ready") xs p.0 p.1 h.0, outputs_apart xs p.1 h.1),
  ),
)
