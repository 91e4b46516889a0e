-- Names and their cuts at '$'.
use Rattle.std.proofs.Common.{◌≡◌, ◌∙◌, inl, inr, ℕ, ◌+◌, ◌-◌, ◌≤◌, ◌<◌, Bool, true, false, not}
use Rattle.std.proofs.Common.{cond, ◌&&◌, ◌||◌, List, [], ◌∷◌, ◌++◌, take, drop, length, get_or}
use Rattle.std.proofs.Common.{Option, Some, None, refl, sym, ap, nat_eq}
use Rattle.std.specs.List.{list_all}
use Rattle.std.specs.Str.{bytes_eq}
use Rattle.std.proofs.lemmas.Bool.{and_parts, cases_Bool, both_ways, eqb-true, or_left}
use Rattle.std.proofs.lemmas.List.{take-append-drop, drop_more, take_rest, take_all}
use Rattle.std.proofs.lemmas.Slice.Eq.{bytes_eq-Decides}
use Rattle.rtl_ir.specs.Ports.{is_plain_byte, is_plain_name}
use Rattle.rtl_ir.specs.Names.{is_letter, is_digit}
use Rattle.top_ports.specs.Shapes.{Name}
use Rattle.top_ports.specs.Roles.{CutView, cut, add_head}

pub bytes_same : (xs ys : List ℕ) → bytes_eq xs ys ≡ true → xs ≡ ys
bytes_same xs ys e = (bytes_eq-Decides xs ys).0 e

pub bytes_refl : (xs : List ℕ) → bytes_eq xs xs ≡ true
bytes_refl xs = (bytes_eq-Decides xs xs).1 refl

abbrev pub is_other : ℕ → Bool
is_other b = not (nat_eq b 36)

pub other_is : (b : ℕ) → is_other b ≡ true → nat_eq b 36 ≡ false
other_is b h = elim (cases_Bool (nat_eq b 36)) [ inl t ↦ absurd (both_ways (is_other b) (ap not t) h) | inr f ↦ f ]

pub cut_at : (xs ys : Name) → list_all is_other xs ≡ true → cut (xs ++ 36 ∷ ys) ≡ record { head = xs; rest = Some ys }
cut_at [] ys h = refl
cut_at (b ∷ bs) ys h =
    let w = and_parts (is_other b) (list_all is_other bs) h in
    let e = other_is b w.0 in
    ap (λ (t : Bool). cond t (record { head = []; rest = Some (bs ++ 36 ∷ ys) }) (add_head b (cut (bs ++ 36 ∷ ys)))) e ∙ ap (add_head b) (cut_at bs ys w.1)

pub cut_none : (xs : Name) → list_all is_other xs ≡ true → cut xs ≡ record { head = xs; rest = None }
cut_none [] h = refl
cut_none (b ∷ bs) h =
    let w = and_parts (is_other b) (list_all is_other bs) h in
    let e = other_is b w.0 in
    ap (λ (t : Bool). cond t (record { head = []; rest = Some bs }) (add_head b (cut bs))) e ∙ ap (add_head b) (cut_none bs w.1)

-- a name is what it was cut into
abbrev pub joined : Name → Option Name → Name
joined head None = head
joined head (Some rest) = head ++ 36 ∷ rest

joined_cons : (b : ℕ) (head : Name) (rest : Option Name) → b ∷ joined head rest ≡ joined (b ∷ head) rest
joined_cons b head None = refl
joined_cons b head (Some rest) = refl

uncut_step : (b : ℕ) (bs : Name) (t : Bool) → nat_eq b 36 ≡ t
    → bs ≡ joined (cut bs).head (cut bs).rest
    → let c = cond t (record { head = []; rest = Some bs }) (add_head b (cut bs)) in b
    ∷ bs ≡ joined c.head c.rest
uncut_step b bs true e h = ap (λ x. x ∷ bs) (eqb-true b 36 e)
uncut_step b bs false e h = ap (λ (l : Name). b ∷ l) h ∙ joined_cons b (cut bs).head (cut bs).rest

pub uncut : (xs : Name) → xs ≡ joined (cut xs).head (cut xs).rest
uncut [] = refl
uncut (b ∷ bs) = uncut_step b bs (nat_eq b 36) refl (uncut bs)

-- a plain name has no '$'
plain_other : (b : ℕ) → is_plain_byte b ≡ true → is_other b ≡ true
plain_other b h = elim (cases_Bool (nat_eq b 36)) [
  | inl t ↦ let e : b ≡ 36 = eqb-true b 36 t in absurd (both_ways (is_plain_byte b) (ap is_plain_byte e) h)
  | inr f ↦ ap not f
]

plain_others : (bs : Name) → list_all is_plain_byte bs ≡ true → list_all is_other bs ≡ true
plain_others [] h = refl
plain_others (b ∷ bs) h =
    let w = and_parts (is_plain_byte b) (list_all is_plain_byte bs) h in
    ap (λ (t : Bool). t && list_all is_other bs) (plain_other b w.0) ∙ plain_others bs w.1

letter_plain : (b : ℕ) → is_letter b ≡ true → is_plain_byte b ≡ true
letter_plain b h = or_left (is_letter b || is_digit b) (nat_eq b 95) (or_left (is_letter b) (is_digit b) h)

pub plain_is : (x : Name) → is_plain_name x ≡ true → list_all is_other x ≡ true
plain_is [] h = refl
plain_is (b ∷ bs) h =
    let w = and_parts (is_letter b) (list_all is_plain_byte bs) h in
    ap (λ (t : Bool). t && list_all is_other bs) (plain_other b (letter_plain b w.0)) ∙ plain_others bs w.1

-- a name that is read as far as its first '$', and one that is read to its end
pub cut_here : (xs : Name) (i : ℕ) → i < length xs → get_or xs i 0 ≡ 36
    → list_all is_other (take i xs) ≡ true
    → record { head = take i xs; rest = Some (take (length xs - (i + 1)) (drop (i + 1) xs)) }
    ≡ cut xs
cut_here xs i lt at h =
    let e : xs ≡ take i xs ++ 36 ∷ drop (i + 1) xs =
    sym (take-append-drop i xs) ∙ ap (λ l. take i xs ++ l) (drop_more xs i 0 lt ∙ ap (λ b. b ∷ drop (i + 1) xs) at) in
    let f = λ (l : Name). let c : CutView = record { head = take i xs; rest = Some l } in c in
    ap f (take_rest xs (i + 1)) ∙ sym (cut_at (take i xs) (drop (i + 1) xs) h) ∙ ap cut (sym e)

pub cut_past : (xs : Name) (i : ℕ) → length xs ≤ i → list_all is_other (take i xs) ≡ true → record { head = xs; rest = None } ≡ cut xs
cut_past xs i ge h = sym (cut_none xs (ap (list_all is_other) (sym (take_all i xs ge)) ∙ h))
