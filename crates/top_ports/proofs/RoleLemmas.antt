-- A port has one role, and the test finds it.
use Rattle.std.proofs.Common.{◌≡◌, ◌∙◌, ◌⊎◌, inl, inr, Bool, true, false, cond, [], ◌∷◌, ◌++◌, Option, Some, None, refl, sym, ap, subst}
use Rattle.std.specs.Prelude.{codes}
use Rattle.std.specs.Str.{bytes_eq}
use Rattle.std.proofs.lemmas.Bool.{and_parts, and_from, cond-true}
use Rattle.std.proofs.lemmas.List.{append_assoc}
use Rattle.rtl_ir.specs.Ports.{PortView, is_plain_name}
use Rattle.top_ports.specs.Shapes.{Name}
use Rattle.top_ports.specs.Roles.{RoleView, clock, reset, hold, ticks, scalar, stream, done}
use Rattle.top_ports.specs.Roles.{is_output, is_width, cut}
use Rattle.top_ports.proofs.Roles.{role_name, is_plain_role, HasRole}
use Rattle.top_ports.specs.Roles.{lone_role, kernel_role, side_of, part_of, of_side_and_part}
use Rattle.top_ports.specs.Roles.{inner_role, behind, plain_behind, cut_role, name_role, same_bit}
use Rattle.top_ports.specs.Roles.{fits, fitting, port_role}
use Rattle.top_ports.proofs.Roles.{side_front, part_back}
use Rattle.top_ports.specs.declared.role.Side.{Side}
use Rattle.top_ports.specs.declared.role.Side.TheVariants.{Input, Output}
use Rattle.top_ports.specs.declared.role.Part.{Part}
use Rattle.top_ports.specs.declared.role.Part.TheVariants.{Data, Valid, Ready}
use Rattle.top_ports.proofs.CutLemmas.{bytes_same, cut_at, cut_none, joined, uncut, plain_is}

-- what a name of a word and a plain name gives
of_two : (word x : Name) → is_plain_name x ≡ true → plain_behind word (cut x) ≡ kernel_role word x
of_two word x h = ap (plain_behind word) (cut_none x (plain_is x h)) ∙ cond-true (is_plain_name x) (kernel_role word x) None h

of_three : (word x back : Name) → is_plain_name x ≡ true → plain_behind word (cut (x ++ 36 ∷ back)) ≡ inner_role word x back
of_three word x back h = ap (plain_behind word) (cut_at x back (plain_is x h)) ∙ cond-true (is_plain_name x) (inner_role word x back) None h

of_stream : (side : Side) (part : Part) (x : Name) → is_plain_name x ≡ true → name_role (role_name (stream side part x)) ≡ Some (stream side part x)
of_stream Input Data x h = of_three (codes "in") x (codes "data") h
of_stream Input Valid x h = of_three (codes "in") x (codes "valid") h
of_stream Input Ready x h = of_three (codes "in") x (codes "ready") h
of_stream Output Data x h = of_three (codes "out") x (codes "data") h
of_stream Output Valid x h = of_three (codes "out") x (codes "valid") h
of_stream Output Ready x h = of_three (codes "out") x (codes "ready") h

name_found : (r : RoleView) → is_plain_role r ≡ true → name_role (role_name r) ≡ Some r
name_found clock h = refl
name_found reset h = refl
name_found (hold k) h = of_two (codes "hold") k h
name_found (ticks k) h = of_two (codes "ticks") k h
name_found (scalar k a) h =
    let w = and_parts (is_plain_name k) (is_plain_name a) h in
    ap (λ (l : Name). plain_behind (codes "scalar") (cut l)) (append_assoc k (36 ∷ []) a) ∙ of_three (codes "scalar") k a w.0 ∙ cond-true (is_plain_name a) (Some (scalar k a)) None w.1
name_found (stream side part x) h = of_stream side part x h
name_found done h = refl

same_bit_refl : (a b : Bool) → a ≡ b → same_bit a b ≡ true
same_bit_refl true true e = refl
same_bit_refl true false e = sym e
same_bit_refl false true e = e
same_bit_refl false false e = refl

same_bit_is : (a b : Bool) → same_bit a b ≡ true → a ≡ b
same_bit_is true true e = refl
same_bit_is true false e = sym e
same_bit_is false true e = e
same_bit_is false false e = refl

-- the role of a port is found
pub role_found : (p : PortView) (r : RoleView) → HasRole p r → port_role p ≡ Some r
role_found p r h =
    let e : name_role p.name ≡ Some r = ap name_role h.name ∙ name_found r h.plain in
    let f : fits r p.width p.output ≡ true = and_from (is_width r p.width) (same_bit p.output (is_output r)) h.width (same_bit_refl p.output (is_output r) h.output) in
    ap (fitting p) e ∙ cond-true (fits r p.width p.output) (Some r) None f

-- what a name's role says of it
record Named (n : Name) (r : RoleView) : Type 0 where
  name : n ≡ role_name r
  plain : is_plain_role r ≡ true

named : (n : Name) (x r : RoleView) → n ≡ role_name x → is_plain_role x ≡ true → x ≡ r → Named n r
named n x r e h f = subst (Named n) f (record { name = e; plain = h })

if_some : {A : Type 0} (t : Bool) (x : A) (y : Option A) (z : A) → cond t (Some x) y ≡ Some z → ((t ≡ true) × (x ≡ z)) ⊎ (y ≡ Some z)
if_some true x y z e = inl (refl, cc)
if_some false x y z e = inr e

then_some : {A : Type 0} (t : Bool) (x : Option A) (z : A) → cond t x None ≡ Some z → (t ≡ true) × (x ≡ Some z)
then_some true x z e = (refl, e)
then_some false x z e = absurd (cc)

lone_is : (word : Name) (r : RoleView) → lone_role word ≡ Some r → Named word r
lone_is word r h =
    elim (if_some (bytes_eq word (codes "clk")) clock _ r h) [
      | inl w ↦ named word clock r (bytes_same word (codes "clk") w.0) refl w.1
      | inr i ↦ elim (if_some (bytes_eq word (codes "reset")) reset _ r i) [
        | inl w ↦ named word reset r (bytes_same word (codes "reset") w.0) refl w.1
        | inr j ↦
            let w = then_some (bytes_eq word (codes "done")) (Some done) r j in
            named word done r (bytes_same word (codes "done") w.0) refl (cc)
      ]
    ]

kernel_is : (word k : Name) (r : RoleView) → is_plain_name k ≡ true → kernel_role word k ≡ Some r → Named (word ++ 36 ∷ k) r
kernel_is word k r plain h =
    elim (if_some (bytes_eq word (codes "hold")) (hold k) _ r h) [
      | inl w ↦ named _ (hold k) r (ap (λ l. l ++ 36 ∷ k) (bytes_same word (codes "hold") w.0)) plain w.1
      | inr i ↦
          let w = then_some (bytes_eq word (codes "ticks")) (Some (ticks k)) r i in
          named _ (ticks k) r (ap (λ l. l ++ 36 ∷ k) (bytes_same word (codes "ticks") w.0)) plain (cc)
    ]

side_is : (word : Name) (side : Side) → side_of word ≡ Some side → word ++ 36 ∷ [] ≡ side_front side
side_is word side h =
    elim (if_some (bytes_eq word (codes "in")) Input _ side h) [
      | inl w ↦ ap (λ l. l ++ 36 ∷ []) (bytes_same word (codes "in") w.0) ∙ ap side_front w.1
      | inr i ↦
          let w = then_some (bytes_eq word (codes "out")) (Some Output) side i in
          let e : Output ≡ side = cc in
          ap (λ l. l ++ 36 ∷ []) (bytes_same word (codes "out") w.0) ∙ ap side_front e
    ]

part_is : (word : Name) (part : Part) → part_of word ≡ Some part → 36 ∷ word ≡ part_back part
part_is word part h =
    elim (if_some (bytes_eq word (codes "data")) Data _ part h) [
      | inl w ↦ ap (λ (l : Name). 36 ∷ l) (bytes_same word (codes "data") w.0) ∙ ap part_back w.1
      | inr i ↦ elim (if_some (bytes_eq word (codes "valid")) Valid _ part i) [
        | inl w ↦ ap (λ (l : Name). 36 ∷ l) (bytes_same word (codes "valid") w.0) ∙ ap part_back w.1
        | inr j ↦
            let w = then_some (bytes_eq word (codes "ready")) (Some Ready) part j in
            let e : Ready ≡ part = cc in
            ap (λ (l : Name). 36 ∷ l) (bytes_same word (codes "ready") w.0) ∙ ap part_back e
      ]
    ]

stream_is : (word x back : Name) (side : Option Side) (part : Option Part) (r : RoleView)
    → is_plain_name x ≡ true → side_of word ≡ side → part_of back ≡ part
    → of_side_and_part side part x ≡ Some r → Named (word ++ 36 ∷ (x ++ 36 ∷ back)) r
stream_is word x back None part r plain e f h = absurd (cc)
stream_is word x back (Some side) None r plain e f h = absurd (cc)
stream_is word x back (Some side) (Some part) r plain e f h =
    let g : word ++ 36 ∷ (x ++ 36 ∷ back) ≡ side_front side ++ x ++ part_back part =
    sym (append_assoc word (36 ∷ []) (x ++ 36 ∷ back))
    ∙ ap (λ l. l ++ (x ++ 36 ∷ back)) (side_is word side e)
    ∙ ap (λ (l : Name). side_front side ++ (x ++ l)) (part_is back part f)
    ∙ sym (append_assoc (side_front side) x (part_back part)) in
    named _ (stream side part x) r g plain (cc)

inner_is : (word x back : Name) (r : RoleView) → is_plain_name x ≡ true → inner_role word x back ≡ Some r → Named (word ++ 36 ∷ (x ++ 36 ∷ back)) r
inner_is word x back r plain h = by_test (bytes_eq word (codes "scalar")) refl h
  where
    by_test : (t : Bool) → bytes_eq word (codes "scalar") ≡ t
        → cond t (cond (is_plain_name back) (Some (scalar x back)) None)
        (of_side_and_part (side_of word) (part_of back) x) ≡ Some r
        → Named (word ++ 36 ∷ (x ++ 36 ∷ back)) r
    by_test true e f =
        let w = then_some (is_plain_name back) (Some (scalar x back)) r f in
        let g : word ++ 36 ∷ (x ++ 36 ∷ back) ≡ role_name (scalar x back) =
        ap (λ (l : Name). l ++ 36 ∷ (x ++ 36 ∷ back)) (bytes_same word (codes "scalar") e)
        ∙ ap (λ (l : Name). codes "scalar$" ++ l) (sym (append_assoc x (36 ∷ []) back)) in
        named _ (scalar x back) r g (and_from (is_plain_name x) (is_plain_name back) plain w.0) (cc)
    by_test false e f = stream_is word x back (side_of word) (part_of back) r plain refl refl f

behind_is : (word x : Name) (rest : Option Name) (r : RoleView) → is_plain_name x ≡ true → behind word x rest ≡ Some r → Named (word ++ 36 ∷ joined x rest) r
behind_is word x None r plain h = kernel_is word x r plain h
behind_is word x (Some back) r plain h = inner_is word x back r plain h

cut_is : (word : Name) (rest : Option Name) (r : RoleView) → cut_role word rest ≡ Some r → Named (joined word rest) r
cut_is word None r h = lone_is word r h
cut_is word (Some rest) r h =
    let w = then_some (is_plain_name (cut rest).head) (behind word (cut rest).head (cut rest).rest) r h in
    subst (λ (l : Name). Named (word ++ 36 ∷ l) r) (sym (uncut rest)) (behind_is word (cut rest).head (cut rest).rest r w.0 w.1)

name_is : (n : Name) (r : RoleView) → name_role n ≡ Some r → Named n r
name_is n r h = subst (λ (l : Name). Named l r) (sym (uncut n)) (cut_is (cut n).head (cut n).rest r h)

-- what the test finds is the role of the port
fitting_is : (p : PortView) (o : Option RoleView) (r : RoleView) → name_role p.name ≡ o → fitting p o ≡ Some r → HasRole p r
fitting_is p None r e h = absurd (cc)
fitting_is p (Some x) r e h =
    let w = then_some (fits x p.width p.output) (Some x) r h in
    let same : x ≡ r = cc in
    let n = name_is p.name x e in
    let f = and_parts (is_width x p.width) (same_bit p.output (is_output x)) w.0 in
    subst (HasRole p) same (record { plain = n.plain; name = n.name; width = f.0; output = same_bit_is p.output (is_output x) f.1 })

pub role_is : (p : PortView) (r : RoleView) → port_role p ≡ Some r → HasRole p r
role_is p r h = fitting_is p (name_role p.name) r refl h
