-- Scalars kernel by kernel: the first kernel of a scalar's name leaves the most to those behind.
use Rattle.std.proofs.Common.{◌≡◌, ◌∙◌, inl, inr, ℕ, Bool, true, false, cond, ◌&&◌, List, [], ◌∷◌, Some, refl, ap, subst}
use Rattle.std.specs.List.{list_all, list_any}
use Rattle.std.specs.Str.{bytes_eq}
use Rattle.std.proofs.lemmas.Bool.{and_parts, and_from, or_left, or_right, or_cases}
use Rattle.rtl_ir.specs.Ports.{is_plain_name}
use Rattle.top_ports.specs.Shapes.{Name, AreByKernel, none, own, next}
use Rattle.top_ports.specs.Stages.{after_scalar, from_kernel}
use Rattle.top_ports.proofs.CutLemmas.{bytes_same, bytes_refl}

abbrev pub Scalar : Type 0
Scalar = Name × Name × ℕ

-- each scalar's kernel is found from that of the scalar before on
abbrev pub AreFound : List Name → List Scalar → Type 0
AreFound ks [] = Unit
AreFound ks (s ∷ ss) = (js : List Name) × (from_kernel ks s.0 ≡ Some (after_scalar js)) × AreFound js ss

-- more kernels before
abbrev Widens : List Scalar → Type 0
Widens ss = (k : Name) (ks : List Name) → AreFound ks ss → AreFound (k ∷ ks) ss

from_more : (ss : List Scalar) → Widens ss → (ks js : List Name) (name : Name) → from_kernel ks name ≡ Some (after_scalar js) → AreFound js ss → AreFound ks ss
from_more ss widens [] js name e h = absurd (cc)
from_more ss widens (k ∷ ks) js name e h = by_test (λ f. from_more ss widens ks js name f h) (bytes_eq k name) e
  where
    by_test : (from_kernel ks name ≡ Some (after_scalar js) → AreFound ks ss) → (t : Bool) → cond t (Some (after_scalar (k ∷ ks))) (from_kernel ks name) ≡ Some (after_scalar js) → AreFound (k ∷ ks) ss
    by_test more true f = let same : js ≡ k ∷ ks = cc in subst (λ (l : List Name). AreFound l ss) same h
    by_test more false f = widens k ks (more f)

widens_all : (ss : List Scalar) → Widens ss
widens_all [] k ks h = tt
widens_all (s ∷ ss) k ks h = by_test (widens_all ss) (bytes_eq k s.0) refl
  where
    by_test : Widens ss → (t : Bool) → bytes_eq k s.0 ≡ t → AreFound (k ∷ ks) (s ∷ ss)
    by_test widens true e = (k ∷ ks, ap (λ (x : Bool). cond x (Some (after_scalar (k ∷ ks))) (from_kernel ks s.0)) e, widens k ks (from_more ss widens ks h.0 s.0 h.1 h.2))
    by_test widens false e = (h.0, ap (λ (x : Bool). cond x (Some (after_scalar (k ∷ ks))) (from_kernel ks s.0)) e ∙ h.1, h.2)

first_is : (k : Name) (ks : List Name) → from_kernel (k ∷ ks) k ≡ Some (after_scalar (k ∷ ks))
first_is k ks = ap (λ (x : Bool). cond x (Some (after_scalar (k ∷ ks))) (from_kernel ks k)) (bytes_refl k)

pub are_found : (ks : List Name) (ss : List Scalar) → AreByKernel ks ss → AreFound ks ss
are_found ks ss none = tt
are_found ks ss (own {k} {ks = js} {scalars} name width h) = (k ∷ js, first_is k js, are_found (k ∷ js) scalars h)
are_found ks ss (next {k} {ks = js} h) = widens_all ss k js (are_found js ss h)

found_one : (s : Scalar) (ss : List Scalar) (ks js : List Name) → from_kernel ks s.0 ≡ Some (after_scalar js) → AreByKernel js ss → AreByKernel ks (s ∷ ss)
found_one s ss [] js e h = absurd (cc)
found_one s ss (k ∷ ks) js e h = by_test (λ g. found_one s ss ks js g h) (bytes_eq k s.0) refl e
  where
    by_test : (from_kernel ks s.0 ≡ Some (after_scalar js) → AreByKernel ks (s ∷ ss))
        → (t : Bool) → bytes_eq k s.0 ≡ t → cond t (Some (after_scalar (k
        ∷ ks))) (from_kernel ks s.0) ≡ Some (after_scalar js) → AreByKernel (k ∷ ks) (s ∷ ss)
    by_test more true f g =
        let same : js ≡ k ∷ ks = cc in
        let d : AreByKernel (k ∷ ks) ss = subst (λ (l : List Name). AreByKernel l ss) same h in
        let of = λ (n : Name). AreByKernel (k ∷ ks) ((n, s.1, s.2) ∷ ss) in
        subst of (bytes_same k s.0 f) (own s.1 s.2 d)
    by_test more false f g = next (more g)

pub by_kernel : (ks : List Name) (ss : List Scalar) → AreFound ks ss → AreByKernel ks ss
by_kernel ks [] h = none
by_kernel ks (s ∷ ss) h = found_one s ss ks h.0 h.1 (by_kernel h.0 ss h.2)

-- names of scalars and of their kernels
abbrev pub is_plain_scalar : Scalar → Bool
is_plain_scalar s = is_plain_name s.0 && is_plain_name s.1

abbrev pub is_scalar_of : List Name → Scalar → Bool
is_scalar_of ks s = list_any (bytes_eq s.0) ks && is_plain_name s.1

plain_among : (name : Name) (ks : List Name) → list_all is_plain_name ks ≡ true → list_any (bytes_eq name) ks ≡ true → is_plain_name name ≡ true
plain_among name [] h e = absurd (cc)
plain_among name (k ∷ ks) h e =
    let w = and_parts (is_plain_name k) (list_all is_plain_name ks) h in
    elim (or_cases (bytes_eq name k) (list_any (bytes_eq name) ks) e) [
      | inl f ↦ ap is_plain_name (bytes_same name k f) ∙ w.0
      | inr f ↦ plain_among name ks w.1 f
    ]

pub all_plain : (ks : List Name) (ss : List Scalar) → list_all is_plain_name ks ≡ true → list_all (is_scalar_of ks) ss ≡ true → list_all is_plain_scalar ss ≡ true
all_plain ks [] h e = refl
all_plain ks (s ∷ ss) h e =
    let w = and_parts (is_scalar_of ks s) (list_all (is_scalar_of ks) ss) e in
    let v = and_parts (list_any (bytes_eq s.0) ks) (is_plain_name s.1) w.0 in
    and_from (is_plain_scalar s) (list_all is_plain_scalar ss) (and_from (is_plain_name s.0) (is_plain_name s.1) (plain_among s.0 ks h v.0) v.1) (all_plain ks ss h w.1)

more_among : (k : Name) (ks : List Name) (ss : List Scalar) → list_all (is_scalar_of ks) ss ≡ true → list_all (is_scalar_of (k ∷ ks)) ss ≡ true
more_among k ks [] h = refl
more_among k ks (s ∷ ss) h =
    let w = and_parts (is_scalar_of ks s) (list_all (is_scalar_of ks) ss) h in
    let v = and_parts (list_any (bytes_eq s.0) ks) (is_plain_name s.1) w.0 in
    and_from (is_scalar_of (k ∷ ks) s) (list_all (is_scalar_of (k
    ∷ ks)) ss) (and_from (list_any (bytes_eq s.0) (k
    ∷ ks)) (is_plain_name s.1) (or_right (bytes_eq s.0 k)
    (list_any (bytes_eq s.0) ks) v.0) v.1) (more_among k ks ss w.1)

pub all_among : (ks : List Name) (ss : List Scalar) → AreByKernel ks ss → list_all is_plain_scalar ss ≡ true → list_all (is_scalar_of ks) ss ≡ true
all_among ks ss none h = refl
all_among ks ss (own {k} {ks = js} {scalars} name width d) h =
    let w = and_parts (is_plain_name k && is_plain_name name) (list_all is_plain_scalar scalars) h in
    let v = and_parts (is_plain_name k) (is_plain_name name) w.0 in
    and_from (list_any (bytes_eq k) (k ∷ js) && is_plain_name name) (list_all (is_scalar_of (k
    ∷ js)) scalars) (and_from (list_any (bytes_eq k) (k
    ∷ js)) (is_plain_name name) (or_left (bytes_eq k k) (list_any (bytes_eq k) js)
    (bytes_refl k)) v.1) (all_among (k ∷ js) scalars d w.1)
all_among ks ss (next {k} {ks = js} d) h = more_among k js ss (all_among js ss d h)
