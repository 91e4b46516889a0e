-- Spans of tokens, and what the parser reads of a list of them.
use Rattle.std.proofs.Common.{◌≡◌, ℕ, zero, suc, ◌+◌, ◌-◌, ◌<◌, ◌≤◌, List, [], ◌∷◌, refl, sym, ap, subst, ◌∙◌, arith, take, drop, length, get_or, slice_get, Some, None}
use Rattle.std.specs.List.{All}
use Rattle.std.proofs.lemmas.List.{length-drop}
use Rattle.std.proofs.lemmas.Option.{get_or_from_slice_get, slice_get_within}
use Rattle.maxj_tokens.specs.Scanning.{PlacedToken, from_of, to_of, span_of}
use Rattle.maxj_syntax.specs.Building.{EndsIn}

to_last : (n : ℕ) (ts : List PlacedToken) (d : PlacedToken) → n < length ts → to_of (take (suc n) ts) ≡ to_of (get_or ts n d ∷ [])
to_last zero [] d h = absurd (omega (arith, h))
to_last zero (t ∷ ts) d h = refl
to_last (suc n) [] d h = absurd (omega (arith, h))
to_last (suc n) (t ∷ []) d h = absurd (omega (arith, h))
to_last (suc n) (t ∷ u ∷ ts) d h = to_last n (u ∷ ts) d (omega (arith, h))

from_first : (n : ℕ) (ts : List PlacedToken) (d : PlacedToken) → 0 < length ts → from_of (take (suc n) ts) ≡ (get_or ts 0 d).place
from_first n [] d h = absurd (omega (arith, h))
from_first n (t ∷ ts) d h = refl

get_drop : (s n : ℕ) (ts : List PlacedToken) (d : PlacedToken) → get_or (drop s ts) n d ≡ get_or ts (s + n) d
get_drop zero n ts d = ap (λ m. get_or ts m d) (omega arith)
get_drop (suc s) n [] d = refl
get_drop (suc s) n (t ∷ ts) d = let e : suc s + n ≡ suc (s + n) = omega arith in get_drop s n ts d ∙ ap (λ m. get_or (t ∷ ts) m d) (sym e)

span_is : (ts : List PlacedToken) (s e : ℕ) (d : PlacedToken) (x : ℕ) → s < e → e ≤ length ts
    → x ≡ to_of (get_or ts (e - 1) d ∷ [])
    → record { from = (get_or ts s d).place; to = x } ≡ span_of (take (e - s) (drop s ts))
span_is ts s e d x h k f =
    let n : e - s ≡ suc (e - s - 1) = omega (arith, h) in
    let l = length-drop s ts in
    let a = from_first (e - s - 1) (drop s ts) d (omega (arith, h, k, l)) in
    let b = to_last (e - s - 1) (drop s ts) d (omega (arith, h, k, l)) in
    let g = get_drop s 0 ts d in
    let o = get_drop s (e - s - 1) ts d in
    let i : s + 0 ≡ s = omega arith in
    let j : s + (e - s - 1) ≡ e - 1 = omega (arith, h) in
    let p : from_of (take (e - s) (drop s ts)) ≡ (get_or ts s d).place = ap (λ m. from_of (take m (drop s ts))) n ∙ a ∙ ap (λ t. t.place) g ∙ ap (λ m. (get_or ts m d).place) i in
    let q : to_of (take (e - s) (drop s ts)) ≡ x = ap (λ m. to_of (take m (drop s ts))) n ∙ b ∙ ap (λ t. to_of (t ∷ [])) o ∙ ap (λ m. to_of (get_or ts m d ∷ [])) j ∙ sym f in
    sym (ap (λ m. record { from = m; to = to_of (take (e - s) (drop s ts)) }) p ∙ ap (λ m. record { from = (get_or ts s d).place; to = m }) q)

pub span_view : (ts : List PlacedToken) (s e : ℕ) (first last : PlacedToken) (x : ℕ) → s < e
    → e ≤ length ts → slice_get ts s ≡ Some first → slice_get ts (e - 1) ≡ Some last
    → x ≡ to_of (last ∷ []) → record { from = first.place; to = x } ≡ span_of
    (take (e - s) (drop s ts))
span_view ts s e first last x h k f l i =
    let a = get_or_from_slice_get ts s first first f in
    let b = get_or_from_slice_get ts (e - 1) last first l in
    ap (λ t. record { from = t.place; to = x }) (sym a) ∙ span_is ts s e first x h k (i ∙ ap (λ t. to_of (t ∷ [])) (sym b))

pub ends_at : (ts : List PlacedToken) (n : ℕ) (t : PlacedToken) → slice_get ts n ≡ Some t → All EndsIn ts → EndsIn t
ends_at ts n t e a = subst EndsIn (get_or_from_slice_get ts n t t e) (a n t (slice_get_within ts n t e))

pub head_at : (ts : List PlacedToken) (n : ℕ) (t : PlacedToken) → Some t ≡ slice_get ts n → from_of (drop n ts) ≡ t.place
head_at [] zero t e = absurd (cc)
head_at [] (suc n) t e = absurd (cc)
head_at (x ∷ ts) zero t e = let same : t ≡ x = cc in ap (λ y. y.place) (sym same)
head_at (x ∷ ts) (suc n) t e = head_at ts n t e

pub head_past : (ts : List PlacedToken) (n : ℕ) → None ≡ slice_get ts n → from_of (drop n ts) ≡ 0
head_past [] zero e = refl
head_past [] (suc n) e = refl
head_past (t ∷ ts) zero e = absurd (cc)
head_past (t ∷ ts) (suc n) e = head_past ts n e
