-- A text has one list of tokens.
use Rattle.std.proofs.Common.{◌≡◌, ◌∙◌, ℕ, ◌+◌, List, [], ◌∷◌, ◌++◌, true, false, Option, Some, None, length, map, refl, sym, ap, subst, append_assoc, arith, inl, inr}
use Rattle.std.specs.Prelude.{Contains, slice_index_or}
use Rattle.std.proofs.lemmas.List.{append-nil, length-append}
use Rattle.grammar.specs.Tokens.{Reads, IsNext, Gaps, EndsLine, HasNoClose, is_blank}
use Rattle.grammar.proofs.Reading.{two_fronts, same_next}
use Rattle.text_scan.specs.Places.{PlacedToken, ReadsAt}
use Rattle.text_scan.proofs.ByteTests.{clash}
use Rattle.text_scan.proofs.GapLemmas.{same_head, same_tail, slash_star}
use Rattle.text_scan.proofs.Places.{placed}

not_blank : (b n : ℕ) → is_blank b ≡ true → b ≡ n → is_blank n ≡ false → ⊥
not_blank b n h e f = clash h (ap is_blank e ∙ f)

-- the gap at the front of a text, and what is left behind it
abbrev Same : List ℕ → List ℕ → List ℕ → List ℕ → Type 0
Same gap rest other back = (gap ≡ other) × (rest ≡ back)

at_end : (text : List ℕ) (m : ℕ) (more : List ℕ) → slice_index_or (text ++ m ∷ more) (length text) 10 ≡ m
at_end [] m more = refl
at_end (x ∷ text) m more = at_end text m more

-- a line's text goes on up to the line feed
no_more : (more text rest back : List ℕ) → (Contains (text ++ more) 10 → ⊥) → EndsLine rest → rest ≡ more ++ back → more ≡ []
no_more [] text rest back h e f = refl
no_more (m ∷ more) text rest back h (inl nil) f = absurd (cc)
no_more (m ∷ more) text rest back h (inr w) f =
    let first : m ≡ 10 = same_head (sym f ∙ w.1) in
    absurd (h (length text, omega (arith, length-append text (m ∷ more)), at_end text m more ∙ first))

ends_first : (more text rest back : List ℕ) → HasNoClose ((text ++ more) ++ 42 ∷ []) → 42 ∷ 47 ∷ rest ≡ more ++ (42 ∷ 47 ∷ back) → more ≡ []
ends_first [] text rest back h f = refl
ends_first (m ∷ []) text rest back h f = absurd (slash_star (same_head (same_tail f)))
ends_first (m ∷ n ∷ more) text rest back h f =
    let a : m ≡ 42 = sym (same_head f) in
    let b : n ≡ 47 = sym (same_head (same_tail f)) in
    absurd (h text (more ++ 42 ∷ []) (rw (a, b, append_assoc) refl))

lines : (text rest other back : List ℕ) → (Contains text 10 → ⊥) → (Contains other 10 → ⊥) → EndsLine rest → EndsLine back → text ++ rest ≡ other ++ back → Same text rest other back
lines text rest other back h g e f same =
    elim (two_fronts text rest other back same) [
      | inl w ↦ (let (more, p, q) = w in let none = no_more more text rest back
          (λ c. g (subst (λ l. Contains l 10) (sym p) c)) e q in (
            sym (p ∙ ap (λ l. text
                ++ l) none ∙ append-nil text),
            q ∙ ap (λ l. l ++ back) none,
          ))
      | inr w ↦ (let (more, p, q) = w in let none = no_more more other back rest
          (λ c. h (subst (λ l. Contains l 10) (sym p) c)) f q in (
            p ∙ ap (λ l. other
                ++ l) none ∙ append-nil other,
            sym (q ∙ ap (λ l. l ++ rest) none),
          ))
    ]

blocks : (text rest other back : List ℕ) → HasNoClose (text ++ 42 ∷ []) → HasNoClose (other ++ 42 ∷ []) → text ++ (42 ∷ 47 ∷ rest) ≡ other ++ (42 ∷ 47 ∷ back) → Same text rest other back
blocks text rest other back h g same =
    elim (two_fronts text (42 ∷ 47 ∷ rest) other (42 ∷ 47 ∷ back) same) [
      | inl w ↦ (let (more, p, q) = w in let none = ends_first more text rest back
          (subst (λ l. HasNoClose (l ++ 42 ∷ [])) p g) q in (
            sym (p ∙ ap (λ l. text
                ++ l) none ∙ append-nil text),
            same_tail (same_tail (q ∙ ap (λ l. l
                ++ (42 ∷ 47 ∷ back)) none)),
          ))
      | inr w ↦ (let (more, p, q) = w in let none = ends_first more other back rest
          (subst (λ l. HasNoClose (l ++ 42 ∷ [])) p h) q in (
            p ∙ ap (λ l. other
                ++ l) none ∙ append-nil other,
            sym (same_tail (same_tail (q ∙ ap (λ l. l
                ++ (42 ∷ 47 ∷ rest)) none))),
          ))
    ]

pub same_gap : {gap rest other back : List ℕ} → Gaps gap rest → Gaps other back → gap ++ rest ≡ other ++ back → Same gap rest other back
same_gap (Gaps.blank b h) (Gaps.blank c g) e = (ap (λ x. x ∷ []) (same_head e), same_tail e)
same_gap (Gaps.blank b h) (Gaps.line text c f) e = absurd (not_blank b 47 h (same_head e) refl)
same_gap (Gaps.blank b h) (Gaps.block text c) e = absurd (not_blank b 47 h (same_head e) refl)
same_gap (Gaps.line text c f) (Gaps.blank b h) e = absurd (not_blank b 47 h (sym (same_head e)) refl)
same_gap (Gaps.block text c) (Gaps.blank b h) e = absurd (not_blank b 47 h (sym (same_head e)) refl)
same_gap (Gaps.line text c f) (Gaps.block other d) e = absurd (slash_star (same_head (same_tail e)))
same_gap (Gaps.block text c) (Gaps.line other d f) e = absurd (slash_star (sym (same_head (same_tail e))))
same_gap {rest = rest} {back = back} (Gaps.line text c f) (Gaps.line other d g) e = let r = lines text rest other back c d f g (same_tail (same_tail e)) in (ap (λ l. 47 ∷ 47 ∷ l) r.0, r.1)
same_gap {rest = rest} {back = back} (Gaps.block text c) (Gaps.block other d) e =
    let r = blocks text rest other back c d (sym (append_assoc text (42 ∷ 47 ∷ []) rest) ∙ same_tail (same_tail e) ∙ append_assoc other (42 ∷ 47 ∷ []) back) in
    (ap (λ l. 47 ∷ 42 ∷ l ++ 42 ∷ 47 ∷ []) r.0, r.1)

pub some_gap : {gap rest : List ℕ} → Gaps gap rest → gap ≡ [] → ⊥
some_gap (Gaps.blank b h) e = cc
some_gap (Gaps.line text c f) e = cc
some_gap (Gaps.block text c) e = cc

-- readings

pub nil_front : (a b : List ℕ) → [] ≡ a ++ b → a ≡ []
nil_front [] b e = refl
nil_front (x ∷ a) b e = absurd (cc)

pub same_some : {A : Type 0} {x y : A} → Some x ≡ Some y → x ≡ y
same_some e = cc

module _ {T : Type 0} {token_of : List ℕ → Option T} {Apart : T → List ℕ → Type 0} (empty : token_of [] ≡ None) where
  some_word : {word rest : List ℕ} {t : T} → IsNext Gaps token_of Apart word rest t → word ≡ [] → ⊥
  some_word {t = t} n e = let f : Some t ≡ None = sym n.is ∙ ap token_of e ∙ empty in absurd (cc)

  -- what is read of a text after what was read of it
  rest_of : {m n : ℕ} {xs ys left : List ℕ} {ts us : List (PlacedToken T)}
      → ReadsAt token_of Apart n xs ts left → ReadsAt token_of Apart m ys us [] → n ≡ m
      → xs ≡ ys → (vs : List (PlacedToken T)) × (us ≡ ts ++ vs) × (k : ℕ)
      × ReadsAt token_of Apart k left vs []
  rest_of {m = m} {ys = ys} {us = us} ReadsAt.end s p e = (us, refl, m, subst (λ l. ReadsAt token_of Apart m l us []) (sym e) s)
  rest_of (ReadsAt.skip {rest = rest} gap g r) ReadsAt.end p e = absurd (some_gap g (nil_front gap rest (sym e)))
  rest_of {m = m} {n = n} (ReadsAt.skip gap g r) (ReadsAt.skip other h s) p e =
      let same = same_gap g h e in
      rest_of {m = m + length other} {n = n + length gap} r s (ap (λ k. k + length gap) p ∙ ap (λ l. m + length l) same.0) same.1
  rest_of (ReadsAt.skip {rest = rest} gap g r) (ReadsAt.token word n s) p e = absurd (n.begins gap rest (sym e) g)
  rest_of (ReadsAt.token {rest = rest} word n r) ReadsAt.end p e = absurd (some_word n (nil_front word rest (sym e)))
  rest_of (ReadsAt.token word n r) (ReadsAt.skip {rest = rest} gap g s) p e = absurd (n.begins gap rest e g)
  rest_of {m = j} {n = i} (ReadsAt.token {t = t} word n r) (ReadsAt.token {t = u} {ts = others} other m s) p e =
      let same = same_next Gaps token_of Apart n m e in
      let (vs, q, k, w) = rest_of {m = j + length other} {n = i + length word} r s (ap (λ k. k + length word) p ∙ ap (λ l. j + length l) same.0) same.1 in
      let f : Some t ≡ Some u = sym n.is ∙ ap token_of same.0 ∙ m.is in
      let token : u ≡ t = same_some (sym f) in
      (vs, ap (λ x. record { token = x; place = j } ∷ others) token ∙ ap (λ x. record { token = t; place = x } ∷ others) (sym p) ∙ ap (λ l. record { token = t; place = i } ∷ l) q, k, w)

  -- nothing is read of nothing
  none_of : {k : ℕ} {xs : List ℕ} {vs : List (PlacedToken T)} → ReadsAt token_of Apart k xs vs [] → xs ≡ [] → vs ≡ []
  none_of ReadsAt.end e = refl
  none_of (ReadsAt.skip {rest = rest} gap g r) e = absurd (some_gap g (nil_front gap rest (sym e)))
  none_of (ReadsAt.token {rest = rest} word n r) e = absurd (some_word n (nil_front word rest (sym e)))

  pub one_reading : {bytes : List ℕ} {ts us : List (PlacedToken T)} → ReadsAt token_of Apart 0 bytes ts [] → ReadsAt token_of Apart 0 bytes us [] → us ≡ ts
  one_reading {ts = ts} r s = let (vs, e, k, w) = rest_of r s refl refl in e ∙ ap (λ l. ts ++ l) (none_of w refl) ∙ append-nil ts

  -- the same without places
  pub one_list : {bytes : List ℕ} {ts us : List T} → Reads Gaps token_of Apart bytes ts [] → Reads Gaps token_of Apart bytes us [] → us ≡ ts
  one_list r s =
      let (ps, e, a) = placed 0 r in
      let (qs, f, b) = placed 0 s in
      sym f ∙ ap (map (λ (p : PlacedToken T). p.token)) (one_reading a b) ∙ e

  -- a text that is read to its end is read to its end from each place on
  pub rest_behind : {bytes left : List ℕ} {ts us : List T}
      → Reads Gaps token_of Apart bytes ts left → Reads Gaps token_of Apart bytes us []
      → (vs : List (PlacedToken T)) × (k : ℕ) × ReadsAt token_of Apart k left vs []
  rest_behind r s =
      let (ps, e, a) = placed 0 r in
      let (qs, f, b) = placed 0 s in
      let (vs, g, k, w) = rest_of a b refl refl in
      (vs, k, w)
