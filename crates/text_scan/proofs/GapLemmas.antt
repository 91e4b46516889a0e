-- White space and comments at the front of a text.
use Rattle.std.proofs.Common.{◌≡◌, ◌∙◌, ℕ, ◌<◌, ◌==◌, not, Bool, true, false, List, [], ◌∷◌, ◌++◌, length, drop, slice_index_or, refl, sym, ap, arith, append_assoc, length-append, inl, inr, zero, suc}
use Rattle.std.specs.List.{list_all}
use Rattle.grammar.specs.Tokens.{HasNoClose, Gaps, EndsLine, is_blank}
use Rattle.grammar.proofs.Reading.{two_fronts}
use Rattle.text_scan.specs.Classes.{is_in, BeginsOutside}
use Rattle.text_scan.specs.Gaps.{Skips, BeginsNoGap}
use Rattle.text_scan.specs.declared.bytes.ByteClass.TheVariants.{NotLineFeed}
use Rattle.text_scan.proofs.ByteTests.{and_true, clash, eq_same}

pub same_head : {a b : ℕ} {xs ys : List ℕ} → a ∷ xs ≡ b ∷ ys → a ≡ b
same_head e = cc

pub same_tail : {a b : ℕ} {xs ys : List ℕ} → a ∷ xs ≡ b ∷ ys → xs ≡ ys
same_tail e = cc

pub slash_star : ◌≡◌ {A = ℕ} 47 42 → ⊥
slash_star e = let f : (42 == 47) ≡ (47 == 47) = ap (λ x. x == 47) (sym e) in clash f refl

drop_front : (a b : List ℕ) → drop (length a) (a ++ b) ≡ b
drop_front [] b = refl
drop_front (x ∷ a) b = drop_front a b

-- no `*/` begins before the end of the front
pub no_close : (text front back : List ℕ) → text ≡ front ++ back → ((k : ℕ) → k < length front → (rest : List ℕ) → drop k text ≡ 42 ∷ 47 ∷ rest → ⊥) → HasNoClose (front ++ 42 ∷ [])
no_close text front back e none before after f =
    elim (two_fronts front (42 ∷ []) before (42 ∷ 47 ∷ after) f) [
      | inl w ↦ (let (m, _, q) = w in over m q)
      | inr w ↦ (let (m, p, q) = w in within m p q)
    ]
  where
    over : (m : List ℕ) → 42 ∷ [] ≡ m ++ (42 ∷ 47 ∷ after) → ⊥
    over m q = absurd (omega (arith, ap length q, length-append m (42 ∷ 47 ∷ after)))

    within : (m : List ℕ) → front ≡ before ++ m → 42 ∷ 47 ∷ after ≡ m ++ 42 ∷ [] → ⊥
    within [] p q = absurd (omega (arith, ap length q))
    within (x ∷ []) p q = slash_star (same_head (same_tail q))
    within (x ∷ y ∷ m) p q =
        let a : x ≡ 42 = sym (same_head q) in
        let b : y ≡ 47 = sym (same_head (same_tail q)) in
        let here : text ≡ before ++ (42 ∷ 47 ∷ (m ++ back)) = e ∙ ap (λ l. l ++ back) p ∙ (rw (append_assoc, a, b) refl) in
        none (length before) (omega (arith, ap length p, length-append before (x ∷ y ∷ m))) (m ++ back) (ap (drop (length before)) here ∙ drop_front before (42 ∷ 47 ∷ m ++ back))

pub no_close_at_all : (text : List ℕ) → ((k : ℕ) → k < length text → (rest : List ℕ) → drop k text ≡ 42 ∷ 47 ∷ rest → ⊥) → HasNoClose text
no_close_at_all text none before after f =
    none (length before) (omega (arith, ap length f, length-append before (42 ∷ 47 ∷ after))) after (ap (drop (length before)) f ∙ drop_front before (42 ∷ 47 ∷ after))

-- comments

is_feed : (b : ℕ) → not (b == 10) ≡ false → b ≡ 10
is_feed b e = eq_same b 10 (turned (b == 10) e)
  where
    turned : (t : Bool) → not t ≡ false → t ≡ true
    turned true e = refl
    turned false e = cc

no_feed : (text : List ℕ) (k d : ℕ) → list_all (is_in NotLineFeed) text ≡ true → k < length text → slice_index_or text k d ≡ 10 → ⊥
no_feed [] k d e h f = absurd (omega arith)
no_feed (b ∷ bs) zero d e h f = let first : not (b == 10) ≡ true = (and_true (not (b == 10)) _ e).0 in clash (sym (ap (λ x. not (x == 10)) f) ∙ first) refl
no_feed (b ∷ bs) (suc k) d e h f = no_feed bs k d (and_true (not (b == 10)) _ e).1 (omega arith) f

pub line_skipped : (text line front rest : List ℕ) → text ≡ 47 ∷ 47 ∷ line → line ≡ front ++ rest → list_all (is_in NotLineFeed) front ≡ true → BeginsOutside NotLineFeed rest → Skips text rest
line_skipped text line front rest e f all o = (47 ∷ 47 ∷ front, e ∙ ap (λ l. 47 ∷ 47 ∷ l) f, Gaps.line front (λ c. no_feed front c.0 10 all c.1 c.2) (ends rest o))
  where
    ends : (rest : List ℕ) → BeginsOutside NotLineFeed rest → EndsLine rest
    ends [] o = inl refl
    ends (b ∷ bs) o = inr (bs, ap (λ x. x ∷ bs) (is_feed b o))

pub block_skipped : (text block front rest : List ℕ) → text ≡ 47 ∷ 42 ∷ block → block ≡ front ++ 42 ∷ 47 ∷ rest → HasNoClose (front ++ 42 ∷ []) → Skips text rest
block_skipped text block front rest e f unclosed =
    (47 ∷ 42 ∷ front ++ 42 ∷ 47 ∷ [], e ∙ ap (λ l. 47 ∷ 42 ∷ l) f ∙ (rw append_assoc refl), Gaps.block front unclosed)

pub blank_skipped : (text : List ℕ) (b : ℕ) (rest : List ℕ) → text ≡ b ∷ rest → is_blank b ≡ true → Skips text rest
blank_skipped text b rest e h = (b ∷ [], e, Gaps.blank b h)

-- no gap

pub open_comment : (text block : List ℕ) → text ≡ 47 ∷ 42 ∷ block → HasNoClose block → BeginsNoGap text
open_comment text block e unclosed gap rest f (Gaps.blank b h) = let same : b ≡ 47 = same_head (sym f ∙ e) in clash (sym (ap is_blank same) ∙ h) refl
open_comment text block e unclosed gap rest f (Gaps.line t c h) = slash_star (same_head (same_tail (sym f ∙ e)))
open_comment text block e unclosed gap rest f (Gaps.block t c) =
    unclosed t rest (same_tail (same_tail (sym e ∙ f)) ∙ append_assoc t (42 ∷ 47 ∷ []) rest)

pub no_gap : (text : List ℕ) → ((rest : List ℕ) → text ≡ 47 ∷ 47 ∷ rest → ⊥)
    → ((rest : List ℕ) → text ≡ 47 ∷ 42 ∷ rest → ⊥) → ((b : ℕ) (rest : List ℕ) → text ≡ b ∷ rest
    → is_blank b ≡ false) → BeginsNoGap text
no_gap text line block blank gap rest f (Gaps.blank b h) = clash h (blank b rest f)
no_gap text line block blank gap rest f (Gaps.line t c h) = line (t ++ rest) f
no_gap text line block blank gap rest f (Gaps.block t c) = block ((t ++ 42 ∷ 47 ∷ []) ++ rest) f
