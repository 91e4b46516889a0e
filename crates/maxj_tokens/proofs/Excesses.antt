-- Signs that are open, and tokens behind the last `;`, `{` or `}`.
use Rattle.std.proofs.Common.{◌≡◌, ◌∙◌, inl, inr, ℕ, zero, suc, ◌+◌, ◌-◌, ◌<◌, ◌≤◌, Bool, true}
use Rattle.std.proofs.Common.{false, List, [], ◌∷◌, ◌++◌, Option, Some, None, length, slice_get}
use Rattle.std.proofs.Common.{take, refl, sym, ap, subst, append_assoc, arith, length-append}
use Rattle.std.specs.Prelude.{if◌then◌else◌}
use Rattle.std.specs.Int.{from_bool}
use Rattle.std.specs.List.{list_any}
use Rattle.std.proofs.lemmas.List.Folds.{list_any-append}
use Rattle.grammar.proofs.Reading.{two_fronts}
use Rattle.maxj_tokens.specs.Scanning.{PlacedToken}
use Rattle.maxj_tokens.specs.Faults.{IsFirst, HasNone, IsExcess, count_of, is_opening, is_closing, is_break, IsTooDeep, IsTooFar}
use Rattle.text_scan.proofs.ByteTests.{or_right, or_left, clash}
use Rattle.maxj_tokens.proofs.FirstFaults.{none_of_none, front_more, first_at, none_at}

-- counts

count_later : (b : Bool) (m n k : ℕ) → m ≡ n + k → (if b then 1 + m else m) ≡ (if b then 1 + n else n) + k
count_later true m n k e = omega arith
count_later false m n k e = e

count_here : (b : Bool) → (if b then 1 + 0 else 0) ≡ 0 + from_bool b
count_here true = refl
count_here false = refl

pub count_more : (is : PlacedToken → Bool) (ts : List PlacedToken) (t : PlacedToken) → count_of is (ts ++ t ∷ []) ≡ count_of is ts + from_bool (is t)
count_more is [] t = count_here (is t)
count_more is (x ∷ ts) t = count_later (is x) (count_of is (ts ++ t ∷ [])) (count_of is ts) (from_bool (is t)) (count_more is ts t)

count_fits : (b : Bool) (m n : ℕ) → m ≤ n → (if b then 1 + m else m) ≤ suc n
count_fits true m n h = omega arith
count_fits false m n h = omega arith

-- no more are such than there are
pub count_within : (is : PlacedToken → Bool) (ts : List PlacedToken) (i : ℕ) → count_of is (take i ts) ≤ i
count_within is [] zero = omega arith
count_within is [] (suc i) = omega arith
count_within is (t ∷ ts) zero = omega arith
count_within is (t ∷ ts) (suc i) = count_fits (is t) (count_of is (take i ts)) i (count_within is ts i)

pub byte_fits : (b : Bool) → from_bool b ≤ 1
byte_fits true = omega arith
byte_fits false = omega arith

-- the token stands too deep exactly where the counts with it say so
pub deep : (ts : List PlacedToken) (t : PlacedToken) (opened closed : ℕ)
    → opened ≡ count_of is_opening ts + from_bool (is_opening t)
    → closed ≡ count_of is_closing ts + from_bool (is_closing t) → 200 < opened - closed
    → IsTooDeep ts t
deep ts t opened closed e f h =
    let o = count_more is_opening ts t in
    let c = count_more is_closing ts t in
    omega arith

pub not_deep : (ts : List PlacedToken) (t : PlacedToken) (opened closed : ℕ)
    → opened ≡ count_of is_opening ts + from_bool (is_opening t)
    → closed ≡ count_of is_closing ts + from_bool (is_closing t) → opened - closed ≤ 200
    → IsTooDeep ts t → ⊥
not_deep ts t opened closed e f h d =
    let o = count_more is_opening ts t in
    let c = count_more is_closing ts t in
    omega arith

-- tokens behind the last break

-- so many tokens stand behind the last break
pub record IsBehind (ts : List PlacedToken) (n : ℕ) : Type 0 where
  pub earlier : List PlacedToken
  pub last : PlacedToken
  pub between : List PlacedToken
  pub split : ts ≡ earlier ++ last ∷ between
  pub broken : is_break last ≡ true
  pub unbroken : list_any is_break between ≡ false
  pub size : length between ≡ n

-- so many, or there was no break
abbrev pub Behind : List PlacedToken → Option ℕ → Type 0
Behind ts None = list_any is_break ts ≡ false
Behind ts (Some n) = IsBehind ts n

none_more : (ts : List PlacedToken) (t : PlacedToken) → list_any is_break ts ≡ false → is_break t ≡ false → list_any is_break (ts ++ t ∷ []) ≡ false
none_more ts t e f = rw (list_any-append, e, f) refl

pub none_behind : (ts : List PlacedToken) (t : PlacedToken) → Behind ts None → is_break t ≡ false → Behind (ts ++ t ∷ []) None
none_behind ts t e f = none_more ts t e f

pub one_behind : (ts : List PlacedToken) (t : PlacedToken) (n : ℕ) → Behind ts (Some n) → is_break t ≡ false → Behind (ts ++ t ∷ []) (Some (n + 1))
one_behind ts t n b f = record {
  earlier = b.earlier;
  last = b.last;
  between = b.between ++ t ∷ [];
  split = ap (λ l. l ++ t ∷ []) b.split ∙ append_assoc b.earlier (b.last ∷ b.between) (t ∷ []);
  broken = b.broken;
  unbroken = none_more b.between t b.unbroken f;
  size = (let s = b.size in omega (arith, length-append b.between (t ∷ [])));
}

pub break_behind : (ts : List PlacedToken) (t : PlacedToken) → is_break t ≡ true → Behind (ts ++ t ∷ []) (Some 0)
break_behind ts t f = record { earlier = ts; last = t; between = []; split = refl; broken = f; unbroken = refl; size = refl }

length-front : (ts : List PlacedToken) (i : ℕ) → length (take i ts) ≤ i
length-front [] zero = omega arith
length-front [] (suc i) = omega arith
length-front (t ∷ ts) zero = omega arith
length-front (t ∷ ts) (suc i) = let h = length-front ts i in omega arith

pub behind_within : (ts : List PlacedToken) (i n : ℕ) → Behind (take i ts) (Some n) → n ≤ i
behind_within ts i n b = let h = length-front ts i in omega (arith, ap length b.split, length-append b.earlier (b.last ∷ b.between), b.size)

pub far : (ts : List PlacedToken) (t : PlacedToken) (n : ℕ) → Behind ts (Some n) → 2000 < n → is_break t ≡ true → IsTooFar ts t
far ts t n b h f = record { earlier = b.earlier; last = b.last; between = b.between; split = b.split; broken = b.broken; unbroken = b.unbroken; long = (let s = b.size in omega arith); breaks = f }

pub no_break : (ts : List PlacedToken) (t : PlacedToken) → is_break t ≡ false → IsTooFar ts t → ⊥
no_break ts t e f = clash f.breaks e

any_there : (front : List PlacedToken) (t : PlacedToken) (back : List PlacedToken) → is_break t ≡ true → list_any is_break (front ++ t ∷ back) ≡ true
any_there front t back e = list_any-append is_break front (t ∷ back) ∙ or_right (list_any is_break front) _ (or_left (is_break t) _ e)

pub first_break : (ts : List PlacedToken) (t : PlacedToken) → Behind ts None → IsTooFar ts t → ⊥
first_break ts t e f = clash (ap (list_any is_break) f.split ∙ any_there f.earlier f.last f.between f.broken) e

-- what stands behind the last break is one list
same_behind : (a c b d : List PlacedToken) (x y : PlacedToken) → a ++ x ∷ b ≡ c ++ y ∷ d → is_break x ≡ true → is_break y ≡ true → list_any is_break b ≡ false → list_any is_break d ≡ false → b ≡ d
same_behind a c b d x y e f g p q =
    elim (two_fronts a (x ∷ b) c (y ∷ d) e) [
      | inl w ↦ (let (m, _, r) = w in ends m b d x y r g p)
      | inr w ↦ (let (m, _, r) = w in sym (ends m d b y x r f q))
    ]
  where
    ends : (m b d : List PlacedToken) (x y : PlacedToken) → x ∷ b ≡ m ++ y ∷ d → is_break y ≡ true → list_any is_break b ≡ false → b ≡ d
    ends [] b d x y r g p = cc
    ends (z ∷ m) b d x y r g p =
        let tail : b ≡ m ++ y ∷ d = cc in
        absurd (clash (ap (list_any is_break) tail ∙ any_there m y d g) p)

pub near : (ts : List PlacedToken) (t : PlacedToken) (n : ℕ) → Behind ts (Some n) → n ≤ 2000 → IsTooFar ts t → ⊥
near ts t n b h f =
    let same = same_behind b.earlier f.earlier b.between f.between b.last f.last (sym b.split ∙ f.split) b.broken f.broken b.unbroken f.unbroken in
    omega (arith, ap length same, b.size, f.long)

-- what the pass knows of the tokens so far
pub record IsCounted (ts : List PlacedToken) (opened closed : ℕ) (behind : Option ℕ) : Type 0 where
  pub opened_is : opened ≡ count_of is_opening ts
  pub closed_is : closed ≡ count_of is_closing ts
  pub behind_is : Behind ts behind
  pub none : HasNone IsExcess ts

pub counted_none : IsCounted [] 0 0 None
counted_none = record { opened_is = refl; closed_is = refl; behind_is = refl; none = none_of_none IsExcess }

-- the counts with one more token, which is no excess
pub counted_more : (ts : List PlacedToken) (i : ℕ) (t : PlacedToken) (opened closed m n : ℕ) (behind : Option ℕ) → slice_get ts i ≡ Some t → IsCounted (take i ts) opened closed behind
    → m ≡ from_bool (is_opening t) → n ≡ from_bool (is_closing t) → opened + m - (closed + n) ≤ 200 → (now next : Option ℕ) → (IsTooFar (take i ts) t → ⊥)
    → now ≡ next → Behind (take i ts ++ t ∷ []) next → IsCounted (take (i + 1) ts) (opened + m) (closed + n) now
counted_more ts i t opened closed m n behind lt c e f shallow now next near g b =
    let us = take i ts in
    let o = ap (λ k. k + m) c.opened_is ∙ ap (λ k. count_of is_opening us + k) e in
    let q = ap (λ k. k + n) c.closed_is ∙ ap (λ k. count_of is_closing us + k) f in
    let views = sym (front_more ts i t lt) in
    record {
      opened_is = o ∙ sym (count_more is_opening us t) ∙ ap (count_of is_opening) views;
      closed_is = q ∙ sym (count_more is_closing us t) ∙ ap (count_of is_closing) views;
      behind_is = subst (λ l. Behind l now) views (subst (Behind (us ++ t ∷ [])) (sym g) b);
      none = none_at IsExcess ts i t lt c.none (λ x. elim x [ inl h ↦ not_deep us t (opened + m) (closed + n) o q shallow h | inr h ↦ near h ]);
    }

-- the token stands too deep
pub deep_at : (ts : List PlacedToken) (i : ℕ) (t : PlacedToken) (opened closed m n : ℕ) (behind : Option ℕ) → slice_get ts i ≡ Some t → IsCounted (take i ts) opened closed behind
    → m ≡ from_bool (is_opening t) → n ≡ from_bool (is_closing t) → 200 < opened + m - (closed + n) → IsFirst IsExcess ts t.place
deep_at ts i t opened closed m n behind lt c e f h =
    let us = take i ts in
    let o = ap (λ k. k + m) c.opened_is ∙ ap (λ k. count_of is_opening us + k) e in
    let q = ap (λ k. k + n) c.closed_is ∙ ap (λ k. count_of is_closing us + k) f in
    first_at IsExcess ts i t lt c.none (inl (deep us t (opened + m) (closed + n) o q h))

-- the token stands too far
pub far_at : (ts : List PlacedToken) (i : ℕ) (t : PlacedToken) (opened closed : ℕ)
    (behind : Option ℕ) (n : ℕ) → slice_get ts i ≡ Some t
    → IsCounted (take i ts) opened closed behind → behind ≡ Some n → 2000 < n → is_break t ≡ true
    → IsFirst IsExcess ts t.place
far_at ts i t opened closed behind n lt c e h f =
    let us = take i ts in
    first_at IsExcess ts i t lt c.none (inr (far us t n (subst (Behind us) e c.behind_is) h f))
