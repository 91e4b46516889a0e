-- A test of whether there is such a counter.
use Rattle.std.proofs.Common.{◌≡◌, ◌-◌, ◌*◌, ◌/◌, ◌^◌, ◌≤◌, ◌<◌, ◌&&◌, ◌||◌, ◌∙◌}
use Rattle.std.proofs.Common.{ℕ, zero, suc, Bool, true, false, cond, eqb, ltb, leb, refl, sym, ap, subst, arith, inl, inr}
use Rattle.std.specs.Prelude.{ℤ, pos, negsuc, Option, Some, None, Ok, Err, nat_lt}
use Rattle.std.proofs.lemmas.Bool.{and_from, and_parts, eqb-true}
use Rattle.std.proofs.lemmas.Nat.{pow_pos}
use Rattle.counter_chains.specs.declared.digits.CounterDigit.{CounterDigit}
use Rattle.counter_chains.specs.declared.digits.CounterError.TheVariants.{CounterRange}
use Rattle.counter_chains.specs.Digits.{least_bits, digit_of, simple_of, IsDigit}

-- whether a number below this one passes a test
any_below : (ℕ → Bool) → ℕ → Bool
any_below test zero = false
any_below test (suc n) = test n || any_below test n

or_true : (a : Bool) → a || true ≡ true
or_true true = refl
or_true false = refl

passes : (test : ℕ → Bool) (n k : ℕ) → k < n → test k ≡ true → any_below test n ≡ true
unfolding any_below
passes test zero k lt e = absurd (omega arith)
passes test (suc n) k lt e = by_test (eqb k n) refl (λ less. passes test n k less e)
  where
    by_test : (b : Bool) → eqb k n ≡ b → (k < n → any_below test n ≡ true) → test n || any_below test n ≡ true
    by_test true q more = ap (λ j. test j || any_below test n) (sym (eqb-true k n q)) ∙ ap (λ b. b || any_below test n) e
    by_test false q more = ap (λ b. test n || b) (more (grind (arith, lt, q))) ∙ or_true (test n)

passing : (test : ℕ → Bool) (n : ℕ) → any_below test n ≡ true → (k : ℕ) × (k < n) × (test k ≡ true)
unfolding any_below
passing test zero e = absurd (cc)
passing test (suc n) e = by_test (test n) refl e (λ h. passing test n h)
  where
    by_test : (b : Bool) → test n ≡ b → b || any_below test n ≡ true → (any_below test n ≡ true → (k : ℕ) × (k < n) × (test k ≡ true))
        → (k : ℕ) × (k < suc n) × (test k ≡ true)
    by_test true q h more = (n, omega arith, q)
    by_test false q h more = let p = more h in (p.0, (let l = p.1 in omega (arith, l)), p.2)

-- whether it is the counter of a chain whose values are below one more than this number
bounded_by : CounterDigit → ℕ → Bool
bounded_by d greatest = eqb (greatest / d.inc * d.inc) d.last && eqb (least_bits greatest) d.bits

-- whether it is a counter by itself
alone : CounterDigit → Bool
alone d = (eqb d.inc 1 && leb 1 d.bits) && (leb d.bits 128 && ltb d.last (2 ^ d.bits))

pub is_digit : CounterDigit → Bool
is_digit d = alone d || (leb 1 d.inc && any_below (bounded_by d) (2 ^ 31))

-- ---- each counter passes it

same_test : (x y : ℕ) → x ≡ y → eqb x y ≡ true
same_test x y e = grind (arith, e)

most_test : (x y : ℕ) → x ≤ y → leb x y ≡ true
most_test x y h = grind (arith, h)

below_test : (x y : ℕ) → x < y → ltb x y ≡ true
below_test x y h = grind (arith, h)

or_false : (a b : Bool) → b ≡ true → a || b ≡ true
or_false a b e = ap (λ c. a || c) e ∙ or_true a

in_chain : (d : CounterDigit) (greatest less : ℕ) → nat_lt greatest (2 ^ 31) ≡ true
    → record { last = greatest / suc less * suc less; inc = suc less; bits = least_bits greatest } ≡ d → is_digit d ≡ true
unfolding bounded_by is_digit
in_chain d greatest less lt same =
    let inc : suc less ≡ d.inc = ap (λ (x : CounterDigit). x.inc) same in
    let last : greatest / suc less * suc less ≡ d.last = ap (λ (x : CounterDigit). x.last) same in
    let last' : greatest / d.inc * d.inc ≡ d.last = subst (λ k. greatest / k * k ≡ d.last) inc last in
    let bits : least_bits greatest ≡ d.bits = ap (λ (x : CounterDigit). x.bits) same in
    let few : greatest < 2 ^ 31 = grind (arith, lt) in
    or_false (alone d) (leb 1 d.inc && any_below (bounded_by d) (2 ^ 31))
    (and_from (leb 1 d.inc) (any_below (bounded_by d) (2 ^ 31)) (most_test 1 d.inc (omega (arith, inc)))
    (passes (bounded_by d) (2 ^ 31) greatest few
    (and_from (eqb (greatest / d.inc * d.inc) d.last) (eqb (least_bits greatest) d.bits) (same_test _ _ last') (same_test _ _ bits))))

passes_chain : (max inc : ℤ) (d : CounterDigit) → digit_of max inc ≡ Ok d → is_digit d ≡ true
passes_chain (pos (suc greatest)) (pos (suc less)) d e = by_test (nat_lt greatest (2 ^ 31)) refl e
  where
    by_test : (b : Bool) → nat_lt greatest (2 ^ 31) ≡ b
        → cond b (Ok (record { last = greatest / suc less * suc less; inc = suc less; bits = least_bits greatest }))
        (Err (CounterRange (pos (suc greatest)) 31)) ≡ Ok d
        → is_digit d ≡ true
    by_test true lt q = in_chain d greatest less lt cc
    by_test false lt q = absurd (cc)
passes_chain (pos (suc greatest)) (pos zero) d e = absurd (cc)
passes_chain (pos (suc greatest)) (negsuc n) d e = absurd (cc)
passes_chain (pos zero) inc d e = absurd (cc)
passes_chain (negsuc n) inc d e = absurd (cc)

by_itself : (d : CounterDigit) (bits last : ℕ) → 1 ≤ bits → bits ≤ 128 → last < 2 ^ bits → record { last = last; inc = 1; bits = bits } ≡ d
    → is_digit d ≡ true
unfolding alone is_digit
by_itself d bits last some most lt same =
    let inc : 1 ≡ d.inc = ap (λ (x : CounterDigit). x.inc) same in
    let last' : last ≡ d.last = ap (λ (x : CounterDigit). x.last) same in
    let bits' : bits ≡ d.bits = ap (λ (x : CounterDigit). x.bits) same in
    let fits : d.last < 2 ^ d.bits = subst (λ b. d.last < 2 ^ b) bits' (subst (λ x. x < 2 ^ bits) last' lt) in
    ap (λ b. b || (leb 1 d.inc && any_below (bounded_by d) (2 ^ 31)))
    (and_from (eqb d.inc 1 && leb 1 d.bits) (leb d.bits 128 && ltb d.last (2 ^ d.bits))
    (and_from (eqb d.inc 1) (leb 1 d.bits) (same_test d.inc 1 (sym inc)) (most_test 1 d.bits (omega (arith, some, bits'))))
    (and_from (leb d.bits 128) (ltb d.last (2 ^ d.bits)) (most_test d.bits 128 (omega (arith, most, bits'))) (below_test d.last (2 ^ d.bits) fits)))

passes_alone : (bits : ℕ) (max : Option ℤ) (d : CounterDigit) → 1 ≤ bits → bits ≤ 128 → simple_of bits max ≡ Ok d → is_digit d ≡ true
passes_alone bits None d some most e = by_itself d bits (2 ^ bits - 1) some most (let p = pow_pos bits in omega (arith, p)) cc
passes_alone bits (Some (pos (suc greatest))) d some most e = by_test (nat_lt greatest (2 ^ bits)) refl e
  where
    by_test : (b : Bool) → nat_lt greatest (2 ^ bits) ≡ b
        → cond b (Ok (record { last = greatest; inc = 1; bits = bits })) (Err (CounterRange (pos (suc greatest)) bits)) ≡ Ok d → is_digit d ≡ true
    by_test true lt q = by_itself d bits greatest some most (grind (arith, lt)) cc
    by_test false lt q = absurd (cc)
passes_alone bits (Some (pos zero)) d some most e = absurd (cc)
passes_alone bits (Some (negsuc n)) d some most e = absurd (cc)

pub passes_digit : (d : CounterDigit) → IsDigit d → is_digit d ≡ true
passes_digit d (inl p) = passes_chain p.0 p.1 d p.2
passes_digit d (inr p) = passes_alone p.0 p.1 d p.2 p.3 p.4

-- ---- and what passes is one

passed_alone : (d : CounterDigit) → alone d ≡ true → IsDigit d
unfolding alone
passed_alone d e =
    let p = and_parts (eqb d.inc 1 && leb 1 d.bits) (leb d.bits 128 && ltb d.last (2 ^ d.bits)) e in
    let q = and_parts (eqb d.inc 1) (leb 1 d.bits) p.0 in
    let r = and_parts (leb d.bits 128) (ltb d.last (2 ^ d.bits)) p.1 in
    let one : d.inc ≡ 1 = eqb-true d.inc 1 q.0 in
    let some = q.1 in
    let most = r.0 in
    inr (
      d.bits,
      Some (pos (suc d.last)),
      grind (arith, some),
      grind (arith, most),
      ap (λ b. cond b (Ok (record { last = d.last; inc = 1; bits = d.bits })) (Err (CounterRange (pos (suc d.last)) d.bits))) r.1
          ∙ ap (λ i. Ok (record { last = d.last; inc = i; bits = d.bits })) (sym one),
    )

passed_chain : (d : CounterDigit) → leb 1 d.inc && any_below (bounded_by d) (2 ^ 31) ≡ true → IsDigit d
unfolding bounded_by
passed_chain d e =
    let p = and_parts (leb 1 d.inc) (any_below (bounded_by d) (2 ^ 31)) e in
    let k = passing (bounded_by d) (2 ^ 31) p.1 in
    let q = and_parts (eqb (k.0 / d.inc * d.inc) d.last) (eqb (least_bits k.0) d.bits) k.2 in
    by_inc d.inc k.0 p.0 (below_test k.0 (2 ^ 31) k.1) (eqb-true (k.0 / d.inc * d.inc) d.last q.0) (eqb-true (least_bits k.0) d.bits q.1) refl
  where
    by_inc : (inc k : ℕ) → leb 1 inc ≡ true → nat_lt k (2 ^ 31) ≡ true → k / inc * inc ≡ d.last → least_bits k ≡ d.bits → inc ≡ d.inc → IsDigit d
    by_inc zero k some lt last bits e = absurd (grind (arith, some))
    by_inc (suc less) k some lt last bits e = inl (
      pos (suc k),
      pos (suc less),
      ap (λ b. cond b (Ok (record { last = k / suc less * suc less; inc = suc less; bits = least_bits k })) (Err (CounterRange (pos (suc k)) 31))) lt
          ∙ ap (λ x. Ok (record { last = x; inc = suc less; bits = least_bits k })) last
          ∙ ap (λ x. Ok (record { last = d.last; inc = suc less; bits = x })) bits
          ∙ ap (λ x. Ok (record { last = d.last; inc = x; bits = d.bits })) e,
    )

pub passed_digit : (d : CounterDigit) → is_digit d ≡ true → IsDigit d
unfolding is_digit
passed_digit d e = by_test (alone d) refl e
  where
    by_test : (b : Bool) → alone d ≡ b → b || (leb 1 d.inc && any_below (bounded_by d) (2 ^ 31)) ≡ true → IsDigit d
    by_test true q h = passed_alone d q
    by_test false q h = passed_chain d h
