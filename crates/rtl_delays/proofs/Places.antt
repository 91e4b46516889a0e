-- The next place of a pointer.
use Rattle.std.proofs.Common.{◌≡◌, ℕ, zero, suc, ◌+◌, ◌-◌, ◌%◌, ◌^◌, ◌<◌, ◌≤◌, Bool, true, false, cond, ◌||◌, eqb, refl, ap, ◌∙◌, arith}
use Rattle.std.specs.Prelude.{bit_or}
use Rattle.std.proofs.Math.Nat.{mod-eq_of_lt}
use Rattle.rtl_ir.specs.declared.design.Module.{Module}
use Rattle.rtl_ir.specs.Value.{Family, bit}
use Rattle.rtl_build.specs.declared.signal.Signal.{Signal}
use Rattle.rtl_build.specs.Signals.{Makes}
use Rattle.rtl_build.proofs.Growing.{goes_on}
use Rattle.rtl_delays.proofs.Delaying.{round}

pub after : {l m n : Module} {j k x w : ℕ} {f g : Family → ℕ} {s t : Signal} → Makes l m j x f s → Makes m n k w g t → Makes l n (j + k) w g t
after {j = j} {k = k} {w = w} {g = g} p q = goes_on (j + k) w g p q (omega arith) refl (λ c v h e. refl)

test_bit : (b : Bool) → eqb (bit b) 1 ≡ b
test_bit true = refl
test_bit false = refl

pub next_is : (zero' one last is_last more round' reset at w words : ℕ) → round' ≡ cond (eqb is_last 1) zero' more → more ≡ (at + one) % 2 ^ w → is_last ≡ bit (eqb at last)
    → last ≡ words - 1 → one ≡ 1 → zero' ≡ 0 → cond (eqb reset 1) zero' round' ≡ cond (eqb reset 1) 0 (cond (eqb at (words - 1)) 0 ((at + 1) % 2 ^ w))
next_is zero' one last is_last more round' reset at w words e1 e2 e3 e4 e5 e6 =
    let test : eqb is_last 1 ≡ eqb at (words - 1) = ap (λ x. eqb x 1) e3 ∙ test_bit (eqb at last) ∙ ap (eqb at) e4 in
    let r : round' ≡ cond (eqb at (words - 1)) 0 ((at + 1) % 2 ^ w) =
    e1 ∙ ap (λ b. cond b zero' more) test ∙ ap (λ x. cond (eqb at (words - 1)) x more) e6 ∙ ap (cond (eqb at (words - 1)) 0) (e2 ∙ ap (λ x. (at + x) % 2 ^ w) e5) in
    ap (λ x. cond (eqb reset 1) x round') e6 ∙ ap (cond (eqb reset 1) 0) r

-- a pointer's next place is the one after it
round_is : (at w words : ℕ) → at < words → words ≤ 2 ^ w → cond (eqb at (words - 1)) 0 ((at + 1) % 2 ^ w) ≡ round words at
round_is at w words lt le = by_test (eqb at (words - 1)) (eqb (at + 1) words) refl refl
  where
    by_test : (s t : Bool) → eqb at (words - 1) ≡ s → eqb (at + 1) words ≡ t → cond s 0 ((at + 1) % 2 ^ w) ≡ cond t 0 (at + 1)
    by_test true true e f = refl
    by_test true false e f = absurd (grind (arith, lt, e, f))
    by_test false true e f = absurd (grind (arith, lt, e, f))
    by_test false false e f =
        let small : at + 1 < 2 ^ w = grind (arith, lt, le, e, f) in
        mod-eq_of_lt small

or_bits : (a b : Bool) → bit_or (bit a) (bit b) ≡ bit (a || b)
or_bits true true = refl
or_bits true false = refl
or_bits false true = refl
or_bits false false = refl

as_bit : (x : ℕ) → x < 2 ^ 1 → x ≡ bit (eqb x 1)
as_bit zero h = refl
as_bit (suc zero) h = refl
as_bit (suc (suc x)) h = absurd (omega arith)

step_is : (step run reset : ℕ) → run < 2 ^ 1 → reset < 2 ^ 1 → step ≡ bit_or run reset → eqb step 1 ≡ eqb run 1 || eqb reset 1
step_is step run reset h k e =
    ap (λ x. eqb x 1) (e ∙ ap (λ x. bit_or x reset) (as_bit run h) ∙ ap (bit_or (bit (eqb run 1))) (as_bit reset k) ∙ or_bits (eqb run 1) (eqb reset 1)) ∙ test_bit (eqb run 1 || eqb reset 1)

or_true : (a : Bool) → a || true ≡ true
or_true true = refl
or_true false = refl

or_false : (a : Bool) → a || false ≡ a
or_false true = refl
or_false false = refl

pub pointer_cleared : (new step next run reset rest old : ℕ) → new ≡ cond (eqb step 1) next old
    → run < 2 ^ 1 → reset < 2 ^ 1 → step ≡ bit_or run reset → next ≡ cond (eqb reset 1) 0 rest
    → reset ≡ 1 → new ≡ 0
pointer_cleared new step next run reset rest old e h k s n r =
    let on : eqb reset 1 ≡ true = ap (λ x. eqb x 1) r in
    let t : eqb step 1 ≡ true = step_is step run reset h k s ∙ ap (λ b. eqb run 1 || b) on ∙ or_true (eqb run 1) in
    e ∙ ap (λ b. cond b next old) t ∙ n ∙ ap (λ b. cond b 0 rest) on

pub pointer_steps : (new step next run reset at w words old : ℕ) → new ≡ cond (eqb step 1) next old → run < 2 ^ 1 → reset < 2 ^ 1 → step ≡ bit_or run reset
    → next ≡ cond (eqb reset 1) 0 (cond (eqb at (words - 1)) 0 ((at + 1) % 2 ^ w)) → reset ≡ 0 → at < words → words ≤ 2 ^ w → new ≡ cond (eqb run 1) (round words at) old
pointer_steps new step next run reset at w words old e h k s n r lt le =
    let off : eqb reset 1 ≡ false = ap (λ x. eqb x 1) r in
    let t : eqb step 1 ≡ eqb run 1 = step_is step run reset h k s ∙ ap (λ b. eqb run 1 || b) off ∙ or_false (eqb run 1) in
    e ∙ ap (λ b. cond b next old) t ∙ ap (λ x. cond (eqb run 1) x old) (n ∙ ap (λ b. cond b 0 (cond (eqb at (words - 1)) 0 ((at + 1) % 2 ^ w))) off ∙ round_is at w words lt le)
