-- What registers take at an edge.
use Rattle.std.proofs.Common.{◌≡◌, ℕ, ◌-◌, ◌^◌, ◌<◌, Bool, true, false, cond, ◌&&◌, ◌||◌, eqb, ltb, leb, refl, sym, ap, ◌∙◌, arith}
use Rattle.std.specs.Prelude.{bit_and, bit_or, Result, Ok, Err, OnOk}
use Rattle.rtl_ir.specs.Value.{bit}
use Rattle.kernel_control.proofs.Bits.{and_bits, or_bits, not_bit, as_bit, test_bit, not_below}

or_false : (a : Bool) → a || false ≡ a
or_false true = refl
or_false false = refl

-- a bit that is 1 where one of two is, of which the second isn't
step_is : (step run reset : ℕ) → run < 2 ^ 1 → step ≡ bit_or run reset → reset ≡ 0 → eqb step 1 ≡ eqb run 1
step_is step run reset h e z =
    ap (λ x. eqb x 1) (e ∙ ap (bit_or run) z ∙ ap (λ x. bit_or x 0) (as_bit run h) ∙ or_bits (eqb run 1) false)
    ∙ test_bit (eqb run 1 || false) ∙ or_false (eqb run 1)

pub is_taken :
    (new step next run reset nothing value old : ℕ) → new ≡ cond (eqb step 1) next old → run < 2 ^ 1 → step ≡ bit_or run reset
    → next ≡ cond (eqb reset 1) nothing value → reset ≡ 0 → new ≡ cond (eqb run 1) value old
is_taken new step next run reset nothing value old e h s n r =
    e ∙ ap (λ b. cond b next old) (step_is step run reset h s r)
    ∙ ap (λ x. cond (eqb run 1) x old) (n ∙ ap (λ x. cond (eqb x 1) nothing value) r)

-- one bit that is 1 where another one is, from a position on
pub begins_at :
    (both run begun early position start time w : ℕ) → both ≡ bit_and run begun → run < 2 ^ 1 → begun ≡ 2 ^ w - 1 - early → w ≡ 1
    → early ≡ bit (ltb position start) → start ≡ time → both ≡ bit (eqb run 1 && leb time position)
begins_at both run begun early position start time w e1 h e2 one e3 e4 =
    let early' : early ≡ bit (ltb position time) = e3 ∙ ap (λ x. bit (ltb position x)) e4 in
    let begun' : begun ≡ bit (leb time position) = e2 ∙ ap (λ x. 2 ^ x - 1 - early) one ∙ ap (λ x. 2 ^ 1 - 1 - x) early' ∙ not_bit (ltb position time)
    ∙ ap bit (not_below position time) in
    e1 ∙ ap (λ x. bit_and x begun) (as_bit run h) ∙ ap (bit_and (bit (eqb run 1))) begun' ∙ and_bits (eqb run 1) (leb time position)

pub begins_at_start : (run position time : ℕ) → run < 2 ^ 1 → time ≡ 0 → run ≡ bit (eqb run 1 && leb time position)
begins_at_start run position time h e =
    as_bit run h ∙ ap bit (sym (and_from (eqb run 1) (leb time position) from))
  where
    from : leb time position ≡ true
    from = grind (arith, e)

    and_from : (a b : Bool) → b ≡ true → a && b ≡ a
    and_from true b k = k
    and_from false b k = refl

-- where a register takes a word that is another net's or its own
pub is_stored :
    (new run on word from shown old : ℕ) → new ≡ cond (eqb run 1) word old → word ≡ cond (eqb on 1) from shown → shown ≡ old
    → new ≡ cond (eqb run 1 && eqb on 1) from old
is_stored new run on word from shown old e w s =
    e ∙ ap (λ x. cond (eqb run 1) x old) (w ∙ ap (cond (eqb on 1) from) s) ∙ both (eqb run 1) (eqb on 1)
  where
    both : (a b : Bool) → cond a (cond b from old) old ≡ cond (a && b) from old
    both true b = refl
    both false b = refl

-- two things that hold where a call succeeds
pub on_ok_both : {T E P Q R : Type 0} (r : Result T E) → (P → Q → R) → OnOk r P → OnOk r Q → OnOk r R
on_ok_both (Ok x) f p q = f p q
on_ok_both (Err e) f p q = q
