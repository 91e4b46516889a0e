use Rattle.std.proofs.Common.{◌≡◌, ◌∙◌, ℕ, ◌+◌, ◌*◌, ◌/◌, ◌<◌, ◌≤◌, ◌^◌, eqb, false, sym, ap, subst, arith, ⊎_elim}
use Rattle.std.proofs.lemmas.Bool.{false≢true, eqb-true, cases_lt}
use Rattle.std.proofs.lemmas.Nat.{pow_pos}
use Rattle.std.proofs.Math.Nat.{lt-div-mul-add, div-eq_of_lt}
use Rattle.kernel_words.proofs.given.is_word.Goals as goal

below : (x b : ℕ) → 0 < b → x / b ≡ 0 → x < b
below x b h e =
    let q : x < 0 * b + b = subst (λ k. x < k * b + b) e (lt-div-mul-add h) in
    omega (arith, q)

above : (x b : ℕ) → eqb (x / b) 0 ≡ false → b ≤ x
above x b e = ⊎_elim
    (λ (l : x < b). absurd (false≢true (sym e ∙ ap (λ k. eqb k 0) (div-eq_of_lt l))))
    (λ (g : b ≤ x). g)
    (cases_lt x b)

pub returns-then-width-eq128-clause-yes : goal.returns-then-width-eq128-clause-yes
returns-then-width-eq128-clause-yes c = λ e.
    subst (λ w. c.args.bits < 2 ^ w) (sym c.if-width-eq128.true) c.ranges.bits.fits

pub returns-clause-yes : goal.returns-clause-yes
returns-clause-yes c = λ e.
    subst (λ w. c.args.bits < 2 ^ w) c.from.ensures
    (below c.args.bits (2 ^ c.from.result) (pow_pos c.from.result) (eqb-true (c.args.bits / 2 ^ c.from.result) 0 e))

pub returns-clause-no : goal.returns-clause-no
returns-clause-no c = λ e.
    subst (λ w. 2 ^ w ≤ c.args.bits) c.from.ensures (above c.args.bits (2 ^ c.from.result) e)
