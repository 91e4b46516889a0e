-- Words of one bit as tests, and wires after wires.
use Rattle.std.proofs.Common.{◌≡◌, ℕ, zero, suc, ◌+◌, ◌-◌, ◌%◌, ◌^◌, ◌<◌, Bool, true, false, not, ◌&&◌, ◌||◌, eqb, ltb, leb, refl, sym, ap, ◌∙◌, subst, arith}
use Rattle.std.specs.Prelude.{bit_and, bit_or}
use Rattle.std.proofs.Math.Nat.{mod-eq_of_lt}
use Rattle.rtl_ir.specs.declared.design.Module.{Module}
use Rattle.rtl_ir.specs.Value.{Family, Contents, bit}
use Rattle.rtl_ir.specs.Grow.{Holds}
use Rattle.rtl_build.specs.declared.signal.Signal.{Signal}
use Rattle.rtl_build.specs.Signals.{Makes}
use Rattle.rtl_build.proofs.Growing.{goes_on, word_fits}
use Rattle.kernel_control.specs.Nets.{HasWidth}

pub after : {l m n : Module} {j k x w : ℕ} {f g : Family → ℕ} {s t : Signal} → Makes l m j x f s → Makes m n k w g t → Makes l n (j + k) w g t
after {j = j} {k = k} {w = w} {g = g} p q = goes_on (j + k) w g p q (omega arith) refl (λ c v h e. refl)

-- a signal of one bit
pub bit_fits : {m : Module} {c : Contents} {v : Family} {s : Signal} → HasWidth m 1 s → Holds m c v → v s.net < 2 ^ 1
bit_fits {v = v} {s = s} has h = subst (λ w. v s.net < 2 ^ w) has.width (word_fits s has.signal h)

pub and_bits : (a b : Bool) → bit_and (bit a) (bit b) ≡ bit (a && b)
and_bits true true = refl
and_bits true false = refl
and_bits false true = refl
and_bits false false = refl

pub or_bits : (a b : Bool) → bit_or (bit a) (bit b) ≡ bit (a || b)
or_bits true true = refl
or_bits true false = refl
or_bits false true = refl
or_bits false false = refl

pub not_bit : (a : Bool) → 2 ^ 1 - 1 - bit a ≡ bit (not a)
not_bit true = refl
not_bit false = refl

pub as_bit : (x : ℕ) → x < 2 ^ 1 → x ≡ bit (eqb x 1)
as_bit zero h = refl
as_bit (suc zero) h = refl
as_bit (suc (suc x)) h = absurd (omega arith)

pub both_bits : (a b : ℕ) → a < 2 ^ 1 → b < 2 ^ 1 → bit_and a b ≡ bit (eqb a 1 && eqb b 1)
both_bits a b h k = ap (λ x. bit_and x b) (as_bit a h) ∙ ap (bit_and (bit (eqb a 1))) (as_bit b k) ∙ and_bits (eqb a 1) (eqb b 1)

pub and_true : (a : Bool) → a ≡ a && true
and_true true = refl
and_true false = refl

pub test_bit : (b : Bool) → eqb (bit b) 1 ≡ b
test_bit true = refl
test_bit false = refl

pub not_below : (a b : ℕ) → not (ltb a b) ≡ leb b a
not_below a b = by_test (ltb a b) (leb b a) refl refl
  where
    by_test : (s t : Bool) → ltb a b ≡ s → leb b a ≡ t → not (ltb a b) ≡ leb b a
    by_test s t e f = grind (arith, e, f)

pub active_is :
    (both begun before end early start position ticks time w u : ℕ) → both ≡ bit_and begun before → begun ≡ 2 ^ w - 1 - early → w ≡ 1 → before ≡ bit
    (ltb position end) → end ≡ (start + ticks) % 2 ^ u → u ≡ 48
    → early ≡ bit (ltb position start) → start ≡ time → both ≡ bit (leb time position && ltb position ((time + ticks) % 2 ^ 48))
active_is both begun before end early start position ticks time w u e1 e2 one e3 e4 wide e5 e6 =
    let early' : early ≡ bit (ltb position time) = e5 ∙ ap (λ x. bit (ltb position x)) e6 in
    let begun' : begun ≡ bit (leb time position) = e2 ∙ ap (λ x. 2 ^ x - 1 - early) one ∙ ap (λ x. 2 ^ 1 - 1 - x) early' ∙ not_bit (ltb position time)
    ∙ ap bit (not_below position time) in
    let end' : end ≡ (time + ticks) % 2 ^ 48 = e4 ∙ ap (λ x. (x + ticks) % 2 ^ u) e6 ∙ ap (λ x. (time + ticks) % 2 ^ x) wide in
    let before' : before ≡ bit (ltb position ((time + ticks) % 2 ^ 48)) = e3 ∙ ap (λ x. bit (ltb position x)) end' in
    e1 ∙ ap (λ x. bit_and x before) begun' ∙ ap (bit_and (bit (leb time position))) before' ∙ and_bits (leb time position)
    (ltb position ((time + ticks) % 2 ^ 48))

-- from the start on no position comes before the first one
pub begun_at_start : (position ticks w : ℕ) → w ≡ 48 → ticks < 2 ^ w
    → bit (ltb position ticks) ≡ bit (leb 0 position && ltb position ((0 + ticks) % 2 ^ 48))
begun_at_start position ticks w wide fits =
    let below : ticks < 2 ^ 48 = subst (λ x. ticks < 2 ^ x) wide fits in
    let none : 0 + ticks ≡ ticks = omega arith in
    let same : (0 + ticks) % 2 ^ 48 ≡ ticks = ap (λ x. x % 2 ^ 48) none ∙ mod-eq_of_lt below in
    ap (λ x. bit (ltb position x)) (sym same)
    ∙ ap (λ b. bit (b && ltb position ((0 + ticks) % 2 ^ 48))) (sym (from_first position))
  where
    from_first : (n : ℕ) → leb 0 n ≡ true
    from_first n = grind (arith)

pub past_is :
    (done before end start position ticks time w u : ℕ) → done ≡ 2 ^ w - 1 - before → w ≡ 1 → before ≡ bit (ltb position end) → end ≡
    (start + ticks) % 2 ^ u → u ≡ 48 → start ≡ time
    → done ≡ bit (not (ltb position ((time + ticks) % 2 ^ 48)))
past_is done before end start position ticks time w u e1 one e3 e4 wide e6 =
    let end' : end ≡ (time + ticks) % 2 ^ 48 = e4 ∙ ap (λ x. (x + ticks) % 2 ^ u) e6 ∙ ap (λ x. (time + ticks) % 2 ^ x) wide in
    let before' : before ≡ bit (ltb position ((time + ticks) % 2 ^ 48)) = e3 ∙ ap (λ x. bit (ltb position x)) end' in
    e1 ∙ ap (λ x. 2 ^ x - 1 - before) one ∙ ap (λ x. 2 ^ 1 - 1 - x) before' ∙ not_bit (ltb position ((time + ticks) % 2 ^ 48))

pub served_is :
    (both ready idle due side test w : ℕ) → due < 2 ^ 1 → side < 2 ^ 1 → test < 2 ^ 1 → w ≡ 1 → both ≡ bit_and test ready → ready ≡ bit_or idle side
    → idle ≡ 2 ^ w - 1 - due
    → both ≡ bit (eqb test 1 && (not (eqb due 1) || eqb side 1))
served_is both ready idle due side test w a b c one e1 e2 e3 =
    let idle' : idle ≡ bit (not (eqb due 1)) = e3 ∙ ap (λ x. 2 ^ x - 1 - due) one ∙ ap (λ x. 2 ^ 1 - 1 - x) (as_bit due a) ∙ not_bit (eqb due 1) in
    let ready' : ready ≡ bit (not (eqb due 1) || eqb side 1) = e2 ∙ ap (λ x. bit_or x side) idle' ∙ ap (bit_or (bit (not (eqb due 1)))) (as_bit side b)
    ∙ or_bits (not (eqb due 1)) (eqb side 1) in
    e1 ∙ ap (λ x. bit_and x ready) (as_bit test c) ∙ ap (bit_and (bit (eqb test 1))) ready' ∙ and_bits (eqb test 1) (not (eqb due 1) || eqb side 1)

-- two bits that are both 0
pub both_free :
    (both free live hold past w u : ℕ) → hold < 2 ^ 1 → past < 2 ^ 1 → w ≡ 1 → u ≡ 1 → both ≡ bit_and free live → free ≡ 2 ^ w - 1 - hold
    → live ≡ 2 ^ u - 1 - past
    → both ≡ bit (not (eqb hold 1) && not (eqb past 1))
both_free both free live hold past w u a b one one' e1 e2 e3 =
    let free' : free ≡ bit (not (eqb hold 1)) = e2 ∙ ap (λ x. 2 ^ x - 1 - hold) one ∙ ap (λ x. 2 ^ 1 - 1 - x) (as_bit hold a) ∙ not_bit (eqb hold 1) in
    let live' : live ≡ bit (not (eqb past 1)) = e3 ∙ ap (λ x. 2 ^ x - 1 - past) one' ∙ ap (λ x. 2 ^ 1 - 1 - x) (as_bit past b) ∙ not_bit (eqb past 1) in
    e1 ∙ ap (λ x. bit_and x live) free' ∙ ap (bit_and (bit (not (eqb hold 1)))) live' ∙ and_bits (not (eqb hold 1)) (not (eqb past 1))
