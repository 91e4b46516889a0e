-- The wires of counters.
use Rattle.std.proofs.Common.{◌≡◌, ℕ, ◌+◌, ◌-◌, ◌/◌, ◌%◌, ◌^◌, ◌≤◌, ◌<◌, cond, ◌&&◌, eqb, ap, ◌∙◌, arith}
use Rattle.std.specs.Prelude.{bit_and}
use Rattle.std.proofs.Math.Nat.{add-mod-mod, mod-lt}
use Rattle.std.proofs.lemmas.Nat.{pow_pos}
use Rattle.mx_bits.proofs.Reducing.{low_mask}
use Rattle.rtl_ir.specs.declared.design.Module.{Module}
use Rattle.rtl_ir.specs.Value.{Family, bit}
use Rattle.rtl_build.specs.declared.signal.Signal.{Signal}
use Rattle.rtl_build.specs.Signals.{Makes}
use Rattle.rtl_build.proofs.Growing.{adds_on}
use Rattle.kernel_control.proofs.Bits.{as_bit, and_bits, test_bit}

-- a signal that was made, after further wires
pub held :
    {l m n : Module} {j k w x : ℕ} {f g : Family → ℕ} {s t : Signal} (i : ℕ) → Makes l m j w f s → Makes m n k x g t → j + k ≤ i
    → Makes l n i w f s
held {l} {m} {n} {j} {k} {s = s} i p q le = record {
  adds = adds_on l m n j k i p.adds q.adds le;
  signal = q.keeps s p.signal;
  width = p.width;
  value = λ c v h. p.value c v (q.before c v h);
  keeps = λ t h. q.keeps t (p.keeps t h);
  before = λ c v h. p.before c v (q.before c v h);
}

-- the bits of a part
pub part_bits : (low bits : ℕ) → 1 ≤ bits → (low + (bits - 1)) + 1 - low ≡ bits
part_bits low bits some = omega arith

pub part_is : (word x low bits : ℕ) → 1 ≤ bits → word ≡ (x / 2 ^ low) % 2 ^ ((low + (bits - 1)) + 1 - low) → word ≡ (x / 2 ^ low) % 2 ^ bits
part_is word x low bits some e = e ∙ ap (λ w. (x / 2 ^ low) % 2 ^ w) (part_bits low bits some)

pub last_is : (is_last word end at last : ℕ) → is_last ≡ bit (eqb word end) → end ≡ last → word ≡ at → is_last ≡ bit (eqb at last)
last_is is_last word end at last e f g = e ∙ ap (λ x. bit (eqb word x)) f ∙ ap (λ x. bit (eqb x last)) g

pub next_is :
    (next is_last nothing more word step at last inc bits w : ℕ) → next ≡ cond (eqb is_last 1) nothing more → is_last ≡ bit (eqb at last)
    → nothing ≡ 0 → more ≡ (word + step) % 2 ^ w → w ≡ bits → bits ≤ 128
    → step ≡ bit_and inc (340282366920938463463374607431768211455 / 2 ^ (128 - bits)) → word ≡ at
    → next ≡ cond (eqb at last) 0 ((at + inc) % 2 ^ bits)
next_is next is_last nothing more word step at last inc bits w e test z m wide le s g =
    let step' : step ≡ inc % 2 ^ bits = s ∙ low_mask inc bits le in
    let more' : more ≡ (at + inc) % 2 ^ bits = m ∙ ap (λ k. (word + step) % 2 ^ k) wide ∙ ap (λ x. (word + x) % 2 ^ bits) step'
    ∙ ap (λ x. (x + inc % 2 ^ bits) % 2 ^ bits) g ∙ add-mod-mod at inc (2 ^ bits) in
    let on : eqb is_last 1 ≡ eqb at last = ap (λ x. eqb x 1) test ∙ test_bit (eqb at last) in
    e ∙ ap (λ b. cond b nothing more) on ∙ ap (λ x. cond (eqb at last) x more) z ∙ ap (cond (eqb at last) 0) more'

-- a number's low bits, as the code takes them
pub masked : (x inc y bits : ℕ) → x ≡ inc → y ≡ bits
    → bit_and x (340282366920938463463374607431768211455 / 2 ^ (128 - y)) ≡ bit_and inc (340282366920938463463374607431768211455 / 2 ^ (128 - bits))
masked x inc y bits e f =
    ap (λ n. bit_and n (340282366920938463463374607431768211455 / 2 ^ (128 - y))) e
    ∙ ap (λ n. bit_and inc (340282366920938463463374607431768211455 / 2 ^ (128 - n))) f

pub masked_fits : (x inc y bits : ℕ) → x ≡ inc → y ≡ bits → bits ≤ 128
    → bit_and x (340282366920938463463374607431768211455 / 2 ^ (128 - y)) < 2 ^ bits
masked_fits x inc y bits e f le = rw (masked x inc y bits e f, low_mask inc bits le) (mod-lt inc (pow_pos bits))

-- two bits that are both 1
pub both_one : (both x y : ℕ) → x < 2 ^ 1 → y < 2 ^ 1 → both ≡ bit_and x y → both ≡ bit (eqb x 1 && eqb y 1)
both_one both x y h k e =
    e ∙ ap (λ z. bit_and z y) (as_bit x h) ∙ ap (bit_and (bit (eqb x 1))) (as_bit y k) ∙ and_bits (eqb x 1) (eqb y 1)
