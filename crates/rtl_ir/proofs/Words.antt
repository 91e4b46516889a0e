-- The value of a well-typed expression is a word of its width.
use Rattle.std.proofs.Common.{◌≡◌, ℕ, zero, suc, ◌+◌, ◌-◌, ◌*◌, ◌^◌, ◌<◌, Bool, true, false, cond, eqb, ltb, sym, subst, arith}
use Rattle.std.proofs.lemmas.Nat.{pow_pos, pow-add, mod_below, and_le_l, or_lt, xor_lt, mul-add-lt}
use Rattle.std.proofs.Math.Nat.{div-le_self, suc-mul, mul_comm}
use Rattle.rtl_ir.specs.declared.design.Module.{Module}
use Rattle.rtl_ir.specs.declared.design.Sign.{Sign}
use Rattle.rtl_ir.specs.declared.design.Sign.TheVariants.{Add, Sub, Mul, Div, And, Or, Xor, Eq, Lt}
use Rattle.rtl_ir.specs.declared.design.Expr.{Expr}
use Rattle.rtl_ir.specs.declared.design.Expr.TheVariants.{Net as Plain, Literal, Not, Binary, Concat, Repeat, Part, Choose, Cell}
use Rattle.rtl_ir.specs.Value.{Family, Contents, value, width_of, combined, quotient, repeated, depth_of, bit}
use Rattle.rtl_ir.specs.Typed.{IsTyped, IsSignTyped, word_width}

abbrev pub Fit : ℕ → ℕ → Type 0
Fit w x = x < 2 ^ w

fit_at : (a w x : ℕ) → a ≡ w → Fit a x → Fit w x
fit_at a w x e h = let P : ℕ → Type 0 = λ n. Fit n x in subst P e h

bit_fits : (b : Bool) (w : ℕ) → w ≡ 1 → Fit w (bit b)
bit_fits true w e = rw e (omega arith)
bit_fits false w e = rw e (omega arith)

quotient_fits : (w a b : ℕ) → Fit w a → Fit w (quotient a b)
quotient_fits w a zero h = pow_pos w
quotient_fits w a (suc b) h = omega (arith, div-le_self a (suc b))

combined_fits : (s : Sign) (w wa wb a b : ℕ) → IsSignTyped s w wa wb → Fit wa a → Fit wb b → Fit w (combined s w a b)
combined_fits Add w wa wb a b t h k = mod_below _ _ (pow_pos w)
combined_fits Sub w wa wb a b t h k = mod_below _ _ (pow_pos w)
combined_fits Mul w wa wb a b t h k = mod_below _ _ (pow_pos w)
combined_fits Div w wa wb a b t h k = quotient_fits w a b (fit_at wa w a t.0 h)
combined_fits And w wa wb a b t h k = let q = fit_at wa w a t.0 h in omega (arith, and_le_l a b, q)
combined_fits Or w wa wb a b t h k = or_lt w a b (fit_at wa w a t.0 h) (fit_at wb w b t.1 k)
combined_fits Xor w wa wb a b t h k = xor_lt w a b (fit_at wa w a t.0 h) (fit_at wb w b t.1 k)
combined_fits Eq w wa wb a b t h k = bit_fits (eqb a b) w t.0
combined_fits Lt w wa wb a b t h k = bit_fits (ltb a b) w t.0

concat_fits : (wa wb a b : ℕ) → Fit wa a → Fit wb b → Fit (wa + wb) (a * 2 ^ wb + b)
concat_fits wa wb a b h k = rw (pow-add 2 wa wb, mul_comm (2 ^ wa) (2 ^ wb)) (mul-add-lt a (2 ^ wb) b (2 ^ wa) h k)

repeated_fits : (k w a : ℕ) → Fit w a → Fit (k * w) (repeated k w a)
repeated_fits zero w a h = pow_pos (zero * w)
repeated_fits (suc k) w a h =
    let q : k * w + w ≡ suc k * w = sym (suc-mul k w) in
    fit_at (k * w + w) (suc k * w) (repeated k w a * 2 ^ w + a) q (concat_fits (k * w) w (repeated k w a) a (repeated_fits k w a h) h)

choose_fits : (b : Bool) (w x y : ℕ) → Fit w x → Fit w y → Fit w (cond b x y)
choose_fits true w x y h k = h
choose_fits false w x y h k = k

pub value_fits : (m : Module) (c : Contents) (v : Family) (w : ℕ) (e : Expr) → IsTyped m w e
    → ((n : ℕ) → Fit (width_of m n) (v n)) → ((k a : ℕ) → Fit (word_width m k) (c.cells k a))
    → Fit w (value m c v w e)
value_fits m c v w (Plain n) t h q = fit_at (width_of m n) w (v n) t (h n)
value_fits m c v w (Literal x) t h q = fit_at x.width w x.bits t x.fits
value_fits m c v w (Not n) t h q = let p = pow_pos w in omega (arith, p)
value_fits m c v w (Binary s a b) t h q = combined_fits s w (width_of m a) (width_of m b) (v a) (v b) t (h a) (h b)
value_fits m c v w (Concat a b) t h q = fit_at (width_of m a + width_of m b) w _ t (concat_fits (width_of m a) (width_of m b) (v a) (v b) (h a) (h b))
value_fits m c v w (Repeat k n) t h q = fit_at (k * width_of m n) w _ t (repeated_fits k (width_of m n) (v n) (h n))
value_fits m c v w (Part n hi lo) t h q = fit_at (hi + 1 - lo) w _ t.2 (mod_below _ _ (pow_pos (hi + 1 - lo)))
value_fits m c v w (Choose n a b) t h q = choose_fits (eqb (v n) 1) w (v a) (v b) (fit_at (width_of m a) w (v a) t.1 (h a)) (fit_at (width_of m b) w (v b) t.2 (h b))
value_fits m c v w (Cell k n) t h q = choose_fits (ltb (v n) (depth_of m k)) w (c.cells k (v n)) 0 (fit_at (word_width m k) w _ t (q k (v n))) (pow_pos w)
