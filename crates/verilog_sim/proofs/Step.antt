-- A step computes the value of its expression.
use Rattle.std.proofs.Common.{◌≡◌, ℕ, zero, suc, ◌+◌, ◌-◌, ◌*◌, ◌/◌, ◌%◌, ◌^◌, ◌<◌, ◌≤◌, Bool, true}
use Rattle.std.proofs.Common.{false, cond, eqb, ltb, bit_and, bit_or, bit_xor, List, [], length}
use Rattle.std.proofs.Common.{get_or, refl, sym, ap, ◌∙◌, subst, arith}
use Rattle.std.proofs.Math.ListN.{get_or-eq_default}
use Rattle.std.proofs.Math.Nat.{suc-mul}
use Rattle.std.proofs.lemmas.Bool.{ltb-false}
use Rattle.rtl_ir.specs.declared.design.Module.{Module}
use Rattle.rtl_ir.specs.declared.design.Sign.TheVariants.{Add, Sub, Mul, Div, And, Or, Xor, Eq, Lt}
use Rattle.rtl_ir.specs.declared.design.Expr.{Expr}
use Rattle.rtl_ir.specs.declared.design.Expr.TheVariants.{Net as Plain, Literal, Not, Binary, Concat, Repeat, Part, Choose, Cell}
use Rattle.rtl_ir.specs.Value.{Family, value, width_of, depth_of, quotient, repeated}
use Rattle.rtl_ir.specs.Typed.{IsTyped}
use Rattle.verilog_sim.specs.declared.instruction.Step.{Step}
use Rattle.verilog_sim.specs.declared.instruction.Step.TheVariants.{Copy, Literal as DoLiteral}
use Rattle.verilog_sim.specs.declared.instruction.Step.TheVariants.{Not as DoNot, Add as DoAdd}
use Rattle.verilog_sim.specs.declared.instruction.Step.TheVariants.{Sub as DoSub, Mul as DoMul}
use Rattle.verilog_sim.specs.declared.instruction.Step.TheVariants.{Div as DoDiv, And as DoAnd, Or as DoOr}
use Rattle.verilog_sim.specs.declared.instruction.Step.TheVariants.{Xor as DoXor, Eq as DoEq, Lt as DoLt}
use Rattle.verilog_sim.specs.declared.instruction.Step.TheVariants.{Concat as DoConcat, Repeat as DoRepeat}
use Rattle.verilog_sim.specs.declared.instruction.Step.TheVariants.{Part as DoPart, Choose as DoChoose}
use Rattle.verilog_sim.specs.declared.instruction.Step.TheVariants.{Cell as DoCell}
use Rattle.verilog_sim.specs.Instructions.{step_value, joined, again}
use Rattle.verilog_sim.specs.Contents.{contents_of, HasDepths}
use Rattle.verilog_sim.specs.Compiled.{IsStepOf}
use Rattle.mx_bits.proofs.Reducing.{low_not, low_difference, joined as joined_is, joined_fits}

at_width : (v x w : ℕ) → w ≡ x → v < 2 ^ w → v < 2 ^ x
at_width v x w e h = subst (λ (k : ℕ). v < 2 ^ k) e h

record Again (k w a : ℕ) : Type 0 where
  is : again k w a ≡ repeated (suc k) w a
  fits : again k w a < 2 ^ (suc k * w)

again_is : (k w a : ℕ) → suc k * w ≤ 128 → a < 2 ^ w → Again k w a
again_is zero w a le h = record { is = let e : a ≡ 0 * 2 ^ w + a = omega arith in e; fits = let e : w ≡ 1 * w = omega arith in at_width a (1 * w) w e h }
again_is (suc k) w a le h =
    let r = again_is k w a (omega (arith, suc-mul (suc k) w)) h in
    let room : suc k * w + w ≤ 128 = omega (arith, suc-mul (suc k) w) in
    let e : joined (again k w a) w a ≡ again k w a * 2 ^ w + a = joined_is (again k w a) a (suc k * w) w r.fits h room in
    record {
      is = e ∙ ap (λ x. x * 2 ^ w + a) r.is;
      fits = rw e (at_width (again k w a * 2 ^ w + a) (suc (suc k) * w) (suc k * w + w) (sym (suc-mul (suc k) w)) (joined_fits (again k w a) a (suc k * w) w r.fits h));
    }

repeat_is : (k w a : ℕ) → 1 ≤ k → k * w ≤ 128 → a < 2 ^ w → again (k - 1) w a ≡ repeated k w a
repeat_is zero w a some le h = absurd (omega arith)
repeat_is (suc k) w a some le h = let e : suc k - 1 ≡ k = omega arith in ap (λ i. again i w a) e ∙ (again_is k w a le h).is

some_times : (k n w : ℕ) → k * n ≡ w → 1 ≤ w → 1 ≤ k
some_times zero n w e h = absurd (omega arith)
some_times (suc k) n w e h = omega arith

cell_is : (cells : List ℕ) (a depth : ℕ) → length cells ≡ depth → get_or cells a 0 ≡ cond (ltb a depth) (get_or cells a 0) 0
cell_is cells a depth e = by_test (ltb a depth) refl
  where
    by_test : (b : Bool) → ltb a depth ≡ b → get_or cells a 0 ≡ cond b (get_or cells a 0) 0
    by_test true f = refl
    by_test false f = get_or-eq_default cells 0 (let q : depth ≤ a = ltb-false a depth f in omega arith)

pub step_is : (m : Module) (mems : List (List ℕ)) (v : Family) (w : ℕ) (e : Expr) (s : Step)
    → IsTyped m w e → IsStepOf m e s → 1 ≤ w → w ≤ 128 → ((n : ℕ) → v n < 2 ^ width_of m n)
    → HasDepths m mems → step_value mems v w s ≡ value m (contents_of [] mems) v w e
step_is m mems v w (Plain n) (Copy a) t h some le range depths = ap v h
step_is m mems v w (Literal x) (DoLiteral word) t h some le range depths = h
step_is m mems v w (Not n) (DoNot a) t h some le range depths = ap (λ i. (2 ^ 128 - 1 - v i) % 2 ^ w) h ∙ low_not (v n) w le (at_width (v n) w (width_of m n) t (range n))
step_is m mems v w (Binary Add n o) (DoAdd a b) t h some le range depths = ap (λ i. (v i + v b) % 2 ^ w) h.0 ∙ ap (λ i. (v n + v i) % 2 ^ w) h.1
step_is m mems v w (Binary Sub n o) (DoSub a b) t h some le range depths =
    ap (λ i. (v i + (2 ^ 128 - v b)) % 2 ^ 128 % 2 ^ w) h.0 ∙ ap (λ i. (v n + (2 ^ 128 - v i)) % 2 ^ 128 % 2 ^ w) h.1 ∙ low_difference (v n) (v o) w le (at_width (v o) w (width_of m o) t.1 (range o))
step_is m mems v w (Binary Mul n o) (DoMul a b) t h some le range depths = ap (λ i. (v i * v b) % 2 ^ w) h.0 ∙ ap (λ i. (v n * v i) % 2 ^ w) h.1
step_is m mems v w (Binary Div n o) (DoDiv a b) t h some le range depths = ap (λ i. quotient (v i) (v b)) h.0 ∙ ap (λ i. quotient (v n) (v i)) h.1
step_is m mems v w (Binary And n o) (DoAnd a b) t h some le range depths = ap (λ i. bit_and (v i) (v b)) h.0 ∙ ap (λ i. bit_and (v n) (v i)) h.1
step_is m mems v w (Binary Or n o) (DoOr a b) t h some le range depths = ap (λ i. bit_or (v i) (v b)) h.0 ∙ ap (λ i. bit_or (v n) (v i)) h.1
step_is m mems v w (Binary Xor n o) (DoXor a b) t h some le range depths = ap (λ i. bit_xor (v i) (v b)) h.0 ∙ ap (λ i. bit_xor (v n) (v i)) h.1
step_is m mems v w (Binary Eq n o) (DoEq a b) t h some le range depths = ap (λ i. cond (eqb (v i) (v b)) 1 0) h.0 ∙ ap (λ i. cond (eqb (v n) (v i)) 1 0) h.1
step_is m mems v w (Binary Lt n o) (DoLt a b) t h some le range depths = ap (λ i. cond (ltb (v i) (v b)) 1 0) h.0 ∙ ap (λ i. cond (ltb (v n) (v i)) 1 0) h.1
step_is m mems v w (Concat n o) (DoConcat a b low) t h some le range depths =
    ap (λ i. joined (v i) low (v b)) h.0 ∙ ap (λ i. joined (v n) low (v i)) h.1 ∙ ap
    (λ i. joined (v n) i (v o)) h.2 ∙ joined_is (v n) (v o) (width_of m n) (width_of m o)
    (range n) (range o) (omega (arith, t))
step_is m mems v w (Repeat k n) (DoRepeat times low a) t h some le range depths =
    ap (λ i. again (i - 1) low (v a)) h.0 ∙ ap (λ i. again (k - 1) i (v a)) h.1 ∙ ap
    (λ i. again (k - 1) (width_of m n) (v i)) h.2 ∙ repeat_is k (width_of m n) (v n)
    (some_times k (width_of m n) w t some) (omega (arith, t)) (range n)
step_is m mems v w (Part n hi lo) (DoPart a low) t h some le range depths =
    ap (λ i. (v i / 2 ^ low) % 2 ^ w) h.0 ∙ ap (λ i. (v n / 2 ^ i) % 2 ^ w) h.1 ∙ ap (λ i. (v n / 2 ^ lo) % 2 ^ i) (sym t.2)
step_is m mems v w (Choose n o p) (DoChoose a b c) t h some le range depths =
    ap (λ i. cond (eqb (v i) 1) (v b) (v c)) h.0 ∙ ap (λ i. cond (eqb (v n) 1) (v i) (v c)) h.1 ∙ ap (λ i. cond (eqb (v n) 1) (v o) (v i)) h.2
step_is m mems v w (Cell k n) (DoCell i a) t h some le range depths =
    ap (λ j. get_or (get_or mems j []) (v a) 0) h.0 ∙ ap (λ j. get_or (get_or mems k []) (v j) 0) h.1 ∙ cell_is (get_or mems k []) (v n) (depth_of m k) (depths k)
step_is m mems v w e s t h some le range depths = absurd h
