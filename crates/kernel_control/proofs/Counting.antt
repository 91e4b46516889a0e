-- The next position.
use Rattle.std.proofs.Common.{◌≡◌, ℕ, ◌+◌, ◌%◌, ◌^◌, ◌<◌, Bool, true, false, cond, ◌||◌, eqb, List, [], ◌∷◌, ◌++◌, refl, ap, ◌∙◌, arith}
use Rattle.rtl_ir.specs.declared.design.Update.{Update}
use Rattle.rtl_ir.specs.declared.design.Target.TheVariants.{Reg}
use Rattle.rtl_delays.specs.Steps.{is_target, writes_reg}
use Rattle.std.specs.Prelude.{bit_or}
use Rattle.rtl_ir.specs.Value.{bit}
use Rattle.kernel_control.proofs.Bits.{or_bits, as_bit, test_bit}

step_is : (step run reset : ℕ) → run < 2 ^ 1 → reset < 2 ^ 1 → step ≡ bit_or run reset → eqb step 1 ≡ eqb run 1 || eqb reset 1
step_is step run reset h k e =
    ap (λ x. eqb x 1) (e ∙ ap (λ x. bit_or x reset) (as_bit run h) ∙ ap (bit_or (bit (eqb run 1))) (as_bit reset k) ∙ or_bits (eqb run 1) (eqb reset 1))
    ∙ test_bit (eqb run 1 || eqb reset 1)

or_true : (a : Bool) → a || true ≡ true
or_true true = refl
or_true false = refl

or_false : (a : Bool) → a || false ≡ a
or_false true = refl
or_false false = refl

pub is_cleared :
    (new step next run reset nothing more old : ℕ) → new ≡ cond (eqb step 1) next old → run < 2 ^ 1 → reset < 2 ^ 1 → step ≡ bit_or run reset
    → next ≡ cond (eqb reset 1) nothing more → nothing ≡ 0 → reset ≡ 1 → new ≡ 0
is_cleared new step next run reset nothing more old e h k s n z r =
    let on : eqb reset 1 ≡ true = ap (λ x. eqb x 1) r in
    let t : eqb step 1 ≡ true = step_is step run reset h k s ∙ ap (λ b. eqb run 1 || b) on ∙ or_true (eqb run 1) in
    e ∙ ap (λ b. cond b next old) t ∙ n ∙ ap (λ b. cond b nothing more) on ∙ z

pub is_raised :
    (new step next run reset nothing more one at old w : ℕ) → new ≡ cond (eqb step 1) next old → run < 2 ^ 1 → reset < 2 ^ 1 → step ≡ bit_or run reset
    → next ≡ cond (eqb reset 1) nothing more
    → more ≡ (at + one) % 2 ^ w → w ≡ 48 → one ≡ 1 → reset ≡ 0 → new ≡ cond (eqb run 1) ((at + 1) % 2 ^ 48) old
is_raised new step next run reset nothing more one at old w e h k s n m wide o r =
    let off : eqb reset 1 ≡ false = ap (λ x. eqb x 1) r in
    let t : eqb step 1 ≡ eqb run 1 = step_is step run reset h k s ∙ ap (λ b. eqb run 1 || b) off ∙ or_false (eqb run 1) in
    let up : more ≡ (at + 1) % 2 ^ 48 = m ∙ ap (λ x. (at + x) % 2 ^ w) o ∙ ap (λ x. (at + 1) % 2 ^ x) wide in
    e ∙ ap (λ b. cond b next old) t ∙ ap (λ x. cond (eqb run 1) x old) (n ∙ ap (λ b. cond b nothing more) off ∙ up)

same_net : (n : ℕ) → eqb n n ≡ true
same_net n = grind arith

-- a register is written by the last update
pub writes_last : (n enable value : ℕ) (us : List Update) → writes_reg n (us ++ (record { enable = enable; target = Reg n; value = value }) ∷ []) ≡ true
writes_last n enable value [] = ap (λ b. b || false) (same_net n)
writes_last n enable value (u ∷ us) = ap (λ b. is_target n u.target || b) (writes_last n enable value us) ∙ or_true (is_target n u.target)
