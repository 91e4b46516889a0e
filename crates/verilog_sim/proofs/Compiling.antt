-- Instructions of assignments are safe to evaluate, and one more instruction keeps those before it.
use Rattle.std.proofs.Common.{true, ◌≡◌, ℕ, zero, suc, ◌+◌, ◌-◌, ◌*◌, ◌<◌, ◌≤◌, List, [], ◌∷◌, ◌++◌, length, get_or, Some, refl, sym, ap, ◌∙◌, subst, arith}
use Rattle.std.specs.Prelude.{slice_get}
use Rattle.std.specs.List.{All}
use Rattle.std.proofs.Math.Nat.{suc-mul}
use Rattle.std.proofs.lemmas.Option.{slice_get-get_or}
use Rattle.std.proofs.lemmas.List.{length_push}
use Rattle.rtl_ir.specs.declared.design.Net.{Net as ANet}
use Rattle.rtl_ir.specs.declared.design.Module.{Module}
use Rattle.rtl_ir.specs.declared.design.Assign.{Assign}
use Rattle.rtl_ir.specs.declared.design.Sign.TheVariants.{Add, Sub, Mul, Div, And, Or, Xor, Eq, Lt}
use Rattle.rtl_ir.specs.declared.design.Expr.{Expr}
use Rattle.rtl_ir.specs.declared.design.Expr.TheVariants.{Net as Plain, Literal, Not, Binary, Concat, Repeat, Part, Choose, Cell}
use Rattle.rtl_ir.specs.Value.{width_of, net_width}
use Rattle.rtl_ir.specs.Typed.{IsTyped}
use Rattle.rtl_ir.specs.Formed.{IsFormedExpr}
use Rattle.verilog_sim.specs.declared.instruction.Step.{Step}
use Rattle.verilog_sim.specs.declared.instruction.Step.TheVariants.{Copy, Literal as DoLiteral}
use Rattle.verilog_sim.specs.declared.instruction.Step.TheVariants.{Not as DoNot, Add as DoAdd}
use Rattle.verilog_sim.specs.declared.instruction.Step.TheVariants.{Sub as DoSub, Mul as DoMul}
use Rattle.verilog_sim.specs.declared.instruction.Step.TheVariants.{Div as DoDiv, And as DoAnd, Or as DoOr}
use Rattle.verilog_sim.specs.declared.instruction.Step.TheVariants.{Xor as DoXor, Eq as DoEq, Lt as DoLt}
use Rattle.verilog_sim.specs.declared.instruction.Step.TheVariants.{Concat as DoConcat, Repeat as DoRepeat}
use Rattle.verilog_sim.specs.declared.instruction.Step.TheVariants.{Part as DoPart, Choose as DoChoose}
use Rattle.verilog_sim.specs.declared.instruction.Step.TheVariants.{Cell as DoCell}
use Rattle.verilog_sim.specs.declared.instruction.Instruction.{Instruction}
use Rattle.verilog_sim.specs.Instructions.{IsSafe, IsStepSafe}
use Rattle.verilog_sim.specs.Compiled.{IsStepOf, IsNarrow, IsInstructionOf, AreInstructions, AreInstructionsOf}
use Rattle.verilog_sim.specs.Runnable.{IsSizedNet, IsRunnable, IsPartOf}
use Rattle.verilog_sim.proofs.Gathering.{PushedAt, pushed_at}
use Rattle.verilog_sim.proofs.Gathering.PushedAt.{before, last}

pub width_in : (m : Module) (n : ℕ) → IsRunnable m → n < length m.nets → (1 ≤ width_of m n) × (width_of m n ≤ 128)
width_in m n h lt =
    let none : ANet = record { name = []; width = 0; reg = Rattle.std.proofs.Common.false } in
    let at : slice_get m.nets n ≡ Some (get_or m.nets n none) = slice_get-get_or m.nets n none lt in
    let f : IsSizedNet (get_or m.nets n none) = h.nets n (get_or m.nets n none) at in
    let e : width_of m n ≡ (get_or m.nets n none).width = ap net_width at in
    (omega (arith, e, f.some), omega (arith, e, f.at_most))

-- a replication of at least one bit and at most 128
times_some : (k n w : ℕ) → k * n ≡ w → 1 ≤ w → 1 ≤ k
times_some zero n w e h = absurd (omega arith)
times_some (suc k) n w e h = omega arith

twice : (k n : ℕ) → k * n ≤ 128 → 1 ≤ n → 2 ≤ k → n < 128
twice zero n e h le = absurd (omega arith)
twice (suc zero) n e h le = absurd (omega arith)
twice (suc (suc k)) n e h le = omega (arith, suc-mul (suc k) n, suc-mul k n)

pub step_safe :
    (m : Module) (w : ℕ) (e : Expr) (s : Step)
    → IsRunnable m → IsFormedExpr m e → IsTyped m w e → 1 ≤ w → w ≤ 128 → IsStepOf m e s
    → IsStepSafe (length m.nets) (length m.mems) s
step_safe m w (Plain n) (Copy a) r f t some le h = let q = f.nets n (0, refl) in omega (arith, h, q)
step_safe m w (Literal x) (DoLiteral word) r f t some le h = tt
step_safe m w (Not n) (DoNot a) r f t some le h = let q = f.nets n (0, refl) in omega (arith, h, q)
step_safe m w (Binary Add n o) (DoAdd a b) r f t some le h = let q = f.nets n (0, refl) in let p = f.nets o (1, refl) in (omega (arith, h.0, q), omega (arith, h.1, p))
step_safe m w (Binary Sub n o) (DoSub a b) r f t some le h = let q = f.nets n (0, refl) in let p = f.nets o (1, refl) in (omega (arith, h.0, q), omega (arith, h.1, p))
step_safe m w (Binary Mul n o) (DoMul a b) r f t some le h = let q = f.nets n (0, refl) in let p = f.nets o (1, refl) in (omega (arith, h.0, q), omega (arith, h.1, p))
step_safe m w (Binary Div n o) (DoDiv a b) r f t some le h = let q = f.nets n (0, refl) in let p = f.nets o (1, refl) in (omega (arith, h.0, q), omega (arith, h.1, p))
step_safe m w (Binary And n o) (DoAnd a b) r f t some le h = let q = f.nets n (0, refl) in let p = f.nets o (1, refl) in (omega (arith, h.0, q), omega (arith, h.1, p))
step_safe m w (Binary Or n o) (DoOr a b) r f t some le h = let q = f.nets n (0, refl) in let p = f.nets o (1, refl) in (omega (arith, h.0, q), omega (arith, h.1, p))
step_safe m w (Binary Xor n o) (DoXor a b) r f t some le h = let q = f.nets n (0, refl) in let p = f.nets o (1, refl) in (omega (arith, h.0, q), omega (arith, h.1, p))
step_safe m w (Binary Eq n o) (DoEq a b) r f t some le h = let q = f.nets n (0, refl) in let p = f.nets o (1, refl) in (omega (arith, h.0, q), omega (arith, h.1, p))
step_safe m w (Binary Lt n o) (DoLt a b) r f t some le h = let q = f.nets n (0, refl) in let p = f.nets o (1, refl) in (omega (arith, h.0, q), omega (arith, h.1, p))
step_safe m w (Concat n o) (DoConcat a b low) r f t some le h =
    let q = f.nets n (0, refl) in
    let p = f.nets o (1, refl) in
    (omega (arith, h.0, q), omega (arith, h.1, p), omega (arith, h.2, t, (width_in m n r q).0))
step_safe m w (Repeat k n) (DoRepeat times low a) r f t some le h =
    let q = f.nets n (0, refl) in
    let one : 1 ≤ k = times_some k (width_of m n) w t some in (
      omega (arith, h.0, one),
      λ two. (let d : width_of m n < 128 = twice k (width_of m n)
          (omega (arith, t)) (width_in m n r q).0 (omega (arith, h.0, two)) in omega (
            arith,
            h.1,
            d,
          )),
      omega (arith, h.2, q),
    )
step_safe m w (Part n hi lo) (DoPart a low) r f t some le h =
    let q = f.nets n (0, refl) in
    (omega (arith, h.0, q), omega (arith, h.1, t.0, t.1, (width_in m n r q).1))
step_safe m w (Choose n o p) (DoChoose a b c) r f t some le h =
    let q = f.nets n (0, refl) in
    let u = f.nets o (1, refl) in
    let v = f.nets p (2, refl) in
    (omega (arith, h.0, q), omega (arith, h.1, u), omega (arith, h.2, v))
step_safe m w (Cell k n) (DoCell i a) r f t some le h =
    let q = f.nets n (0, refl) in
    let u = f.mem k refl in
    (omega (arith, h.0, u), omega (arith, h.1, q))
step_safe m w e s r f t some le h = absurd h

pub instructions_safe : (m : Module) (order : List Assign) (instructions : List Instruction)
    → IsRunnable m → IsPartOf m order → AreInstructionsOf m order instructions
    → All (IsSafe (length m.nets) (length m.mems)) instructions
instructions_safe m order instructions r o are i d lt = safe (get_or instructions i d) (slice_get-get_or instructions i d lt)
  where
    safe : (l : Instruction) → slice_get instructions i ≡ Some l → IsSafe (length m.nets) (length m.mems) l
    safe l at =
        let at' : slice_get order i ≡ Some (get_or order i (record { target = 0; expr = Plain 0 })) = slice_get-get_or order i (record { target = 0; expr = Plain 0 }) (omega (arith, are.size)) in
        by_assign l at (get_or order i (record { target = 0; expr = Plain 0 })) at'
      where
        by_assign : (l : Instruction) → slice_get instructions i ≡ Some l → (a : Assign) → slice_get order i ≡ Some a → IsSafe (length m.nets) (length m.mems) l
        by_assign l at a at' =
            let is = are.each i a l at' at in
            let from = o.from i a at' in
            let formed = r.assigns from.0 a from.1 in
            let typed = r.typed from.0 a from.1 in
            let w = width_in m a.target r formed.target in
            record {
              target = omega (arith, is.target, formed.target);
              some = omega (arith, is.width, w.0);
              at_most = omega (arith, is.width, w.1);
              half = λ h. (let n = (is.narrow h).target in omega (arith, is.width, n));
              step = step_safe m (width_of m a.target) a.expr l.step r formed.expr typed w.0 w.1 is.step;
            }

pub none_compiled_at : (m : Module) (assigns : List Assign) → AreInstructions m assigns [] 0
none_compiled_at m assigns = record { size = refl; each = λ i a l at e. absurd (cc) }

pub one_compiled :
    (m : Module) (assigns : List Assign) (instructions : List Instruction) (i : ℕ) (a : Assign) (l : Instruction)
    → slice_get assigns i ≡ Some a → l.target ≡ a.target → l.width ≡ width_of m a.target → (l.narrow ≡ true → IsNarrow m a) → IsStepOf m a.expr l.step
    → AreInstructions m assigns instructions i → AreInstructions m assigns (instructions ++ l ∷ []) (i + 1)
one_compiled m assigns instructions i a l at target width narrow s are =
    record { size = length_push instructions l ∙ ap (λ n. n + 1) are.size; each = λ j b k bt e. each j b k bt (pushed_at instructions l j k e) }
  where
    each : (j : ℕ) (b : Assign) (k : Instruction) → slice_get assigns j ≡ Some b → PushedAt instructions l j k → IsInstructionOf m b k
    each j b k bt (before lt e) = are.each j b k bt e
    each j b k bt (last q e) =
        let bt' : slice_get assigns i ≡ Some b = subst (λ (x : ℕ). slice_get assigns x ≡ Some b) (q ∙ are.size) bt in
        let r : a ≡ b = cc in
        subst (IsInstructionOf m b) e (subst (λ (x : Assign). IsInstructionOf m x l) r (record { target = target; width = width; narrow = narrow; step = s }))

-- instructions in another list that is the same
pub instructions_at : (m : Module) (assigns : List Assign)
    (instructions instructions' : List Instruction) → instructions' ≡ instructions
    → AreInstructionsOf m assigns instructions → AreInstructionsOf m assigns instructions'
instructions_at m assigns instructions instructions' e = subst (λ (l : List Instruction). AreInstructionsOf m assigns l) (sym e)
