-- The netlist of the sum is built of its parts.
use Rattle.std.proofs.Common.{
  ◌≡◌,
  ℕ,
  zero,
  suc,
  ◌+◌,
  ◌-◌,
  ◌%◌,
  ◌^◌,
  ◌<◌,
  ◌≤◌,
  inr,
  Bool,
  true,
  false,
  not,
  cond,
  ◌&&◌,
  ◌||◌,
  eqb,
  ltb,
  leb,
  refl,
  sym,
  ap,
  ◌∙◌,
  arith,
}
use Rattle.std.specs.Prelude.{bit_and, bit_or}
use Rattle.std.proofs.Math.Nat.{mod-eq_of_lt}
use Rattle.mx_bits.specs.declared.word.Word.{Word}
use Rattle.fix_arith.specs.declared.types.StreamType.TheVariants.{UInt}
use Rattle.fix_arith.proofs.Residues.{reduced-sum}
use Rattle.rtl_ir.specs.Value.{Family, Contents, bit}
use Rattle.rtl_ir.specs.Grow.{Holds}
use Rattle.std.proofs.lemmas.Bool.{false≢true}
use Rattle.std.specs.Prelude.{List, [], ◌∷◌, Some, slice_get}
use Rattle.std.proofs.lemmas.Bool.{eqb-true}
use Rattle.std.proofs.lemmas.List.Elements.{All-nil, All-cons}
use Rattle.std.proofs.Common.{subst}
use Rattle.rtl_ir.specs.declared.design.Module.{Module}
use Rattle.rtl_ir.specs.declared.design.Update.{Update}
use Rattle.rtl_ir.specs.declared.design.Target.TheVariants.{Reg}
use Rattle.rtl_ir.specs.Value.{is_reg}
use Rattle.rtl_delays.specs.Steps.{MovedTo, MovesAll, Step, Steps, HasUpdate, IsSound}
use Rattle.rtl_delays.specs.Delays.{IsWord, Delays, IsDelay, of_net}
use Rattle.kernel_control.specs.Refines.{TimedRun, is_active, advances}
use Rattle.rtl_delays.specs.Extends.{AllOff}
use Rattle.kernel_control.specs.IsControl.{ControlAt}
use Rattle.kernel_refinement.specs.Built.{is_shown, NodeBuilt, OutputBuilt, IsBuilt}
use Rattle.kernel_refinement.specs.Sum.{sum_nodes, sum_times, sum_module, sum_nets_of}
use Rattle.kernel_refinement.proofs.Sum.{sum_ticks, sum_layout}

-- ---- a register is a delay of one advance

-- what an update of the module does in a step
update_moves : (m : Module) (c : Contents) (v : Family) (d : Contents) (u : Update) → HasUpdate m u → Step m c v d
    → MovedTo m c v d (eqb (v u.enable) 1) (v u.value) u.target
update_moves m c v d u h s = among m.updates h.0 h.1 s.moves
  where
    among : (us : List Update) (i : ℕ) → slice_get us i ≡ Some u → MovesAll m c v d us → MovedTo m c v d (eqb (v u.enable) 1) (v u.value) u.target
    among [] i e q = cc
    among (w ∷ us) zero e q = let f : w ≡ u = cc in subst (λ (x : Update). MovedTo m c v d (eqb (v x.enable) 1) (v x.value) x.target) f q.0
    among (w ∷ us) (suc i) e q = among us i e q.1

-- a register that takes the net's word where it advances
register_delays : (m : Module) (run reset from r : ℕ) → is_reg m r ≡ true → HasUpdate m (record { enable = run; target = Reg r; value = from })
    → IsDelay m run reset (of_net from) r 1
register_delays m run reset from r reg has f c v vs s e none = runs 0 s.0 vs s.1.1 (λ le. absurd (omega arith))
  where
    next : (on : Bool) (p x y : ℕ) → (1 ≤ p → IsWord (f (p - 1)) y) → (on ≡ true → IsWord (f p) x) → 1 ≤ cond on (suc p) p
        → IsWord (f (cond on (suc p) p - 1)) (cond on x y)
    next true p x y h k le = let P : ℕ → Type 0 = λ n. IsWord (f n) x in let q : p ≡ suc p - 1 = omega arith in subst P q (k refl)
    next false p x y h k le = h le

    runs : (p : ℕ) (c : Contents) (vs : List Family) → Steps m c vs → (1 ≤ p → IsWord (f (p - 1)) (c.regs r)) → Delays run (of_net from) r f 1 p vs
    runs p c [] s h = tt
    runs p c (v ∷ vs) s h =
        let moved : s.0.regs r ≡ cond (eqb (v run) 1) (v from) (c.regs r) =
        update_moves m c v s.0 (record { enable = run; target = Reg r; value = from }) has s.1.0 in
        let shows : v r ≡ c.regs r = s.1.0.holds.kept r reg in (
          (λ le. subst (IsWord (f (p - 1))) (sym shows) (h le)),
          λ known. runs (cond (eqb (v run) 1) (suc p) p) s.0 vs s.1.1 (λ le.
              subst (IsWord (f (cond (eqb (v run) 1) (suc p) p - 1))) (sym moved)
              (next (eqb (v run) 1) p (v from) (c.regs r) h (λ on. known (eqb-true (v run) 1 on)) le)),
        )

-- ---- the netlist

record Nets (w : ℕ) (v : Family) : Type 0 where
  n13 : v 13 ≡ (v 4 + v 12) % 2 ^ w
  n16 : v 16 ≡ bit (ltb (v 11) (v 3))
  n18 : v 18 ≡ bit (ltb (v 11) ((1 + v 3) % 2 ^ 48))
  n20 : v 20 ≡ 2 ^ 1 - 1 - bit (ltb (v 11) 1)
  n21 : v 21 ≡ bit_and (v 20) (v 18)
  n10 : v 10 ≡ 2 ^ 1 - 1 - v 18
  n22 : v 22 ≡ 2 ^ 1 - 1 - v 2
  n24 : v 24 ≡ bit_or (2 ^ 1 - 1 - v 16) (v 5)
  n26 : v 26 ≡ bit_or (2 ^ 1 - 1 - v 21) (v 9)
  n29 : v 29 ≡ bit_and (v 22) (bit_and (v 18) (bit_and (v 24) (v 26)))
  n6 : v 6 ≡ bit_and (v 29) (v 16)
  n8 : v 8 ≡ bit_and (v 29) (v 21)
  n7 : v 7 ≡ v 12
  n31 : v 31 ≡ cond (eqb (v 1) 1) 0 ((v 11 + 1) % 2 ^ 48)
  n32 : v 32 ≡ bit_or (v 1) (v 29)

nets : (w : ℕ) (one nothing : Word) (c : Contents) (v : Family) → one.bits ≡ 1 → nothing.bits ≡ 0 → Holds (sum_module w one nothing) c v → Nets w v
nets w one nothing c v o z f =
    let r0 = f.assigned in
    let r1 = r0.1 in
    let r2 = r1.1 in
    let r3 = r2.1 in
    let r4 = r3.1 in
    let r5 = r4.1 in
    let r6 = r5.1 in
    let r7 = r6.1 in
    let r8 = r7.1 in
    let r9 = r8.1 in
    let r10 = r9.1 in
    let r11 = r10.1 in
    let r12 = r11.1 in
    let r13 = r12.1 in
    let r14 = r13.1 in
    let r15 = r14.1 in
    let r16 = r15.1 in
    let r17 = r16.1 in
    let r18 = r17.1 in
    let r19 = r18.1 in
    let r20 = r19.1 in
    let r21 = r20.1 in
    let r22 = r21.1 in
    let r23 = r22.1 in
    let e14 : v 14 ≡ 1 = r1.0 ∙ o in
    let e15 : v 15 ≡ 0 = r2.0 ∙ z in
    record {
      n13 = r0.0;
      n16 = r3.0;
      n18 = r5.0 ∙ ap (λ x. bit (ltb (v 11) x)) (r4.0 ∙ ap (λ x. (x + v 3) % 2 ^ 48) e14);
      n20 = r7.0 ∙ ap (λ x. 2 ^ 1 - 1 - x) (r6.0 ∙ ap (λ x. bit (ltb (v 11) x)) e14);
      n21 = r8.0;
      n10 = r9.0;
      n22 = r10.0;
      n24 = r12.0 ∙ ap (λ x. bit_or x (v 5)) r11.0;
      n26 = r14.0 ∙ ap (λ x. bit_or x (v 9)) r13.0;
      n29 = r17.0 ∙ ap (bit_and (v 22)) (r16.0 ∙ ap (bit_and (v 18)) r15.0);
      n6 = r18.0;
      n8 = r19.0;
      n7 = r20.0;
      n31 = r22.0 ∙ ap (λ x. cond (eqb (v 1) 1) x (v 30)) e15 ∙ ap (λ x. cond (eqb (v 1) 1) 0 x) (r21.0 ∙ ap (λ x. (v 11 + x) % 2 ^ 48) e14);
      n32 = r23.0;
    }

and_bits : (a b : Bool) → bit_and (bit a) (bit b) ≡ bit (a && b)
and_bits true true = refl
and_bits true false = refl
and_bits false true = refl
and_bits false false = refl

or_bits : (a b : Bool) → bit_or (bit a) (bit b) ≡ bit (a || b)
or_bits true true = refl
or_bits true false = refl
or_bits false true = refl
or_bits false false = refl

not_bit : (a : Bool) → 2 ^ 1 - 1 - bit a ≡ bit (not a)
not_bit true = refl
not_bit false = refl

as_bit : (x : ℕ) → x < 2 ^ 1 → x ≡ bit (eqb x 1)
as_bit zero h = refl
as_bit (suc zero) h = refl
as_bit (suc (suc x)) h = absurd (omega arith)

test_bit : (b : Bool) → eqb (bit b) 1 ≡ b
test_bit true = refl
test_bit false = refl

and_true : (a : Bool) → a && true ≡ a
and_true true = refl
and_true false = refl

not_not : (a : Bool) → not (not a) ≡ a
not_not true = refl
not_not false = refl

not_below : (a b : ℕ) → not (ltb a b) ≡ leb b a
not_below a b = by_test (ltb a b) (leb b a) refl refl
  where
    by_test : (s t : Bool) → ltb a b ≡ s → leb b a ≡ t → not (ltb a b) ≡ leb b a
    by_test s t e f = grind (arith, e, f)

due_x : (p ticks : ℕ) → leb 0 p && ltb p (0 + ticks) ≡ ltb p ticks
due_x p ticks = let e : leb 0 p ≡ true = grind arith in let f : 0 + ticks ≡ ticks = omega arith in ap (λ b. b && ltb p (0 + ticks)) e ∙ ap (ltb p) f

ends_is : (p ticks : ℕ) → leb (ticks + 1) p ≡ not (ltb p (1 + ticks))
ends_is p ticks = let f : ticks + 1 ≡ 1 + ticks = omega arith in ap (λ n. leb n p) f ∙ sym (not_below p (1 + ticks))

-- whether it advances, as the netlist has it
go_is : (held live : Bool) (dx dy kx ky ends a b : Bool) → kx ≡ dx → ky ≡ dy → ends ≡ not live
    → not held && (live && ((not dx || a) && (not dy || b))) ≡ not held && (not ends && (((not kx || a) && true) && ((not ky || b) && true)))
go_is held live dx dy kx ky ends a b e f g =
    ap (λ l. not held && (l && ((not dx || a) && (not dy || b)))) (sym (not_not live) ∙ ap not (sym g))
    ∙ ap (λ x. not held && (not ends && (x && (not dy || b)))) (sym (and_true (not dx || a)) ∙ ap (λ d. (not d || a) && true) (sym e))
    ∙ ap (λ x. not held && (not ends && (((not kx || a) && true) && x))) (sym (and_true (not dy || b)) ∙ ap (λ d. (not d || b) && true) (sym f))

shows : (w : ℕ) (one nothing : Word) → one.bits ≡ 1 → nothing.bits ≡ 0 → (k : TimedRun) (c : Contents) (v : Family) (ticks : ℕ) → Holds (sum_module w one nothing) c v → v 3 ≡ ticks → ticks ≤ 2 ^ 40
    → ((u : ℕ) → k.due u (v 11) ≡ is_shown (sum_nodes w) sum_times sum_layout ticks u (v 11) v) → k.ends (v 11) ≡ leb (ticks + 1) (v 11) → ControlAt sum_nets_of 29 k (v 11) v
shows w one nothing o z k c v ticks f e3 small due ends =
    let n = nets w one nothing c v o z f in
    let p = v 11 in
    let dx = ltb p ticks in
    let live = ltb p (1 + ticks) in
    let dy = leb 1 p && live in
    let held = eqb (v 2) 1 in
    let okx = not dx || eqb (v 5) 1 in
    let oky = not dy || eqb (v 9) 1 in
    let go = advances k sum_nets_of p v in
    let ex : k.due 0 p ≡ dx = due 0 ∙ and_true (is_active 0 ticks p) ∙ due_x p ticks in
    let ey : k.due 4 p ≡ dy = due 4 ∙ and_true dy in
    let ee : k.ends p ≡ not live = ends ∙ ends_is p ticks in
    let s2 : v 2 < 2 ^ 1 = f.words 2 (omega arith) in
    let s5 : v 5 < 2 ^ 1 = f.words 5 (omega arith) in
    let s9 : v 9 < 2 ^ 1 = f.words 9 (omega arith) in
    let m16 : v 16 ≡ bit dx = n.n16 ∙ ap (λ x. bit (ltb p x)) e3 in
    let wide : (1 + ticks) % 2 ^ 48 ≡ 1 + ticks = mod-eq_of_lt (omega arith) in
    let m18 : v 18 ≡ bit live = n.n18 ∙ ap (λ x. bit (ltb p ((1 + x) % 2 ^ 48))) e3 ∙ ap (λ x. bit (ltb p x)) wide in
    let m20 : v 20 ≡ bit (leb 1 p) = n.n20 ∙ not_bit (ltb p 1) ∙ ap bit (not_below p 1) in
    let m21 : v 21 ≡ bit dy = n.n21 ∙ ap (λ x. bit_and x (v 18)) m20 ∙ ap (bit_and (bit (leb 1 p))) m18 ∙ and_bits (leb 1 p) live in
    let m22 : v 22 ≡ bit (not held) = n.n22 ∙ ap (λ x. 2 ^ 1 - 1 - x) (as_bit (v 2) s2) ∙ not_bit held in
    let m24 : v 24 ≡ bit okx = n.n24 ∙ ap (λ x. bit_or (2 ^ 1 - 1 - x) (v 5)) m16 ∙ ap
    (λ x. bit_or x (v 5)) (not_bit dx) ∙ ap (bit_or (bit (not dx)))
    (as_bit (v 5) s5) ∙ or_bits (not dx) (eqb (v 5) 1) in
    let m26 : v 26 ≡ bit oky = n.n26 ∙ ap (λ x. bit_or (2 ^ 1 - 1 - x) (v 9)) m21 ∙ ap
    (λ x. bit_or x (v 9)) (not_bit dy) ∙ ap (bit_or (bit (not dy)))
    (as_bit (v 9) s9) ∙ or_bits (not dy) (eqb (v 9) 1) in
    let m29 : v 29 ≡ bit go =
    n.n29
    ∙ ap (λ x. bit_and (v 22) (bit_and (v 18) (bit_and x (v 26)))) m24 ∙ ap (λ x. bit_and (v 22) (bit_and (v 18) (bit_and (bit okx) x))) m26
    ∙ ap (λ x. bit_and (v 22) (bit_and (v 18) x)) (and_bits okx oky)
    ∙ ap (λ x. bit_and (v 22) (bit_and x (bit (okx && oky)))) m18 ∙ ap (bit_and (v 22)) (and_bits live (okx && oky))
    ∙ ap (λ x. bit_and x (bit (live && (okx && oky)))) m22 ∙ and_bits (not held) (live && (okx && oky))
    ∙ ap bit (go_is held live dx dy (k.due 0 p) (k.due 4 p) (k.ends p) (eqb (v 5) 1) (eqb (v 9) 1) ex ey ee) in
    record {
      runs = m29;
      ended = n.n10 ∙ ap (λ x. 2 ^ 1 - 1 - x) m18 ∙ not_bit live ∙ ap bit (sym ee);
      takes = (n.n6 ∙ ap (λ x. bit_and x (v 16)) m29 ∙ ap (bit_and (bit go)) m16 ∙ and_bits go dx ∙ ap (λ d. bit (go && d)) (sym ex), tt);
      valid = (n.n8 ∙ ap (λ x. bit_and x (v 21)) m29 ∙ ap (bit_and (bit go)) m21 ∙ and_bits go dy ∙ ap (λ d. bit (go && d)) (sym ey), tt);
    }

or_true : (b : Bool) → eqb (bit_or 1 (bit b)) 1 ≡ true
or_true true = refl
or_true false = refl

cleared : (w : ℕ) (one nothing : Word) → one.bits ≡ 1 → nothing.bits ≡ 0 → (c : Contents) (v : Family) (d : Contents) → Step (sum_module w one nothing) c v d → v 1 ≡ 1 → d.regs 11 ≡ 0
cleared w one nothing o z c v d s r =
    let n = nets w one nothing c v o z s.holds in
    let s29 : v 29 < 2 ^ 1 = s.holds.words 29 (omega arith) in
    let on : eqb (v 32) 1 ≡ true = ap (λ x. eqb x 1) (n.n32 ∙ ap (λ x. bit_or x (v 29)) r ∙ ap (bit_or 1) (as_bit (v 29) s29)) ∙ or_true (eqb (v 29) 1) in
    s.moves.0 ∙ ap (λ b. cond b (v 31) (c.regs 11)) on ∙ n.n31 ∙ ap (λ x. cond (eqb x 1) 0 ((v 11 + 1) % 2 ^ 48)) r

steps : (w : ℕ) (one nothing : Word) → one.bits ≡ 1 → nothing.bits ≡ 0
    → (c : Contents) (v : Family) (d : Contents) → Step (sum_module w one nothing) c v d
    → v 1 ≡ 0 → d.regs 11 ≡ cond (eqb (v 29) 1) ((v 11 + 1) % 2 ^ 48) (c.regs 11)
steps w one nothing o z c v d s r =
    let n = nets w one nothing c v o z s.holds in
    let s29 : v 29 < 2 ^ 1 = s.holds.words 29 (omega arith) in
    let on : eqb (v 32) 1 ≡ eqb (v 29) 1 = ap (λ x. eqb x 1) (n.n32 ∙ ap (λ x. bit_or x (v 29)) r ∙ ap (bit_or 0) (as_bit (v 29) s29) ∙ or_bits false (eqb (v 29) 1)) ∙ test_bit (eqb (v 29) 1) in
    s.moves.0 ∙ ap (λ b. cond b (v 31) (c.regs 11)) on ∙ ap (λ x. cond (eqb (v 29) 1) x (c.regs 11)) (n.n31 ∙ ap (λ x. cond (eqb x 1) 0 ((v 11 + 1) % 2 ^ 48)) r)

still : (w : ℕ) (one nothing : Word) → one.bits ≡ 1 → nothing.bits ≡ 0
    → (c : Contents) (v : Family) → Holds (sum_module w one nothing) c v → v 29 ≡ 0 → v 1 ≡ 0
    → AllOff v (sum_module w one nothing).updates
still w one nothing o z c v h run reset =
    let n = nets w one nothing c v o z h in
    let e : v 32 ≡ bit_or 0 0 = n.n32 ∙ ap (λ x. bit_or x (v 29)) reset ∙ ap (bit_or 0) run in
    (ap (λ x. eqb x 1) e, (ap (λ x. eqb x 1) run, tt))

sound : (w : ℕ) (one nothing : Word) → IsSound (sum_module w one nothing)
sound w one nothing = record {
  range = (
    omega arith,
    (omega arith, omega arith),
    (
      omega arith,
      tt,
      (
        omega arith,
        tt,
        (
          omega arith,
          (omega arith, omega arith),
          (
            omega arith,
            (omega arith, omega arith),
            (
              omega arith,
              (omega arith, omega arith),
              (
                omega arith,
                (omega arith, omega arith),
                (
                  omega arith,
                  omega arith,
                  (
                    omega arith,
                    (omega arith, omega arith),
                    (
                      omega arith,
                      omega arith,
                      (
                        omega arith,
                        omega arith,
                        (
                          omega arith,
                          omega arith,
                          (
                            omega arith,
                            (omega arith, omega arith),
                            (
                              omega arith,
                              omega arith,
                              (
                                omega arith,
                                (omega arith, omega arith),
                                (
                                  omega arith,
                                  (omega arith, omega arith),
                                  (
                                    omega arith,
                                    (omega arith, omega arith),
                                    (
                                      omega arith,
                                      (omega arith, omega arith),
                                      (
                                        omega arith,
                                        (omega arith, omega arith),
                                        (
                                          omega arith,
                                          (omega arith, omega arith),
                                          (
                                            omega arith,
                                            omega arith,
                                            (
                                              omega arith,
                                              (omega arith, omega arith),
                                              (
                                                omega arith,
                                                (omega arith, omega arith, omega arith),
                                                (omega arith, (omega arith, omega arith), tt),
                                              ),
                                            ),
                                          ),
                                        ),
                                      ),
                                    ),
                                  ),
                                ),
                              ),
                            ),
                          ),
                        ),
                      ),
                    ),
                  ),
                ),
              ),
            ),
          ),
        ),
      ),
    ),
  );
  updates = (omega arith, (omega arith, tt));
  apart = (refl, (refl, tt));
}

-- the sum one advance ago
behind : (w : ℕ) (one nothing : Word) → IsDelay (sum_module w one nothing) 29 1 (of_net 13) 12 1
behind w one nothing = register_delays (sum_module w one nothing) 29 1 13 12 refl (1, refl)

node_built : (w : ℕ) (one nothing : Word) → one.bits ≡ 1 → nothing.bits ≡ 0 → (v : ℕ) → v < 5
    → NodeBuilt (sum_module w one nothing) (sum_nodes w) sum_ticks sum_times sum_nets_of 29 sum_layout v
node_built w one nothing o z zero h = record { word = record { place = 0; port = _; at = refl; node = refl; word = λ c f q. refl }; taps = λ e. tt }
node_built w one nothing o z (suc zero) h = record {
  word = record { tap = 12; first = refl; same = λ c f q. refl };
  taps = λ e. (
    record {
      inside = omega arith;
      stream = refl;
      shows = inr (record { delay = 0; waits = refl; late = behind w one nothing; ranked = λ q. absurd (omega (arith, q)) });
    },
    tt,
  );
}
node_built w one nothing o z (suc (suc zero)) h = record { word = tt; taps = λ e. absurd (false≢true e) }
node_built w one nothing o z (suc (suc (suc zero))) h = record {
  word = λ c f q. let n = nets w one nothing c f o z q in n.n13 ∙ sym (reduced-sum (UInt w) (f 4) (f 12));
  taps = λ e. (
    record { inside = omega arith; stream = refl; shows = inr (record { delay = 0; waits = refl; late = λ c f q. refl; ranked = λ q. omega arith }) },
    (record { inside = omega arith; stream = refl; shows = inr (record { delay = 0; waits = refl; late = λ c f q. refl; ranked = λ q. omega arith }) }, tt),
  );
}
node_built w one nothing o z (suc (suc (suc (suc zero)))) h = record {
  word = record { tap = 12; first = refl; same = λ c f q. refl };
  taps = λ e. (
    record {
      inside = omega arith;
      stream = refl;
      shows = inr (record { delay = 0; waits = refl; late = behind w one nothing; ranked = λ q. absurd (omega (arith, q)) });
    },
    tt,
  );
}
node_built w one nothing o z (suc (suc (suc (suc (suc v))))) h = absurd (omega arith)

output_built : (w : ℕ) (one nothing : Word) → one.bits ≡ 1 → nothing.bits ≡ 0
    → OutputBuilt (sum_module w one nothing) (sum_nodes w) sum_layout (record { node = 4; channel = record { word = 7; valid = 8; ready = 9 } })
output_built w one nothing o z = record { output = refl; word = λ c f h. (nets w one nothing c f o z h).n7 }

pub sum_built : (w : ℕ) (one nothing : Word) → one.bits ≡ 1 → nothing.bits ≡ 0
    → IsBuilt (sum_module w one nothing) (sum_nodes w) sum_ticks sum_times sum_nets_of 29 sum_layout
sum_built w one nothing o z = record {
  sound = sound w one nothing;
  small = omega arith;
  control = record {
    position = record { register = refl; cleared = cleared w one nothing o z; steps = steps w one nothing o z };
    shows = λ k c f count h e small le due ends. shows w one nothing o z k c f count h e small due ends;
  };
  each = λ v h. node_built w one nothing o z v h;
  outputs = All-cons (OutputBuilt (sum_module w one nothing) (sum_nodes w) sum_layout) _ [] (output_built w one nothing o z)
      (All-nil (OutputBuilt (sum_module w one nothing) (sum_nodes w) sum_layout));
  still = still w one nothing o z;
}
