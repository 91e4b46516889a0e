-- A register is a delay of one advance, and a ring in a memory one of as many as it has words.
use Rattle.std.proofs.Common.{◌≡◌, ℕ, zero, suc, ◌+◌, ◌-◌, ◌<◌, ◌≤◌, Bool, true, false, cond, ◌&&◌, leb, eqb, List, [], ◌∷◌, Option, Some, refl, sym, ap, ◌∙◌, subst, arith}
use Rattle.std.specs.Prelude.{slice_get}
use Rattle.std.proofs.lemmas.Bool.{eqb-true, lt-ltb}
use Rattle.rtl_ir.specs.declared.design.Module.{Module}
use Rattle.rtl_ir.specs.declared.design.Update.{Update}
use Rattle.rtl_ir.specs.declared.design.Target.TheVariants.{Reg, Cell}
use Rattle.rtl_ir.specs.Value.{Family, Contents, is_reg, depth_of}
use Rattle.rtl_ir.specs.Grow.{Holds}
use Rattle.rtl_delays.specs.Delays.{IsWord}
use Rattle.rtl_delays.specs.Steps.{MovedTo, MovesAll, Step, Steps, HasUpdate}
use Rattle.rtl_delays.specs.Delays.{NoReset, Delays, IsDelay, of_net}

-- what an update of the module does in a step
pub update_moves : (m : Module) (c : Contents) (v : Family) (d : Contents) (u : Update) → HasUpdate m u → Step m c v d → MovedTo m c v d (eqb (v u.enable) 1) (v u.value) u.target
update_moves m c v d u h s = among m.updates h.0 h.1 s.moves
  where
    among : (us : List Update) (i : ℕ) → slice_get us i ≡ Some u → MovesAll m c v d us → MovedTo m c v d (eqb (v u.enable) 1) (v u.value) u.target
    among [] i e q = cc
    among (w ∷ us) zero e q = let f : w ≡ u = cc in subst (λ (x : Update). MovedTo m c v d (eqb (v x.enable) 1) (v x.value) x.target) f q.0
    among (w ∷ us) (suc i) e q = among us i e q.1

-- a register that takes the net's word where it advances
pub register_delays : (m : Module) (run reset from r : ℕ) → is_reg m r ≡ true → HasUpdate m (record { enable = run; target = Reg r; value = from }) → IsDelay m run reset (of_net from) r 1
register_delays m run reset from r reg has f c v vs s e none = runs 0 s.0 vs s.1.1 (λ le. absurd (omega arith))
  where
    next : (on : Bool) (p x y : ℕ) → (1 ≤ p → IsWord (f (p - 1)) y) → (on ≡ true → IsWord (f p) x) → 1 ≤ cond on (suc p) p → IsWord (f (cond on (suc p) p - 1)) (cond on x y)
    next true p x y h k le = let P : ℕ → Type 0 = λ n. IsWord (f n) x in let q : p ≡ suc p - 1 = omega arith in subst P q (k refl)
    next false p x y h k le = h le

    runs : (p : ℕ) (c : Contents) (vs : List Family) → Steps m c vs → (1 ≤ p → IsWord (f (p - 1)) (c.regs r)) → Delays run (of_net from) r f 1 p vs
    runs p c [] s h = tt
    runs p c (v ∷ vs) s h =
        let moved : s.0.regs r ≡ cond (eqb (v run) 1) (v from) (c.regs r) = update_moves m c v s.0 (record { enable = run; target = Reg r; value = from }) has s.1.0 in
        let shows : v r ≡ c.regs r = s.1.0.holds.kept r reg in (
          (λ le. subst (IsWord (f (p - 1))) (sym shows) (h le)),
          λ known. runs (cond (eqb (v run) 1) (suc p) p) s.0 vs s.1.1 (λ le.
              subst (IsWord (f (cond (eqb (v run) 1) (suc p) p - 1))) (sym moved)
              (next (eqb (v run) 1) p (v from) (c.regs r) h (λ on. known (eqb-true (v run) 1 on)) le)),
        )

-- the place in a ring of so many words that is a number of places behind another one
abbrev pub back : ℕ → ℕ → ℕ → ℕ
back words at j = cond (leb j at) (at - j) (at + words - j)

-- the place after another one
abbrev pub round : ℕ → ℕ → ℕ
round words at = cond (eqb (at + 1) words) 0 (at + 1)

-- A ring of words: a pointer, which a reset clears and an advance steps round, and a memory whose word at the pointer is shown,
-- and replaced where it advances.
pub record IsRing (m : Module) (run reset from to at k words : ℕ) : Type 0 where
  pub some : 1 ≤ words
  pub pointer : is_reg m at ≡ true
  pub depth : depth_of m k ≡ words
  pub shows : (c : Contents) (v : Family) → Holds m c v → v at < words → v to ≡ c.cells k (v at)
  pub writes : HasUpdate m (record { enable = run; target = Cell k at; value = from })
  pub cleared : (c : Contents) (v : Family) (d : Contents) → Step m c v d → v reset ≡ 1 → d.regs at ≡ 0
  pub steps : (c : Contents) (v : Family) (d : Contents) → Step m c v d → v reset ≡ 0 → v at < words → d.regs at ≡ cond (eqb (v run) 1) (round words (v at)) (c.regs at)

back_all : (words at : ℕ) → at < words → back words at words ≡ at
back_all words at lt = grind (arith, lt)

-- the word of j advances before, after an advance
back_round : (words at j : ℕ) → at < words → 1 ≤ j → suc j ≤ words → back words (round words at) (suc j) ≡ back words at j
back_round words at j lt one le = grind (arith, lt, one, le)

back_one : (words at : ℕ) → at < words → back words (round words at) 1 ≡ at
back_one words at lt = grind (arith, lt)

back_other : (words at j : ℕ) → at < words → 1 ≤ j → suc j ≤ words → eqb (back words at j) at ≡ false
back_other words at j lt one le = grind (arith, lt, one, le)

round_below : (words at : ℕ) → at < words → round words at < words
round_below words at lt = grind (arith, lt)

-- the words so far stand behind the pointer
abbrev Holding : (ℕ → Option ℕ) → ℕ → ℕ → ℕ → (ℕ → ℕ) → Type 0
Holding f words p at cells = (j : ℕ) → 1 ≤ j → j ≤ words → j ≤ p → IsWord (f (p - j)) (cells (back words at j))

pub ring_delays : (m : Module) (run reset from to at k words : ℕ) → IsRing m run reset from to at k words → IsDelay m run reset (of_net from) to words
ring_delays m run reset from to at k words r f c v vs s e none =
    let start : s.0.regs at ≡ 0 = r.cleared c v s.0 s.1.0 e in
    runs 0 s.0 vs s.1.1 none (subst (λ n. n < words) (sym start) r.some) (λ j one le most. absurd (omega arith))
  where
    next : (on : Bool) (p x a : ℕ) (cells after : ℕ → ℕ) → a < words → Holding f words p a cells → (on ≡ true → IsWord (f p) x)
        → ((i : ℕ) → after i ≡ cond (on && eqb i a) x (cells i)) → Holding f words (cond on (suc p) p) (cond on (round words a) a) after
    next false p x a cells after lt h known e j one le most = subst (IsWord (f (p - j))) (sym (e (back words a j))) (h j one le most)
    next true p x a cells after lt h known e zero one le most = absurd (omega arith)
    next true p x a cells after lt h known e (suc zero) one le most =
        let P : ℕ → Type 0 = λ n. IsWord (f n) (after (back words (round words a) 1)) in
        let Q : ℕ → Type 0 = λ i. IsWord (f p) (after i) in
        let same : eqb a a ≡ true = grind arith in
        let q : p ≡ suc p - suc zero = omega arith in
        subst P q (subst Q (sym (back_one words a lt)) (subst (IsWord (f p)) (sym (e a ∙ ap (λ b. cond b x (cells a)) same)) (known refl)))
    next true p x a cells after lt h known e (suc (suc j)) one le most =
        let i = back words a (suc j) in
        let Q : ℕ → Type 0 = λ n. IsWord (f (suc p - suc (suc j))) (after n) in
        let P : ℕ → Type 0 = λ n. IsWord (f n) (cells i) in
        let q : p - suc j ≡ suc p - suc (suc j) = omega arith in
        let other : eqb i a ≡ false = back_other words a (suc j) lt (omega arith) le in
        subst Q (sym (back_round words a (suc j) lt (omega arith) le))
        (subst (IsWord (f (suc p - suc (suc j)))) (sym (e i ∙ ap (λ b. cond b x (cells i)) other)) (subst P q (h (suc j) (omega arith) (omega arith) (omega arith))))

    below : (on : Bool) (a : ℕ) → a < words → cond on (round words a) a < words
    below true a lt = round_below words a lt
    below false a lt = lt

    runs : (p : ℕ) (c : Contents) (vs : List Family) → Steps m c vs → NoReset reset vs → c.regs at < words → Holding f words p (c.regs at) (c.cells k) → Delays run (of_net from) to f words p vs
    runs p c [] s none lt h = tt
    runs p c (v ∷ vs) s none lt h =
        let on = eqb (v run) 1 in
        let here : v at ≡ c.regs at = s.1.0.holds.kept at r.pointer in
        let in' : v at < words = omega arith in
        let shown : v to ≡ c.cells k (c.regs at) = r.shows c v s.1.0.holds in' ∙ ap (c.cells k) here in
        let pointer : s.0.regs at ≡ cond on (round words (c.regs at)) (c.regs at) = r.steps c v s.0 s.1.0 none.0 in' ∙ ap (λ a. cond on (round words a) (c.regs at)) here in
        let within : v at < depth_of m k = subst (λ w. v at < w) (sym r.depth) in' in
        let cells : (i : ℕ) → s.0.cells k i ≡ cond (on && eqb i (c.regs at)) (v from) (c.cells k i) =
        λ i. update_moves m c v s.0 (record { enable = run; target = Cell k at; value = from }) r.writes s.1.0 i
        ∙ ap (λ b. cond (on && (b && eqb i (v at))) (v from) (c.cells k i)) (lt-ltb (v at) (depth_of m k) within)
        ∙ ap (λ a. cond (on && eqb i a) (v from) (c.cells k i)) here in
        let P : ℕ → Type 0 = λ i. IsWord (f (p - words)) (c.cells k i) in (
          (λ le. subst (IsWord (f (p - words))) (sym shown) (subst P (back_all words (c.regs at) lt) (h words r.some (omega arith) le))),
          λ known.
              let Q : ℕ → Type 0 = λ a. Holding f words (cond on (suc p) p) a (s.0.cells k) in
              runs (cond on (suc p) p) s.0 vs s.1.1 none.1 (subst (λ a. a < words) (sym pointer) (below on (c.regs at) lt))
              (subst Q (sym pointer) (next on p (v from) (c.regs at) (c.cells k) (s.0.cells k) lt h (λ t. known (eqb-true (v run) 1 t)) cells)),
        )
