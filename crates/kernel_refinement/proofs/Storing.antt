-- Registers that keep words, and registers that count.
use Rattle.std.proofs.Common.{
  ◌≡◌,
  ℕ,
  suc,
  ◌+◌,
  ◌-◌,
  ◌%◌,
  ◌^◌,
  ◌<◌,
  ◌≤◌,
  Bool,
  true,
  false,
  cond,
  ◌&&◌,
  leb,
  eqb,
  List,
  [],
  ◌∷◌,
  Option,
  refl,
  sym,
  ap,
  ◌∙◌,
  subst,
  arith,
}
use Rattle.std.proofs.Math.Nat.{mod-eq_of_lt}
use Rattle.std.proofs.lemmas.Bool.{eqb-true}
use Rattle.rtl_ir.specs.declared.design.Module.{Module}
use Rattle.rtl_ir.specs.Value.{Family, Contents, bit}
use Rattle.rtl_delays.specs.Steps.{Steps}
use Rattle.rtl_delays.specs.Delays.{IsWord, NoReset}
use Rattle.kernel_refinement.specs.States.{
  Counts,
  IsCounter,
  kept,
  Keeps,
  IsKeeper,
  IsStore,
  IsPosition,
  IsStepping,
}

bit_test : (b : Bool) → eqb (bit b) 1 ≡ b
bit_test true = refl
bit_test false = refl

-- ---- stores

module _ (test : ℕ → Bool) (word : ℕ → Option ℕ) where
  next_kept : (go : Bool) (p x y : ℕ) (on : Bool) → IsWord (kept test word p) y → (go ≡ true → (on ≡ test p) × (test p ≡ true → IsWord (word p) x))
      → IsWord (kept test word (cond go (suc p) p)) (cond (go && on) x y)
  next_kept false p x y on h known = h
  next_kept true p x y on h known = by_test (test p) (known refl).0 (known refl).1
    where
      by_test : (b : Bool) → on ≡ b → (b ≡ true → IsWord (word p) x) → IsWord (cond b (word p) (kept test word p)) (cond on x y)
      by_test true e w = subst (λ t. IsWord (word p) (cond t x y)) (sym e) (w refl)
      by_test false e w = subst (λ t. IsWord (kept test word p) (cond t x y)) (sym e) h

pub store_keeps : (m : Module) (run reset on from to : ℕ) → IsStore m run reset on from to → IsKeeper m run reset on from to
store_keeps m run reset on from to r test word c v vs s e none =
    runs 0 s.0 vs s.1.1 none (r.cleared c v s.0 s.1.0 e)
  where
    runs : (p : ℕ) (c : Contents) (vs : List Family) → Steps m c vs → NoReset reset vs → IsWord (kept test word p) (c.regs to)
        → Keeps run on from to test word p vs
    runs p c [] s none h = tt
    runs p c (v ∷ vs) s none h =
        let go = eqb (v run) 1 in
        let shows : v to ≡ c.regs to = s.1.0.holds.kept to r.register in
        let moved : s.0.regs to ≡ cond (go && eqb (v on) 1) (v from) (c.regs to) = r.takes c v s.0 s.1.0 none.0 in (
          subst (IsWord (kept test word p)) (sym shows) h,
          λ known. runs (cond go (suc p) p) s.0 vs s.1.1 none.1
              (subst (IsWord (kept test word (cond go (suc p) p))) (sym moved)
              (next_kept test word go p (v from) (c.regs to) (eqb (v on) 1) h
              (λ t. let k = known (eqb-true (v run) 1 t) in (ap (λ x. eqb x 1) k.0 ∙ bit_test (test p), k.1)))),
        )

-- ---- counters

next_at : (go : Bool) (p at : ℕ) → (p ≤ 2 ^ 47 → at ≡ p) → cond go (suc p) p ≤ 2 ^ 47 → cond go ((at + 1) % 2 ^ 48) at ≡ cond go (suc p) p
next_at false p at h le = h le
next_at true p at h le =
    let same : at ≡ p = h (omega arith) in
    let e : (at + 1) % 2 ^ 48 ≡ at + 1 = mod-eq_of_lt (omega arith) in
    e ∙ omega arith

module _ (next word : ℕ → ℕ) (start : word 0 ≡ 0) (goes : (t : ℕ) → next (word t) ≡ word (suc t)) where
  next_word : (go : Bool) (time p at x : ℕ) → (p ≤ 2 ^ 47 → at ≡ p) → (p ≤ 2 ^ 47 → x ≡ word (p - time)) → cond go (suc p) p ≤ 2 ^ 47
      → cond (go && leb time at) (next x) x ≡ word (cond go (suc p) p - time)
  next_word false time p at x a h le = h le
  next_word true time p at x a h le =
      let same : at ≡ p = a (omega arith) in
      ap (λ n. cond (leb time n) (next x) x) same ∙ by_time (leb time p) refl
    where
      is : x ≡ word (p - time)
      is = h (omega arith)

      by_time : (b : Bool) → leb time p ≡ b → cond b (next x) x ≡ word (suc p - time)
      by_time true e =
          let later : time ≤ p = grind (arith, e) in
          ap next is ∙ goes (p - time) ∙ ap word (let q : suc (p - time) ≡ suc p - time = omega arith in q)
      by_time false e =
          let early : p < time = grind (arith, e) in
          is ∙ ap word (let q : p - time ≡ suc p - time = omega arith in q)

pub stepping_counts : (m : Module) (run reset position time : ℕ) (next : ℕ → ℕ) (to : ℕ) → IsPosition m run reset position
    → IsStepping m run reset position time next to → (word : ℕ → ℕ) → word 0 ≡ 0 → ((t : ℕ) → next (word t) ≡ word (suc t))
    → IsCounter m run reset to time word
stepping_counts m run reset position time next to q r word start goes c v vs s e none =
    runs 0 s.0 vs s.1.1 none (λ le. q.cleared c v s.0 s.1.0 e)
    (λ le. r.cleared c v s.0 s.1.0 e ∙ sym start ∙ ap word (let z : 0 ≡ 0 - time = omega arith in z))
  where
    runs : (p : ℕ) (c : Contents) (vs : List Family) → Steps m c vs → NoReset reset vs → (p ≤ 2 ^ 47 → c.regs position ≡ p)
        → (p ≤ 2 ^ 47 → c.regs to ≡ word (p - time)) → Counts run to time word p vs
    runs p c [] s none at h = tt
    runs p c (v ∷ vs) s none at h =
        let go = eqb (v run) 1 in
        let shows : v to ≡ c.regs to = s.1.0.holds.kept to r.register in
        let place : v position ≡ c.regs position = s.1.0.holds.kept position q.register in
        let moved : s.0.regs position ≡ cond go ((c.regs position + 1) % 2 ^ 48) (c.regs position) =
        q.steps c v s.0 s.1.0 none.0 ∙ ap (λ n. cond go ((n + 1) % 2 ^ 48) (c.regs position)) place in
        let stepped : s.0.regs to ≡ cond (go && leb time (c.regs position)) (next (c.regs to)) (c.regs to) =
        r.steps c v s.0 s.1.0 none.0
        ∙ ap (λ n. cond (go && leb time n) (next (v to)) (c.regs to)) place
        ∙ ap (λ x. cond (go && leb time (c.regs position)) (next x) (c.regs to)) shows in (
          (λ le most. shows ∙ h most),
          runs (cond go (suc p) p) s.0 vs s.1.1 none.1
              (λ le. moved ∙ next_at go p (c.regs position) at le)
              (λ le. stepped ∙ next_word next word start goes go time p (c.regs position) (c.regs to) at h le),
        )
