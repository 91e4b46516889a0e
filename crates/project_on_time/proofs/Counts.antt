-- How many words are due before a position, as plain arithmetic.
use Rattle.std.proofs.Common.{◌≡◌, ℕ, zero, suc, ◌+◌, ◌-◌, ◌<◌, ◌≤◌, Bool, true, false, cond, ◌&&◌, leb, ltb, refl, sym, ap, ◌∙◌, arith, inl, inr, leb-true, ltb-true}
use Rattle.std.specs.Prelude.{min}
use Rattle.std.proofs.lemmas.Bool.{le-leb, lt-leb, lt-ltb, le-ltb, cases_lt}
use Rattle.rtl_ir.specs.Value.{bit}
use Rattle.stream_equations.specs.Equations.{count_before}
use Rattle.kernel_control.specs.Refines.{is_active, next_position}
use Rattle.project_rtl.specs.Times.{next_count}
use Rattle.project_runs.proofs.Steps.{both_true}

-- one word a position at most
pub record Grows (n : ℕ → ℕ) : Type 0 where
  pub up : (i j : ℕ) → i ≤ j → n i ≤ n j
  pub slow : (i j : ℕ) → j ≤ i + 1 → n j ≤ n i + 1

up_one : (test : ℕ → Bool) (i : ℕ) → count_before test i ≤ count_before test (suc i)
up_one test i = by (test i)
  where
    by : (b : Bool) → count_before test i ≤ cond b (suc (count_before test i)) (count_before test i)
    by true = omega arith
    by false = omega arith

slow_one : (test : ℕ → Bool) (i : ℕ) → count_before test (suc i) ≤ count_before test i + 1
slow_one test i = by (test i)
  where
    by : (b : Bool) → cond b (suc (count_before test i)) (count_before test i) ≤ count_before test i + 1
    by true = omega arith
    by false = omega arith

up_far : (test : ℕ → Bool) (i k : ℕ) → count_before test i ≤ count_before test (k + i)
up_far test i zero = let e : 0 + i ≡ i = omega arith in let f = ap (λ j. count_before test j) e in omega arith
up_far test i (suc k) =
    let e : suc k + i ≡ suc (k + i) = omega arith in
    let f = ap (λ j. count_before test j) e in
    let a = up_far test i k in
    let b = up_one test (k + i) in
    omega arith

pub grows : (test : ℕ → Bool) → Grows (count_before test)
grows test = record {
  up = far;
  slow = λ i j h. let a = far j (suc i) (omega arith) in let b = slow_one test i in omega arith;
}
  where
    far : (i j : ℕ) → i ≤ j → count_before test i ≤ count_before test j
    far i j h =
        let e : j - i + i ≡ j = omega arith in
        let f = ap (λ k. count_before test k) e in
        let a = up_far test i (j - i) in
        omega arith

-- where a word is due, it counts
pub counts : (test : ℕ → Bool) (p : ℕ) → test p ≡ true → count_before test (suc p) ≡ count_before test p + 1
counts test p e = ap (λ b. cond b (suc (count_before test p)) (count_before test p)) e ∙ (let f : suc (count_before test p) ≡ count_before test p + 1 = omega arith in f)

-- ---- when a port is due

-- a port of this time, which is due in the ticks of the run that pass a test
pub record IsActive (due test : ℕ → Bool) (time ticks : ℕ) : Type 0 where
  pub is : (p : ℕ) → due p ≡ is_active time ticks p && test (p - time)

not_before : (due test : ℕ → Bool) (time ticks : ℕ) → IsActive due test time ticks → (p : ℕ) → p ≤ time → count_before due p ≡ 0
not_before due test time ticks h zero le = refl
not_before due test time ticks h (suc p) le =
    let off : due p ≡ false = h.is p ∙ ap (λ b. (b && ltb p (time + ticks)) && test (p - time)) (lt-leb time p (omega arith)) in
    ap (λ b. cond b (suc (count_before due p)) (count_before due p)) off ∙ not_before due test time ticks h p (omega arith)

-- in a tick of the run it is due where this passes the test
pub due_at : (due test : ℕ → Bool) (time ticks t : ℕ) → IsActive due test time ticks → t < ticks → due (time + t) ≡ test t
due_at due test time ticks t h lt =
    let p = time + t in
    let same : p - time ≡ t = omega arith in
    h.is p
    ∙ ap (λ b. (b && ltb p (time + ticks)) && test (p - time)) (le-leb time p (omega arith))
    ∙ ap (λ b. b && test (p - time)) (lt-ltb p (time + ticks) (omega arith))
    ∙ ap test same

-- it is due as often before a position as ticks before the one there pass the test
pub due_before : (due test : ℕ → Bool) (time ticks t : ℕ) → IsActive due test time ticks → t ≤ ticks → count_before due (time + t) ≡ count_before test t
due_before due test time ticks zero h le =
    let e : time + 0 ≡ time = omega arith in
    ap (λ p. count_before due p) e ∙ not_before due test time ticks h time (omega arith)
due_before due test time ticks (suc t) h le =
    let p = time + t in
    let next : time + suc t ≡ suc p = omega arith in
    ap (λ j. count_before due j) next
    ∙ ap (λ b. cond b (suc (count_before due p)) (count_before due p)) (due_at due test time ticks t h (omega arith))
    ∙ ap (λ n. cond (test t) (suc n) n) (due_before due test time ticks t h (omega arith))

off_past : (due test : ℕ → Bool) (time ticks p : ℕ) → IsActive due test time ticks → time + ticks ≤ p → due p ≡ false
off_past due test time ticks p h le =
    h.is p ∙ ap (λ b. b && test (p - time)) (ap (λ b. leb time p && b) (le-ltb p (time + ticks) le) ∙ none (leb time p))
  where
    none : (b : Bool) → b && false ≡ false
    none true = refl
    none false = refl

-- and no more past the last tick
due_over : (due test : ℕ → Bool) (time ticks k : ℕ) → IsActive due test time ticks → count_before due (k + (time + ticks)) ≡ count_before test ticks
due_over due test time ticks zero h =
    let e : 0 + (time + ticks) ≡ time + ticks = omega arith in
    ap (λ p. count_before due p) e ∙ due_before due test time ticks ticks h (omega arith)
due_over due test time ticks (suc k) h =
    let p = k + (time + ticks) in
    let next : suc k + (time + ticks) ≡ suc p = omega arith in
    ap (λ j. count_before due j) next
    ∙ ap (λ b. cond b (suc (count_before due p)) (count_before due p)) (off_past due test time ticks p h (omega arith))
    ∙ due_over due test time ticks k h

-- a port that is due is in a tick of the run
pub record IsTick (test : ℕ → Bool) (time ticks p : ℕ) : Type 0 where
  pub tick : ℕ
  pub within : tick < ticks
  pub is : time + tick ≡ p
  pub due : test tick ≡ true

-- so many words are due before a position: in the ticks before the one there
pub due_count : (due test : ℕ → Bool) (time ticks p : ℕ) → IsActive due test time ticks → count_before due p ≡ count_before test (min ticks (p - time))
due_count due test time ticks p h = elim (cases_lt time p) [
  | inr low ↦
      let e : min ticks (p - time) ≡ 0 = omega arith in
      not_before due test time ticks h p low ∙ ap (λ n. count_before test n) (sym e)
  | inl high ↦
      elim (cases_lt (p - time) ticks) [
        | inl in_run ↦
            let e : p ≡ time + (p - time) = omega arith in
            let f : p - time ≡ min ticks (p - time) = omega arith in
            ap (λ n. count_before due n) e ∙ due_before due test time ticks (p - time) h (omega arith) ∙ ap (λ n. count_before test n) f
        | inr past ↦
            let e : p ≡ p - (time + ticks) + (time + ticks) = omega arith in
            let f : ticks ≡ min ticks (p - time) = omega arith in
            ap (λ n. count_before due n) e ∙ due_over due test time ticks (p - (time + ticks)) h ∙ ap (λ n. count_before test n) f
      ]
]

pub tick_of : (due test : ℕ → Bool) (time ticks p : ℕ) → IsActive due test time ticks → due p ≡ true → IsTick test time ticks p
tick_of due test time ticks p h e =
    let a = both_true (leb time p && ltb p (time + ticks)) (test (p - time)) (sym (h.is p) ∙ e) in
    let b = both_true (leb time p) (ltb p (time + ticks)) a.0 in
    let low : time ≤ p = leb-true time p b.0 in
    let high : p < time + ticks = ltb-true p (time + ticks) b.1 in
    record { tick = p - time; within = omega arith; is = omega arith; due = a.1 }

-- the words of all ticks, where the run ends no earlier than this port's last tick
pub due_all : (due test : ℕ → Bool) (time ticks d : ℕ) → IsActive due test time ticks → time + ticks ≤ d → count_before due d ≡ count_before test ticks
due_all due test time ticks d h le =
    let e : d ≡ d - (time + ticks) + (time + ticks) = omega arith in
    ap (λ p. count_before due p) e ∙ due_over due test time ticks (d - (time + ticks)) h

pub due_most : (due test : ℕ → Bool) (time ticks d i : ℕ) → IsActive due test time ticks → time + ticks ≤ d → count_before due i ≤ count_before due d
due_most due test time ticks d i h le =
    let a = due_all due test time ticks d h le in
    let b = due_all due test time ticks (i + d) h (omega arith) in
    let c = (grows due).up i (i + d) (omega arith) in
    omega arith

-- a kernel moves on where it is just as far as it has to be
pub moves_on : (u go : Bool) (N s d p : ℕ) → min (N - s) d ≤ p
    → (u ≡ true → p < d → p + s ≡ N → 1 ≤ bit go) → min (next_count u N - s) d ≤ next_position go p
moves_on true true N s d p at must = omega arith
moves_on true false N s d p at must = let h : p < d → p + s ≡ N → 1 ≤ 0 = must refl in grind arith
moves_on false true N s d p at must = omega arith
moves_on false false N s d p at must = at
