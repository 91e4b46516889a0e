-- The signals of stages.
use Rattle.std.proofs.Common.{◌≡◌, ◌∙◌, ℕ, zero, suc, ◌+◌, ◌-◌, ◌<◌, ◌≤◌, true, false, cond, eqb, List, [], ◌∷◌, map, length, take, drop, take_all, get_or, refl, ap, sym, arith, ⊎_elim}
use Rattle.std.proofs.lemmas.Bool.{cases_Bool, cases_eq}
use Rattle.std.specs.Prelude.{Contains}
use Rattle.rtl_build.specs.declared.signal.Signal.{Signal}
use Rattle.kernel_layout.specs.Waits.{stages_by}
use Rattle.kernel_wiring.specs.Words.{no_signal, late_of}

pub not_equal : (x b : ℕ) → (x ≡ b → ⊥) → eqb x b ≡ false
not_equal x b none = ⊎_elim
    (λ (e : eqb x b ≡ true). absurd (none (grind (arith, e))))
    (λ (e : eqb x b ≡ false). e)
    (cases_Bool (eqb x b))

-- the first stage with a number shows the signal at its place
pub late_first : (stages : List ℕ) (signals : List Signal) (b k : ℕ) → k < length stages → length signals ≡ length stages → get_or stages k 0 ≡ b
    → ((j : ℕ) → j < k → get_or stages j 0 ≡ b → ⊥) → late_of stages signals b ≡ get_or signals k no_signal
late_first [] signals b k h l is none = absurd (omega arith)
late_first (x ∷ stages) [] b k h l is none = absurd (omega (arith, l))
late_first (x ∷ stages) (s ∷ signals) b zero h l is none =
    let e : eqb x b ≡ true = grind (arith, is) in
    ap (λ t. cond t s (late_of stages signals b)) e
late_first (x ∷ stages) (s ∷ signals) b (suc k) h l is none =
    ap (λ t. cond t s (late_of stages signals b)) (not_equal x b (none 0 (omega arith)))
    ∙ late_first stages signals b k (omega (arith, h)) (omega (arith, l)) is (λ j q e. none (suc j) (omega (arith, q)) e)

pub none_more : (stages : List ℕ) (b k : ℕ) → ((j : ℕ) → j < k → get_or stages j 0 ≡ b → ⊥) → (get_or stages k 0 ≡ b → ⊥) → (j : ℕ) → j < k + 1
    → get_or stages j 0 ≡ b → ⊥
none_more stages b k none here j h e = ⊎_elim
    (λ (same : j ≡ k). here (ap (λ i. get_or stages i 0) (sym same) ∙ e))
    (λ (other : j ≡ k → ⊥). none j (omega (arith, h, other)) e)
    (cases_eq j k)

pub is_zero : (b : ℕ) → eqb b 0 ≡ true → b ≡ 0
is_zero b e = grind (arith, e)

pub not_zero : (b : ℕ) → eqb b 0 ≡ false → b ≡ 0 → ⊥
not_zero b e z = grind (arith, e, z)

-- ---- behind a latency

same_test : (latency behind wait w : ℕ) → latency + wait ≡ behind → eqb (latency + w) behind ≡ eqb w wait
same_test latency behind wait w e = ⊎_elim
    (λ (t : eqb w wait ≡ true).
    let s : w ≡ wait = grind (arith, t) in
    let r : latency + w ≡ behind = omega (arith, s, e) in
    grind (arith, t, r))
    (λ (f : eqb w wait ≡ false).
    not_equal (latency + w) behind (λ q. let s : w ≡ wait = omega (arith, q, e) in absurd (grind (arith, f, s))) ∙ sym f)
    (cases_Bool (eqb w wait))

-- the signals of waits behind a latency are those of the waits
pub late_behind : (latency behind wait : ℕ) (waits : List ℕ) (signals : List Signal) → latency + wait ≡ behind
    → late_of (map (λ w. latency + w) waits) signals behind ≡ late_of waits signals wait
late_behind latency behind wait [] signals e = refl
late_behind latency behind wait (w ∷ waits) [] e = refl
late_behind latency behind wait (w ∷ waits) (s ∷ signals) e =
    ap (λ t. cond t s (late_of (map (λ x. latency + x) waits) signals behind)) (same_test latency behind wait w e)
    ∙ ap (cond (eqb w wait) s) (late_behind latency behind wait waits signals e)

-- what is said of a latency that isn't 0
module _ (latency : ℕ) (waits : List ℕ) (behind : ℕ) where
  -- no stage is earlier
  pub stage_least : (latency ≡ 0 → ⊥) → Contains (stages_by latency waits) behind → latency ≤ behind
  stage_least = by_latency latency
    where
      among : (l : ℕ) (ws : List ℕ) (k : ℕ) → k < length (map (λ w. suc l + w) ws) → get_or (map (λ w. suc l + w) ws) k behind ≡ behind
          → suc l ≤ behind
      among l [] k lt e = absurd (omega (arith, lt))
      among l (w ∷ ws) zero lt e = omega (arith, e)
      among l (w ∷ ws) (suc k) lt e = among l ws k (omega (arith, lt)) e

      by_latency : (l : ℕ) → (l ≡ 0 → ⊥) → Contains (stages_by l waits) behind → l ≤ behind
      by_latency zero some c = absurd (some refl)
      by_latency (suc l) some (zero, lt, e) = omega (arith, e)
      by_latency (suc l) some (suc k, lt, e) = among l waits k (omega (arith, lt)) e

  -- a later stage is that of a wait
  pub wait_among : (wait : ℕ) → (latency ≡ 0 → ⊥) → latency + wait ≡ behind → (wait ≡ 0 → ⊥) → Contains (stages_by latency waits) behind
      → Contains waits wait
  wait_among wait = by_latency latency
    where
      among : (l : ℕ) (ws : List ℕ) (k : ℕ) → suc l + wait ≡ behind → k < length (map (λ w. suc l + w) ws)
          → get_or (map (λ w. suc l + w) ws) k behind ≡ behind → Contains ws wait
      among l [] k sum lt e = absurd (omega (arith, lt))
      among l (w ∷ ws) zero sum lt e = (0, omega arith, omega (arith, e, sum))
      among l (w ∷ ws) (suc k) sum lt e =
          let c = among l ws k sum (omega (arith, lt)) e in
          let q = c.1 in
          (suc c.0, omega (arith, q), c.2)

      by_latency : (l : ℕ) → (l ≡ 0 → ⊥) → l + wait ≡ behind → (wait ≡ 0 → ⊥) → Contains (stages_by l waits) behind → Contains waits wait
      by_latency zero some sum more c = absurd (some refl)
      by_latency (suc l) some sum more (zero, lt, e) = absurd (more (omega (arith, e, sum)))
      by_latency (suc l) some sum more (suc k, lt, e) = among l waits k sum (omega (arith, lt)) e

  -- the first signal shows the word after its latency
  pub late_ready : (signals : List Signal) → (latency ≡ 0 → ⊥) → latency ≡ behind → length signals ≡ length (stages_by latency waits)
      → late_of (stages_by latency waits) signals behind ≡ get_or signals 0 no_signal
  late_ready = by_latency latency
    where
      by_latency : (l : ℕ) (signals : List Signal) → (l ≡ 0 → ⊥) → l ≡ behind → length signals ≡ length (stages_by l waits)
          → late_of (stages_by l waits) signals behind ≡ get_or signals 0 no_signal
      by_latency zero signals some e same = absurd (some refl)
      by_latency (suc l) [] some e same = absurd (omega (arith, same))
      by_latency (suc l) (s ∷ signals) some e same =
          let t : eqb (suc l) behind ≡ true = grind (arith, e) in
          ap (λ b. cond b s (late_of (map (λ w. suc l + w) waits) signals behind)) t

  -- the others show it after its waits
  pub late_rest : (wait : ℕ) (signals : List Signal) → (latency ≡ 0 → ⊥) → latency + wait ≡ behind → (wait ≡ 0 → ⊥)
      → length signals ≡ length (stages_by latency waits) → late_of (stages_by latency waits) signals behind ≡ late_of waits (drop 1 signals) wait
  late_rest wait = by_latency latency
    where
      by_latency : (l : ℕ) (signals : List Signal) → (l ≡ 0 → ⊥) → l + wait ≡ behind → (wait ≡ 0 → ⊥) → length signals ≡ length (stages_by l waits)
          → late_of (stages_by l waits) signals behind ≡ late_of waits (drop 1 signals) wait
      by_latency zero signals some sum more same = absurd (some refl)
      by_latency (suc l) [] some sum more same = absurd (omega (arith, same))
      by_latency (suc l) (s ∷ signals) some sum more same =
          let t : eqb (suc l) behind ≡ false = not_equal (suc l) behind (λ e. more (omega (arith, sum, e))) in
          ap (λ b. cond b s (late_of (map (λ w. suc l + w) waits) signals behind)) t ∙ late_behind (suc l) behind wait waits signals sum

-- all signals but the first one
pub rest_is : (signals : List Signal) → take (length signals - 1) (drop 1 signals) ≡ drop 1 signals
rest_is [] = take_all 0 [] (omega arith)
rest_is (s ∷ signals) = take_all (length (s ∷ signals) - 1) signals (omega arith)
