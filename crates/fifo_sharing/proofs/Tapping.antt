-- The chain for delays that were sorted, each once.
use Rattle.std.proofs.Common.{
  ◌≡◌,
  ◌≢◌,
  ⊎_elim,
  ℕ,
  ◌-◌,
  ◌<◌,
  ◌≤◌,
  List,
  length,
  get_or,
  sym,
  ap,
  subst,
  arith,
  eqb,
}
use Rattle.std.specs.Prelude.{Contains, Some, None}
use Rattle.std.specs.Ordering.{nat_cmp}
use Rattle.std.specs.List.{dedup, slice_get}
use Rattle.std.proofs.lemmas.Bool.{cases_eq}
use Rattle.std.proofs.lemmas.Grind.{get_or_default_zero}
use Rattle.std.proofs.lemmas.Option.{get_or_from_slice_get, slice_get_within, slice_get_cases}
use Rattle.std.specs.List.Sorted.{IsPermutation, IsSorted, IsStrictlyIncreasing}
use Rattle.std.proofs.lemmas.List.Kept.{
  Contains-dedup_nat,
  Contains-from_dedup,
  AllPairs-from_increasing,
}
use Rattle.std.proofs.lemmas.List.Sorted.{Contains-permutation, IsPermutation-sym}
use Rattle.std.proofs.lemmas.Map.Keys.{IsStrictlyIncreasing-dedup}
use Rattle.std.proofs.lemmas.List.Elements.{Contains-get_or}
use Rattle.fifo_sharing.specs.Chains.{IsChainOf}

pub kept : (ds us : List ℕ) → IsPermutation ds us → (e : ℕ) → Contains ds e
    → Contains (dedup eqb us) e
kept ds us moved e h = Contains-dedup_nat us e (Contains-permutation ds us e moved h)

pub not_added : (ds us : List ℕ) → IsPermutation ds us → (e : ℕ) → Contains (dedup eqb us) e
    → Contains ds e
not_added ds us moved e h = Contains-permutation us ds e (IsPermutation-sym ds us moved)
    (Contains-from_dedup eqb us e h)

-- no number of a rising list is above its last
pub below_last : (ts : List ℕ) → IsStrictlyIncreasing ts → (e : ℕ) → Contains ts e
    → e ≤ get_or ts (length ts - 1) 0
below_last ts up e (k, within, is) =
    let here : get_or ts k e ≡ get_or ts k 0 = get_or_default_zero ts k e within in
    ⊎_elim
    (λ (q : k ≡ length ts - 1).
    let end : get_or ts k 0 ≡ get_or ts (length ts - 1) 0 = ap (λ i. get_or ts i 0) q in
    omega (arith, is, here, end))
    (λ (d : k ≢ length ts - 1).
    let low : k < length ts - 1 = omega (arith, within, d) in
    let high : length ts - 1 < length ts = omega (arith, within) in
    omega (arith, is, here, AllPairs-from_increasing ts up k (length ts - 1) 0 low high))
    (cases_eq k (length ts - 1))

-- what `last` answers
pub last_of : (ss ts : List ℕ) (w : ℕ) → ss ≡ ts → Some w ≡ slice_get ss (length ss - 1)
    → (0 < length ts) × (get_or ts (length ts - 1) 0 ≡ w)
last_of ss ts w same is =
    let P : List ℕ → Type 0 = λ zs. slice_get zs (length zs - 1) ≡ Some w in
    let got : slice_get ts (length ts - 1) ≡ Some w = subst P same (sym is) in
    let within : length ts - 1 < length ts = slice_get_within ts (length ts - 1) w got in
    (omega (arith, within), get_or_from_slice_get ts (length ts - 1) w 0 got)

pub none_last : (ss ts : List ℕ) → ss ≡ ts → None ≡ slice_get ss (length ss - 1) → length ts ≡ 0
none_last ss ts same is =
    let P : List ℕ → Type 0 = λ zs. slice_get zs (length zs - 1) ≡ None in
    let got : slice_get ts (length ts - 1) ≡ None = subst P same (sym is) in
    ⊎_elim
    (λ (k : (x : ℕ) × (length ts - 1 < length ts) × (slice_get ts (length ts - 1) ≡ Some x) ×
    (get_or ts (length ts - 1) x ≡ x)).
    let some = k.2 in absurd (cc))
    (λ (k : (length ts ≤ length ts - 1) × (slice_get ts (length ts - 1) ≡ None)). omega (
      arith,
      k.0,
    ))
    (slice_get_cases ts (length ts - 1)).1

pub chain_of : (producer words : ℕ) (ds us ts : List ℕ) → IsPermutation ds us
    → IsSorted nat_cmp us → ts ≡ dedup eqb us → 0 < length ts
    → get_or ts (length ts - 1) 0 ≡ words → IsChainOf (Contains ds) (record {
      producer = producer;
      words = words;
      taps = ts;
    })
chain_of producer words ds us ts moved sorted is some last =
    let P : ℕ → List ℕ → Type 0 = λ e zs. Contains zs e in
    let in_ts : (e : ℕ) → Contains ds e → Contains ts e = λ e k. subst (P e) (sym is) (kept ds us
    moved e k) in
    let in_ds : (e : ℕ) → Contains ts e → Contains ds e = λ e k. not_added ds us moved e (subst (P
    e) is k) in
    let rising : IsStrictlyIncreasing ts = subst IsStrictlyIncreasing (sym is)
    (IsStrictlyIncreasing-dedup us sorted) in
    let Q : ℕ → Type 0 = λ w. Contains ts w in
    record {
      taps = λ e. (in_ds e, in_ts e);
      rising = rising;
      longest = in_ds words (subst Q last (Contains-get_or ts (length ts - 1) 0 (omega (
        arith,
        some,
      ))));
      most = λ e k. omega (arith, last, below_last ts rising e (in_ts e k));
      last = last;
    }

pub nothing_tapped : (ds us ts : List ℕ) → IsPermutation ds us → ts ≡ dedup eqb us
    → length ts ≡ 0 → (e : ℕ) → Contains ds e → ⊥
nothing_tapped ds us ts moved is none e h =
    let P : List ℕ → Type 0 = λ zs. Contains zs e in
    let k : Contains ts e = subst P (sym is) (kept ds us moved e h) in
    omega (arith, k.1, none)
