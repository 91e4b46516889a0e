-- The chains so far, one producer more.
use Rattle.std.proofs.Common.{
  ◌≡◌,
  ◌≢◌,
  ⊎_elim,
  ℕ,
  ◌+◌,
  ◌*◌,
  ◌<◌,
  List,
  [],
  ◌∷◌,
  ◌++◌,
  length,
  get_or,
  sym,
  ap,
  ◌∙◌,
  subst,
  arith,
}
use Rattle.std.specs.Prelude.{Contains, All, ◌↔◌}
use Rattle.std.specs.List.Sorted.{IsStrictlyIncreasing}
use Rattle.std.proofs.lemmas.Bool.{cases_eq}
use Rattle.std.proofs.lemmas.Grind.{common_steps}
use Rattle.std.proofs.lemmas.List.{map_push, get_or_default}
use Rattle.std.specs.List.{enumerate_from}
use Rattle.std.proofs.lemmas.List.FromFn.{length-enumerate_from, get_or-enumerate_from}
use Rattle.std.proofs.lemmas.List.Elements.{
  All-push,
  All-weaker,
  Contains-append_left,
  Contains-push,
}
use Rattle.cycle_find.specs.Constraints.{Numbers, EndsInRange}
use Rattle.schedule_problem.specs.declared.problem.Problem.{Problem}
use Rattle.fifo_sharing.specs.declared.chain.Chain.{Chain}
use Rattle.fifo_sharing.specs.Chains.{IsDelayOf, IsChainOf, AreChains, producers}
use Rattle.fifo_sharing.specs.Delays.{AreDelays}
use Rattle.fifo_sharing.proofs.DelaysBelow.{AreChainsBelow}

-- a rising list stays so where a greater number is added
pub rising_more : (xs : List ℕ) (x : ℕ) → IsStrictlyIncreasing xs → All (λ y. y < x) xs
    → IsStrictlyIncreasing (xs ++ x ∷ [])
rising_more xs x up below k l = ⊎_elim
    (λ (q : k + 1 ≡ length xs). grind (arith, common_steps, below))
    (λ (d : k + 1 ≢ length xs). grind (arith, common_steps, up))
    (cases_eq (k + 1) (length xs))

-- the same chain for delays that are the same
pub chain_same : (D E : ℕ → Type 0) (chain : Chain) → ((delay : ℕ) → D delay ↔ E delay)
    → IsChainOf D chain → IsChainOf E chain
chain_same D E chain same h = record {
  taps = λ e. (λ k. (same e).0 ((h.taps e).0 k), λ k. (h.taps e).1 ((same e).1 k));
  rising = h.rising;
  longest = (same chain.words).0 h.longest;
  most = λ e k. h.most e ((same e).1 k);
  last = h.last;
}

pub producer_added : (p : Problem) (x : Numbers) (n : ℕ) (chains : List Chain) (chain : Chain)
    → AreChainsBelow p x n chains → chain.producer ≡ n → IsChainOf (IsDelayOf p x n) chain
    → AreChainsBelow p x (n + 1) (chains ++ chain ∷ [])
producer_added p x n chains chain old at is =
    let e : producers (chains ++ chain ∷ []) ≡ producers chains ++ n ∷ [] = map_push (λ (c : Chain).
    c.producer) chains chain ∙ ap (λ v. producers chains ++ v ∷ []) at in
    let Below : ℕ → Type 0 = λ v. v < n + 1 in
    let AllBelow : List ℕ → Type 0 = λ vs. All Below vs in
    let Has : ℕ → List ℕ → Type 0 = λ v vs. Contains vs v in
    let Same : ℕ → Type 0 = λ v. IsChainOf (IsDelayOf p x v) chain in
    record {
      rising = subst IsStrictlyIncreasing (sym e) (rising_more (producers chains) n old.rising
          old.below);
      below = subst AllBelow (sym e) (All-push Below (producers chains) n
          (All-weaker _ Below (λ (v : ℕ) (l : v < n). let m : v < n + 1 = omega (arith, l) in m)
          (producers chains) old.below) (omega arith));
      each = All-push (λ (c : Chain). IsChainOf (IsDelayOf p x c.producer) c) chains chain old.each
          (subst Same (sym at) is);
      all = λ producer delay low h. subst (Has producer) (sym e) (⊎_elim
          (λ (q : producer ≡ n). let Last : ℕ → Type 0 = λ v. Contains (producers chains ++ n ∷ [])
          v in subst Last (sym q) (Contains-push (producers chains) n))
          (λ (d : producer ≢ n). Contains-append_left (producers chains) (n ∷ []) producer (old.all
          producer delay (omega (arith, low, d)) h))
          (cases_eq producer n));
    }

pub producer_passed : (p : Problem) (x : Numbers) (n : ℕ) (chains : List Chain)
    → AreChainsBelow p x n chains → ((delay : ℕ) → IsDelayOf p x n delay → ⊥)
    → AreChainsBelow p x (n + 1) chains
producer_passed p x n chains old none = record {
  rising = old.rising;
  below = All-weaker _ _ (λ (v : ℕ) (l : v < n). let m : v < n + 1 = omega (arith, l) in m)
      (producers chains) old.below;
  each = old.each;
  all = λ producer delay low h. ⊎_elim
      (λ (q : producer ≡ n). absurd (none delay (let P : ℕ
      → Type 0 = λ u. IsDelayOf p x u delay in subst P q h)))
      (λ (d : producer ≢ n). old.all producer delay (omega (arith, low, d)) h)
      (cases_eq producer n);
}

pub all_producers : (p : Problem) (x : Numbers) (n : ℕ) (chains : List Chain)
    → AreChainsBelow p x n chains → EndsInRange n p.arcs.list → AreChains p x chains
all_producers p x n chains h ends = record {
  rising = h.rising;
  each = h.each;
  all = λ producer delay d. h.all producer delay (let below : producer < n = omega (
    arith,
    d.2,
    (ends (2 * d.0) d.1).0,
  ) in below) d;
}

list_of : (p : Problem) (x : Numbers) (lists : List (List ℕ)) (n : ℕ) (list : List ℕ)
    → AreDelays p x lists → list ≡ get_or lists n [] → (e : ℕ) → Contains list e ↔ IsDelayOf p x n e
list_of p x lists n list are is e =
    let P : List ℕ → Type 0 = λ ys. Contains ys e ↔ IsDelayOf p x n e in
    subst P (sym is) (are n e)

-- the list of the next producer gives its chain
pub chain_pushed : (p : Problem) (x : Numbers) (lists : List (List ℕ)) (n count : ℕ) (list : List ℕ)
    (old new : List Chain) (chain : Chain) → AreChainsBelow p x n old → AreDelays p x lists
    → list ≡ get_or lists n [] → chain.producer ≡ n → IsChainOf (Contains list) chain
    → new ≡ old ++ chain ∷ [] → count ≡ n + 1 → AreChainsBelow p x count new
chain_pushed p x lists n count list old new chain below are is at of_list pushed more =
    let P : List Chain → Type 0 = λ chains. AreChainsBelow p x (n + 1) chains in
    let Q : ℕ → Type 0 = λ k. AreChainsBelow p x k new in
    let of_edges = chain_same (Contains list) (IsDelayOf p x n) chain (list_of p x lists n list are
    is) of_list in
    subst Q (sym more) (subst P (sym pushed) (producer_added p x n old chain below at of_edges))

-- or it is empty
pub none_pushed : (p : Problem) (x : Numbers) (lists : List (List ℕ)) (n count : ℕ) (list : List ℕ)
    (chains : List Chain) → AreChainsBelow p x n chains → AreDelays p x lists
    → list ≡ get_or lists n [] → ((e : ℕ) → Contains list e → ⊥) → count ≡ n + 1
    → AreChainsBelow p x count chains
none_pushed p x lists n count list chains below are is empty more =
    let Q : ℕ → Type 0 = λ k. AreChainsBelow p x k chains in
    subst Q (sym more) (producer_passed p x n chains below (λ e d. empty e ((list_of p x lists n
    list are is e).1 d)))

-- the lists go through in order, each with its number
pub its_number : (lists : List (List ℕ)) (n k : ℕ) (list : List ℕ)
    → (n < length (enumerate_from 0 lists)) × ((k, list) ≡ get_or (enumerate_from 0 lists) n (
      k,
      list,
    )) → (n < length lists) × (k ≡ n) × (list ≡ get_or lists n [])
its_number lists n k list (low, is) =
    let within : n < length lists = omega (arith, low, length-enumerate_from 0 lists) in
    let both : (k, list) ≡ (0 + n, get_or lists n list) = is
    ∙ get_or-enumerate_from 0 lists n (k, list) within in (
      within,
      omega (arith, ap (λ e. e.0) both),
      ap (λ e. e.1) both
          ∙ get_or_default lists n list [] within,
    )
