-- Rising lists with the same numbers are the same, and so are the chains of a problem.
use Rattle.std.proofs.Common.{
  ◌≡◌,
  ◌⊎◌,
  inl,
  inr,
  ⊎_elim,
  ℕ,
  zero,
  suc,
  ◌<◌,
  ◌≤◌,
  List,
  [],
  ◌∷◌,
  length,
  get_or,
  refl,
  sym,
  ap,
  ◌∙◌,
  subst,
  arith,
}
use Rattle.std.specs.Prelude.{Contains, AllPairs}
use Rattle.std.proofs.lemmas.List.{same_lists, get_or-map, length-map}
use Rattle.std.proofs.lemmas.List.Kept.{AllPairs-from_increasing}
use Rattle.cycle_find.specs.Constraints.{Numbers}
use Rattle.schedule_problem.specs.declared.problem.Problem.{Problem}
use Rattle.fifo_sharing.specs.declared.chain.Chain.{Chain}
use Rattle.fifo_sharing.specs.Chains.{IsDelayOf, IsChainOf, AreChains, HaveOneList, producers}

abbrev Rises : List ℕ → Type 0
Rises xs = AllPairs (λ (a : ℕ) (b : ℕ). a < b) xs

rises_on : (x : ℕ) (xs : List ℕ) → Rises (x ∷ xs) → Rises xs
rises_on x xs up i j d l m = up (suc i) (suc j) d (omega (arith, l)) (omega (arith, m))

above_head : (x v : ℕ) (xs : List ℕ) → Rises (x ∷ xs) → Contains xs v → x < v
above_head x v xs up (k, within, is) = omega (
  arith,
  is,
  up 0 (suc k) v (omega arith) (omega (
    arith,
    within,
  )),
)

at_or_after : (x v k : ℕ) (xs : List ℕ) → k < length (x ∷ xs) → get_or (x ∷ xs) k v ≡ v
    → (x ≡ v) ⊎ Contains xs v
at_or_after x v zero xs within is = inl is
at_or_after x v (suc k) xs within is = inr (k, omega (arith, within), is)

head_or_tail : (x v : ℕ) (xs : List ℕ) → Contains (x ∷ xs) v → (x ≡ v) ⊎ Contains xs v
head_or_tail x v xs (k, within, is) = at_or_after x v k xs within is

at_head : (x : ℕ) (xs : List ℕ) → Contains (x ∷ xs) x
at_head x xs = (0, omega arith, refl)

in_tail : (x v : ℕ) (xs : List ℕ) → Contains xs v → Contains (x ∷ xs) v
in_tail x v xs (k, within, is) = (suc k, omega (arith, within), is)

from_least : (x v : ℕ) (xs : List ℕ) → Rises (x ∷ xs) → Contains (x ∷ xs) v → x ≤ v
from_least x v xs up h = ⊎_elim
    (λ (q : x ≡ v). omega (arith, q))
    (λ (k : Contains xs v). omega (arith, above_head x v xs up k))
    (head_or_tail x v xs h)

-- what stands behind equal heads stands there in both
behind : (x y v : ℕ) (xs ys : List ℕ) → x ≡ y → Rises (x ∷ xs) → (Contains (x ∷ xs) v
    → Contains (y ∷ ys) v) → Contains xs v → Contains ys v
behind x y v xs ys e up into h = ⊎_elim
    (λ (q : y ≡ v). absurd (omega (arith, e, q, above_head x v xs up h)))
    (λ (k : Contains ys v). k)
    (head_or_tail y v ys (into (in_tail x v xs h)))

rising_same : (xs ys : List ℕ) → Rises xs → Rises ys → ((v : ℕ) → Contains xs v → Contains ys v)
    → ((v : ℕ) → Contains ys v → Contains xs v) → xs ≡ ys
rising_same [] [] up up' into back = refl
rising_same [] (y ∷ ys) up up' into back = let h = back y (at_head y ys) in absurd (omega (
  arith,
  h.1,
))
rising_same (x ∷ xs) [] up up' into back = let h = into x (at_head x xs) in absurd (omega (
  arith,
  h.1,
))
rising_same (x ∷ xs) (y ∷ ys) up up' into back =
    let low = from_least y x ys up' (into x (at_head x xs)) in
    let high = from_least x y xs up (back y (at_head y ys)) in
    let e : x ≡ y = omega (arith, low, high) in
    let tails = rising_same xs ys (rises_on x xs up) (rises_on y ys up')
    (λ v h. behind x y v xs ys e up (into v) h)
    (λ v h. behind y x v ys xs (sym e) up' (back v) h) in
    ap (λ a. a ∷ xs) e ∙ ap (λ as'. y ∷ as') tails

-- two chains for the same delays of a producer
chains_same : (D : ℕ → Type 0) (a b : Chain) → a.producer ≡ b.producer → IsChainOf D a
    → IsChainOf D b → a ≡ b
chains_same D a b producer h k =
    let words : a.words ≡ b.words = omega (
      arith,
      k.most a.words h.longest,
      h.most b.words
          k.longest,
    ) in
    let taps : a.taps ≡ b.taps = rising_same a.taps b.taps (AllPairs-from_increasing a.taps
    h.rising) (AllPairs-from_increasing b.taps k.rising)
    (λ v c. (k.taps v).1 ((h.taps v).0 c))
    (λ v c. (h.taps v).1 ((k.taps v).0 c)) in
    let F : ℕ → ℕ → List ℕ → Chain = λ p w t. record { producer = p; words = w; taps = t } in
    ap (λ p. F p a.words a.taps) producer ∙ ap (λ w. F b.producer w a.taps) words
    ∙ ap (F b.producer b.words) taps

module _ (p : Problem) (x : Numbers) (a b : List Chain) (h : AreChains p x a) (k : AreChains p x b)
  where
    -- a producer of one list has a delay
    has_delay : (c : List Chain) → AreChains p x c → (v : ℕ) → Contains (producers c) v
        → (d : ℕ) × IsDelayOf p x v d
    has_delay c are v (i, within, is) =
        let f : Chain → ℕ = λ e. e.producer in
        let none : Chain = record { producer = 0; words = 0; taps = [] } in
        let low : i < length c = omega (arith, within, length-map c f) in
        let at : (get_or c i none).producer ≡ v = sym (get_or-map f c i none v low) ∙ is in
        let P : ℕ → Type 0 = λ u. IsDelayOf p x u (get_or c i none).words in
        ((get_or c i none).words, subst P at (are.each i none low).longest)

    same_producers : producers a ≡ producers b
    same_producers = rising_same (producers a) (producers b) (AllPairs-from_increasing (producers a)
        h.rising) (AllPairs-from_increasing (producers b) k.rising)
        (λ v c. let d = has_delay a h v c in k.all v d.0 d.1)
        (λ v c. let d = has_delay b k v c in h.all v d.0 d.1)

    pub one_list : a ≡ b
    one_list =
        let len : length a ≡ length b = sym (length-map a (λ (c : Chain). c.producer))
        ∙ ap length same_producers ∙ length-map b (λ (c : Chain). c.producer) in
        same_lists a b len (λ i d l.
        let m : i < length b = omega (arith, l, len) in
        let e : (get_or a i d).producer ≡ (get_or b i d).producer = sym (get_or-map (λ (c : Chain).
        c.producer) a i d 0 l) ∙ ap (λ ps. get_or ps i 0) same_producers
        ∙ get_or-map (λ (c : Chain). c.producer) b i d 0 m in
        let P : ℕ → Type 0 = λ v. IsChainOf (IsDelayOf p x v) (get_or b i d) in
        chains_same (IsDelayOf p x (get_or a i d).producer) (get_or a i d) (get_or b i d) e (h.each i
        d l) (subst P (sym e) (k.each i d m)))

pub have_one_list : (p : Problem) (x : Numbers) → HaveOneList p x
have_one_list p x a b h k = one_list p x a b h k
