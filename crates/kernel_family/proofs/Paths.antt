-- Lists of places each of which is behind all before it. In a causal kernel they are short.
use Rattle.std.proofs.Common.{◌≡◌, ◌∙◌, ℕ, suc, ◌+◌, ◌*◌, ◌≤◌, ◌<◌, Bool, true, false, eqb, List, [], ◌∷◌, ◌++◌, map, length, get_or, refl, sym, ap, subst, arith, length-append, ⊎_elim}
use Rattle.std.specs.Prelude.{◌||◌}
use Rattle.std.specs.List.{list_any, IsDistinct}
use Rattle.std.proofs.lemmas.Bool.{false≢true, eqb-true, cases_Bool, cases_lt}
use Rattle.std.proofs.lemmas.List.{length-map, get_or-map, get_or_append_left}
use Rattle.std.proofs.Math.Seq.{get_or-append_seam}
use Rattle.std.proofs.lemmas.Map.Keys.{IsDistinct-from_apart}
use Rattle.std.proofs.lemmas.Map.Steps.{length-le_from_distinct_below}
use Rattle.stream_graph.specs.declared.node.Node.{Node}
use Rattle.offset_edges.specs.Edges.{edges_of}
use Rattle.offset_edges.specs.Walks.{IsCausal}
use Rattle.kernel_family.specs.declared.place.Place.{Place}
use Rattle.stream_graph.proofs.NodeLemmas.{IsOrderly}
use Rattle.kernel_types.specs.Types.{AreTyped}
use Rattle.kernel_family.specs.Steps.{IsStep}
use Rattle.kernel_family.proofs.Steps.{IsMove, move_of}
use Rattle.kernel_family.proofs.Chains.{IsBehind, one, more, apart}

pub no_place : Place
no_place = record { node = 0; tick = 0 }

abbrev pub place_at : List Place → ℕ → Place
place_at xs i = get_or xs i (record { node = 0; tick = 0 })

-- places of a run of so many ticks, each behind all before it
pub record IsPath (nodes : List Node) (ticks : ℕ) (xs : List Place) : Type 0 where
  pub node : (i : ℕ) → i < length xs → (place_at xs i).node < length nodes
  pub tick : (i : ℕ) → i < length xs → (place_at xs i).tick < ticks
  pub behind : (i j : ℕ) → i < j → j < length xs → IsBehind nodes (place_at xs i) (place_at xs j)

-- the number of a place
abbrev number : ℕ → Place → ℕ
number ticks a = a.node * ticks + a.tick

number_below : (m n t ticks : ℕ) → n < m → t < ticks → n * ticks + t < m * ticks
number_below m n t ticks h l = grind (arith, h, l)

same_node : (m n s t ticks : ℕ) → s < ticks → t < ticks → m * ticks + s ≡ n * ticks + t → m < n → ⊥
same_node m n s t ticks h l e k =
    let q : suc m * ticks ≤ n * ticks = grind (arith, k) in
    omega (arith, q, e, h, l)

pub same_number : (m n s t ticks : ℕ) → s < ticks → t < ticks → m * ticks + s ≡ n * ticks + t → m ≡ n
same_number m n s t ticks h l e = ⊎_elim
    (λ (k : m < n). absurd (same_node m n s t ticks h l e k))
    (λ (g : n ≤ m). ⊎_elim
    (λ (k : n < m). absurd (same_node n m t s ticks l h (sym e) k))
    (λ (f : m ≤ n). omega (arith, f, g))
    (cases_lt n m))
    (cases_lt m n)

any_below : (n q : ℕ) (xs : List ℕ) → ((i : ℕ) → i < length xs → get_or xs i 0 < n)
    → list_any (eqb q) xs ≡ true → q < n
any_below n q [] a e = absurd (false≢true e)
any_below n q (x ∷ xs) a e =
    by_test (eqb q x) (λ t. eqb-true q x t) (λ r. any_below n q xs (λ i l. a (suc i) (omega (arith, l))) r)
    (a 0 (omega arith)) e
  where
    by_test : (b : Bool) → (b ≡ true → q ≡ x) → (list_any (eqb q) xs ≡ true → q < n) → x < n
        → (b || list_any (eqb q) xs) ≡ true → q < n
    by_test true same rest l e = let t = same refl in omega (arith, t, l)
    by_test false same rest l e = rest e

module _ (nodes : List Node) (ticks : ℕ) (causal : IsCausal (edges_of nodes)) where
  -- there are no more than the run has
  pub few : (xs : List Place) → IsPath nodes ticks xs → length xs ≤ length nodes * ticks
  few xs p =
      let ys = map (number ticks) xs in
      let len : length (map (number ticks) xs) ≡ length xs = length-map xs (number ticks) in
      let short = length-le_from_distinct_below ys (length nodes * ticks) distinct (λ q t. any_below (length nodes * ticks) q ys below t) in
      omega (arith, short, len)
    where
      at : (i d : ℕ) → i < length xs → get_or (map (number ticks) xs) i d ≡ number ticks (place_at xs i)
      at i d l = get_or-map (number ticks) xs i (record { node = 0; tick = 0 }) d l

      below : (i : ℕ) → i < length (map (number ticks) xs) → get_or (map (number ticks) xs) i 0 < length nodes * ticks
      below i l =
          let h : i < length xs = omega (arith, l, length-map xs (number ticks)) in
          let b = number_below (length nodes) (place_at xs i).node (place_at xs i).tick ticks (p.node i h) (p.tick i h) in
          omega (arith, b, at i 0 h)

      differ : (i k : ℕ) → i < k → k < length xs → number ticks (place_at xs i) ≡ number ticks (place_at xs k) → ⊥
      differ i k l h e =
          let n = same_number (place_at xs i).node (place_at xs k).node (place_at xs i).tick (place_at xs k).tick ticks
          (p.tick i (omega (arith, l, h))) (p.tick k h) e in
          let same : (place_at xs i).node * ticks ≡ (place_at xs k).node * ticks = ap (λ m. m * ticks) n in
          apart nodes causal (place_at xs i) (place_at xs k) (p.behind i k l h) n (omega (arith, e, same))

      distinct : IsDistinct eqb (map (number ticks) xs)
      distinct =
          IsDistinct-from_apart eqb (map (number ticks) xs)
          (λ i k d l h.
          let len : length (map (number ticks) xs) ≡ length xs = length-map xs (number ticks) in
          let one = at i d (omega (arith, l, h, len)) in
          let two = at k d (omega (arith, h, len)) in
          ⊎_elim
          (λ (t : eqb (get_or (map (number ticks) xs) i d) (get_or (map (number ticks) xs) k d) ≡ true).
          let same = eqb-true (get_or (map (number ticks) xs) i d) (get_or (map (number ticks) xs) k d) t in
          absurd (differ i k l (omega (arith, h, len)) (sym one ∙ same ∙ two)))
          (λ (t : eqb (get_or (map (number ticks) xs) i d) (get_or (map (number ticks) xs) k d) ≡ false). t)
          (cases_Bool (eqb (get_or (map (number ticks) xs) i d) (get_or (map (number ticks) xs) k d))))

-- a place that is behind the last one can follow
pub pushed : (nodes : List Node) (ticks : ℕ) (xs : List Place) (x : Place) → IsPath nodes ticks xs
    → x.node < length nodes → x.tick < ticks
    → ((i : ℕ) → i < length xs → IsBehind nodes (place_at xs i) x) → IsPath nodes ticks (xs ++ x ∷ [])
pushed nodes ticks xs x p n t b = record { node = nodes_in; tick = ticks_in; behind = all_behind }
  where
    old : (i : ℕ) → i < length xs → place_at (xs ++ x ∷ []) i ≡ place_at xs i
    old i l = get_or_append_left xs (x ∷ []) (record { node = 0; tick = 0 }) i l

    new : (i : ℕ) → i ≡ length xs → place_at (xs ++ x ∷ []) i ≡ x
    new i e = ap (place_at (xs ++ x ∷ [])) e ∙ get_or-append_seam xs x [] (record { node = 0; tick = 0 })

    by_place : (P : Place → Type 0) → P x → ((i : ℕ) → i < length xs → P (place_at xs i))
        → (i : ℕ) → i < length (xs ++ x ∷ []) → P (place_at (xs ++ x ∷ []) i)
    by_place P h g i l = ⊎_elim
        (λ (k : i < length xs). subst P (sym (old i k)) (g i k))
        (λ (k : length xs ≤ i). subst P (sym (new i (omega (arith, k, l, length-append xs (x ∷ []))))) h)
        (cases_lt i (length xs))

    nodes_in : (i : ℕ) → i < length (xs ++ x ∷ []) → (place_at (xs ++ x ∷ []) i).node < length nodes
    nodes_in = by_place (λ a. a.node < length nodes) n p.node

    ticks_in : (i : ℕ) → i < length (xs ++ x ∷ []) → (place_at (xs ++ x ∷ []) i).tick < ticks
    ticks_in = by_place (λ a. a.tick < ticks) t p.tick

    all_behind : (i j : ℕ) → i < j → j < length (xs ++ x ∷ [])
        → IsBehind nodes (place_at (xs ++ x ∷ []) i) (place_at (xs ++ x ∷ []) j)
    all_behind i j l h =
        let len = length-append xs (x ∷ []) in
        let k : i < length xs = omega (arith, l, h, len) in
        subst (λ a. IsBehind nodes a (place_at (xs ++ x ∷ []) j)) (sym (old i k))
        (⊎_elim
        (λ (g : j < length xs). subst (IsBehind nodes (place_at xs i)) (sym (old j g)) (p.behind i j l g))
        (λ (g : length xs ≤ j). subst (IsBehind nodes (place_at xs i)) (sym (new j (omega (arith, g, h, len)))) (b i k))
        (cases_lt j (length xs)))

-- one step behind the last one
pub stepped : (nodes : List Node) (o : IsOrderly nodes) (typed : AreTyped nodes) (ticks : ℕ) (xs : List Place) (x y : Place)
    → IsPath nodes ticks (xs ++ x ∷ []) → IsStep nodes x y → y.node < length nodes → y.tick < ticks
    → IsPath nodes ticks ((xs ++ x ∷ []) ++ y ∷ [])
stepped nodes o typed ticks xs x y p s n t = pushed nodes ticks (xs ++ x ∷ []) y p n t all
  where
    len : length (xs ++ x ∷ []) ≡ length xs + 1
    len = length-append xs (x ∷ [])

    last : place_at (xs ++ x ∷ []) (length xs) ≡ x
    last = get_or-append_seam xs x [] (record { node = 0; tick = 0 })

    move : IsMove nodes x y
    move = move_of nodes o typed x y
        (subst (λ (a : Place). a.node < length nodes) last (p.node (length xs) (omega (arith, len)))) s

    all : (i : ℕ) → i < length (xs ++ x ∷ []) → IsBehind nodes (place_at (xs ++ x ∷ []) i) y
    all i l = ⊎_elim
        (λ (k : i < length xs).
        more nodes (place_at (xs ++ x ∷ []) i) x y
        (subst (IsBehind nodes (place_at (xs ++ x ∷ []) i)) last (p.behind i (length xs) k (omega (arith, len)))) move)
        (λ (k : length xs ≤ i).
        let e : i ≡ length xs = omega (arith, k, l, len) in
        subst (λ a. IsBehind nodes a y) (sym (ap (place_at (xs ++ x ∷ [])) e ∙ last)) (one nodes x y move))
        (cases_lt i (length xs))

-- a place by itself
pub alone : (nodes : List Node) (ticks : ℕ) (x : Place) → x.node < length nodes → x.tick < ticks → IsPath nodes ticks (x ∷ [])
alone nodes ticks x n t = pushed nodes ticks [] x
    (record { node = λ i l. absurd (omega (arith, l)); tick = λ i l. absurd (omega (arith, l)); behind = λ i j l h. absurd (omega (arith, h)) })
    n t (λ i l. absurd (omega (arith, l)))
