-- The graph of kernels that links make, its orders and its loops.
use Rattle.std.proofs.Common.{◌≡◌, ◌≢◌, ℕ, ◌+◌, ◌-◌, ◌<◌, ◌≤◌, Bool, true, false, List, [], ◌∷◌, ◌++◌, length, map}
use Rattle.std.proofs.Common.{take, set, cond, get_or, refl, sym, ap, ◌∙◌, subst, arith, inl, inr, ◌⊎◌, ⊎_elim}
use Rattle.std.specs.Prelude.{◌==◌, All, filter, slice_index}
use Rattle.std.specs.List.{Contains}
use Rattle.std.proofs.lemmas.Bool.{cases_lt}
use Rattle.std.proofs.lemmas.Bool.Decides.{eqb_tells}
use Rattle.std.proofs.lemmas.List.{append-nil, get_or_past, get_or-map, get_or-set_other, get_or-set_same, length-map, map-append}
use Rattle.std.proofs.lemmas.List.Elements.{All-map, All-filter, All-from_get_or, Contains-get_or, filter-append}
use Rattle.digraph.specs.Graph.{IsGraph, IsRanked, IsPlaced, IsClosedWalk, IsLeastFirst, IsSimple, Reads, reads_of}
use Rattle.manager_links.specs.declared.links.LinkEnds.{LinkEnds}
use Rattle.manager_links.specs.Loops.{AreOrdered, IsLoopBy}
use Rattle.manager_links.specs.Ordering.{GoWithin, GoesFrom, sources_of}
use Rattle.manager_links.proofs.Pieces.{kept_in, kept_from, kept_passes, take_read}
use Rattle.manager_links.proofs.Waiting.{no_link}

-- the rows of a graph are the kernels that each one is linked from
pub record IsGraphOf (count : ℕ) (links : List LinkEnds) (g : List (List ℕ)) : Type 0 where
  pub size : length g ≡ count
  pub each : (k : ℕ) → k < count → reads_of g k ≡ sources_of k links

pub as_graph : (count : ℕ) (links : List LinkEnds) (lists g : List (List ℕ)) → g ≡ lists
    → length lists ≡ count → ((k : ℕ) → k < count → get_or lists k [] ≡ sources_of k links)
    → IsGraphOf count links g
as_graph count links lists g same size each =
    subst (IsGraphOf count links) (sym same) (record { size = size; each = each })

abbrev goes_to : ℕ → LinkEnds → Bool
goes_to k link = link.to.kernel == k

same_number : (a b : ℕ) → (a == b) ≡ true → a ≡ b
same_number a b e = ⊎_elim (λ p. p.1) (λ p. absurd (cc p.0)) (eqb_tells a b)

number_same : (a : ℕ) → (a == a) ≡ true
number_same a = ⊎_elim (λ p. p.0) (λ p. absurd (p.1 refl)) (eqb_tells a a)

-- ---- links and rows

sources_more : (k : ℕ) (links : List LinkEnds) (i : ℕ) (link : LinkEnds) → i < length links
    → link ≡ get_or links i link
    → sources_of k (take (i + 1) links)
    ≡ sources_of k (take i links) ++ map (λ (l : LinkEnds). l.from.kernel) (cond (link.to.kernel == k) (link ∷ []) [])
sources_more k links i link lt is =
    ap (sources_of k) (take_read links i link lt is)
    ∙ ap (map (λ (l : LinkEnds). l.from.kernel)) (filter-append (goes_to k) (take i links) (link ∷ []))
    ∙ map-append (λ (l : LinkEnds). l.from.kernel) (filter (goes_to k) (take i links)) (filter (goes_to k) (link ∷ []))

-- the sources, with that of one more link
pub add_source : (count : ℕ) (links : List LinkEnds) (i : ℕ) (link : LinkEnds) (lists new : List (List ℕ))
    (row : List ℕ) → i < length links → link ≡ get_or links i link → length lists ≡ count
    → ((k : ℕ) → k < count → get_or lists k [] ≡ sources_of k (take i links)) → link.to.kernel < count
    → row ≡ get_or lists link.to.kernel [] ++ link.from.kernel ∷ [] → new ≡ set lists link.to.kernel row
    → (k : ℕ) → k < count → get_or new k [] ≡ sources_of k (take (i + 1) links)
add_source count links i link lists new row lt is size each within pushed written k small =
    by_test (eqb_tells link.to.kernel k)
  where
    more : (t : Bool) → (link.to.kernel == k) ≡ t
        → sources_of k (take i links) ++ map (λ (l : LinkEnds). l.from.kernel) (cond t (link ∷ []) [])
        ≡ sources_of k (take (i + 1) links)
    more t e =
        ap (λ b. sources_of k (take i links) ++ map (λ (l : LinkEnds). l.from.kernel) (cond b (link ∷ []) [])) (sym e)
        ∙ sym (sources_more k links i link lt is)

    by_test : (((link.to.kernel == k) ≡ true) × (link.to.kernel ≡ k))
        ⊎ (((link.to.kernel == k) ≡ false) × (link.to.kernel ≢ k))
        → get_or new k [] ≡ sources_of k (take (i + 1) links)
    by_test (inl here) =
        ap (λ xs. get_or xs k []) written
        ∙ ap (λ n. get_or (set lists n row) k []) here.1
        ∙ get_or-set_same lists k row [] (omega arith)
        ∙ pushed
        ∙ ap (λ n. get_or lists n [] ++ link.from.kernel ∷ []) here.1
        ∙ ap (λ xs. xs ++ link.from.kernel ∷ []) (each k small)
        ∙ more true here.0
    by_test (inr other) =
        ap (λ xs. get_or xs k []) written
        ∙ get_or-set_other lists link.to.kernel k row [] (λ e. other.1 (sym e))
        ∙ each k small
        ∙ sym (append-nil (sources_of k (take i links)))
        ∙ more false other.0

-- each source is that of a link
from_source : (b : ℕ) (links : List LinkEnds) (i : ℕ) → i < length (sources_of b links)
    → GoesFrom links (slice_index (sources_of b links) i) b
from_source b links i lt =
    let kept = filter (goes_to b) links in
    let here : i < length kept = subst (λ n. i < n) (length-map kept (λ (l : LinkEnds). l.from.kernel)) lt in
    let link = get_or kept i no_link in
    let there : Contains kept link = Contains-get_or kept i no_link here in
    let place = kept_from (goes_to b) links link there in (
      place.0,
      link,
      place.1,
      place.2,
      (
        sym (get_or-map (λ (l : LinkEnds). l.from.kernel) kept i no_link 0 here),
        same_number link.to.kernel b (kept_passes (goes_to b) links link there),
      ),
    )

-- each link is among the sources of the kernel that it goes to
source_of : (links : List LinkEnds) (link : LinkEnds) → Contains links link
    → (i : ℕ) × (i < length (sources_of link.to.kernel links))
    × (slice_index (sources_of link.to.kernel links) i ≡ link.from.kernel)
source_of links link there =
    let k = link.to.kernel in
    let kept = filter (goes_to k) links in
    let place = kept_in (goes_to k) links link there (number_same k) in (
      place.0,
      subst (λ n. place.0 < n) (sym (length-map kept (λ (l : LinkEnds). l.from.kernel))) place.1,
      get_or-map (λ (l : LinkEnds). l.from.kernel) kept place.0 link 0 place.1
          ∙ ap (λ (l : LinkEnds). l.from.kernel) place.2,
    )

sources_within : (count b : ℕ) (links : List LinkEnds) → GoWithin count links
    → All (λ k. k < count) (sources_of b links)
sources_within count b links within =
    All-map (λ k. k < count) (λ (link : LinkEnds). link.from.kernel) (filter (goes_to b) links)
    (All-filter (goes_to b) (λ (link : LinkEnds). link.from.kernel < count) links (λ j d lt. (within j d lt).0))

-- ---- graphs

pub is_graph : (count : ℕ) (links : List LinkEnds) (g : List (List ℕ)) → GoWithin count links
    → IsGraphOf count links g → IsGraph g
is_graph count links g within of = λ b i lt. by_place b i lt (cases_lt b count)
  where
    by_place : (b i : ℕ) → i < length (reads_of g b) → (b < count) ⊎ (count ≤ b)
        → slice_index (reads_of g b) i < length g
    by_place b i lt (inl here) =
        let row = of.each b here in
        let size = of.size in
        let small : slice_index (sources_of b links) i < count =
        sources_within count b links within i 0 (subst (λ xs. i < length xs) row lt) in
        subst (λ xs. slice_index xs i < length g) (sym row) (omega arith)
    by_place b i lt (inr past) =
        let none : reads_of g b ≡ [] = get_or_past g b [] (let size = of.size in omega arith) in
        absurd (let e = subst (λ xs. i < length xs) none lt in omega arith)

pub ordered : (count : ℕ) (links : List LinkEnds) (g : List (List ℕ)) (order ranks : List ℕ)
    → GoWithin count links → IsGraphOf count links g → IsRanked g ranks → IsPlaced g order ranks
    → AreOrdered count links order ranks
ordered count links g order ranks within of ranked placed = record {
  size = ranked.size ∙ of.size;
  rising = λ j d lt.
      let link = get_or links j d in
      let to = (within j d lt).1 in
      let source = source_of links link (Contains-get_or links j d lt) in
      let row = of.each link.to.kernel to in
      let size = of.size in
      let rises : slice_index ranks (slice_index (reads_of g link.to.kernel) source.0) < slice_index ranks link.to.kernel =
      ranked.rising link.to.kernel source.0 (omega arith) (subst (λ xs. source.0 < length xs) (sym row) source.1) in
      subst (λ k. slice_index ranks k < slice_index ranks link.to.kernel)
      (ap (λ xs. slice_index xs source.0) row ∙ source.2) rises;
  placed = λ k lt. placed.some k (let size = of.size in omega arith);
  back = λ k lt. placed.back k (placed.some k (let size = of.size in omega arith));
  each = λ i lt. below i lt (cases_lt (slice_index order i) count);
  ranked = placed.place;
}
  where
    below : (i : ℕ) → i < length order → (slice_index order i < count) ⊎ (count ≤ slice_index order i)
        → slice_index order i < count
    below i lt (inl here) = here
    below i lt (inr past) =
        let none : slice_index ranks (slice_index order i) ≡ 0 =
        get_or_past ranks (slice_index order i) 0 (let a = ranked.size in let b = of.size in omega arith) in
        let some = placed.place i lt in absurd (omega arith)

-- ---- loops

pub goes : (count : ℕ) (links : List LinkEnds) (g : List (List ℕ)) (b a : ℕ)
    → IsGraphOf count links g → b < length g → Reads g b a → GoesFrom links a b
goes count links g b a of lt (i, within, is) =
    let row = of.each b (let size = of.size in omega arith) in
    subst (λ k. GoesFrom links k b) (ap (λ xs. slice_index xs i) (sym row) ∙ is)
    (from_source b links i (subst (λ xs. i < length xs) row within))

pub loop_of : (count : ℕ) (links : List LinkEnds) (g : List (List ℕ)) (walk : List ℕ)
    → IsGraphOf count links g → IsClosedWalk g walk → IsLeastFirst walk → IsSimple walk
    → IsLoopBy (GoesFrom links) walk
loop_of count links g walk of closed least simple = record {
  some = closed.some;
  each = λ i lt. goes count links g (slice_index walk (i + 1)) (slice_index walk i) of
      (closed.nodes (i + 1) lt) (closed.each i lt);
  last = goes count links g (slice_index walk 0) (slice_index walk (length walk - 1)) of
      (closed.nodes 0 closed.some) closed.last;
  least = least;
  simple = simple;
}

pub walk_within : (count : ℕ) (links : List LinkEnds) (g : List (List ℕ)) (walk : List ℕ)
    → IsGraphOf count links g → IsClosedWalk g walk → All (λ k. k < count) walk
walk_within count links g walk of closed =
    All-from_get_or (λ k. k < count) walk 0 (λ i lt. subst (λ n. get_or walk i 0 < n) of.size (closed.nodes i lt))
