-- The least starts of kernels, by numbers that are asked for by the links between them.
use Rattle.std.proofs.Common.{◌≡◌, ℕ, ◌+◌, ◌-◌, ◌*◌, ◌^◌, ◌<◌, ◌≤◌, List, length, map, get_or, sym, ◌∙◌, subst, arith, inl, inr, ◌⊎◌}
use Rattle.std.specs.Prelude.{ℤ, pos, ◌+ℤ◌, ◌-ℤ◌, ◌≤ℤ◌, ◌<ℤ◌, unsigned_abs, All, slice_index}
use Rattle.std.proofs.lemmas.Bool.{cases_lt}
use Rattle.std.proofs.lemmas.Int.{ints}
use Rattle.std.proofs.lemmas.List.{get_or-map, length-map, get_or_past}
use Rattle.std.proofs.lemmas.List.Elements.{All-from_get_or}
use Rattle.std.proofs.Math.Nat.{mul-le-mul_left, mul-le-mul_right}
use Rattle.cycle_find.specs.declared.arcs.Arc.{Arc}
use Rattle.cycle_find.specs.declared.arcs.Arcs.{Arcs}
use Rattle.cycle_find.specs.Constraints.{Numbers, numbers_of, arc_at, need_of, Solves, IsLeast, IsSolvable, EndsInRange, NeedsWithin}
use Rattle.manager_links.specs.declared.links.LinkEnds.{LinkEnds}
use Rattle.manager_links.specs.Starts.{Starts, AreLegal, AreStarts, first_edge}
use Rattle.manager_links.specs.Waiting.{IsTimedLink, AreRising, AreSmall, AreSmallNumbers, arc_of, number_at, one_later}

-- ---- arcs of links

abbrev most : ℕ
most = 2 ^ 46 + 1

abbrev pub no_link : LinkEnds
no_link = record { from = record { kernel = 0; node = 0 }; to = record { kernel = 0; node = 0 } }

abbrev arcs_of : List (List ℤ) → List LinkEnds → List Arc
arcs_of times links = map (arc_of times) links

arc_is : (times : List (List ℤ)) (links : List LinkEnds) (j : ℕ) → j < length links
    → arc_at (arcs_of times links) j ≡ arc_of times (get_or links j no_link)
arc_is times links j lt = get_or-map (arc_of times) links j no_link _ lt

-- the size of what a link asks for
need_size : (a b : ℤ) → pos 0 ≤ℤ a → a ≤ℤ pos (2 ^ 46) → pos 0 ≤ℤ b → b ≤ℤ pos (2 ^ 46)
    → unsigned_abs ((a +ℤ pos 1) -ℤ b) ≤ most
need_size a b a0 a1 b0 b1 = omega (arith, ints)

link_size : (times : List (List ℤ)) (link : LinkEnds) → IsTimedLink times link
    → unsigned_abs (arc_of times link).need ≤ most
link_size times link t =
    need_size (number_at times link.from) (number_at times link.to) t.from.begin t.from.most
    t.to.begin t.to.most

within : (times : List (List ℤ)) (links : List LinkEnds) → All (IsTimedLink times) links
    → NeedsWithin most (arcs_of times links)
within times links timed = λ j lt.
    let here : j < length links = subst (λ n. j < n) (length-map links (arc_of times)) lt in
    subst (λ (arc : Arc). unsigned_abs arc.need ≤ most) (sym (arc_is times links j here))
    (link_size times (get_or links j no_link) (timed j no_link here))

few_times : (n m : ℕ) → n ≤ 64 → m ≤ most → n * m ≤ 2 ^ 60
few_times n m few small =
    let one : n * m ≤ 64 * m = mul-le-mul_right m few in
    let other : 64 * m ≤ 64 * most = mul-le-mul_left 64 small in
    omega arith

pub solvable : (times : List (List ℤ)) (links : List LinkEnds) (n : ℕ) (arcs : Arcs)
    → arcs.nodes ≡ n → arcs.list ≡ arcs_of times links → All (IsTimedLink times) links
    → length times ≡ n → n ≤ 64 → length links < 2 ^ 32 → IsSolvable arcs
solvable times links n arcs nodes list timed size few count = record {
  nodes = omega arith;
  count = subst (λ xs. length xs < 2 ^ 32) (sym list) (subst (λ k. k < 2 ^ 32) (sym (length-map links (arc_of times))) count);
  ends = subst (λ xs. EndsInRange arcs.nodes xs) (sym list) (λ j lt.
      let here : j < length links = subst (λ n. j < n) (length-map links (arc_of times)) lt in
      let t = timed j no_link here in
      subst (λ (arc : Arc). (arc.from < arcs.nodes) × (arc.to < arcs.nodes)) (sym (arc_is times links j here))
      (let a = t.from.kernel in omega arith, let b = t.to.kernel in omega arith));
  needs = λ j lt. few_times arcs.nodes (unsigned_abs (need_of arcs.list j)) (omega arith)
      (subst (λ xs. (j : ℕ) → j < length xs → unsigned_abs (need_of xs j) ≤ most) (sym list) (within times links timed) j lt);
}

-- numbers that meet what each link asks for
met : (times : List (List ℤ)) (links : List LinkEnds) (x : Numbers)
    → All (λ link. (arc_of times link).need ≤ℤ (x link.to.kernel -ℤ x link.from.kernel)) links
    → Solves x (arcs_of times links)
met times links x each = λ j lt.
    let here : j < length links = subst (λ n. j < n) (length-map links (arc_of times)) lt in
    subst (λ (arc : Arc). arc.need ≤ℤ (x arc.to -ℤ x arc.from)) (sym (arc_is times links j here))
    (each j no_link here)

meet : (times : List (List ℤ)) (links : List LinkEnds) (x : Numbers)
    → Solves x (arcs_of times links)
    → All (λ link. (arc_of times link).need ≤ℤ (x link.to.kernel -ℤ x link.from.kernel)) links
meet times links x solves = All-from_get_or
    (λ link. (arc_of times link).need ≤ℤ (x link.to.kernel -ℤ x link.from.kernel)) links no_link (λ j here.
    subst (λ (arc : Arc). arc.need ≤ℤ (x arc.to -ℤ x arc.from)) (arc_is times links j here)
    (solves j (subst (λ n. j < n) (sym (length-map links (arc_of times))) here)))

-- ---- numbers that rise along links

-- kernels that start as far apart as their ranks ask are late enough
pub no_cycle : (times : List (List ℤ)) (links : List LinkEnds) → All (IsTimedLink times) links
    → AreRising links → ((x : Numbers) → Solves x (arcs_of times links) → ⊥) → ⊥
no_cycle times links timed rising none = none x solves
  where
    x : Numbers
    x v = pos (rising.rank v * most)

    apart : (need : ℤ) (one other : ℕ) → one < other → unsigned_abs need ≤ most
        → need ≤ℤ (pos (other * most) -ℤ pos (one * most))
    apart need one other lt small = omega (arith, ints)

    solves : Solves x (arcs_of times links)
    solves = met times links x (λ j d here.
        let link = get_or links j d in
        apart (arc_of times link).need (rising.rank link.from.kernel) (rising.rank link.to.kernel)
        (rising.rises j d here) (link_size times link (timed j d here)))

-- ---- starts

-- the least numbers are small
pub are_small : (times : List (List ℤ)) (links : List LinkEnds) (n : ℕ) (arcs : Arcs)
    (least : List ℤ) → arcs.nodes ≡ n → arcs.list ≡ arcs_of times links
    → All (IsTimedLink times) links → n ≤ 64 → IsLeast (numbers_of least) arcs.list
    → ((size : ℕ) → NeedsWithin size arcs.list → (v : ℕ)
    → numbers_of least v ≤ℤ pos (arcs.nodes * size))
    → AreSmallNumbers least
are_small times links n arcs least nodes list timed few is below = λ v. (
  is.non_negative v,
  small (numbers_of least v)
      (below most (subst (NeedsWithin most) (sym list) (within times links timed)) v),
)
  where
    limit : arcs.nodes * most ≤ 64 * most
    limit = mul-le-mul_right most (subst (λ k. k ≤ 64) (sym nodes) few)

    small : (x : ℤ) → x ≤ℤ pos (arcs.nodes * most) → x <ℤ pos (2 ^ 60)
    small x up = let l = limit in omega (arith, ints)

-- a start is one more than its number
start_at : (least : List ℤ) (k : ℕ) → k < length least
    → slice_index (map one_later least) k ≡ unsigned_abs (numbers_of least k) + 1
start_at least k lt = get_or-map one_later least k (pos 0) 0 lt

pub starts_small : (least : List ℤ) → AreSmallNumbers least → AreSmall (map one_later least)
starts_small least small = λ k. by_place k (cases_lt k (length least))
  where
    by_place : (k : ℕ) → (k < length least) ⊎ (length least ≤ k)
        → slice_index (map one_later least) k ≤ 2 ^ 60
    by_place k (inl lt) =
        let s = small k in
        let e = start_at least k lt in
        let a = s.0 in let b = s.1 in omega (arith, ints)
    by_place k (inr past) =
        let e : slice_index (map one_later least) k ≡ 0 =
        get_or_past (map one_later least) k 0 (subst (λ n. n ≤ k) (sym (length-map least one_later)) past) in
        omega arith

pub are_starts : (times : List (List ℤ)) (links : List LinkEnds) (n : ℕ) (least : List ℤ)
    → All (IsTimedLink times) links → length times ≡ n → length least ≡ n
    → IsLeast (numbers_of least) (arcs_of times links)
    → AreStarts times n links (map one_later least)
are_starts times links n least timed size count is = record {
  each = length-map least one_later ∙ count;
  legal = record {
    one = λ k lt. let e = start k lt in omega arith;
    behind = λ j d here.
        let link = get_or links j d in
        let t = timed j d here in
        behind link t (meet times links (numbers_of least) is.solves j d here);
  };
  least = λ other legal k lt.
      let e = start k lt in
      let low = is.least (λ v. pos (other v - 1)) (solves other legal) (λ v. omega (arith, ints)) k in
      let one = legal.one k lt in
      let none_below = is.non_negative k in
      omega (arith, ints);
}
  where
    start : (k : ℕ) → k < n → slice_index (map one_later least) k ≡ unsigned_abs (numbers_of least k) + 1
    start k lt = start_at least k (subst (λ m. k < m) (sym count) lt)

    behind : (link : LinkEnds) → IsTimedLink times link
        → (arc_of times link).need ≤ℤ (numbers_of least link.to.kernel -ℤ numbers_of least link.from.kernel)
        → first_edge times (slice_index (map one_later least)) link.from + 1
        ≤ first_edge times (slice_index (map one_later least)) link.to
    behind link t need =
        let a = start link.from.kernel (subst (λ m. link.from.kernel < m) size t.from.kernel) in
        let b = start link.to.kernel (subst (λ m. link.to.kernel < m) size t.to.kernel) in
        let c = is.non_negative link.from.kernel in
        let d = is.non_negative link.to.kernel in
        let e = t.from.begin in
        let f = t.to.begin in
        omega (arith, ints)

    solves : (other : Starts) → AreLegal times n links other
        → Solves (λ v. pos (other v - 1)) (arcs_of times links)
    solves other legal = met times links (λ v. pos (other v - 1)) (λ j d here.
        let link = get_or links j d in
        let t = timed j d here in
        let a = legal.one link.from.kernel (subst (λ m. link.from.kernel < m) size t.from.kernel) in
        let b = legal.one link.to.kernel (subst (λ m. link.to.kernel < m) size t.to.kernel) in
        let c = legal.behind j d here in
        let e = t.from.begin in
        let f = t.to.begin in
        omega (arith, ints))
