-- What the words of a node that wait keep: its FIFO. What its pipeline keeps: its latency.
use Rattle.std.proofs.Common.{◌≡◌, ◌∙◌, ◌⊎◌, ⊎_elim, ℕ, zero, suc, ◌+◌, ◌*◌, ◌<◌, ◌≤◌, Bool, true, false, List, [], ◌∷◌, length, get_or, refl, ap, sym, arith}
use Rattle.std.specs.Prelude.{Contains, ℤ, pos, ◌*ℤ◌, ◌≤ℤ◌, ◌==◌, Option, Some, None, if◌then◌else◌, unsigned_abs, int_lt}
use Rattle.std.specs.Int.{int_max}
use Rattle.std.specs.List.Sorted.{IsStrictlyIncreasing}
use Rattle.std.proofs.Math.IntN.{pos-*ℤ-pos}
use Rattle.std.proofs.lemmas.Int.{ints}
use Rattle.std.proofs.lemmas.Bool.{cases_cond, cases_lt, eqb-true}
use Rattle.cycle_find.specs.Constraints.{Numbers}
use Rattle.stream_graph.specs.declared.node.Node.{Node}
use Rattle.offset_edges.specs.declared.edge.Edge.{Edge}
use Rattle.offset_edges.specs.Edges.{edges_of, edge_at}
use Rattle.stream_graph.specs.LookUps.{width_at}
use Rattle.offset_edges.specs.Schedules.{delay_of, IsLegal, greater, greatest_delay, bits_of, bits_below, fifo_bits}
use Rattle.kernel_layout.specs.Waits.{AreWaits, IsReadBehind}
use Rattle.kernel_layout.specs.Layouts.{AreLatencies, AreAllWaits}
use Rattle.kernel_stages.specs.Numbers.{last_from, pipeline_bits, all_word_bits}
use Rattle.kernel_rtl.specs.Planned.{widths_of}
use Rattle.kernel_plan.specs.Stored.{latency_bits_below, latency_bits}
use Rattle.kernel_wiring.proofs.Sums.{sum_below, sum_front}
use Rattle.kernel_plan.proofs.Bits.{has_greatest, none_below}
use Rattle.kernel_plan.proofs.Rising.{rest_rises, first_at_most}

-- ---- the last of rising numbers

-- it is one of them
last_among : (prior s : ℕ) (ss : List ℕ) → Contains (s ∷ ss) (last_from prior (s ∷ ss))
last_among prior s [] = (0, omega arith, refl)
last_among prior s (t ∷ ts) =
    let l = last_among s t ts in
    let within = l.1 in
    (suc l.0, omega (arith, within), l.2)

-- none of them is above it
below_last : (prior : ℕ) (ss : List ℕ) → IsStrictlyIncreasing ss → (x : ℕ) → Contains ss x
    → x ≤ last_from prior ss
below_last prior [] up x (k, lt, e) = absurd (omega (arith, lt))
below_last prior (s ∷ ss) up x (zero, lt, e) =
    let first = first_at_most s ss up (last_from s ss) (last_among prior s ss) in
    omega (arith, e, first)
below_last prior (s ∷ ss) up x (suc k, lt, e) =
    below_last s ss (rest_rises s ss up) x (k, omega (arith, lt), e)

-- so it is the number that is the greatest of them, or 0 where there are none
last_at_most : (stages : List ℕ) (g : ℕ) → ((x : ℕ) → Contains stages x → x ≤ g)
    → last_from 0 stages ≤ g
last_at_most [] g h = omega arith
last_at_most (s ∷ ss) g h = h (last_from 0 (s ∷ ss)) (last_among 0 s ss)

last_is : (stages : List ℕ) (g : ℕ) → IsStrictlyIncreasing stages
    → ((x : ℕ) → Contains stages x → x ≤ g) → (0 < g → Contains stages g) → last_from 0 stages ≡ g
last_is stages g up most has =
    let above = last_at_most stages g most in
    ⊎_elim
    (λ (some : 0 < g).
    let below = below_last 0 stages up g (has some) in
    omega (arith, above, below))
    (λ (none : g ≤ 0). omega (arith, above, none))
    (cases_lt 0 g)

-- ---- the greatest delay

-- it is that of an edge
record HasEdge (ticks : ℕ → ℕ) (s : Numbers) (edges : List Edge) (u : ℕ) (d : ℤ) : Type 0 where
  number : ℕ
  within : number < length edges
  from : (edge_at edges number).from ≡ u
  is : delay_of ticks s (edge_at edges number) ≡ d

later : (ticks : ℕ → ℕ) (s : Numbers) (e : Edge) (es : List Edge) (u : ℕ) (d : ℤ)
    → HasEdge ticks s es u d → HasEdge ticks s (e ∷ es) u d
later ticks s e es u d h =
    let within = h.within in
    record { number = suc h.number; within = omega (arith, within); from = h.from; is = h.is }

greater_is : (d e : ℤ) → (int_max d e ≡ d) ⊎ (int_max d e ≡ e)
greater_is d e = cases_cond (int_lt e d) d e (int_max d e) refl

greatest_among : (ticks : ℕ → ℕ) (s : Numbers) (edges : List Edge) (u : ℕ) (d : ℤ)
    → greatest_delay ticks s edges u ≡ Some d → HasEdge ticks s edges u d
greatest_among ticks s [] u d h = absurd (cc)
greatest_among ticks s (e ∷ es) u d h =
    by_test (e.from == u) refl (greatest_delay ticks s es u) h (greatest_among ticks s es u)
  where
    here : (e.from == u) ≡ true → delay_of ticks s e ≡ d → HasEdge ticks s (e ∷ es) u d
    here same is = record { number = 0; within = omega arith; from = eqb-true e.from u same; is = is }

    by_test : (b : Bool) → (e.from == u) ≡ b → (o : Option ℤ)
        → (if b then Some (greater (delay_of ticks s e) o) else o) ≡ Some d
        → ((d' : ℤ) → o ≡ Some d' → HasEdge ticks s es u d') → HasEdge ticks s (e ∷ es) u d
    by_test false test o is rest = later ticks s e es u d (rest d is)
    by_test true test None is rest = here test cc
    by_test true test (Some d') is rest =
        let top : int_max (delay_of ticks s e) d' ≡ d = cc in
        ⊎_elim
        (λ (first : int_max (delay_of ticks s e) d' ≡ delay_of ticks s e). here test (sym first ∙ top))
        (λ (other : int_max (delay_of ticks s e) d' ≡ d').
        later ticks s e es u d (rest d (ap (λ z. Some z) (sym other ∙ top))))
        (greater_is (delay_of ticks s e) d')

-- how long words wait at most
abbrev wait_of : Option ℤ → ℕ
wait_of None = 0
wait_of (Some d) = unsigned_abs d

-- ---- the stages of a node

module _ (nodes : List Node) (ticks : ℕ → ℕ) (s : Numbers) (legal : IsLegal ticks (edges_of nodes) s) where
  abbrev greatest : ℕ → Option ℤ
  greatest u = greatest_delay ticks s (edges_of nodes) u

  -- no word is read later than the greatest delay behind the latency
  read_in_time : (u b : ℕ) → IsReadBehind nodes s u b → b ≤ ticks u + wait_of (greatest u)
  read_in_time u b (j, within, from, behind) =
      let g = has_greatest ticks s (edges_of nodes) j within in
      let above = g.above in
      let waits = ap wait_of g.is in
      let same = ap (λ v. wait_of (greatest v)) from in
      let latency = ap ticks from in
      omega (arith, ints, above, waits, same, latency, behind)

  -- where there is a delay, there is such a wait
  reached : (u : ℕ) (o : Option ℤ) → greatest u ≡ o → (waits : List ℕ)
      → AreWaits nodes ticks s u waits → 0 < wait_of o → Contains waits (wait_of o)
  reached u None e waits a some = absurd (omega (arith, some))
  reached u (Some d) e waits a some =
      let h = greatest_among ticks s (edges_of nodes) u d e in
      let start = none_below ticks s (edges_of nodes) u d legal e in
      let latency = ap ticks h.from in
      let is = h.is in
      (a.each (unsigned_abs d)).1
      (some, (h.number, h.within, h.from, omega (arith, ints, start, latency, is)))

  -- so the last wait is the greatest delay
  last_wait : (u : ℕ) (waits : List ℕ) → AreWaits nodes ticks s u waits
      → last_from 0 waits ≡ wait_of (greatest u)
  last_wait u waits a =
      last_is waits (wait_of (greatest u)) a.rising
      (λ x c. let q = read_in_time u (ticks u + x) ((a.each x).0 c).1 in omega (arith, q))
      (reached u (greatest u) refl waits a)

-- ---- the bits of a node

product_is : (width : ℕ) (d : ℤ) → pos 0 ≤ℤ d → pos (width * unsigned_abs d) ≡ pos width *ℤ d
product_is width d start =
    let is : d ≡ pos (unsigned_abs d) = omega (arith, ints, start) in
    sym (ap (λ z. pos width *ℤ z) is ∙ pos-*ℤ-pos width (unsigned_abs d))

node_bits : (nodes : List Node) (u : ℕ) (o : Option ℤ) → ((d : ℤ) → o ≡ Some d → pos 0 ≤ℤ d)
    → pos (width_at nodes u * wait_of o) ≡ bits_of nodes u o
node_bits nodes u None start = omega (arith, ints)
node_bits nodes u (Some d) start = product_is (width_at nodes u) d (start d refl)

-- ---- sums

-- the bits of the words that wait of a node
abbrev kept_at : List Node → List (List ℕ) → ℕ → ℕ
kept_at nodes waits u = width_at nodes u * last_from 0 (get_or waits u [])

all_kept : (nodes : List Node) (waits : List (List ℕ)) → length waits ≡ length nodes
    → all_word_bits (widths_of nodes) waits ≡ sum_below (kept_at nodes waits) (length nodes)
all_kept [] waits counted = refl
all_kept (node ∷ nodes) [] counted = absurd (omega (arith, counted))
all_kept (node ∷ nodes) (ss ∷ rest) counted =
    let behind = all_kept nodes rest (omega (arith, counted)) in
    let front = sum_front (kept_at (node ∷ nodes) (ss ∷ rest)) (length nodes) in
    omega (arith, behind, front)

module _ (nodes : List Node) (ticks : ℕ → ℕ) (s : Numbers) (legal : IsLegal ticks (edges_of nodes) s) (waits : List (List ℕ)) (all : AreAllWaits nodes ticks s (length nodes) waits) where
  kept_below : (n : ℕ) → n ≤ length nodes
      → pos (sum_below (kept_at nodes waits) n) ≡ bits_below ticks nodes (edges_of nodes) s n
  kept_below zero h = refl
  kept_below (suc n) h =
      let o : Option ℤ = greatest_delay ticks s (edges_of nodes) n in
      let before = kept_below n (omega (arith, h)) in
      let last = ap (λ x. width_at nodes n * x) (last_wait nodes ticks s legal n (get_or waits n []) (all.each n (omega (arith, h)))) in
      let here = node_bits nodes n o (λ d e. none_below ticks s (edges_of nodes) n d legal e) in
      omega (arith, ints, before, last, here)

  -- the words that wait have the bits of the FIFOs
  pub stored : (bits : ℕ) → pos bits ≡ fifo_bits ticks nodes (edges_of nodes) s
      → all_word_bits (widths_of nodes) waits ≡ bits
  stored bits is =
      let counted = all_kept nodes waits all.counted in
      let sum = kept_below (length nodes) (omega arith) in
      omega (arith, ints, is, counted, sum)

-- ---- pipelines

-- the bits of the pipeline of a node
abbrev piped_at : List Node → List ℕ → ℕ → ℕ
piped_at nodes latencies u = width_at nodes u * get_or latencies u 0

all_piped : (nodes : List Node) (latencies : List ℕ) → length latencies ≡ length nodes
    → pipeline_bits (widths_of nodes) latencies ≡ sum_below (piped_at nodes latencies) (length nodes)
all_piped [] latencies counted = refl
all_piped (node ∷ nodes) [] counted = absurd (omega (arith, counted))
all_piped (node ∷ nodes) (l ∷ rest) counted =
    let behind = all_piped nodes rest (omega (arith, counted)) in
    let front = sum_front (piped_at (node ∷ nodes) (l ∷ rest)) (length nodes) in
    omega (arith, behind, front)

piped_below : (nodes : List Node) (ticks : ℕ → ℕ) (latencies : List ℕ) → AreLatencies ticks (length nodes) latencies → (n : ℕ)
    → n ≤ length nodes → sum_below (piped_at nodes latencies) n ≡ latency_bits_below ticks nodes n
piped_below nodes ticks latencies all zero h = refl
piped_below nodes ticks latencies all (suc n) h =
    let before = piped_below nodes ticks latencies all n (omega (arith, h)) in
    let here = ap (λ x. width_at nodes n * x) (all.each n (omega (arith, h))) in
    omega (arith, before, here)

-- the pipelines have the bits of the registers behind the nodes
pub piped : (nodes : List Node) (ticks : ℕ → ℕ) (latencies : List ℕ) → AreLatencies ticks (length nodes) latencies
    → pipeline_bits (widths_of nodes) latencies ≡ latency_bits ticks nodes
piped nodes ticks latencies all = all_piped nodes latencies all.counted ∙ piped_below nodes ticks latencies all (length nodes) (omega arith)
