-- The walk that a refusal shows.
use Rattle.std.proofs.Common.{
  ◌≡◌,
  ℕ,
  ◌+◌,
  ◌-◌,
  ◌≤◌,
  ◌<◌,
  List,
  [],
  ◌∷◌,
  ◌++◌,
  map,
  length,
  take,
  drop,
  get_or,
  refl,
  ap,
  sym,
  ◌∙◌,
  subst,
  arith,
  ⊎_elim,
}
use Rattle.std.specs.Prelude.{◌+ℤ◌, Result, Ok, Err, IfOk}
use Rattle.std.proofs.lemmas.Int.{ints}
use Rattle.std.proofs.lemmas.Bool.{cases_lt}
use Rattle.std.proofs.lemmas.List.{
  length-append,
  length-take,
  length-drop,
  length-map,
  get_or-map,
  take_more,
  take-append-drop,
  get_or_append_left,
  get_or-append_right,
  get_or-take,
  get_or-drop,
  map_more,
}
use Rattle.offset_edges.specs.declared.edge.Edge.{Edge}
use Rattle.offset_edges.specs.declared.walk.ClosedWalk.{ClosedWalk}
use Rattle.offset_edges.specs.Edges.{edge_at}
use Rattle.offset_edges.specs.Walks.{
  start_of,
  end_of,
  IsWalk,
  IsClosed,
  offsets_of,
  latencies_of,
  IsSummed,
  IsShown,
}

walk_split : (edges : List Edge) (js ks : List ℕ) (a b : ℕ) → IsWalk edges a (js ++ ks) b →
    (m : ℕ) × IsWalk edges a js m × IsWalk edges m ks b
walk_split edges [] ks a b w = (a, refl, w)
walk_split edges (j ∷ js) ks a b w =
    let r = walk_split edges js ks (end_of edges j) b w.2 in
    (r.0, (w.0, w.1, r.1), r.2)

walk_join : (edges : List Edge) (js ks : List ℕ) (a m b : ℕ) → IsWalk edges a js m
    → IsWalk edges m ks b →
    IsWalk edges a (js ++ ks) b
walk_join edges [] ks a m b w v = subst (λ x. IsWalk edges x ks b) (sym w) v
walk_join edges (j ∷ js) ks a m b w v = (w.0, w.1, walk_join edges js ks (end_of edges j) m b w.2 v)

offsets-append : (edges : List Edge) (js ks : List ℕ) → offsets_of edges (js ++ ks) ≡ (offsets_of
    edges js +ℤ offsets_of edges ks)
offsets-append edges [] ks = omega (arith, ints)
offsets-append edges (j ∷ js) ks = omega (arith, ints, offsets-append edges js ks)

latencies-append : (ticks : ℕ → ℕ) (edges : List Edge) (js ks : List ℕ) →
    latencies_of ticks edges (js ++ ks) ≡ latencies_of ticks edges js + latencies_of ticks edges ks
latencies-append ticks edges [] ks = omega arith
latencies-append ticks edges (j ∷ js) ks = let r = latencies-append ticks edges js ks in omega arith

-- one edge more
pub offsets_more : (edges : List Edge) (js : List ℕ) (i : ℕ) → i < length js →
    offsets_of edges (take (i + 1) js) ≡ (offsets_of edges (take i js) +ℤ (edge_at edges (get_or js
    i 0)).offset)
offsets_more edges js i h =
    ap (offsets_of edges) (take_more js i 0 h) ∙ offsets-append edges (take i js) (get_or js i 0 ∷
    []) ∙ omega (arith, ints)

pub latencies_more : (ticks : ℕ → ℕ) (edges : List Edge) (js : List ℕ) (i : ℕ) → i < length js →
    latencies_of ticks edges (take (i + 1) js) ≡ latencies_of ticks edges (take i js) + ticks
    (start_of edges (get_or js i 0))
latencies_more ticks edges js i h =
    ap (latencies_of ticks edges) (take_more js i 0 h) ∙ latencies-append ticks edges (take i js)
    (get_or js i 0 ∷ []) ∙ omega arith

pub nodes_more : (edges : List Edge) (js new old : List ℕ) (i : ℕ) → i < length js
    → old ≡ map (start_of edges) (take i js) →
    new ≡ old ++ start_of edges (get_or js i 0) ∷ [] → new ≡ map (start_of edges) (take (i + 1) js)
nodes_more edges js new old i h o n =
    n ∙ ap (λ xs. xs ++ start_of edges (get_or js i 0) ∷ []) o
    ∙ sym (map_more (start_of edges) js i 0 h)

-- ---- from another place on

pub turned_closed : (edges : List Edge) (round : List ℕ) (k : ℕ) → IsClosed edges round
    → IsClosed edges (drop k round ++ take k round)
turned_closed edges round k c =
    let w : IsWalk edges c.0 (take k round ++ drop k round) c.0 = subst (λ js. IsWalk edges c.0 js
    c.0) (sym (take-append-drop k round)) c.1 in
    let s = walk_split edges (take k round) (drop k round) c.0 c.0 w in
    (s.0, walk_join edges (drop k round) (take k round) s.0 c.0 s.0 s.2 s.1)

pub turned_offsets : (edges : List Edge) (round : List ℕ) (k : ℕ) →
    offsets_of edges (drop k round ++ take k round) ≡ offsets_of edges round
turned_offsets edges round k =
    let a = offsets-append edges (drop k round) (take k round) in
    let b = offsets-append edges (take k round) (drop k round) in
    let c : offsets_of edges (take k round ++ drop k round) ≡ offsets_of edges round = ap
    (offsets_of edges) (take-append-drop k round) in
    omega (arith, ints, a, b, c)

pub turned_latencies : (ticks : ℕ → ℕ) (edges : List Edge) (round : List ℕ) (k : ℕ) →
    latencies_of ticks edges (drop k round ++ take k round) ≡ latencies_of ticks edges round
turned_latencies ticks edges round k =
    let a = latencies-append ticks edges (drop k round) (take k round) in
    let b = latencies-append ticks edges (take k round) (drop k round) in
    let c : latencies_of ticks edges (take k round ++ drop k round) ≡ latencies_of ticks edges round
    =
    ap (latencies_of ticks edges) (take-append-drop k round) in
    omega arith

pub turned_length : (round : List ℕ) (k : ℕ) → length (drop k round ++ take k round) ≡ length round
turned_length round k =
    let a = length-append (drop k round) (take k round) in
    let b = length-drop k round in
    let c = length-take k round in
    omega arith

-- each place is one of the round
record IsAt (round : List ℕ) (k i : ℕ) : Type 0 where
  place : ℕ
  within : place < length round
  is : get_or (drop k round ++ take k round) i 0 ≡ get_or round place 0

at : (round : List ℕ) (k i : ℕ) → k ≤ length round → i < length round → IsAt round k i
at round k i l h =
    let d = length-drop k round in
    ⊎_elim
    (λ (near : i < length round - k).
    let here : i < length (drop k round) = omega arith in
    record {
      place = k + i;
      within = omega arith;
      is = get_or_append_left (drop k round) (take k round) 0 i here ∙ get_or-drop k round i 0;
    })
    (λ (far : length round - k ≤ i).
    record {
      place = i - (length round - k);
      within = omega arith;
      is = get_or-append_right (drop k round) (take k round) (length round - k) i 0 d far
          ∙ get_or-take k round (i - (length round - k)) 0 (omega arith);
    })
    (cases_lt i (length round - k))

pub turned_shown : (ticks : ℕ → ℕ) (edges : List Edge) (round : List ℕ) (k : ℕ) (walk : ClosedWalk)
    → k < length round →
    IsClosed edges round →
    ((i : ℕ) → i < length round → start_of edges (get_or round k 0) ≤ start_of edges (get_or round i
    0)) →
    IsSummed ticks edges (drop k round ++ take k round) walk → IsShown ticks edges walk
turned_shown ticks edges round k walk h c least s =
    let n = turned_length round k in
    let js : List ℕ = drop k round ++ take k round in
    let m : length (map (start_of edges) js) ≡ length js = length-map js (start_of edges) in
    let len : length walk.nodes ≡ length js = ap length s.nodes ∙ m in
    record {
      round = js;
      some = omega arith;
      closed = turned_closed edges round k c;
      summed = s;
      least_first = λ i l.
          let li : i < length js = omega arith in
          let l0 : 0 < length js = omega arith in
          let ai = at round k i (omega arith) (omega arith) in
          let a0 : get_or js 0 0 ≡ get_or round k 0 =
          get_or_append_left (drop k round) (take k round) 0 0 (let d = length-drop k round in omega
          arith)
          ∙ get_or-drop k round 0 0 ∙ ap (λ p. get_or round p 0) (let z : k + 0 ≡ k = omega arith in
          z) in
          let e0 : get_or walk.nodes 0 0 ≡ start_of edges (get_or round k 0) =
          ap (λ xs. get_or xs 0 0) s.nodes ∙ get_or-map (start_of edges) js 0 0 0 l0
          ∙ ap (start_of edges) a0 in
          let ei : get_or walk.nodes i 0 ≡ start_of edges (get_or round ai.place 0) =
          ap (λ xs. get_or xs i 0) s.nodes ∙ get_or-map (start_of edges) js i 0 0 li
          ∙ ap (start_of edges) ai.is in
          let q = least ai.place ai.within in
          omega arith;
    }

-- ---- latencies that are the same

latencies_same : (t s : ℕ → ℕ) (edges : List Edge) (js : List ℕ) → ((n : ℕ) → t n ≡ s n) →
    latencies_of t edges js ≡ latencies_of s edges js
latencies_same t s edges [] e = refl
latencies_same t s edges (j ∷ js) e =
    let r = latencies_same t s edges js e in
    let q = e (start_of edges j) in
    omega arith

pub shown_same : (t s : ℕ → ℕ) (edges : List Edge) (walk : ClosedWalk) → ((n : ℕ) → t n ≡ s n)
    → IsShown t edges walk → IsShown s edges walk
shown_same t s edges walk e h =
    record {
      round = h.round;
      some = h.some;
      closed = h.closed;
      summed = record {
        nodes = h.summed.nodes;
        latency = h.summed.latency
            ∙ latencies_same t s edges h.round e;
        offset = h.summed.offset;
      };
      least_first = h.least_first;
    }

-- ---- answers

pub ok_also : {T E : Type 0} (r : Result T E) (P Q : T → Type 0) → ((x : T) → P x → Q x)
    → IfOk r P → IfOk r Q
ok_also (Ok x) P Q f h = f x h
ok_also (Err e) P Q f h = h

pub summed : (a b x y z : ℕ) → a ≡ x → b ≡ y → z ≡ x + y → a + b ≡ z
summed a b x y z p q r = omega arith
