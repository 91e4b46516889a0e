-- A search for a node in want, by least distances (Dijkstra 1959).
use Rattle.std.specs.Prelude.{
  ◌≡◌,
  ◌⊎◌,
  ℕ,
  ◌+◌,
  ◌-◌,
  ◌*◌,
  ◌/◌,
  ◌%◌,
  ◌^◌,
  ◌<◌,
  ◌≤◌,
  ◌==◌,
  if◌then◌else◌,
  ℤ,
  pos,
  ◌+ℤ◌,
  ◌-ℤ◌,
  ◌≤ℤ◌,
  ◌<ℤ◌,
  List,
  length,
  slice_index,
  slice_set,
}
use Rattle.std.specs.List.{sum_by}
use Rattle.cycle_find.specs.Constraints.{Numbers, NeedsWithin, start_of, end_of, need_of}
use Rattle.schedule_problem.specs.declared.problem.Problem.{Problem}
use Rattle.schedule_problem.specs.Flow.{Flow}
use Rattle.schedule_flow.specs.Network.{tail_of, head_of}
use Rattle.schedule_flow.specs.Queue.{Entry, Waits, IsQueued}

-- how far the end of arc j stands above what the arc asks
abbrev pub slack_of : Problem → Numbers → ℕ → ℤ
slack_of p x j = (x (end_of p.arcs.list j) -ℤ x (start_of p.arcs.list j)) -ℤ need_of p.arcs.list j

-- the reduced need of a residual arc: the slack forwards, and nothing backwards
abbrev pub reduced : Problem → Numbers → ℕ → ℤ
reduced p x r = if (r % 2 == 0) then slack_of p x (r / 2) else pos 0

-- forwards there is always room, backwards where the arc carries something
abbrev pub IsOpen : Flow → ℕ → Type 0
IsOpen f r = r % 2 ≡ 1 → 0 < f (r / 2)

-- the distance of a node that isn't reached
abbrev pub far : ℕ
far = 2 ^ 126

-- node v was reached over residual arc r, from a node that was settled before it
pub record IsParent (p : Problem) (x : Numbers) (f : Flow) (place d : List ℕ) (r v : ℕ) : Type 0 where
  pub arc : r / 2 < length p.arcs.list
  pub here : head_of p.arcs.list r ≡ v
  pub from : 0 < slice_index place (tail_of p.arcs.list r)
  pub later : (slice_index place v ≡ 0) ⊎ (slice_index place (tail_of p.arcs.list r) < slice_index place v)
  pub open_arc : IsOpen f r
  pub sum : pos (slice_index d v) ≡ (pos (slice_index d (tail_of p.arcs.list r)) +ℤ reduced p x r)

-- residual arc r leads nowhere nearer
abbrev pub IsRelaxed : Problem → Numbers → Flow → List ℕ → ℕ → Type 0
IsRelaxed p x f d r = IsOpen f r → pos (slice_index d (head_of p.arcs.list r)) ≤ℤ (pos (slice_index d (tail_of p.arcs.list r)) +ℤ reduced p x r)

-- settled nodes have places from 1 in order of their distances; reached nodes that aren't settled wait
pub record IsSearch (p : Problem) (x : Numbers) (f : Flow) (rest : Numbers) (place via d : List ℕ) (queue : List Entry) (count : ℕ) : Type 0 where
  pub places : length place ≡ p.arcs.nodes
  pub vias : length via ≡ p.arcs.nodes
  pub distances : length d ≡ p.arcs.nodes
  pub room : count + sum_by (λ k. 1 - k) place ≡ p.arcs.nodes
  pub most : (v : ℕ) → slice_index place v ≤ count
  pub within : (v : ℕ) → slice_index d v ≤ far
  pub reached : (v : ℕ) → v < p.arcs.nodes → slice_index d v < far → (pos 0 <ℤ rest v) ⊎ IsParent p x f place d (slice_index via v) v
  pub settled : (v : ℕ) → 0 < slice_index place v → slice_index d v < far
  pub nearer : (u : ℕ) → 0 < slice_index place u → (c v : ℕ) → Waits queue c v → slice_index d u ≤ c
  pub waiting : (v : ℕ) → v < p.arcs.nodes → slice_index place v ≡ 0 → slice_index d v < far → Waits queue (slice_index d v) v
  pub entries : (c v : ℕ) → Waits queue c v → (v < p.arcs.nodes) × (slice_index d v ≤ c) × (c < far)
  pub high : (size : ℕ) → NeedsWithin size p.arcs.list → (v : ℕ) → v < p.arcs.nodes → slice_index d v < far
      → pos (slice_index d v) ≤ℤ (x v +ℤ pos (size * count))
  pub higher : (size : ℕ) → NeedsWithin size p.arcs.list → (v : ℕ) → 0 < slice_index place v
      → pos (slice_index d v + size) ≤ℤ (x v +ℤ pos (size * slice_index place v))

-- the residual arcs that start at settled nodes lead nowhere nearer
abbrev pub AllRelaxed : Problem → Numbers → Flow → List ℕ → List ℕ → Type 0
AllRelaxed p x f place d = (r : ℕ) → r / 2 < length p.arcs.list → 0 < slice_index place (tail_of p.arcs.list r) → IsRelaxed p x f d r

-- node v is settled, and none stands farther
pub record IsFarthest (place d : List ℕ) (v : ℕ) : Type 0 where
  pub here : 0 < slice_index place v
  pub most : (u : ℕ) → 0 < slice_index place u → slice_index d u ≤ slice_index d v

-- residual arc r led nowhere nearer
pub record Stays (p : Problem) (x : Numbers) (f : Flow) (place via via' d d' : List ℕ) (queue queue' : List Entry) (r : ℕ) : Type 0 where
  pub vias : via' ≡ via
  pub distances : d' ≡ d
  pub queues : queue' ≡ queue
  pub relaxed : slice_index place (head_of p.arcs.list r) ≡ 0 → IsRelaxed p x f d r

-- residual arc r led nearer to its end
pub record Nears (p : Problem) (x : Numbers) (f : Flow) (place via via' d d' : List ℕ) (queue queue' : List Entry) (r : ℕ) : Type 0 where
  pub open_arc : IsOpen f r
  pub fresh : slice_index place (head_of p.arcs.list r) ≡ 0
  pub distance : ℕ
  pub sum : pos distance ≡ (pos (slice_index d (tail_of p.arcs.list r)) +ℤ reduced p x r)
  pub less : distance < slice_index d (head_of p.arcs.list r)
  pub vias : via' ≡ slice_set via (head_of p.arcs.list r) r
  pub distances : d' ≡ slice_set d (head_of p.arcs.list r) distance
  pub queues : IsQueued queue queue' distance (head_of p.arcs.list r)

-- an entry of a node that isn't settled was taken out, and none with a lesser distance is left
pub record IsTaken (place : List ℕ) (old new : List Entry) (d v : ℕ) : Type 0 where
  pub here : Waits old d v
  pub fresh : slice_index place v ≡ 0
  pub least : (c u : ℕ) → Waits new c u → d ≤ c
  pub kept : (c u : ℕ) → slice_index place u ≡ 0 → Waits old c u → Waits new c u ⊎ ((c ≡ d) × (u ≡ v))
  pub only : (c u : ℕ) → Waits new c u → Waits old c u

-- numbers raised up to a distance: a nearer node rises by what it is nearer
abbrev pub risen : List ℕ → ℕ → Numbers → Numbers
risen d reach x = λ v. x v +ℤ pos (reach - slice_index d v)
