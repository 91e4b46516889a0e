-- A node that was taken out of the queue: what is known where it wants something, and where it doesn't.
use Rattle.std.proofs.Common.{◌≡◌, ◌≢◌, ⊎_elim, ℕ, ◌+◌, ◌/◌, ◌^◌, ◌<◌, ◌≤◌, pos, ◌+ℤ◌, ◌≤ℤ◌, ◌<ℤ◌, List, length, get_or, set, ap, arith}
use Rattle.std.proofs.lemmas.Int.{ints}
use Rattle.std.proofs.lemmas.Bool.{cases_eq}
use Rattle.std.proofs.lemmas.List.{get_or-set_other}
use Rattle.cycle_find.specs.Constraints.{Numbers, Solves}
use Rattle.schedule_problem.specs.declared.problem.Problem.{Problem}
use Rattle.schedule_problem.specs.Flow.{Flow}
use Rattle.schedule_problem.specs.Optimum.{IsProblem}
use Rattle.schedule_flow.specs.Network.{IsTight, tail_of}
use Rattle.schedule_flow.specs.Queue.{Entry, Waits}
use Rattle.schedule_flow.specs.Reach.{IsReached}
use Rattle.schedule_flow.specs.Search.{IsRelaxed, IsSearch, AllRelaxed, IsFarthest, IsTaken, risen}
use Rattle.schedule_flow.proofs.Searching.{settle, settled_farthest}
use Rattle.schedule_flow.proofs.Finding.{found_legal, found_tight, found_low, found_high, found_wants, found_reached}

pub record IsFound (p : Problem) (x y : Numbers) (f : Flow) (rest : Numbers) (place via : List ℕ) : Type 0 where
  pub legal : Solves y p.arcs.list
  pub tight : IsTight p y f
  pub low : (v : ℕ) → pos 0 ≤ℤ y v
  pub high : (v : ℕ) → y v ≤ℤ (x v +ℤ pos (2 ^ 61))
  pub wants : (v : ℕ) → rest v <ℤ pos 0 → y v ≡ x v
  pub reached : IsReached p y f rest place via

module _ (p : Problem) (x : Numbers) (f : Flow) (rest : Numbers) (place via d : List ℕ)
    (queue new : List Entry) (count reach node : ℕ)
    (s : IsSearch p x f rest place via d queue count) (t : IsTaken place queue new reach node) where
  pub after : IsSearch p x f rest (set place node (count + 1)) via d new (count + 1)
  after = settle p x f rest place via d queue new count reach node s t

  pub last_settled : IsFarthest (set place node (count + 1)) d node
  last_settled = (settled_farthest p x f rest place via d queue new count reach node s t).1

  at_reach : get_or d node 0 ≡ reach
  at_reach = (settled_farthest p x f rest place via d queue new count reach node s t).0

  pub reach_low : reach ≤ 2 ^ 126
  reach_low = let e = s.entries reach node t.here in omega (arith, e.2)

  was : (u : ℕ) → 0 < get_or (set place node (count + 1)) u 0 → u ≢ node → 0 < get_or place u 0
  was u up n = let e = get_or-set_other place node u (count + 1) 0 n in omega (arith, e, up)

  pub others : AllRelaxed p x f place d → (r : ℕ) → r / 2 < length p.arcs.list → 0 < get_or (set place node (count + 1)) (tail_of p.arcs.list r) 0 → tail_of p.arcs.list r ≢ node → IsRelaxed p x f d r
  others relaxed r l up n = relaxed r l (was (tail_of p.arcs.list r) up n)

  pub calm_others : ((v : ℕ) → 0 < get_or place v 0 → pos 0 ≤ℤ rest v) → (v : ℕ) → 0 < get_or (set place node (count + 1)) v 0 → v ≢ node → pos 0 ≤ℤ rest v
  calm_others calm v up n = calm v (was v up n)

  pub calm_all : ((v : ℕ) → 0 < get_or place v 0 → pos 0 ≤ℤ rest v) → pos 0 ≤ℤ rest node → (v : ℕ) → 0 < get_or (set place node (count + 1)) v 0 → pos 0 ≤ℤ rest v
  calm_all calm here v up = ⊎_elim
      (λ (q : v ≡ node). let e : rest v ≡ rest node = ap rest q in omega (arith, ints, e, here))
      (λ (n : v ≢ node). calm v (was v up n))
      (cases_eq v node)

  pub found : (y : Numbers) → IsProblem p → Solves x p.arcs.list → IsTight p x f
      → AllRelaxed p x f place d → ((v : ℕ) → 0 < get_or place v 0 → pos 0 ≤ℤ rest v)
      → ((v : ℕ) → v < p.arcs.nodes → y v ≡ risen d reach x v)
      → ((v : ℕ) → p.arcs.nodes ≤ v → y v ≡ x v) → ((v : ℕ) → pos 0 ≤ℤ x v)
      → x node ≤ℤ pos (2 ^ 60) → IsFound p x y f rest (set place node (count + 1)) via
  found y problem legal tight relaxed calm same past low top =
      let place' = set place node (count + 1) in
      let last : (c u : ℕ) → Waits new c u → get_or d node 0 ≤ c = λ (c u : ℕ) (w : Waits new c u). omega (arith, at_reach, t.least c u w) in
      let same' : (v : ℕ) → v < p.arcs.nodes → y v ≡ risen d (get_or d node 0) x v = λ (v : ℕ) (l : v < p.arcs.nodes). omega (arith, ints, at_reach, same v l) in
      let o = others relaxed in
      record {
        legal = found_legal p x f rest place' via d new (count + 1) after problem node y legal tight o last_settled last same';
        tight = found_tight p x f rest place' via d new (count + 1) after problem node y legal tight o last_settled last same';
        low = found_low p x f rest place' via d new (count + 1) after problem node y legal tight o last_settled last same' past low;
        high = found_high p x f rest place' via d new (count + 1) after problem node y legal tight o last_settled last same' past top;
        wants = found_wants p x f rest place' via d new (count + 1) after problem node y legal tight o last_settled last same' past (calm_others calm);
        reached = found_reached p x f rest place' via d new (count + 1) after problem node y legal tight o last_settled last same';
      }
