-- What going over residual arcs keeps, whatever each led to.
use Rattle.std.proofs.Common.{◌≡◌, ◌≢◌, ◌⊎◌, ⊎_elim, ℕ, ◌-◌, ◌*◌, ◌/◌, ◌<◌, ◌≤◌, List, length, get_or, set, sym, ap, subst, arith}
use Rattle.std.proofs.lemmas.Bool.{cases_eq, cases_lt}
use Rattle.cycle_find.specs.Constraints.{Numbers, Solves, EndsInRange}
use Rattle.schedule_problem.specs.declared.problem.Problem.{Problem}
use Rattle.schedule_problem.specs.Flow.{Flow}
use Rattle.schedule_flow.specs.Network.{IsTight, tail_of, head_of}
use Rattle.schedule_flow.specs.Queue.{Entry}
use Rattle.schedule_flow.specs.Adjacency.{IsLastBelow}
use Rattle.schedule_flow.specs.Search.{IsRelaxed, IsSearch, AllRelaxed, IsFarthest, Stays, Nears}
use Rattle.schedule_flow.proofs.Searching.{stays_relaxed, falls, nears_relaxed, nears_others, nears_farthest, nears_search}
use Rattle.schedule_flow.proofs.Sending.{head_in}

-- after residual arc r
pub record Goes (p : Problem) (x : Numbers) (f : Flow) (place via via' d d' : List ℕ) (queue queue' : List Entry) (r : ℕ) : Type 0 where
  pub falls : (v : ℕ) → get_or d' v 0 ≤ get_or d v 0
  pub relaxed : IsRelaxed p x f d' r
  pub others : (i : ℕ) → 0 < get_or place (tail_of p.arcs.list i) 0 → IsRelaxed p x f d i → IsRelaxed p x f d' i
  pub farthest : IsFarthest place d' (tail_of p.arcs.list r)
  pub kept : (rest : Numbers) (count : ℕ) → IsSearch p x f rest place via d queue count → IsSearch p x f rest place via' d' queue' count

module _ (p : Problem) (x : Numbers) (f : Flow) (place via via' d d' : List ℕ)
    (queue queue' : List Entry) (r : ℕ) (arc : r / 2 < length p.arcs.list)
    (ends : EndsInRange p.arcs.nodes p.arcs.list) (legal : Solves x p.arcs.list)
    (tight : IsTight p x f) (len : length d ≡ p.arcs.nodes)
    (farthest : IsFarthest place d (tail_of p.arcs.list r)) where
  stayed : Stays p x f place via via' d d' queue queue' r → Goes p x f place via via' d d' queue queue' r
  stayed h =
      let P : List ℕ → List Entry → List ℕ → Type 0 = λ e q v. Goes p x f place via v d e queue q r in
      let one : P d queue via = record {
        falls = λ v. omega arith;
        relaxed = stays_relaxed p x f place d r arc legal farthest h.relaxed;
        others = λ i up g. g;
        farthest = farthest;
        kept = λ rest count s. s;
      } in
      let A : List ℕ → Type 0 = λ e. P e queue via in
      let B : List Entry → Type 0 = λ q. P d' q via in
      let C : List ℕ → Type 0 = λ v. P d' queue' v in
      subst C (sym h.vias) (subst B (sym h.queues) (subst A (sym h.distances) one))

  neared : Nears p x f place via via' d d' queue queue' r → Goes p x f place via via' d d' queue queue' r
  neared h =
      let w = head_of p.arcs.list r in
      let k = h.distance in
      let in_d : w < length d = omega (arith, len, head_in p.arcs.nodes p.arcs.list ends r arc) in
      let one : Goes p x f place via (set via w r) d (set d w k) queue queue' r = record {
        falls = falls p x f place d r arc legal farthest k h.fresh h.sum h.less in_d;
        relaxed = nears_relaxed p x f place d r arc legal farthest k h.fresh h.sum h.less in_d;
        others = nears_others p x f place d r arc legal farthest k h.fresh h.sum h.less in_d;
        farthest = nears_farthest p x f place d r arc legal farthest k h.fresh h.sum h.less in_d;
        kept = λ rest count s. nears_search p x f place d r arc legal farthest k h.fresh h.sum h.less in_d rest via queue queue' count ends tight h.open_arc h.queues s;
      } in
      let A : List ℕ → Type 0 = λ e. Goes p x f place via (set via w r) d e queue queue' r in
      let C : List ℕ → Type 0 = λ v. Goes p x f place via v d d' queue queue' r in
      subst C (sym h.vias) (subst A (sym h.distances) one)

  pub goes : Stays p x f place via via' d d' queue queue' r ⊎ Nears p x f place via via' d d' queue queue' r → Goes p x f place via via' d d' queue queue' r
  goes h = ⊎_elim
      (λ (s : Stays p x f place via via' d d' queue queue' r). stayed s)
      (λ (s : Nears p x f place via via' d d' queue queue' r). neared s)
      h

-- the residual arcs of a node from a bound on are gone over; `next` is the chain of those below it
pub record IsGone (p : Problem) (x : Numbers) (f : Flow) (d : List ℕ) (node next : ℕ) : Type 0 where
  pub bound : ℕ
  pub chain : IsLastBelow p.arcs.list node bound next
  pub below : bound ≤ 2 * length p.arcs.list
  pub relaxed : (r : ℕ) → bound ≤ r → r / 2 < length p.arcs.list → tail_of p.arcs.list r ≡ node → IsRelaxed p x f d r

-- going over all residual arcs of a node
pub record Going (p : Problem) (x : Numbers) (f : Flow) (place via via' d d' : List ℕ) (queue queue' : List Entry) (node next : ℕ) : Type 0 where
  pub gone : IsGone p x f d' node next
  pub falls : (v : ℕ) → get_or d' v 0 ≤ get_or d v 0
  pub others : (i : ℕ) → 0 < get_or place (tail_of p.arcs.list i) 0 → IsRelaxed p x f d i → IsRelaxed p x f d' i
  pub farthest : IsFarthest place d' node
  pub kept : (rest : Numbers) (count : ℕ) → IsSearch p x f rest place via d queue count → IsSearch p x f rest place via' d' queue' count

pub going_first : (p : Problem) (x : Numbers) (f : Flow) (place via d : List ℕ)
    (queue : List Entry) (node next : ℕ)
    → IsLastBelow p.arcs.list node (2 * length p.arcs.list) next → IsFarthest place d node
    → Going p x f place via via d d queue queue node next
going_first p x f place via d queue node next chain farthest = record {
  gone = record {
    bound = 2 * length p.arcs.list;
    chain = chain;
    below = omega arith;
    relaxed = λ r g l e. absurd (omega (arith, g, l));
  };
  falls = λ v. omega arith;
  others = λ i up g. g;
  farthest = farthest;
  kept = λ rest count s. s;
}

module _ (p : Problem) (x : Numbers) (f : Flow) (place via via' d d' : List ℕ)
    (queue queue' : List Entry) (node next : ℕ)
    (g : Going p x f place via via' d d' queue queue' node next) (up : 0 < next) where
  pub here : tail_of p.arcs.list (next - 1) ≡ node
  here = g.gone.chain.here up

  pub going_arc : (next - 1) / 2 < length p.arcs.list
  going_arc = omega (arith, up, g.gone.chain.low, g.gone.below)

  pub going_more : (via'' d'' : List ℕ) (queue'' : List Entry) (after : ℕ)
      → EndsInRange p.arcs.nodes p.arcs.list → Solves x p.arcs.list → IsTight p x f
      → length d' ≡ p.arcs.nodes → IsLastBelow p.arcs.list (tail_of p.arcs.list (next - 1))
      (next - 1) after → Stays p x f place via' via'' d' d'' queue' queue'' (next - 1)
      ⊎ Nears p x f place via' via'' d' d'' queue' queue'' (next - 1)
      → Going p x f place via via'' d d'' queue queue'' node after
  going_more via'' d'' queue'' after ends legal tight len chain step =
      let r : ℕ = next - 1 in
      let P : ℕ → Type 0 = λ v. IsFarthest place d' v in
      let Q : ℕ → Type 0 = λ v. IsFarthest place d'' v in
      let R : ℕ → Type 0 = λ v. IsLastBelow p.arcs.list v r after in
      let s = goes p x f place via' via'' d' d'' queue' queue'' r going_arc ends legal tight len (subst P (sym here) g.farthest) step in
      record {
        gone = record {
          bound = r;
          chain = subst R here chain;
          below = omega (arith, g.gone.chain.low, g.gone.below);
          relaxed = λ i ge l e. ⊎_elim
              (λ (q : i ≡ r). let S : ℕ → Type 0 = λ j. IsRelaxed p x f d'' j in subst S (sym q) s.relaxed)
              (λ (n : i ≢ r).
              let placed : 0 < get_or place (tail_of p.arcs.list i) 0 =
              (let z : get_or place (tail_of p.arcs.list i) 0 ≡ get_or place node 0 = ap
              (λ v. get_or place v 0) e in omega (arith, z, g.farthest.here)) in
              ⊎_elim
              (λ (low : i < g.gone.bound). absurd (g.gone.chain.none i (omega (arith, ge, n, up)) low e))
              (λ (high : g.gone.bound ≤ i). s.others i placed (g.gone.relaxed i high l e))
              (cases_lt i g.gone.bound))
              (cases_eq i r);
        };
        falls = λ v. omega (arith, s.falls v, g.falls v);
        others = λ i h k. s.others i h (g.others i h k);
        farthest = subst Q here s.farthest;
        kept = λ rest count h. s.kept rest count (g.kept rest count h);
      }

pub going_all : (p : Problem) (x : Numbers) (f : Flow) (place via via' d d' : List ℕ)
    (queue queue' : List Entry) (node next : ℕ)
    → Going p x f place via via' d d' queue queue' node next → next ≡ 0
    → ((r : ℕ) → r / 2 < length p.arcs.list → 0 < get_or place (tail_of p.arcs.list r) 0
    → tail_of p.arcs.list r ≢ node → IsRelaxed p x f d r) → AllRelaxed p x f place d'
going_all p x f place via via' d d' queue queue' node next g z others r l up = ⊎_elim
    (λ (e : tail_of p.arcs.list r ≡ node). ⊎_elim
    (λ (low : r < g.gone.bound). absurd (g.gone.chain.none r (omega (arith, z)) low e))
    (λ (high : g.gone.bound ≤ r). g.gone.relaxed r high l e)
    (cases_lt r g.gone.bound))
    (λ (n : tail_of p.arcs.list r ≢ node). g.others r up (others r l up n))
    (cases_eq (tail_of p.arcs.list r) node)
