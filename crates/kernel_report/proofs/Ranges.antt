-- The problem of a kernel: how many arcs it has, and that its ends are nodes.
use Rattle.std.proofs.Common.{◌≡◌, ℕ, zero, suc, ◌+◌, ◌*◌, ◌≤◌, ◌<◌, List, [], ◌∷◌, length, refl, arith}
use Rattle.std.specs.Prelude.{All, Option, Some, None}
use Rattle.std.proofs.lemmas.List.Elements.{All-nil, All-cons, All-append}
use Rattle.cycle_find.specs.Constraints.{EndsInRange}
use Rattle.schedule_problem.specs.declared.problem.Term.{Term}
use Rattle.schedule_problem.specs.Flow.{TermsInRange}
use Rattle.stream_graph.specs.declared.node.Node.{Node}
use Rattle.offset_edges.specs.declared.edge.Edge.{Edge}
use Rattle.offset_edges.specs.Edges.{edge_at, IsSmall}
use Rattle.stream_graph.specs.LookUps.{width_at}
use Rattle.offset_edges.specs.Problems.{arcs_over, term_of, terms_below}
use Rattle.kernel_schedule.proofs.Beginning.{arcs_have}

-- two arcs an edge
pub arcs_length : (nodes : ℕ) (ticks : ℕ → ℕ) (edges : List Edge)
    → length (arcs_over nodes ticks edges) ≡ 2 * length edges
arcs_length nodes ticks [] = refl
arcs_length nodes ticks (e ∷ es) = let r = arcs_length nodes ticks es in omega arith

-- the ends of the arcs are nodes of the problem
pub ends_within : (nodes : ℕ) (ticks : ℕ → ℕ) (edges : List Edge) → ((j : ℕ) → j < length edges
    → IsSmall nodes (edge_at edges j)) → EndsInRange (2 * nodes) (arcs_over nodes ticks edges)
ends_within nodes ticks edges small =
    arcs_have (λ a. (a.from < 2 * nodes) × (a.to < 2 * nodes)) nodes ticks edges
    (λ j h.
    let from = (small j h).from in
    let to = (small j h).to in
    record { there = (omega arith, omega arith); back = (omega arith, omega arith) })

-- the ends of a term are two of twice so many nodes
record IsTerm (nodes : ℕ) (term : Term) : Type 0 where
  from : term.from < 2 * nodes
  to : term.to < 2 * nodes

-- those of a node's term are
term_fine : (nodes : List Node) (u : ℕ) (reader : Option ℕ) → u < length nodes
    → All (IsTerm (length nodes)) (term_of nodes u reader)
term_fine nodes u None h = All-nil (IsTerm (length nodes))
term_fine nodes u (Some r) h =
    All-cons (IsTerm (length nodes)) (record { from = u; to = length nodes + u; weight = width_at nodes u; mid = r }) []
    (record { from = omega arith; to = omega arith }) (All-nil (IsTerm (length nodes)))

-- those of the terms of the nodes below a number are
terms_fine : (nodes : List Node) (readers : ℕ → Option ℕ) (n : ℕ) → n ≤ length nodes
    → All (IsTerm (length nodes)) (terms_below nodes readers n)
terms_fine nodes readers zero h = All-nil (IsTerm (length nodes))
terms_fine nodes readers (suc n) h =
    All-append (IsTerm (length nodes)) (terms_below nodes readers n) (term_of nodes n (readers n))
    (terms_fine nodes readers n (omega arith)) (term_fine nodes n (readers n) (omega arith))

-- the ends of the terms are nodes of the problem
pub terms_within : (nodes : List Node) (readers : ℕ → Option ℕ)
    → TermsInRange (2 * length nodes) (terms_below nodes readers (length nodes))
terms_within nodes readers = λ j h.
    let whole : length nodes ≤ length nodes = omega arith in
    let t = terms_fine nodes readers (length nodes) whole j (record { from = 0; to = 0; weight = 0; mid = 0 }) h in
    (t.from, t.to)
