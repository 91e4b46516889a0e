-- The problem of a kernel can be solved.
use Rattle.std.proofs.Common.{
  ◌≡◌,
  ℕ,
  zero,
  suc,
  ◌+◌,
  ◌*◌,
  ◌≤◌,
  ◌<◌,
  ◌^◌,
  Bool,
  true,
  false,
  List,
  [],
  ◌∷◌,
  length,
  refl,
  subst,
  arith,
  length-append,
}
use Rattle.std.specs.Prelude.{
  All,
  pos,
  ◌+ℤ◌,
  ◌-ℤ◌,
  ◌==◌,
  unsigned_abs,
  Option,
  Some,
  None,
  find,
  if◌then◌else◌,
}
use Rattle.std.specs.Option.{option_map}
use Rattle.std.proofs.Math.Nat.{mul-le-mul}
use Rattle.std.proofs.lemmas.Int.{ints}
use Rattle.std.proofs.lemmas.Bool.{eqb-true}
use Rattle.std.proofs.lemmas.List.Elements.{All-nil, All-cons, All-append}
use Rattle.cycle_find.specs.declared.arcs.Arc.{Arc}
use Rattle.cycle_find.specs.Constraints.{NeedsWithin}
use Rattle.schedule_problem.specs.declared.problem.Term.{Term}
use Rattle.schedule_problem.specs.Optimum.{HasArc, HasRoute, IsProblem}
use Rattle.stream_graph.specs.declared.node.Node.{Node}
use Rattle.offset_edges.specs.declared.edge.Edge.{Edge}
use Rattle.offset_edges.specs.Edges.{edge_at, IsSmall}
use Rattle.stream_graph.specs.LookUps.{width_at}
use Rattle.offset_edges.specs.Problems.{arcs_over, reader_of, term_of, terms_below, problem_over}

-- ---- how many

arcs_length : (nodes : ℕ) (ticks : ℕ → ℕ) (edges : List Edge)
    → length (arcs_over nodes ticks edges) ≡ 2 * length edges
arcs_length nodes ticks [] = refl
arcs_length nodes ticks (e ∷ es) = let r = arcs_length nodes ticks es in omega arith

term_one : (nodes : List Node) (u : ℕ) (reader : Option ℕ) → length (term_of nodes u reader) ≤ 1
term_one nodes u None = omega arith
term_one nodes u (Some r) = omega arith

terms_few : (nodes : List Node) (readers : ℕ → Option ℕ) (n : ℕ)
    → length (terms_below nodes readers n) ≤ n
terms_few nodes readers zero = omega arith
terms_few nodes readers (suc n) =
    let r = terms_few nodes readers n in
    let o = term_one nodes n (readers n) in
    let l = length-append (terms_below nodes readers n) (term_of nodes n (readers n)) in
    omega arith

-- ---- the arcs

record IsFine (nodes : ℕ) (arc : Arc) : Type 0 where
  from : arc.from < 2 * nodes
  to : arc.to < 2 * nodes
  need : unsigned_abs arc.need ≤ 2 ^ 32 + 64

arcs_fine : (nodes : ℕ) (ticks : ℕ → ℕ) (edges : List Edge) → ((n : ℕ) → ticks n ≤ 64) →
    ((j : ℕ) → j < length edges → IsSmall nodes (edge_at edges j))
    → All (IsFine nodes) (arcs_over nodes ticks edges)
arcs_fine nodes ticks [] t s = All-nil (IsFine nodes)
arcs_fine nodes ticks (e ∷ es) t s =
    let r = arcs_fine nodes ticks es t (λ j h. s (suc j) (omega arith)) in
    let q = s 0 (omega arith) in
    let from = q.from in
    let to = q.to in
    let size = q.offset in
    let few = t e.from in
    All-cons (IsFine nodes) (record {
      from = e.from;
      to = e.to;
      need = pos (ticks e.from) +ℤ
          e.offset;
    })
    (record { from = e.to; to = nodes + e.from; need = pos 0 -ℤ e.offset } ∷ arcs_over nodes ticks
    es)
    (record { from = omega arith; to = omega arith; need = omega (arith, ints, size, few) })
    (All-cons (IsFine nodes) (record { from = e.to; to = nodes + e.from; need = pos 0 -ℤ e.offset })
    (arcs_over nodes ticks es)
    (record { from = omega arith; to = omega arith; need = omega (arith, ints, size) }) r)

-- ---- routes

record HasFound (edges : List Edge) (u reader : ℕ) : Type 0 where
  j : ℕ
  within : j < length edges
  from : (edge_at edges j).from ≡ u
  to : (edge_at edges j).to ≡ reader

found : (edges : List Edge) (u reader : ℕ) → reader_of edges u ≡ Some reader
    → HasFound edges u reader
found [] u reader e = absurd (cc)
found (x ∷ xs) u reader e = by_test (x.from == u) (λ t. eqb-true x.from u t) e (λ q. found xs u
    reader q)
  where
    by_test : (b : Bool) → (b ≡ true → x.from ≡ u) → option_map (λ e. e.to) (if b then Some x else
        find (λ e. e.from == u) xs) ≡ Some reader →
        (reader_of xs u ≡ Some reader → HasFound xs u reader) → HasFound (x ∷ xs) u reader
    by_test true same e rest = record { j = 0; within = omega arith; from = same refl; to = cc }
    by_test false same e rest =
        let r = rest e in
        record { j = suc r.j; within = (let w = r.within in omega arith); from = r.from; to = r.to }

-- some arc goes this way
arc_of_edge : (nodes : ℕ) (ticks : ℕ → ℕ) (edges : List Edge) (j : ℕ) → j < length edges →
    HasArc (arcs_over nodes ticks edges) (edge_at edges j).from (edge_at edges j).to
    × HasArc (arcs_over nodes ticks edges) (edge_at edges j).to (nodes + (edge_at edges j).from)
arc_of_edge nodes ticks [] j h = absurd (omega arith)
arc_of_edge nodes ticks (e ∷ es) zero h = (
  (0, omega arith, refl, refl),
  (
    1,
    omega arith,
    refl,
    refl,
  ),
)
arc_of_edge nodes ticks (e ∷ es) (suc j) h =
    let r = arc_of_edge nodes ticks es j (omega arith) in
    let a = r.0.1 in
    let b = r.1.1 in
    ((suc (suc r.0.0), omega arith, r.0.2, r.0.3), (suc (suc r.1.0), omega arith, r.1.2, r.1.3))

record IsFineTerm (nodes : ℕ) (arcs : List Arc) (t : Term) : Type 0 where
  from : t.from < 2 * nodes
  to : t.to < 2 * nodes
  route : HasRoute arcs t

term_fine : (ticks : ℕ → ℕ) (nodes : List Node) (edges : List Edge) (u : ℕ) (reader : Option ℕ)
    → u < length nodes →
    ((j : ℕ) → j < length edges → IsSmall (length nodes) (edge_at edges j))
    → reader_of edges u ≡ reader →
    All (IsFineTerm (length nodes) (arcs_over (length nodes) ticks edges)) (term_of nodes u reader)
term_fine ticks nodes edges u None h s e = All-nil (IsFineTerm (length nodes) (arcs_over (length
    nodes) ticks edges))
term_fine ticks nodes edges u (Some reader) h s e =
    let f = found edges u reader e in
    let to = f.to in
    let below = (s f.j f.within).to in
    let a = arc_of_edge (length nodes) ticks edges f.j f.within in
    let arcs : List Arc = arcs_over (length nodes) ticks edges in
    let there : HasArc arcs u reader =
    subst (λ x. HasArc arcs u x) f.to (subst (λ x. HasArc arcs x (edge_at edges f.j).to) f.from a.0)
    in
    let back : HasArc arcs reader (length nodes + u) =
    subst (λ x. HasArc arcs reader (length nodes + x)) f.from (subst (λ x. HasArc arcs x (length
    nodes + (edge_at edges f.j).from)) f.to a.1) in
    All-cons (IsFineTerm (length nodes) arcs)
    (record { from = u; to = length nodes + u; weight = width_at nodes u; mid = reader }) []
    (record {
      from = omega arith;
      to = omega arith;
      route = (
        λ q. absurd (omega (arith, q)),
        λ n.
            (there, back),
      );
    })
    (All-nil (IsFineTerm (length nodes) arcs))

terms_fine : (ticks : ℕ → ℕ) (nodes : List Node) (edges : List Edge) (n : ℕ) → n ≤ length nodes →
    ((j : ℕ) → j < length edges → IsSmall (length nodes) (edge_at edges j)) →
    All (IsFineTerm (length nodes) (arcs_over (length nodes) ticks edges)) (terms_below nodes
    (reader_of edges) n)
terms_fine ticks nodes edges zero h s = All-nil (IsFineTerm (length nodes) (arcs_over (length nodes)
    ticks edges))
terms_fine ticks nodes edges (suc n) h s =
    All-append (IsFineTerm (length nodes) (arcs_over (length nodes) ticks edges)) (terms_below nodes
    (reader_of edges) n)
    (term_of nodes n (reader_of edges n)) (terms_fine ticks nodes edges n (omega arith) s)
    (term_fine ticks nodes edges n (reader_of edges n) (omega arith) s refl)

-- ---- the whole problem

pub problem_small : (ticks : ℕ → ℕ) (nodes : List Node) (edges : List Edge) → ((n : ℕ)
    → ticks n ≤ 64) →
    ((j : ℕ) → j < length edges → IsSmall (length nodes) (edge_at edges j)) →
    NeedsWithin (2 ^ 32 + 64) (arcs_over (length nodes) ticks edges)
problem_small ticks nodes edges t s = λ j h.
    (arcs_fine (length nodes) ticks edges t s j (record { from = 0; to = 0; need = pos 0 }) h).need

pub problem_few : (ticks : ℕ → ℕ) (nodes : List Node) (edges : List Edge) → length edges ≤ 2 ^ 19 →
    length (arcs_over (length nodes) ticks edges) ≤ 2 ^ 20
problem_few ticks nodes edges m = let l = arcs_length (length nodes) ticks edges in omega arith

pub problem_solvable : (ticks : ℕ → ℕ) (nodes : List Node) (edges : List Edge)
    → length nodes ≤ 4096 → length edges ≤ 2 ^ 19 →
    ((n : ℕ) → ticks n ≤ 64) → ((j : ℕ) → j < length edges
    → IsSmall (length nodes) (edge_at edges j)) →
    IsProblem (problem_over ticks nodes edges)
problem_solvable ticks nodes edges f m t s =
    let l = arcs_length (length nodes) ticks edges in
    let a = arcs_fine (length nodes) ticks edges t s in
    let k = terms_few nodes (reader_of edges) (length nodes) in
    let q = terms_fine ticks nodes edges (length nodes) (omega arith) s in
    record {
      arcs = record {
        nodes = omega arith;
        count = omega arith;
        ends = λ j h. let e = a j (record { from = 0; to = 0; need = pos 0 }) h in (e.from, e.to);
        needs = λ j h.
            let e = (a j (record { from = 0; to = 0; need = pos 0 }) h).need in
            let two : 2 * length nodes ≤ 8192 = omega arith in
            let p = mul-le-mul two e in
            omega arith;
      };
      few = omega arith;
      count = omega arith;
      ends = λ j h. let e = q j (record { from = 0; to = 0; weight = 0; mid = 0 }) h in (
        e.from,
        e.to,
      );
      routes = λ j h. (q j (record { from = 0; to = 0; weight = 0; mid = 0 }) h).route;
    }
