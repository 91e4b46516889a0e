-- The arcs, terms and base of a problem, one edge or node after another.
use Rattle.std.proofs.Common.{
  ◌≡◌,
  ℕ,
  zero,
  suc,
  ◌+◌,
  ◌*◌,
  ◌<◌,
  List,
  [],
  ◌∷◌,
  ◌++◌,
  length,
  take,
  get_or,
  refl,
  ap,
  sym,
  ◌∙◌,
  arith,
  add-one,
  append_assoc,
}
use Rattle.std.specs.Prelude.{ℤ, pos, ◌+ℤ◌, ◌-ℤ◌, Option, None}
use Rattle.std.proofs.lemmas.List.{take_more, flat_map_more}
use Rattle.cycle_find.specs.declared.arcs.Arc.{Arc}
use Rattle.schedule_problem.specs.declared.problem.Term.{Term}
use Rattle.schedule_problem.specs.declared.problem.Problem.{Problem}
use Rattle.stream_graph.specs.declared.node.Node.{Node}
use Rattle.offset_edges.specs.declared.edge.Edge.{Edge}
use Rattle.offset_edges.specs.Problems.{
  arcs_of,
  arcs_over,
  reader_of,
  AreReaders,
  term_of,
  base_of,
  terms_below,
  base_below,
  problem_over,
}

-- ---- one more

pub terms_more : (nodes : List Node) (readers : ℕ → Option ℕ) (n : ℕ) →
    terms_below nodes readers (n + 1) ≡ terms_below nodes readers n ++ term_of nodes n (readers n)
terms_more nodes readers n = rw add-one

pub base_more : (ticks : ℕ → ℕ) (nodes : List Node) (readers : ℕ → Option ℕ) (n : ℕ) →
    base_below ticks nodes readers (n + 1) ≡ base_below ticks nodes readers n + base_of ticks nodes
    n (readers n)
base_more ticks nodes readers n = rw add-one

-- two arcs more
pub arcs_more : (nodes : ℕ) (ticks : ℕ → ℕ) (edges : List Edge) (new mid old : List Arc) (i : ℕ)
    (there back : ℤ) (d : Edge) →
    i < length edges → old ≡ arcs_over nodes ticks (take i edges) →
    there ≡ (pos (ticks (get_or edges i d).from) +ℤ (get_or edges i d).offset) →
    back ≡ (pos 0 -ℤ (get_or edges i d).offset) →
    mid ≡ old ++ record { from = (get_or edges i d).from; to = (get_or edges i d).to; need = there }
    ∷ [] →
    new ≡ mid ++ record {
      from = (get_or edges i d).to;
      to = nodes + (get_or edges i d).from;
      need =
          back;
    } ∷ [] →
    new ≡ arcs_over nodes ticks (take (i + 1) edges)
arcs_more nodes ticks edges new mid old i there back d h o t b m n =
    let e : Edge = get_or edges i d in
    let f : Arc = record { from = e.from; to = e.to; need = there } in
    let g : Arc = record { from = e.to; to = nodes + e.from; need = back } in
    let f' : Arc = record { from = e.from; to = e.to; need = pos (ticks e.from) +ℤ e.offset } in
    let g' : Arc = record { from = e.to; to = nodes + e.from; need = pos 0 -ℤ e.offset } in
    let p : f ≡ f' = ap (λ z. record { from = e.from; to = e.to; need = z }) t in
    let q : g ≡ g' = ap (λ z. record { from = e.to; to = nodes + e.from; need = z }) b in
    n ∙ ap (λ xs. xs ++ g ∷ []) m ∙ append_assoc old (f ∷ []) (g ∷ [])
    ∙ ap (λ x. old ++ x ∷ g ∷ []) p ∙ ap (λ x. old ++ f' ∷ x ∷ []) q
    ∙ ap (λ xs. xs ++ f' ∷ g' ∷ []) o
    ∙ flat_map_more (arcs_of nodes ticks) [] (take i edges) e
    ∙ ap (arcs_over nodes ticks) (sym (take_more edges i d h))

-- ---- readers that are the same below a number

pub terms_same : (nodes : List Node) (r s : ℕ → Option ℕ) (n : ℕ) → ((u : ℕ) → u < n → r u ≡ s u) →
    terms_below nodes r n ≡ terms_below nodes s n
terms_same nodes r s zero e = refl
terms_same nodes r s (suc n) e =
    ap (λ xs. xs ++ term_of nodes n (r n)) (terms_same nodes r s n (λ u h. e u (omega arith)))
    ∙ ap (λ o. terms_below nodes s n ++ term_of nodes n o) (e n (omega arith))

pub base_same : (ticks : ℕ → ℕ) (nodes : List Node) (r s : ℕ → Option ℕ) (n : ℕ) → ((u : ℕ)
    → u < n → r u ≡ s u) →
    base_below ticks nodes r n ≡ base_below ticks nodes s n
base_same ticks nodes r s zero e = refl
base_same ticks nodes r s (suc n) e =
    ap (λ k. k + base_of ticks nodes n (r n)) (base_same ticks nodes r s n (λ u h. e u (omega
    arith)))
    ∙ ap (λ o. base_below ticks nodes s n + base_of ticks nodes n o) (e n (omega arith))

pub problem_is : (ticks : ℕ → ℕ) (nodes : List Node) (edges : List Edge) (count base : ℕ) (list :
    List Arc) (terms : List Term)
    (readers : List (Option ℕ)) → count ≡ length nodes → AreReaders count edges readers →
    list ≡ arcs_over count ticks edges →
    terms ≡ terms_below nodes (λ u. get_or readers u None) (length nodes) →
    base ≡ base_below ticks nodes (λ u. get_or readers u None) (length nodes) →
    ◌≡◌ {A = Problem} (record {
      arcs = record { nodes = 2 * count; list = list };
      terms = terms;
      base = base;
    }) (problem_over ticks nodes edges)
problem_is ticks nodes edges count base list terms readers c a l t b =
    let same : (u : ℕ) → u < length nodes → get_or readers u None ≡ reader_of edges u = λ u h.
    a.each u (omega arith) in
    ap (λ xs. record { arcs = record { nodes = 2 * count; list = xs }; terms = terms; base = base })
    l
    ∙ ap (λ k. record {
      arcs = record { nodes = 2 * k; list = arcs_over k ticks edges };
      terms =
          terms;
      base = base;
    }) c
    ∙ ap (λ xs. record {
      arcs = record {
        nodes = 2 * length nodes;
        list = arcs_over (length nodes)
            ticks edges;
      };
      terms = xs;
      base = base;
    })
    (t ∙ terms_same nodes (λ u. get_or readers u None) (reader_of edges) (length nodes) same)
    ∙ ap (λ k. record {
      arcs = record { nodes = 2 * length nodes; list = arcs_over (length nodes) ticks edges };
      terms = terms_below nodes (reader_of edges) (length nodes);
      base = k;
    })
    (b ∙ base_same ticks nodes (λ u. get_or readers u None) (reader_of edges) (length nodes) same)
