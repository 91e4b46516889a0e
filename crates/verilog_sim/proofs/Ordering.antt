-- From ranks of the nets to an order of the assignments.
use Rattle.std.proofs.Common.{◌≡◌, ℕ, zero, suc, ◌+◌, ◌-◌, ◌<◌, ◌≤◌, List, length, get_or, Option, Some, None, refl, sym, ap, ◌∙◌, subst, ⊎_elim, arith}
use Rattle.std.specs.Prelude.{slice_get}
use Rattle.std.proofs.lemmas.Bool.{cases_lt}
use Rattle.std.proofs.lemmas.Option.{slice_get_within, slice_get-get_or, get_or_from_slice_get}
use Rattle.std.proofs.lemmas.List.{get_or_past}
use Rattle.digraph.specs.Graph.{IsGraph, reads_of, IsRanked, IsPlaced, Reads, IsClosedWalk}
use Rattle.rtl_ir.specs.declared.design.Module.{Module}
use Rattle.rtl_ir.specs.declared.design.Assign.{Assign}
use Rattle.rtl_ir.specs.Operands.{IsRead, reads}
use Rattle.verilog_sim.specs.Runnable.{Follows, Chain, IsRunnable, IsOrderOf}
use Rattle.verilog_sim.specs.Runnable.Follows.{by}
use Rattle.verilog_sim.specs.Runnable.Chain.{stay, on}
use Rattle.verilog_sim.specs.Drivers.{AreDrivers, IsGathered}

follows_of : (m : Module) (graph : List (List ℕ)) (drivers : List (Option ℕ)) (count b a : ℕ) → AreDrivers m graph drivers count → Reads graph b a → Follows m a b
follows_of m graph drivers count b a d r = by_driver (get_or drivers b None) refl
  where
    by_driver : (o : Option ℕ) → get_or drivers b None ≡ o → Follows m a b
    by_driver None q =
        absurd (let e : length (reads_of graph b) ≡ 0 = ap length (d.none b q) in omega (arith, r.1))
    by_driver (Some k) q =
        let s = d.sound b k q in
        let at : slice_get (reads_of graph b) r.0 ≡ Some a = slice_get-get_or (reads_of graph b) r.0 0 r.1 ∙ ap (λ x. Some x) r.2 in
        subst (Follows m a) s.target (by k a s.assign s.at (r.0, subst (λ (l : List ℕ). slice_get l r.0 ≡ Some a) s.reads at))

follows_in : (m : Module) (a b : ℕ) → IsRunnable m → Follows m a b → a < length m.nets
follows_in m a b h (by j n x at r) = (h.assigns j x at).expr.nets n r

pub graph_is : (m : Module) (graph : List (List ℕ)) (drivers : List (Option ℕ)) (count : ℕ) → IsRunnable m → AreDrivers m graph drivers count → IsGraph graph
graph_is m graph drivers count h d b i lt =
    let in_nets = follows_in m (get_or (reads_of graph b) i 0) b h (follows_of m graph drivers count b (get_or (reads_of graph b) i 0) d (i, lt, refl)) in
    omega (arith, in_nets, d.nodes)

chain_to : (m : Module) (graph : List (List ℕ)) (drivers : List (Option ℕ)) (count : ℕ)
    (walk : List ℕ) → AreDrivers m graph drivers count → IsClosedWalk graph walk → (i : ℕ)
    → i < length walk → Chain m (get_or walk 0 0) (get_or walk i 0)
chain_to m graph drivers count walk d w zero lt = stay
chain_to m graph drivers count walk d w (suc i) lt =
    on (chain_to m graph drivers count walk d w i (omega arith))
    (follows_of m graph drivers count (get_or walk (suc i) 0) (get_or walk i 0) d
    (let e : i + 1 ≡ suc i = omega arith in subst (λ (j : ℕ). Reads graph (get_or walk j 0)
    (get_or walk i 0)) e (w.each i (omega arith))))

pub no_walk : (m : Module) (graph : List (List ℕ)) (drivers : List (Option ℕ)) (count : ℕ) (walk : List ℕ) → IsRunnable m → AreDrivers m graph drivers count → IsClosedWalk graph walk → ⊥
no_walk m graph drivers count walk h d w =
    h.free (get_or walk 0 0) (get_or walk (length walk - 1) 0)
    (chain_to m graph drivers count walk d w (length walk - 1) (omega (arith, w.some)))
    (follows_of m graph drivers count (get_or walk 0 0) (get_or walk (length walk - 1) 0) d w.last)

-- the nodes of an order are nodes of the graph
pub nodes_in : (graph : List (List ℕ)) (nodes rank : List ℕ) → IsRanked graph rank → IsPlaced graph nodes rank → (i : ℕ) → i < length nodes → get_or nodes i 0 < length graph
nodes_in graph nodes rank r p i lt = within (get_or nodes i 0) (p.place i lt)
  where
    within : (x : ℕ) → get_or rank x 0 ≡ i + 1 → x < length graph
    within x e = ⊎_elim (λ less. omega (arith, less, r.size)) (λ past. absurd (let z = get_or_past rank x 0 past in omega (arith, e, z))) (cases_lt x (length rank))

pub driver_in : (m : Module) (graph : List (List ℕ)) (drivers : List (Option ℕ)) (count : ℕ) → AreDrivers m graph drivers count → (n k : ℕ) → slice_get drivers n ≡ Some (Some k) → k < length m.assigns
driver_in m graph drivers count d n k e =
    let s = d.sound n k (get_or_from_slice_get drivers n (Some k) None e) in
    slice_get_within m.assigns k s.assign s.at

record Placed (m : Module) (rank : List ℕ) (order : List Assign) (place : ℕ → ℕ) (p : ℕ) (a : Assign) : Type 0 where
  rank_is : get_or rank a.target 0 ≡ place p + 1
  number : ℕ
  at : slice_get m.assigns number ≡ Some a

pub order_of :
    (m : Module) (graph : List (List ℕ)) (drivers : List (Option ℕ)) (nodes rank : List ℕ) (order : List Assign)
    → IsRunnable m → AreDrivers m graph drivers (length m.assigns) → IsRanked graph rank → IsPlaced graph nodes rank
    → IsGathered m.assigns drivers nodes order → IsOrderOf m order
order_of m graph drivers nodes rank order h d r p g =
    record {
      in_order = record {
        typed = λ i a e. h.typed (placed i a e).number a (placed i a e).at;
        unread = λ i j a b le at bt read. unread i j a b le at bt read;
        once = λ i j a b lt at bt e. once i j a b lt at bt e;
      };
      all = λ k a e. all k a e;
      from = λ i a e. ((placed i a e).number, (placed i a e).at);
    }
  where
    placed : (i : ℕ) (a : Assign) → slice_get order i ≡ Some a → Placed m rank order g.place i a
    placed i a e =
        let f = g.from i a e in
        let s = d.sound (get_or nodes (g.place i) 0) f.0 f.1 in
        let same : s.assign ≡ a = (let x = s.at in let y = f.2 in cc) in
        let target : a.target ≡ get_or nodes (g.place i) 0 = ap (λ (z : Assign). z.target) (sym same) ∙ s.target in
        record {
          rank_is = ap (λ x. get_or rank x 0) target ∙ p.place (g.place i) (g.within i (slice_get_within order i a e));
          number = f.0;
          at = f.2;
        }

    rises : (i j : ℕ) (a b : Assign) → i ≤ j → slice_get order i ≡ Some a → slice_get order j ≡ Some b → get_or rank a.target 0 ≤ get_or rank b.target 0
    rises i j a b le at bt =
        ⊎_elim (λ less. let lt = g.rising i j less (slice_get_within order j b bt) in omega (arith, lt, (placed i a at).rank_is, (placed j b bt).rank_is))
        (λ ge. let e : i ≡ j = omega arith in let q = ap g.place e in omega (arith, q, (placed i a at).rank_is, (placed j b bt).rank_is))
        (cases_lt i j)

    reads_lower : (i n : ℕ) (a : Assign) → slice_get order i ≡ Some a → IsRead a.expr n → get_or rank n 0 < get_or rank a.target 0
    reads_lower i n a at read =
        let x = placed i a at in
        let w = d.whole x.number a (slice_get_within m.assigns x.number a x.at) x.at in
        let s = d.sound a.target x.number w in
        let same : s.assign ≡ a = (let y = s.at in let z = x.at in cc) in
        let in_graph : slice_get (reads_of graph a.target) read.0 ≡ Some n = subst (λ (l : List ℕ). slice_get l read.0 ≡ Some n) (sym (s.reads ∙ ap (λ (z : Assign). reads z.expr) same)) read.1 in
        let target_in : a.target < length graph = (let t = (h.assigns x.number a x.at).target in omega (arith, d.nodes, t)) in
        let rise = r.rising a.target read.0 target_in (slice_get_within (reads_of graph a.target) read.0 n in_graph) in
        let node : get_or (reads_of graph a.target) read.0 0 ≡ n = get_or_from_slice_get (reads_of graph a.target) read.0 n 0 in_graph in
        subst (λ (y : ℕ). get_or rank y 0 < get_or rank a.target 0) node rise

    unread : (i j : ℕ) (a b : Assign) → i ≤ j → slice_get order i ≡ Some a → slice_get order j ≡ Some b → IsRead a.expr b.target → ⊥
    unread i j a b le at bt read = omega (arith, reads_lower i b.target a at read, rises i j a b le at bt)

    once : (i j : ℕ) (a b : Assign) → i < j → slice_get order i ≡ Some a → slice_get order j ≡ Some b → a.target ≡ b.target → ⊥
    once i j a b lt at bt e =
        let less = g.rising i j lt (slice_get_within order j b bt) in
        let same = ap (λ x. get_or rank x 0) e in
        omega (arith, less, same, (placed i a at).rank_is, (placed j b bt).rank_is)

    all : (k : ℕ) (a : Assign) → slice_get m.assigns k ≡ Some a → (i : ℕ) × (slice_get order i ≡ Some a)
    all k a e =
        let w = d.whole k a (slice_get_within m.assigns k a e) e in
        let target_in : a.target < length graph = (let t = (h.assigns k a e).target in omega (arith, d.nodes, t)) in
        let some = p.some a.target target_in in
        let back : get_or nodes (get_or rank a.target 0 - 1) 0 ≡ a.target = p.back a.target some in
        let driven : get_or drivers (get_or nodes (get_or rank a.target 0 - 1) 0) None ≡ Some k = ap (λ x. get_or drivers x None) back ∙ w in
        let q = g.all (get_or rank a.target 0 - 1) k (omega (arith, some, p.at_most a.target)) driven in
        let at : slice_get order q.0 ≡ Some (get_or order q.0 a) = slice_get-get_or order q.0 a q.1 in
        let f = g.from q.0 (get_or order q.0 a) at in
        let same_number : Some f.0 ≡ Some k = sym f.1 ∙ ap (λ x. get_or drivers (get_or nodes x 0) None) q.2 ∙ driven in
        let same : get_or order q.0 a ≡ a = (let x = f.2 in cc) in
        (q.0, at ∙ ap (λ z. Some z) same)
