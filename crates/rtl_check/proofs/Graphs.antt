-- Ranks, loops and ways of a module and of its graph.
use Rattle.std.proofs.Common.{◌≡◌, ℕ, ◌+◌, ◌-◌, ◌<◌, true, false, List, [], length, get_or, Some, refl, sym, ◌∙◌, ap, subst, arith, inl, inr, ⊎_elim}
use Rattle.std.specs.Prelude.{slice_get}
use Rattle.std.proofs.lemmas.Option.{get_or_from_slice_get, slice_get_within}
use Rattle.rtl_ir.specs.declared.design.Design.{Design}
use Rattle.rtl_ir.specs.declared.design.Module.{Module}
use Rattle.rtl_ir.specs.declared.design.Instance.{Instance}
use Rattle.rtl_ir.specs.Rules.{Connection, Feeds, by_assign, by_part, Way, stay, step, IsLevelled}
use Rattle.rtl_ir.specs.Faults.{IsCombLoop}
use Rattle.rtl_check.specs.FirstFault.{IsSimple}
use Rattle.rtl_check.specs.Paths.{PortPath, HasPath, IsAssigned, IsParted, IsPath, ArePaths, ArePathsOf, IsInRange, HasEdges}
use Rattle.rtl_check.proofs.ModuleGraphs.{IsGraphOf}
use Rattle.rtl_check.specs.Checked.{IsPart}
use Rattle.rtl_check.proofs.Places.{some_is}
use Rattle.rtl_check.proofs.Parted.{inner_is}
use Rattle.rtl_check.proofs.Marked.{item_of}
use Rattle.rtl_check.proofs.Edges.{edge_from}
use Rattle.digraph.specs.Graph.{Reads, IsGraph, IsRanked, IsClosedWalk, IsLeastFirst, IsSimple as IsSimpleWalk, Reaches, begin, on}

pub is_graph : (m : Module) (tables : List (List (List ℕ))) (g : List (List ℕ)) → IsInRange m tables → HasEdges m tables g → IsGraph g
is_graph m tables g r h b i lt =
    let a = get_or (get_or g b []) i 0 in
    let e : Reads g b a = (i, lt, refl) in
    omega (
      arith,
      h.size,
      h.small a b e,
      ⊎_elim (λ (x : IsAssigned m (length m.assigns) a b). r.reads x.0 a x.1 x.3 x.4)
          (λ (x : IsParted m tables
          (length m.instances) a b). r.nets x.0 x.6.0.input a x.1 x.4 x.6.3) (h.only a b e),
    )

pub graph_of : (d : Design) (m : Module) (tables : List (List (List ℕ))) (g : List (List ℕ)) → IsPart m tables d → HasEdges m tables g → IsGraphOf d m g
graph_of d m tables g part h = record { fed = λ a b e. ⊎_elim (assigned a b) (parted a b) (h.only a b e); reads = λ a b f. reads a b f }
  where
    assigned : (a b : ℕ) → IsAssigned m (length m.assigns) a b → Feeds d m a b
    assigned a b x = subst (Feeds d m a) x.5 (by_assign x.0 a x.1 x.3 x.4)

    parted : (a b : ℕ) → IsParted m tables (length m.instances) a b → Feeds d m a b
    parted a b x =
        let i = x.1 in
        let inner = item_of d.modules i.module ((part.0.instances x.0 i x.4).is_earlier) in
        let table = part.1 x.0 i inner.0 x.4 inner.1 in
        let same : x.2 ≡ table.0 = some_is (sym x.5 ∙ table.1) in
        let p = x.6.0 in
        let path = table.2.sound p (subst (λ (l : List (List ℕ)). HasPath l p) same x.6.2) in
        let c : Connection d m x.0 p.input = record { part = i; of = x.4; inner = inner.0; is = inner.1; port = path.input; at = path.input_at; net = a; joins = x.6.3 } in
        let e : Connection d m x.0 p.output = record { part = i; of = x.4; inner = inner.0; is = inner.1; port = path.output; at = path.output_at; net = b; joins = x.6.4 } in
        by_part x.0 p.input p.output c e path.is_input path.is_output path.leads

    passes : (k j l : ℕ) (c : Connection d m k j) (e : Connection d m k l)
        → c.port.output ≡ false → e.port.output ≡ true → Way d e.inner c.port.net e.port.net
        → IsParted m tables (length m.instances) c.net e.net
    passes k j l c e is_in is_out way =
        let i = c.part in
        let w = inner_is i c.inner c.of c.is e in
        let table = part.1 k i c.inner c.of c.is in
        let at : slice_get c.inner.ports l ≡ Some e.port = ap (λ (x : Module). slice_get x.ports l) (sym w.1) ∙ e.at in
        let joins : slice_get i.nets l ≡ Some e.net = ap (λ (x : Instance). slice_get x.nets l) (sym w.0) ∙ e.joins in
        let x : PortPath = record { input = j; output = l } in
        let path : IsPath (Way d c.inner) c.inner x = record {
          input = c.port;
          input_at = c.at;
          is_input = is_in;
          output = e.port;
          output_at = at;
          is_output = is_out;
          leads = subst (λ (y : Module). Way d y c.port.net e.port.net) w.1 way;
        } in
        let found = table.2.whole x tt path in
        (k, i, table.0, slice_get_within m.instances k i c.of, c.of, table.1, (x, slice_get_within table.0 l found.0 found.2, found, c.joins, joins))

    reads : (a b : ℕ) → Feeds d m a b → Reads g b a
    reads a b (by_assign j n x at r) = h.added a b (inl (j, x, slice_get_within m.assigns j x at, at, r, refl))
    reads a b (by_part k j l c e is_in is_out way) = h.added a b (inr (passes k j l c e is_in is_out way))

-- a node with an edge to it is one of the graph
node_within : (g : List (List ℕ)) (b a : ℕ) → Reads g b a → b < length g
node_within g b a r = let e = edge_from g b a r in slice_get_within g b e.list e.at

pub levelled : (d : Design) (m : Module) (g : List (List ℕ)) → IsGraphOf d m g → (rank : List ℕ) → IsRanked g rank → IsLevelled d m
levelled d m g h rank r = record { rank = λ n. get_or rank n 0; rising = λ a b f. rising a b (node_within g b a (h.reads a b f)) (h.reads a b f) }
  where
    rising : (a b : ℕ) → b < length g → Reads g b a → get_or rank a 0 < get_or rank b 0
    rising a b lt i = subst (λ (n : ℕ). get_or rank n 0 < get_or rank b 0) i.2 (r.rising b i.0 lt i.1)

pub loop_of : (d : Design) (m : Module) (g : List (List ℕ)) → IsGraphOf d m g → (walk : List ℕ) → IsClosedWalk g walk → IsLeastFirst walk → IsCombLoop d m walk
loop_of d m g h walk c l =
    record {
      each = λ i a b e f. h.fed a b (rw (sym (at i a e), sym (at (i + 1) b f)) (c.each i (slice_get_within walk (i + 1) b f)));
      last = λ a b e f. h.fed b a (rw (sym (at 0 a e), sym (at (length walk - 1) b f)) c.last);
      some = c.some;
      least = λ i a b e f. rw (sym (at 0 a e), sym (at i b f)) (l i (slice_get_within walk i b f));
    }
  where
    at : (i a : ℕ) → slice_get walk i ≡ Some a → get_or walk i 0 ≡ a
    at i a e = get_or_from_slice_get walk i a 0 e

pub simple_of : (walk : List ℕ) → IsSimpleWalk walk → IsSimple walk
simple_of walk s i j a e f =
    s i j (slice_get_within walk i a e) (slice_get_within walk j a f) (get_or_from_slice_get walk i a 0 e ∙ sym (get_or_from_slice_get walk j a 0 f))

-- a way that goes on by one net
joins : {d : Design} {m : Module} {a b z : ℕ} → Way d m a b → Feeds d m b z → Way d m a z
joins stay f = step f stay
joins (step g w) f = step g (joins w f)

pub way : (d : Design) (m : Module) (g : List (List ℕ)) → IsGraphOf d m g → (a b : ℕ) → Reaches g a b → Way d m a b
way d m g h a b r = by_last r
  where
    by_last : {y : ℕ} → Reaches g a y → Way d m a y
    by_last begin = stay
    by_last (on {a = x} y q i) = joins (by_last q) (h.fed x y i)

-- a way behind a way
goes_on : {d : Design} {m : Module} {g : List (List ℕ)} {a x y : ℕ} → IsGraphOf d m g → Way d m x y → Reaches g a x → Reaches g a y
goes_on h stay r = r
goes_on h (step {a = x} {b = z} f w) r = goes_on h w (on z r (h.reads x z f))

pub reaches : (d : Design) (m : Module) (g : List (List ℕ)) → IsGraphOf d m g → (a b : ℕ) → Way d m a b → Reaches g a b
reaches d m g h a b w = goes_on h w begin

-- paths of the graph are those of the module
pub paths_of : (d : Design) (m : Module) (g : List (List ℕ)) (paths : List (List ℕ)) → IsGraphOf d m g → ArePaths (Reaches g) m (λ i o. Unit {0}) paths → ArePathsOf d m paths
paths_of d m g paths h p =
    record {
      sound = λ x at. let q = p.sound x at in record {
        input = q.input;
        input_at = q.input_at;
        is_input = q.is_input;
        output = q.output;
        output_at = q.output_at;
        is_output = q.is_output;
        leads = way d m g h q.input.net q.output.net q.leads;
      };
      whole = λ x t q. p.whole x tt (record {
        input = q.input;
        input_at = q.input_at;
        is_input = q.is_input;
        output = q.output;
        output_at = q.output_at;
        is_output = q.is_output;
        leads = reaches d m g h q.input.net q.output.net q.leads;
      });
    }
