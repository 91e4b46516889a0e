-- The latencies of a kernel's nodes, one after another.
use Rattle.std.proofs.Common.{
  ◌≡◌,
  ℕ,
  ◌+◌,
  ◌≤◌,
  ◌<◌,
  List,
  [],
  ◌∷◌,
  ◌++◌,
  length,
  get_or,
  refl,
  ap,
  sym,
  ◌∙◌,
  arith,
  ⊎_elim,
}
use Rattle.std.specs.Prelude.{Option, Some, None, IsSome, unwrap_or}
use Rattle.std.proofs.lemmas.Bool.{cases_lt}
use Rattle.std.proofs.lemmas.List.{length_push, get_or_append_left, get_or_push, get_or_past}
use Rattle.mx_bits.specs.declared.op.Op.{Op}
use Rattle.mx_bits.specs.declared.op.Op.TheVariants.{Mux}
use Rattle.stream_graph.specs.declared.node.Node.{Node}
use Rattle.stream_graph.proofs.NodeLemmas.{least_args}
use Rattle.latency_table.specs.declared.table.Table.{Table}
use Rattle.offset_edges.specs.declared.error.EdgeError.{EdgeError}
use Rattle.offset_edges.specs.declared.error.EdgeError.TheVariants as E
use Rattle.stream_graph.specs.LookUps.{no_node}
use Rattle.offset_edges.specs.Latencies.{
  deciding,
  latency_at,
  latency_as,
  ticks_of,
  AllTimed,
  AreLatencies,
  Lacks,
  IsMissing,
}

-- an operation has the operand that decides its latency
pub decides : (op : Op) (count : ℕ) → least_args op ≤ count → deciding op < count
decides Mux count h = omega (arith, h)
decides _ count h = omega (arith, h)

pub some_from : {X : Type 0} (o : Option X) (x : X) → o ≡ Some x → IsSome o
some_from None x e = absurd (cc)
some_from (Some y) x e = refl

pub first_lacking : (table : Table) (nodes : List Node) (n : ℕ) (ticks : List ℕ) (e : EdgeError) →
    AreLatencies table nodes n ticks → n < length nodes → Lacks table nodes n e
    → IsMissing table nodes e
first_lacking table nodes n ticks (E.NoLatency op width) a h l = (
  n,
  record {
    node = h;
    lacks = l;
    earlier = λ k q. some_from (latency_at table nodes k) (get_or
        ticks k 0) (a.each k q);
  },
)
first_lacking table nodes n ticks (E.Cycle walk) a h l = absurd l
first_lacking table nodes n ticks E.NoMemory a h l = tt

pub one_latency_more : (table : Table) (nodes : List Node) (n : ℕ) (ticks : List ℕ) (t : ℕ)
    → AreLatencies table nodes n ticks →
    latency_at table nodes n ≡ Some t → t ≤ 64 → AreLatencies table nodes (n + 1) (ticks ++ t ∷ [])
one_latency_more table nodes n ticks t a e h =
    let c = a.counted in
    record {
      counted = length_push ticks t ∙ ap (λ k. k + 1) c;
      each = λ k l. ⊎_elim
          (λ (lt : k < n). a.each k lt ∙ ap Some (sym (get_or_append_left ticks (t ∷ []) 0 k (omega
          arith))))
          (λ (ge : n ≤ k).
          let q : k ≡ n = omega arith in
          ap (latency_at table nodes) q ∙ e ∙ ap Some (sym (ap (λ i. get_or (ticks ++ t ∷ []) i 0) q
          ∙ get_or_push ticks t 0 n c)))
          (cases_lt k n);
      at_most = λ k. ⊎_elim
          (λ (lt : k < n).
          let s = get_or_append_left ticks (t ∷ []) 0 k (omega arith) in
          let m = a.at_most k in
          omega arith)
          (λ (ge : n ≤ k). ⊎_elim
          (λ (one : k < n + 1).
          let q : k ≡ n = omega arith in
          let s : get_or (ticks ++ t ∷ []) k 0 ≡ t = ap (λ i. get_or (ticks ++ t ∷ []) i 0) q
          ∙ get_or_push ticks t 0 n c in
          omega arith)
          (λ (far : n + 1 ≤ k).
          let s = get_or_past (ticks ++ t ∷ []) k 0 (let p = length_push ticks t in omega arith) in
          omega arith)
          (cases_lt k (n + 1)))
          (cases_lt k n);
    }

-- a latency that was read is that of the node, also past the last one
pub ticks_read : (table : Table) (nodes : List Node) (ticks : List ℕ)
    → AreLatencies table nodes (length nodes) ticks →
    (n : ℕ) → get_or ticks n 0 ≡ ticks_of table nodes n
ticks_read table nodes ticks a n = ⊎_elim
    (λ (lt : n < length nodes). sym (ap (λ o. unwrap_or o 0) (a.each n lt)))
    (λ (ge : length nodes ≤ n).
    let c = a.counted in
    get_or_past ticks n 0 (omega arith)
    ∙ ap (λ node. unwrap_or (latency_as table nodes n node.view.kind) 0) (sym (get_or_past nodes n
    no_node ge)))
    (cases_lt n (length nodes))

pub all_timed : (table : Table) (nodes : List Node) (ticks : List ℕ)
    → AreLatencies table nodes (length nodes) ticks → AllTimed table nodes
all_timed table nodes ticks a = λ n h. some_from (latency_at table nodes n) (get_or ticks n 0)
    (a.each n h)
