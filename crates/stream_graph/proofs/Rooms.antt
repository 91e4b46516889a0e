-- Room for calls that were counted.
use Rattle.std.proofs.Common.{◌≡◌, ◌∙◌, ◌+◌, ◌≤◌, ◌<◌, ◌^◌, ℕ, zero, suc, List, [], ◌∷◌, refl, arith, subst, length, true, false, inl, inr}
use Rattle.std.specs.Prelude.{◌⊎◌, min}
use Rattle.std.proofs.Math.Dec.{leb}
use Rattle.std.proofs.Math.Nat.{min-eq_left, min-eq_right}
use Rattle.std.proofs.lemmas.Bool.Decides.{leb_tells}
use Rattle.std.specs.Vec.{vec_capacity}
use Rattle.kernel_calls.specs.declared.call.Call.{Call}
use Rattle.kernel_calls.specs.declared.call.Call.TheVariants as C
use Rattle.kernel_calls.specs.Calls.{nodes_of}
use Rattle.kernel_calls.specs.Laws.{Received, HasRoom}
use Rattle.stream_graph.specs.declared.tally.Tally.{Tally}
use Rattle.stream_graph.specs.declared.graph.Graph.{Graph}
use Rattle.stream_graph.specs.Counts.{Counted, HasPlace, AreFew, IsBelow, most, raised, operands_of, bytes_of, connections_of, empty}
use Rattle.stream_graph.specs.Received.{args_of, HasSpace, Receives}

-- below its last value a count is exact
below-most : (n k m : ℕ) → m ≡ raised n k → m < most → m ≡ n + k
below-most n zero m e h = omega (arith, e)
below-most n (suc k) m e h = e ∙ by (leb_tells (n + suc k) most)
  where
    past : m ≡ most → ⊥
    past p = omega (arith, p, h)

    by : ((leb (n + suc k) most ≡ true) × (n + suc k ≤ most))
        ⊎ ((leb (n + suc k) most ≡ false) × (most < n + suc k))
        → min (n + suc k) most ≡ n + suc k
    by (inl few) = min-eq_left few.1
    by (inr many) = absurd (past (e ∙ min-eq_right (omega (arith, many.1))))

-- a call that was counted below the last values
record Counts (old : Tally) (call : Call) (new : Tally) : Type 0 where
  pub nodes : new.nodes ≡ old.nodes + nodes_of call
  pub operands : new.operands ≡ old.operands + operands_of call
  pub bytes : new.bytes ≡ old.bytes + bytes_of call
  pub connections : new.connections ≡ old.connections + connections_of call

exactly : (old : Tally) (call : Call) (new : Tally) → Counted old call new → IsBelow new
    → Counts old call new
exactly old call new c h = record {
  nodes = c.nodes;
  operands = below-most old.operands (operands_of call) new.operands c.operands h.operands;
  bytes = below-most old.bytes (bytes_of call) new.bytes c.bytes h.bytes;
  connections =
      below-most old.connections (connections_of call) new.connections c.connections h.connections;
}

-- the counts of a tally never fall
record Grows (old new : Tally) : Type 0 where
  pub nodes : old.nodes ≤ new.nodes
  pub operands : old.operands ≤ new.operands
  pub bytes : old.bytes ≤ new.bytes
  pub connections : old.connections ≤ new.connections

still-below : (old new : Tally) → Grows old new → IsBelow new → IsBelow old
still-below old new g h =
    let o = g.operands in let b = g.bytes in let k = g.connections in
    let ho = h.operands in let hb = h.bytes in let hk = h.connections in
    record { operands = omega arith; bytes = omega arith; connections = omega arith }

grows : (calls : List Call) (old new : Tally) → Received Counted old calls new → IsBelow new
    → Grows old new
grows [] old new r h = subst (λ t. Grows old t) r (record
    { nodes = omega arith; operands = omega arith; bytes = omega arith; connections = omega arith })
grows (call ∷ calls) old new r h =
    let w = grows calls r.0 new r.2 h in
    let c = exactly old call r.0 r.1 (still-below r.0 new w h) in
    let n = c.nodes in let o = c.operands in let b = c.bytes in let k = c.connections in
    let wn = w.nodes in let wo = w.operands in let wb = w.bytes in let wk = w.connections in
    record { nodes = omega arith; operands = omega arith; bytes = omega arith; connections = omega arith }

-- what a tally is still to count fits in the graph
record Leaves (g : Graph) (before after : Tally) : Type 0 where
  pub rows : length g.rows.items.items + (after.nodes + after.connections) ≤ vec_capacity g.rows.items +
      (before.nodes + before.connections)
  pub made : g.made + after.nodes < 2 ^ 32 + before.nodes
  pub bytes : length g.bytes.items.items + after.bytes ≤ vec_capacity g.bytes.items + before.bytes
  pub few_bytes : length g.bytes.items.items + after.bytes < 2 ^ 32 + before.bytes
  pub operands : length g.operands.items.items + after.operands ≤ vec_capacity g.operands.items + before.operands
  pub few_operands : length g.operands.items.items + after.operands < 2 ^ 32 + before.operands

-- a call is a row, and hands over the operands that are kept in a list
record IsRow (call : Call) : Type 0 where
  pub one : nodes_of call + connections_of call ≡ 1
  pub args : args_of call ≤ operands_of call

is_row : (call : Call) → IsRow call
is_row (C.Operation op mode amount args t) = record { one = refl; args = omega arith }
is_row _ = record { one = refl; args = omega arith }

next_has : (call : Call) (before mid after : Tally) (g : Graph) → IsRow call → Counts before call mid →
    Grows mid after → Leaves g before after → HasSpace g call
next_has call before mid after g r c w l =
    let r0 = r.one in let r1 = r.args in
    let c0 = c.nodes in let w0 = w.nodes in let l0 = l.rows in let m0 = l.made in
    let c1 = c.operands in let w1 = w.operands in let l1 = l.operands in let f1 = l.few_operands in
    let c2 = c.bytes in let w2 = w.bytes in let l2 = l.bytes in let f2 = l.few_bytes in
    let c4 = c.connections in let w4 = w.connections in
    record {
      rows = omega arith;
      made = omega arith;
      bytes = omega arith;
      few_bytes = omega arith;
      operands = omega
          arith;
      few_operands = omega arith;
    }

still : (call : Call) (before mid after : Tally) (old new : Graph) → IsRow call → Counts before call mid →
    Receives old call new → Leaves old before after → Leaves new mid after
still call before mid after old new r c g l =
    let r0 = r.one in let r1 = r.args in
    let c0 = c.nodes in let c1 = c.operands in let c2 = c.bytes in let c4 = c.connections in
    let l0 = l.rows in let m0 = l.made in let l1 = l.operands in let f1 = l.few_operands in let l2 = l.bytes in let
    f2 = l.few_bytes in
    let g0 = g.rows in let g1 = g.bytes in let g2 = g.operands in let g3 = g.made in
    let s0 = g.room_for_rows in let s1 = g.room_for_bytes in let s2 = g.room_for_operands in
    record {
      rows = omega arith;
      made = omega arith;
      bytes = omega arith;
      few_bytes = omega arith;
      operands = omega
          arith;
      few_operands = omega arith;
    }

has_all : (calls : List Call) (before after : Tally) (g : Graph) → Received Counted before calls after →
    IsBelow after → Leaves g before after → HasRoom HasSpace Receives g calls
has_all [] before after g c h l = tt
has_all (call ∷ calls) before after g c h l =
    let w = grows calls c.0 after c.2 h in
    let counts = exactly before call c.0 c.1 (still-below c.0 after w h) in (
      next_has call before c.0 after g (is_row call) counts w l,
      λ mid r. has_all calls c.0 after mid c.2 h (still call before c.0 after g mid (is_row call) counts r l),
    )

-- a graph with no call has room for what a tally counts, where it has the tally's room
pub reserved : (g : Graph) (tally : Tally) (calls : List Call) → Received Counted empty calls tally →
    IsBelow tally → length g.rows.items.items ≡ 0 → length g.bytes.items.items ≡ 0 → length g.operands.items.items ≡ 0 →
    g.made ≡ 0 →
    tally.nodes + tally.connections ≤ vec_capacity g.rows.items → tally.bytes ≤ vec_capacity g.bytes.items →
    tally.operands ≤ vec_capacity g.operands.items →
    tally.nodes < 2 ^ 32 → HasRoom HasSpace Receives g calls
reserved g tally calls c h r b o m rr rb ro n =
    let fb = h.bytes in let fo = h.operands in
    has_all calls empty tally g c h (record {
      rows = omega arith;
      made = omega arith;
      bytes = omega arith;
      few_bytes =
          omega arith;
      operands = omega arith;
      few_operands = omega arith;
    })

still_few : (call : Call) (calls : List Call) (old new : Tally) → AreFew old (call ∷ calls) → Counted old call new →
    AreFew new calls
still_few call calls old new f c = let n = c.nodes in omega arith

-- a tally has room for calls that make few nodes
pub tally_room : (calls : List Call) (t : Tally) → AreFew t calls → HasRoom HasPlace Counted t calls
tally_room [] t f = tt
tally_room (call ∷ calls) t f =
    (omega arith, λ mid c. tally_room calls mid (still_few call calls t mid f c))
