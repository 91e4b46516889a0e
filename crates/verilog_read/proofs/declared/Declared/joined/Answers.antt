use Rattle.std.proofs.Common.{◌≡◌, ◌∙◌, ℕ, Option, Some, None, replicate, [], length, map, refl, sym, ap, subst, arith}
use Rattle.std.proofs.lemmas.List.{take_all, length-map, length-replicate, length-set}
use Rattle.std.proofs.lemmas.Result.{err_from_is_err_and}
use Rattle.verilog_syntax.specs.Trees.{port_view, connection_view}
use Rattle.rtl_reading.specs.Uses.{port_name, connection_uses}
use Rattle.verilog_read.specs.Walk.{AllDeclared}
use Rattle.verilog_read.specs.Joined.{AreJoined}
use Rattle.verilog_read.proofs.FirstUse.{err_is}
use Rattle.verilog_read.proofs.Seq.{get_split}
use Rattle.verilog_read.proofs.Joins.{none_joined}
use Rattle.verilog_read.proofs.JoinSteps.{free_moved, taken_moved, taken_fault, net_fault, one_more}
use Rattle.verilog_read.proofs.declared.Declared.joined.Goals as goal

is_none : (P : Option ℕ → Type 0) → ((x : ℕ) → P (Some x) → ⊥) → (y : Option ℕ) → P y → y ≡ None
is_none P h None p = refl
is_none P h (Some x) p = absurd (h x p)

pub loop-connection-init : goal.loop-connection-init
loop-connection-init c =
    let e = c.in_ok-nets.ensures.items_if_clones_equal (is_none _ (λ x h. h)) in
    let ports = map port_name (map port_view c.args.ports.now) in
    let count : length c.args.ports.now ≡ length ports = sym (length-map (map port_view c.args.ports.now) port_name ∙ length-map c.args.ports.now port_view) in
    record {
      size = ap length e ∙ length-replicate (length c.args.ports.now) None;
      joined = λ sc m h t. record { known = refl; holds = none_joined m ports c.in_ok-nets.nets.items (e ∙ ap (λ n. replicate n None) count) };
    }

pub returns-in_err-place-clause-joined : goal.returns-in_err-place-clause-joined
returns-in_err-place-clause-joined c = λ sc m h t.
    let ports = map port_name (map port_view c.args.ports.now) in
    let f = c.in_err-place.ensures.free ports c.in_ok-numbers.ensures in
    rw (err_is (err_from_is_err_and c.from_residual-in_err-place.result c.from_residual-in_err-place.ensures.1))
    (taken_fault sc m ports
    (get_split c.args.connections.now c.loop-connection.connection-index _
    (omega arith)) c.loop-connection.nets.items
    (c.loop-connection.invariant.joined sc m h t) _ f.0
    (taken_moved ports _ c.as_slice.ensures.value f.1))

pub returns-in_err-net-clause-joined : goal.returns-in_err-net-clause-joined
returns-in_err-net-clause-joined c = λ sc m h t.
    let ports = map port_name (map port_view c.args.ports.now) in
    let free = free_moved ports c.as_slice.ensures.value (c.in_ok-place.ensures.free ports c.in_ok-numbers.ensures) in
    rw (err_is (err_from_is_err_and c.from_residual-in_err-net.result c.from_residual-in_err-net.ensures.1))
    (net_fault sc m ports (get_split c.args.connections.now c.loop-connection.connection-index _
    (omega arith)) c.loop-connection.nets.items
    (c.loop-connection.invariant.joined sc m h t) c.in_ok-place.place _ free
    (c.in_err-net.ensures sc m h t))

pub loop-connection-preserved : goal.loop-connection-preserved
loop-connection-preserved c = record {
  size = length-set c.loop-connection.nets.items _ _ ∙ c.loop-connection.invariant.size;
  joined = λ sc m h t.
      let ports = map port_name (map port_view c.args.ports.now) in
      let free = free_moved ports c.as_slice.ensures.value (c.in_ok-place.ensures.free ports c.in_ok-numbers.ensures) in
      one_more sc m ports (get_split c.args.connections.now c.loop-connection.connection-index _
      (omega arith)) c.loop-connection.nets.items
      (c.loop-connection.invariant.joined sc m h t) c.in_ok-place.place c.in_ok-net.net free
      (c.in_ok-net.ensures sc m h t);
}

pub returns-clause-joined : goal.returns-clause-joined
returns-clause-joined c = λ sc m h t.
    let ports = map port_name (map port_view c.args.ports.now) in
    subst (λ l. AllDeclared (connection_uses sc ports [] (map connection_view l))
    (AreJoined m ports (map connection_view l) c.loop-connection.nets.items))
    (take_all c.loop-connection.connection-index c.args.connections.now (omega arith))
    (c.loop-connection.invariant.joined sc m h t)
