use Rattle.std.proofs.Common.{ℕ, List, length, ap, sym, ◌∙◌, arith}
use Rattle.std.proofs.lemmas.List.{get_or_read}
use Rattle.kernel_control.specs.Ports.{port_shape}
use Rattle.kernel_ports.specs.Added.{scalar_at}
use Rattle.kernel_ports.proofs.Looping.{view_wide, shape_is, scalar_left, scalar_made}
use Rattle.kernel_ports.proofs.ports.add_scalars.Goals as goal

pub width-width-requires : goal.width-width-requires
width-width-requires c =
    let below = c.requires.nodes c.loop-node.node-index 0 c.loop-node-test.true in
    let is = get_or_read c.args.nodes.now c.loop-node.node-index c.node-item.result c.loop-node-test.true c.node-item.is 0 in
    view_wide c.args.kernel.now c.node-item.result c.node.result (omega (arith, below, is)) c.node.ensures

pub add_scalar-requires-clause-some : goal.add_scalar-requires-clause-some
add_scalar-requires-clause-some c =
    let below = c.requires.nodes c.loop-node.node-index 0 c.loop-node-test.true in
    let is = get_or_read c.args.nodes.now c.loop-node.node-index c.node-item.result c.loop-node-test.true c.node-item.is 0 in
    let wide = view_wide c.args.kernel.now c.node-item.result c.node.result (omega (arith, below, is)) c.node.ensures in
    let some = wide.0 in
    let width = c.width-width.ensures in
    omega (arith, some, width)

pub add_scalar-requires-clause-at_most : goal.add_scalar-requires-clause-at_most
add_scalar-requires-clause-at_most c =
    let below = c.requires.nodes c.loop-node.node-index 0 c.loop-node-test.true in
    let is = get_or_read c.args.nodes.now c.loop-node.node-index c.node-item.result c.loop-node-test.true c.node-item.is 0 in
    let wide = view_wide c.args.kernel.now c.node-item.result c.node.result (omega (arith, below, is)) c.node.ensures in
    let most = wide.1 in
    let width = c.width-width.ensures in
    omega (arith, most, width)

pub loop-node-preserved : goal.loop-node-preserved
loop-node-preserved c =
    let nodes = c.args.kernel.now.nodes in
    let ns = c.args.nodes.now in
    let i = c.loop-node.node-index in
    let lt = c.loop-node-test.true in
    let name = c.port_name.result.now in
    let w = c.width-width.result in
    let h = c.loop-node.invariant in
    let d = c.in_ok-add_scalar.ensures in
    let is = get_or_read c.args.nodes.now c.loop-node.node-index c.node-item.result c.loop-node-test.true c.node-item.is 0 in
    let shape = ap (port_shape nodes) (sym is)
    ∙ shape_is nodes c.node-item.result w name c.node.result c.node.ensures c.width-width.ensures c.port_name.ensures in
    record {
      left = scalar_left nodes ns i lt name w h.left shape d.ports;
      signals = scalar_made nodes ns i lt (length c.loop-node.netlist.nets) (length c.add_scalar.new.netlist.nets) w c.loop-node.made c.push.new.self _
          c.in_ok-add_scalar.field-0 h.signals (d.signal ∙ ap (λ n. scalar_at n (length c.loop-node.netlist.nets) w) (c.number.ensures ∙ is)) (ap (λ (a : List ℕ × ℕ). a.1) shape) d.ports.nets c.in_ok-push.ensures.ok;
    }
