use Rattle.std.proofs.Common.{◌∙◌, sym, ap, subst, arith}
use Rattle.std.specs.Prelude.{All}
use Rattle.std.proofs.Math.ListN.{length-set}
use Rattle.stream_graph.specs.declared.node.Kind.TheVariants as K
use Rattle.stream_graph.specs.Kinds.{is_input, is_scalar}
use Rattle.kernel_ports.specs.declared.signals.NodeSignal.{NodeSignal}
use Rattle.kernel_ports.specs.declared.signals.StreamSignals.{StreamSignals}
use Rattle.kernel_rtl.proofs.Numbers.{IsNodeOf}
use Rattle.kernel_rtl.proofs.Driving.{no_stream}
use Rattle.kernel_rtl.proofs.Giving.{no_scalar, apart, given_kept, word_more, all_ports, given_at}
use Rattle.kernel_rtl.proofs.Wording.{input_ports, scalar_ports}
use Rattle.kernel_rtl.proofs.words.given_words.Goals as goal

pub loop-port-preserved : goal.loop-port-preserved
loop-port-preserved c =
    let nodes = c.args.kernel.now.nodes in
    let ports = c.args.ports.now in
    let items = c.as_slice-port-items.result.now in
    let same = c.as_slice-port-items.ensures in
    let i = c.loop-port.invariant in
    let k = c.loop-port.port-index in
    let all = subst (All (λ (port : StreamSignals). IsNodeOf nodes K.Input port.node)) (sym same) (input_ports c.requires.streams.0 nodes ports
    c.requires.streams.1) in
    let lt = (all k no_stream c.loop-port-test.true).within in
    let e = i.counted in
    record {
      counted = length-set c.loop-port.words.items _ _ ∙ e;
      each = word_more (λ (port : StreamSignals). port.node) (λ (port : StreamSignals). port.word) ports.inputs items c.loop-port.words.items k no_stream
          same c.loop-port-test.true (omega (arith, lt, e)) i.each;
    }

pub loop-port-2-init : goal.loop-port-2-init
loop-port-2-init c =
    let nodes = c.args.kernel.now.nodes in
    let ports = c.args.ports.now in
    let i = c.loop-port.invariant in
    let each = all_ports (λ (port : StreamSignals). port.node) (λ (port : StreamSignals). port.word) ports.inputs c.as_slice-port-items.result.now
    c.loop-port.words.items c.loop-port.port-index c.as_slice-port-items.ensures c.loop-port-test.false i.each in
    record {
      counted = i.counted;
      inputs = λ n lt kind. given_at (λ (port : StreamSignals). port.node) (λ (port : StreamSignals). port.word) ports.inputs nodes is_input
          c.loop-port.words.items c.requires.streams.1.input_nodes each n lt (ap is_input kind);
      each = λ port i lt. absurd (omega (arith, lt));
    }

pub loop-port-2-preserved : goal.loop-port-2-preserved
loop-port-2-preserved c =
    let nodes = c.args.kernel.now.nodes in
    let ports = c.args.ports.now in
    let items = c.as_slice-port-items-2.result.now in
    let same = c.as_slice-port-items-2.ensures in
    let i = c.loop-port-2.invariant in
    let k = c.loop-port-2.port-index in
    let words = c.loop-port-2.words.items in
    let all = subst (All (λ (port : NodeSignal). IsNodeOf nodes K.Scalar port.node)) (sym same) (scalar_ports c.requires.streams.0 nodes ports
    c.requires.streams.1) in
    let own = all k no_scalar c.loop-port-2-test.true in
    let lt = own.within in
    let e = i.counted in
    record {
      counted = length-set words _ _ ∙ e;
      inputs = λ n ln kind. given_kept (λ (port : StreamSignals). port.node) (λ (port : StreamSignals). port.word) ports.inputs words _ _ n
          (apart nodes is_input n _ (ap is_input kind) (ap is_input own.kind)) (i.inputs n ln kind);
      each = word_more (λ (port : NodeSignal). port.node) (λ (port : NodeSignal). port.signal) ports.scalars items words k no_scalar
          same c.loop-port-2-test.true (omega (arith, lt, e)) i.each;
    }

pub loop-node-init : goal.loop-node-init
loop-node-init c =
    let nodes = c.args.kernel.now.nodes in
    let ports = c.args.ports.now in
    let i = c.loop-port-2.invariant in
    let each = all_ports (λ (port : NodeSignal). port.node) (λ (port : NodeSignal). port.signal) ports.scalars c.as_slice-port-items-2.result.now
    c.loop-port-2.words.items c.loop-port-2.port-index c.as_slice-port-items-2.ensures c.loop-port-2-test.false i.each in
    record {
      counted = i.counted;
      inputs = i.inputs;
      scalars = λ n lt kind. given_at (λ (port : NodeSignal). port.node) (λ (port : NodeSignal). port.signal) ports.scalars nodes is_scalar
          c.loop-port-2.words.items c.requires.streams.1.scalar_nodes each n lt (ap is_scalar kind);
      kept = λ n s lt. absurd (omega (arith, lt));
    }
