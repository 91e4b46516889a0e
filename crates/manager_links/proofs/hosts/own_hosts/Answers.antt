use Rattle.std.proofs.Common.{◌≡◌, ◌∙◌, ◌++◌, ◌∷◌, [], ap, subst, arith}
use Rattle.std.specs.Prelude.{Some, slice_get}
use Rattle.std.specs.Option.{option_map}
use Rattle.stream_graph.specs.declared.node.Node.{Node}
use Rattle.stream_graph.specs.declared.node.NodeView.{NodeView}
use Rattle.stream_graph.specs.Kinds.{is_input, is_output}
use Rattle.manager_links.proofs.PortLemmas.{mapped}
use Rattle.manager_links.proofs.CpuStreams.{host_more, host_passed, hosts_all, no_input, no_output}
use Rattle.manager_links.proofs.hosts.own_hosts.Goals as goal
use Rattle.manager_links.proofs.hosts.own_hosts.Goals.{in-Input+in_ok-own_host-in-Input+in_ok-push-in-Input}
use Rattle.manager_links.proofs.hosts.own_hosts.Goals.{in-Output+in_ok-own_host-in-Output+in_ok-push-in-Output, in_default}

pub loop-node-preserved : goal.loop-node-preserved
loop-node-preserved c =
    let nodes = c.args.kernel.now.nodes in
    let n = c.loop-node.node in
    let view = subst (λ i. option_map (λ (x : Node). x.view) (slice_get nodes i) ≡ Some c.node.result) c.new.ensures c.node.ensures in
    let one = mapped (λ (x : Node). x.view) (slice_get nodes n) c.node.result view in
    let node = one.0 in
    let now = c.loop-node.invariant in
    elim c.match-node.branch [
      | in-Input+in_ok-own_host-in-Input+in_ok-push-in-Input w ↦ (
          let kind = ap (λ (v : NodeView). v.kind) one.2 ∙ w.in-Input.is in
          let made = w.inputs-is ∙ w.in_ok-push-in-Input.ensures.ok
          ∙ ap (λ h. c.loop-node.inputs ++ h ∷ []) (w.in_ok-own_host-in-Input.ensures node one.1) in
          record {
            inputs = host_more is_input nodes n node c.loop-node.inputs c.match-node.inputs one.1
                (ap is_input kind) now.inputs made;
            outputs = host_passed is_output nodes n node c.loop-node.outputs c.match-node.outputs one.1
                (ap is_output kind) now.outputs w.outputs-is;
          })
      | in-Output+in_ok-own_host-in-Output+in_ok-push-in-Output w ↦ (
          let kind = ap (λ (v : NodeView). v.kind) one.2 ∙ w.in-Output.is in
          let made = w.outputs-is ∙ w.in_ok-push-in-Output.ensures.ok
          ∙ ap (λ h. c.loop-node.outputs ++ h ∷ []) (w.in_ok-own_host-in-Output.ensures node one.1) in
          record {
            inputs = host_passed is_input nodes n node c.loop-node.inputs c.match-node.inputs one.1
                (ap is_input kind) now.inputs w.inputs-is;
            outputs = host_more is_output nodes n node c.loop-node.outputs c.match-node.outputs one.1
                (ap is_output kind) now.outputs made;
          })
      | in_default w ↦ (
          let kind = ap (λ (v : NodeView). v.kind) one.2 in
          record {
            inputs = host_passed is_input nodes n node c.loop-node.inputs c.match-node.inputs one.1
                (ap is_input kind ∙ no_input c.node.result.kind w.in_default.not-Input) now.inputs w.inputs-is;
            outputs = host_passed is_output nodes n node c.loop-node.outputs c.match-node.outputs one.1
                (ap is_output kind ∙ no_output c.node.result.kind w.in_default.not-Output) now.outputs w.outputs-is;
          })
    ]

pub returns-clause-inputs : goal.returns-clause-inputs
returns-clause-inputs c =
    let a = c.loop-node-test.false in let b = c.count-node-end.ensures in
    hosts_all is_input c.args.kernel.now.nodes c.loop-node.node c.loop-node.inputs (omega (arith, a, b))
    c.loop-node.invariant.inputs

pub returns-clause-outputs : goal.returns-clause-outputs
returns-clause-outputs c =
    let a = c.loop-node-test.false in let b = c.count-node-end.ensures in
    hosts_all is_output c.args.kernel.now.nodes c.loop-node.node c.loop-node.outputs (omega (arith, a, b))
    c.loop-node.invariant.outputs
