use Rattle.std.proofs.Common.{◌≡◌, ◌∙◌, ◌+◌, ◌≤◌, ◌++◌, [], length, take, ap, sym, subst, refl, arith}
use Rattle.std.specs.Prelude.{Some, None, slice_get}
use Rattle.std.specs.List.{filter_map}
use Rattle.std.specs.Option.{option_map, option_map_or}
use Rattle.stream_graph.specs.declared.node.Node.{Node}
use Rattle.std.proofs.lemmas.List.{take_all}
use Rattle.stream_graph.specs.declared.kernel.Kernel.{Kernel}
use Rattle.stream_graph.specs.declared.node.Kind.TheVariants as K
use Rattle.stream_graph.specs.declared.node.NodeView.{NodeView}
use Rattle.stream_graph.specs.Kinds.{is_input, is_output}
use Rattle.manager_links.specs.Numbers.{Knows}
use Rattle.manager_links.specs.Terminals.{Input, Output, terminal_of}
use Rattle.manager_links.proofs.Pieces.{get_read, kept_step, passed_step}
use Rattle.manager_links.proofs.PortLemmas.{shown, mapped, port_is, no_terminal, terminal_is}
use Rattle.manager_links.proofs.terminals.Terminals.add_ports.Goals as goal
use Rattle.manager_links.proofs.terminals.Terminals.add_ports.Goals.{in-Input+in_ok-add_left-in-Input, in-Output+in_ok-add_right-in-Output, in_default}

pub loop-node-preserved : goal.loop-node-preserved
loop-node-preserved c = λ plan ends known.
    let kernels = c.args.kernels.now in
    let number = c.args.number in
    let kernel = c.index-kernels-number.result in
    let nodes = kernel.nodes in
    let n = c.loop-node.node in
    let k : slice_get kernels number ≡ Some kernel =
    get_read kernels number kernel c.requires c.index-kernels-number.is in
    let now = c.loop-node.invariant plan ends known in
    let view = subst (λ i. option_map (λ (x : Node). x.view) (slice_get nodes i) ≡ Some c.node.result) c.new-id.ensures c.node.ensures in
    elim c.match-node.branch [
      | in-Input+in_ok-add_left-in-Input w ↦ (
          let name = w.port_name.result.now in
          let seen = shown nodes n c.node.result name view
          (subst (λ i. option_map (λ (x : Node). x.name) (slice_get nodes i) ≡ Some name) c.new-id.ensures w.port_name.ensures) in
          let kind = ap (λ (v : NodeView). is_input v.kind) seen.viewed ∙ ap is_input w.in-Input.is in
          let port = port_is kernels (record { kernel = number; node = n }) kernel seen.node is_input name k seen.at kind seen.named in
          subst (λ self. Knows plan kernels (ends ++ filter_map (terminal_of number) (take (n + 1) nodes)) self) (sym w.self-is)
          (subst (λ xs. Knows plan kernels xs w.add_left.new.self)
          (kept_step (terminal_of number) ends nodes n seen.node (Input number name) seen.at
          (terminal_is number nodes n c.node.result name K.Input (Some (Input number name)) seen w.in-Input.is refl))
          (w.in_ok-add_left-in-Input.ensures plan kernels (ends ++ filter_map (terminal_of number) (take n nodes)) port now)))
      | in-Output+in_ok-add_right-in-Output w ↦ (
          let name = w.port_name-in-Output.result.now in
          let seen = shown nodes n c.node.result name view
          (subst (λ i. option_map (λ (x : Node). x.name) (slice_get nodes i) ≡ Some name) c.new-id.ensures w.port_name-in-Output.ensures) in
          let kind = ap (λ (v : NodeView). is_output v.kind) seen.viewed ∙ ap is_output w.in-Output.is in
          let port = port_is kernels (record { kernel = number; node = n }) kernel seen.node is_output name k seen.at kind seen.named in
          subst (λ self. Knows plan kernels (ends ++ filter_map (terminal_of number) (take (n + 1) nodes)) self) (sym w.self-is)
          (subst (λ xs. Knows plan kernels xs w.add_right.new.self)
          (kept_step (terminal_of number) ends nodes n seen.node (Output number name) seen.at
          (terminal_is number nodes n c.node.result name K.Output (Some (Output number name)) seen w.in-Output.is refl))
          (w.in_ok-add_right-in-Output.ensures plan kernels (ends ++ filter_map (terminal_of number) (take n nodes)) port now)))
      | in_default w ↦ (
          let one = mapped (λ (x : Node). x.view) (slice_get nodes n) c.node.result view in
          let seen = shown nodes n c.node.result one.0.name view (ap (λ o. option_map (λ (x : Node). x.name) o) one.1) in
          subst (λ self. Knows plan kernels (ends ++ filter_map (terminal_of number) (take (n + 1) nodes)) self) (sym w.self-is)
          (subst (λ xs. Knows plan kernels xs c.loop-node.self)
          (passed_step (terminal_of number) ends nodes n seen.node seen.at
          (terminal_is number nodes n c.node.result one.0.name c.node.result.kind None seen refl
          (no_terminal number c.node.result.kind one.0.name w.in_default.not-Input w.in_default.not-Output)))
          now))
    ]

pub returns : goal.returns
returns c = λ plan ends known.
    let kernels = c.args.kernels.now in
    let number = c.args.number in
    let kernel = c.index-kernels-number.result in
    let k : slice_get kernels number ≡ Some kernel =
    get_read kernels number kernel c.requires c.index-kernels-number.is in
    let a = c.loop-node-test.false in let b = c.count-node-end.ensures in
    let end : length kernel.nodes ≤ c.loop-node.node = omega (arith, a, b) in
    subst (λ xs. Knows plan kernels (ends ++ xs) c.loop-node.self)
    (ap (filter_map (terminal_of number)) (take_all _ _ end)
    ∙ sym (ap (λ o. option_map_or (λ (x : Kernel). filter_map (terminal_of number) x.nodes) o []) k))
    (c.loop-node.invariant plan ends known)
