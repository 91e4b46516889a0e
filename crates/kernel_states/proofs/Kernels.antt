-- What every kernel keeps: few counters, and types that have widths.
use Rattle.std.proofs.Common.{◌≡◌, ℕ, ◌*◌, ◌≤◌, ◌<◌, List, [], length, Some, refl, sym, subst}
use Rattle.std.proofs.Props.{props}
use Rattle.std.proofs.Math.Logic.{∥∥₁_elim}
use Rattle.std.specs.Prelude.{slice_get}
use Rattle.std.specs.Option.{option_map}
use Rattle.fix_arith.specs.Types.{HasWidth}
use Rattle.stream_graph.specs.declared.node.Node.{Node}
use Rattle.stream_graph.specs.declared.node.NodeView.{NodeView}
use Rattle.stream_graph.specs.Nodes.{later}
use Rattle.stream_graph.specs.Kernels.{AreKernel}
use Rattle.stream_graph.proofs.Reading.{view_read}
use Rattle.stream_graph.proofs.NodeLemmas.{orderly}
use Rattle.kernel_states.specs.States.{step_nets}
use Rattle.kernel_states.proofs.Costs.{few_nets}

module _ (nodes : List Node) (kernel : ∥ AreKernel nodes ∥₁) where
  pub nets_few : step_nets nodes ≤ 18 * length nodes
  nets_few =
      ∥∥₁_elim {P = step_nets nodes ≤ 18 * length nodes} kernel (hlevel props)
      (λ k. few_nets (later [] k.0) nodes k.3)

  -- the type of a node that was read has a width
  pub has_width : (n : ℕ) (view : NodeView) → n < length nodes → option_map (λ (x : Node). x.view) (slice_get nodes n) ≡ Some view → HasWidth view.t
  has_width n view h e = subst (λ (v : NodeView). HasWidth v.t) (sym (view_read nodes n n view refl e)) ((orderly nodes kernel).widths n h)
