-- What was read of a kernel's nodes.
use Rattle.std.proofs.Common.{◌≡◌, ℕ, ◌<◌, List, length, Some, refl, ap, sym, subst}
use Rattle.std.specs.Prelude.{slice_get}
use Rattle.std.specs.Option.{option_map}
use Rattle.counter_chains.specs.declared.digits.CounterDigit.{CounterDigit}
use Rattle.fix_arith.specs.Types.{width_of, HasWidth}
use Rattle.stream_graph.specs.declared.node.Node.{Node}
use Rattle.stream_graph.specs.declared.node.NodeView.{NodeView}
use Rattle.stream_graph.specs.LookUps.{kind_at, width_at, no_node, type_at, digits_at}
use Rattle.stream_graph.proofs.Reading.{read, view_read}
use Rattle.kernel_types.specs.Types.{AreTyped}

abbrev pub IsView : List Node → ℕ → NodeView → Type 0
IsView nodes n view = option_map (λ (x : Node). x.view) (slice_get nodes n) ≡ Some view

module _ (nodes : List Node) (n : ℕ) (view : NodeView) (e : IsView nodes n view) where
  pub type_read : view.t ≡ type_at nodes n
  type_read = ap (λ (v : NodeView). v.t) (view_read nodes n n view refl e)

  pub kind_read : view.kind ≡ kind_at nodes n
  kind_read = ap (λ (v : NodeView). v.kind) (view_read nodes n n view refl e)

  pub width_read : width_of view.t ≡ width_at nodes n
  width_read = ap width_of type_read

  pub has_width : AreTyped nodes → n < length nodes → HasWidth view.t
  has_width typed h = subst HasWidth (sym type_read) (typed.widths n h)

pub digits_read : (nodes : List Node) (n : ℕ) (ds : List CounterDigit)
    → option_map (λ (x : Node). x.digits) (slice_get nodes n) ≡ Some ds → ds ≡ digits_at nodes n
digits_read nodes n ds e = read (λ (x : Node). x.digits) nodes n n ds no_node refl e
