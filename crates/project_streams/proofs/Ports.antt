-- The ends of links: which nodes they are, and that without a control each tick of them is enabled.
use Rattle.std.proofs.Common.{◌≡◌, ℕ, ◌<◌, Bool, true, false, ◌||◌, List, [], ◌∷◌, length, refl, ap, ◌∙◌, sym}
use Rattle.std.specs.Prelude.{Option, Some, None, slice_get, IsSomeAnd}
use Rattle.std.specs.Option.{option_and_then, option_map_or}
use Rattle.std.proofs.Math.Logic.{∥∥₁_elim}
use Rattle.std.proofs.lemmas.Option.{slice_get_within, get_or_from_slice_get}
use mathlib.Core.HLevel.{⊥_prop}
use Rattle.kernel_calls.specs.declared.call.Call.{Call}
use Rattle.kernel_calls.specs.declared.call.Call.TheVariants as C
use Rattle.kernel_meaning.specs.declared.plan.End.{End}
use Rattle.kernel_meaning.specs.declared.plan.End.TheVariants as E
use Rattle.stream_graph.specs.declared.kernel.Kernel.{Kernel}
use Rattle.stream_graph.specs.declared.node.Kind.{Kind}
use Rattle.stream_graph.specs.declared.node.Node.{Node}
use Rattle.stream_graph.specs.Kernels.{AreKernel}
use Rattle.stream_graph.specs.Nodes as Nodes
use Rattle.stream_graph.specs.Nodes.{later, IsKind, operands_by}
use Rattle.stream_graph.specs.Kinds.{is_input, is_output, control_in}
use Rattle.stream_graph.specs.LookUps.{node_at, no_node, control_of}
use Rattle.stream_graph.proofs.CallLemmas.{were_later}
use Rattle.stream_graph.proofs.NodeLemmas.{of_node}
use Rattle.stream_equations.specs.Equations.{Values, enabled, enabled_by}
use Rattle.manager_links.specs.declared.links.PortAt.{PortAt}
use Rattle.manager_links.specs.Ports.{is_controlled, IsPortAt, IsNamed}
use Rattle.project_streams.specs.Streams.{nodes_at}

-- ---- controls

abbrev pub is_port : Kind → Bool
is_port kind = is_input kind || is_output kind

pub or_left : (kind : Kind) → is_input kind ≡ true → is_port kind ≡ true
or_left kind e = ap (λ b. b || is_output kind) e

pub or_right : (kind : Kind) → is_output kind ≡ true → is_port kind ≡ true
or_right kind e = by (is_input kind) (is_output kind) e
  where
    by : (a b : Bool) → b ≡ true → a || b ≡ true
    by true b e = refl
    by false b e = e

-- a port whose call names no control has none among its operands
no_control : (so_far : List Call) (n : ℕ) (call : Call) (kind : Kind) → IsKind so_far n call kind
    → is_port kind ≡ true → Nodes.is_controlled call ≡ false
    → control_in kind (operands_by so_far n call) ≡ None
no_control so_far n (C.Input name t None) kind i p c = ap (λ k. control_in k []) i
no_control so_far n (C.Input name t (Some control)) kind i p c = absurd (cc)
no_control so_far n (C.Output name value None t) kind i p c = ap (λ k. control_in k (value ∷ [])) i
no_control so_far n (C.Output name value (Some control) t) kind i p c = absurd (cc)
no_control so_far n (C.Scalar name t) kind i p c = ap (λ k. control_in k []) i
no_control so_far n (C.Constant bits t) kind i p c = ap (λ k. control_in k []) i.1
no_control so_far n (C.Operation op mode amount args t) kind i p c = ap (λ k. control_in k args) i
no_control so_far n (C.Offset value k t) kind i p c = ap (λ k. control_in k (value ∷ [])) i
no_control so_far n (C.Feed t) kind i p c = ap (λ k. control_in k (operands_by so_far n (C.Feed t))) i
no_control so_far n (C.Connect feed value) kind i p c = absurd i
no_control so_far n (C.Hold value store t) kind i p c = absurd (cc)
no_control so_far n (C.Counter d) kind i p c = ap (λ k. control_in k []) i
no_control so_far n C.Chain kind i p c = ap (λ k. control_in k []) i
no_control so_far n (C.ChainDigit chain d) kind i p c = ap (λ k. control_in k (chain ∷ [])) i

none_some : (o : Option ℕ) → o ≡ None → (c : ℕ) → o ≡ Some c → ⊥
none_some o e c f = absurd (cc)

only_none : (o : Option ℕ) → ((c : ℕ) → o ≡ Some c → ⊥) → o ≡ None
only_none None never = refl
only_none (Some c) never = absurd (never c refl)

-- a port of a kernel that shows no control has none
uncontrolled : (nodes : List Node) (n : ℕ) → ∥ AreKernel nodes ∥₁ → n < length nodes
    → is_port (node_at nodes n).view.kind ≡ true → (node_at nodes n).view.controlled ≡ false
    → control_of nodes n ≡ None
uncontrolled nodes n kernel h p c = only_none (control_of nodes n)
    (∥∥₁_elim {P = (x : ℕ) → control_of nodes n ≡ Some x → ⊥} kernel (hlevel ⊥_prop)
    (λ k.
    let o = of_node (later [] k.0) nodes n (were_later [] k.0 tt k.1) k.3 h in
    none_some (control_of nodes n)
    (ap (control_in (node_at nodes n).view.kind) o.is.operands
    ∙ no_control (later [] k.0) n o.call (node_at nodes n).view.kind o.is.kind p
    (sym o.is.controlled ∙ c))))

-- ---- ports of kernels

-- a port is a node of a kernel
pub record IsNodeOf (kernels : List Kernel) (is_kind : Kind → Bool) (port : PortAt) : Type 0 where
  pub kernel : Kernel
  pub node : Node
  pub at : slice_get kernels port.kernel ≡ Some kernel
  pub is : slice_get kernel.nodes port.node ≡ Some node
  pub kind : is_kind node.view.kind ≡ true

pub node_is : (kernels : List Kernel) (is_kind : Kind → Bool) (end : End) (port : PortAt)
    → IsPortAt kernels is_kind end port → IsNodeOf kernels is_kind port
node_is kernels is_kind (E.Cpu name) port h = absurd h
node_is kernels is_kind (E.Kernel number name) port h =
    by_kernel (slice_get kernels port.kernel) refl h.node
  where
    by_node : (kernel : Kernel) → slice_get kernels port.kernel ≡ Some kernel → (o : Option Node)
        → slice_get kernel.nodes port.node ≡ o → IsSomeAnd o (IsNamed is_kind name)
        → IsNodeOf kernels is_kind port
    by_node kernel at None e s = absurd s
    by_node kernel at (Some node) e s =
        record { kernel = kernel; node = node; at = at; is = e; kind = s.0 }

    by_kernel : (o : Option Kernel) → slice_get kernels port.kernel ≡ o
        → IsSomeAnd (option_and_then (λ (kernel : Kernel). slice_get kernel.nodes port.node) o)
        (IsNamed is_kind name)
        → IsNodeOf kernels is_kind port
    by_kernel None e s = absurd s
    by_kernel (Some kernel) e s =
        by_node kernel e (slice_get kernel.nodes port.node) refl s

-- without a control each tick of it is enabled
pub always : (kernels : List Kernel) (is_kind : Kind → Bool) (port : PortAt)
    → ((kind : Kind) → is_kind kind ≡ true → is_port kind ≡ true) → IsNodeOf kernels is_kind port
    → is_controlled kernels port ≡ false → (values : Values) (t : ℕ)
    → enabled (nodes_at kernels port.kernel) values port.node t ≡ true
always kernels is_kind port ports o c values t =
    let nodes : nodes_at kernels port.kernel ≡ o.kernel.nodes =
    ap (λ k. option_map_or (λ (kernel : Kernel). kernel.nodes) k []) o.at in
    let node : node_at o.kernel.nodes port.node ≡ o.node =
    get_or_from_slice_get o.kernel.nodes port.node o.node no_node o.is in
    let shown : is_controlled kernels port ≡ o.node.view.controlled =
    ap (λ k. option_map_or (λ (node : Node). node.view.controlled)
    (option_and_then (λ (kernel : Kernel). slice_get kernel.nodes port.node) k) false) o.at
    ∙ ap (λ n. option_map_or (λ (node : Node). node.view.controlled) n false) o.is in
    let none : control_of o.kernel.nodes port.node ≡ None =
    uncontrolled o.kernel.nodes port.node o.kernel.made
    (slice_get_within o.kernel.nodes port.node o.node o.is)
    (ports _ (ap (λ (n : Node). is_kind n.view.kind) node ∙ o.kind))
    (ap (λ (n : Node). n.view.controlled) node ∙ sym shown ∙ c) in
    ap (λ nodes. enabled nodes values port.node t) nodes
    ∙ ap (λ control. enabled_by values control t) none
