-- The ports of kernels, as nodes and as terminals.
use Rattle.std.proofs.Common.{◌≡◌, ℕ, zero, suc, ◌+◌, ◌<◌, Bool, true, List, [], ◌∷◌, ◌++◌, length}
use Rattle.std.proofs.Common.{take, refl, sym, ap, ◌∙◌, subst, arith, add-zero, add-one, zero-add}
use Rattle.std.specs.Prelude.{Option, Some, None, slice_get, IsSomeAnd}
use Rattle.std.specs.List.{filter_map}
use Rattle.std.specs.Option.{option_map, option_map_or, option_and_then}
use Rattle.std.proofs.lemmas.List.{append-nil, append_assoc}
use Rattle.std.proofs.lemmas.Option.{same_Some}
use Rattle.manager_links.proofs.Pieces.{some_within}
use Rattle.stream_graph.specs.declared.kernel.Kernel.{Kernel}
use Rattle.stream_graph.specs.declared.node.Kind.{Kind}
use Rattle.stream_graph.specs.declared.node.Kind.TheVariants as K
use Rattle.stream_graph.specs.declared.node.Node.{Node}
use Rattle.stream_graph.specs.declared.node.NodeView.{NodeView}
use Rattle.manager_links.specs.declared.links.PortAt.{PortAt}
use Rattle.manager_links.specs.Ports.{node_of, IsNamed, IsPortOf}
use Rattle.manager_links.specs.Terminals.{Terminal, terminal_of, terminal_by, ports_from, ports_at}

-- ---- nodes

-- an image that is there is that of an item
pub mapped : {A B : Type 0} (f : A → B) (o : Option A) (y : B) → option_map f o ≡ Some y
    → (x : A) × (o ≡ Some x) × (f x ≡ y)
mapped f None y e = absurd (cc)
mapped f (Some x) y e = (x, refl, same_Some (f x) y e)

-- the node that the calls of a kernel show
pub record IsShown (nodes : List Node) (n : ℕ) (view : NodeView) (name : List ℕ) : Type 0 where
  pub node : Node
  pub at : slice_get nodes n ≡ Some node
  pub viewed : node.view ≡ view
  pub named : node.name ≡ name

pub shown : (nodes : List Node) (n : ℕ) (view : NodeView) (name : List ℕ)
    → option_map (λ (node : Node). node.view) (slice_get nodes n) ≡ Some view
    → option_map (λ (node : Node). node.name) (slice_get nodes n) ≡ Some name
    → IsShown nodes n view name
shown nodes n view name v m =
    let one = mapped (λ (node : Node). node.view) (slice_get nodes n) view v in
    let other = mapped (λ (node : Node). node.name) (slice_get nodes n) name m in
    record {
      node = one.0;
      at = one.1;
      viewed = one.2;
      named = ap (λ (node : Node). node.name) (same_Some one.0 other.0 (sym one.1 ∙ other.1)) ∙ other.2;
    }

pub node_known : (kernels : List Kernel) (port : PortAt) (kernel : Kernel) (node : Node)
    → slice_get kernels port.kernel ≡ Some kernel → slice_get kernel.nodes port.node ≡ Some node
    → node_of kernels port ≡ Some node
node_known kernels port kernel node k n =
    ap (option_and_then (λ (kernel : Kernel). slice_get kernel.nodes port.node)) k ∙ n

pub port_is : (kernels : List Kernel) (port : PortAt) (kernel : Kernel) (node : Node)
    (is_kind : Kind → Bool) (name : List ℕ) → slice_get kernels port.kernel ≡ Some kernel
    → slice_get kernel.nodes port.node ≡ Some node → is_kind node.view.kind ≡ true
    → node.name ≡ name → IsPortOf kernels is_kind port.kernel name port
port_is kernels port kernel node is_kind name k n kind named = record {
  kernel = refl;
  node = subst (λ o. IsSomeAnd o (IsNamed is_kind name)) (sym (node_known kernels port kernel node k n)) (kind, named);
}

-- ---- terminals

pub ports_more : (number : ℕ) (kernels : List Kernel) (i : ℕ) (kernel : Kernel)
    → slice_get kernels i ≡ Some kernel
    → ports_from number (take i kernels) ++ filter_map (terminal_of (number + i)) kernel.nodes
    ≡ ports_from number (take (suc i) kernels)
ports_more number [] i kernel at = absurd (cc)
ports_more number (first ∷ kernels) zero kernel at =
    ap (λ n. filter_map (terminal_of n) kernel.nodes) (add-zero number)
    ∙ ap (λ (k : Kernel). filter_map (terminal_of number) k.nodes) (sym (same_Some first kernel at))
    ∙ sym (append-nil (filter_map (terminal_of number) first.nodes))
ports_more number (first ∷ kernels) (suc i) kernel at =
    let next : number + suc i ≡ number + 1 + i = omega arith in
    append_assoc (filter_map (terminal_of number) first.nodes) (ports_from (number + 1) (take i kernels))
    (filter_map (terminal_of (number + suc i)) kernel.nodes)
    ∙ ap (λ rest. filter_map (terminal_of number) first.nodes ++ rest)
    (ap (λ n. ports_from (number + 1) (take i kernels) ++ filter_map (terminal_of n) kernel.nodes) next
    ∙ ports_more (number + 1) kernels i kernel at)

-- a node of another kind is no terminal
pub no_terminal : (number : ℕ) (kind : Kind) (name : List ℕ) → (kind ≡ K.Input → ⊥)
    → (kind ≡ K.Output → ⊥) → terminal_by number kind name ≡ None
no_terminal number K.Input name no_input no_output = absurd (no_input refl)
no_terminal number K.Output name no_input no_output = absurd (no_output refl)
no_terminal number _ name no_input no_output = refl

-- the terminal that a node is
pub terminal_is : (number : ℕ) (nodes : List Node) (n : ℕ) (view : NodeView) (name : List ℕ)
    (kind : Kind) (terminal : Option Terminal) → (seen : IsShown nodes n view name)
    → view.kind ≡ kind → terminal_by number kind name ≡ terminal
    → terminal_of number seen.node ≡ terminal
terminal_is number nodes n view name kind terminal seen k is =
    ap (λ m. terminal_by number seen.node.view.kind m) seen.named
    ∙ ap (λ (v : NodeView). terminal_by number v.kind name) seen.viewed
    ∙ ap (λ k. terminal_by number k name) k
    ∙ is

-- the terminals of kernels, with those of one more
pub ports_step : (kernels : List Kernel) (i : ℕ) → i < length kernels
    → ports_from 0 (take i kernels) ++ ports_at kernels i ≡ ports_from 0 (take (i + 1) kernels)
ports_step kernels i lt = by_kernel (slice_get kernels i) refl
  where
    by_kernel : (o : Option Kernel) → slice_get kernels i ≡ o
        → ports_from 0 (take i kernels) ++ ports_at kernels i ≡ ports_from 0 (take (i + 1) kernels)
    by_kernel None at = absurd (some_within kernels i lt at)
    by_kernel (Some kernel) at =
        ap (λ o. ports_from 0 (take i kernels) ++ option_map_or (λ (k : Kernel). filter_map (terminal_of i) k.nodes) o []) at
        ∙ ap (λ n. ports_from 0 (take i kernels) ++ filter_map (terminal_of n) kernel.nodes) (sym (zero-add i))
        ∙ ports_more 0 kernels i kernel at
        ∙ ap (λ n. ports_from 0 (take n kernels)) (sym (add-one i))
