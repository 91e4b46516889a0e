-- That all terminals of a plan differ, where its names do.
use Rattle.std.proofs.Common.{◌≡◌, ℕ, ◌+◌, ◌≤◌, List, [], ◌∷◌, ◌++◌, map, ap, arith, ⊎_elim}
use Rattle.std.specs.Prelude.{Option, Some, None}
use Rattle.std.specs.List.{Contains, filter_map}
use Rattle.std.proofs.lemmas.List.Elements.{Contains-append_cases}
use Rattle.kernel_meaning.specs.declared.plan.Plan.{Plan}
use Rattle.stream_graph.specs.declared.kernel.Kernel.{Kernel}
use Rattle.stream_graph.specs.declared.node.Kind.{Kind}
use Rattle.stream_graph.specs.declared.node.Kind.TheVariants as K
use Rattle.manager_links.specs.Lists.{AllDiffer}
use Rattle.manager_links.specs.Rules.{NamesDiffer}
use Rattle.manager_links.specs.Terminals.{Terminal, Input, Output, FromCpu, ToCpu, terminal_by, terminal_of, ports_from, terminals}
use Rattle.manager_links.proofs.Pieces.{differ_none, differ_append, differ_map, differ_kept, in_image, in_kept}
use Rattle.manager_links.proofs.PortNames.{has_ports}

-- the number of the kernel of a port
abbrev number_of : Terminal → Option ℕ
number_of (Input k name) = Some k
number_of (Output k name) = Some k
number_of _ = None

node_number : (k : ℕ) (kind : Kind) (name : List ℕ) (t : Terminal) → terminal_by k kind name ≡ Some t
    → number_of t ≡ Some k
node_number k K.Input name t e = ap number_of (let s : t ≡ Input k name = cc in s)
node_number k K.Output name t e = ap number_of (let s : t ≡ Output k name = cc in s)
node_number k _ name t e = absurd (cc)

from_number : (number : ℕ) (kernels : List Kernel) (t : Terminal) → Contains (ports_from number kernels) t
    → (k : ℕ) × (number ≤ k) × (number_of t ≡ Some k)
from_number number [] t (k, lt, is) = absurd (omega arith)
from_number number (kernel ∷ kernels) t there =
    ⊎_elim
    (λ here. let node = in_kept (terminal_of number) kernel.nodes t here in
    (number, omega arith, node_number number node.1.view.kind node.1.name t node.3))
    (λ later. let rest = from_number (number + 1) kernels t later in
    (rest.0, let l = rest.1 in omega arith, rest.2))
    (Contains-append_cases (filter_map (terminal_of number) kernel.nodes) (ports_from (number + 1) kernels) t there)

ports_differ : (number : ℕ) (kernels : List Kernel) → AllDiffer (ports_from number kernels)
ports_differ number [] = differ_none
ports_differ number (kernel ∷ kernels) =
    differ_append (filter_map (terminal_of number) kernel.nodes) (ports_from (number + 1) kernels)
    (differ_kept (terminal_of number) kernel.nodes
    (λ n m a b t one other first second. (has_ports kernel).differ number n m a b t one other first second))
    (ports_differ (number + 1) kernels)
    (λ t here later.
    let node = in_kept (terminal_of number) kernel.nodes t here in
    let mine = node_number number node.1.view.kind node.1.name t node.3 in
    let rest = from_number (number + 1) kernels t later in
    let less = rest.1 in
    let same : rest.0 ≡ number = let other = rest.2 in cc in
    omega arith)

pub terminals_differ : (plan : Plan) (kernels : List Kernel) → NamesDiffer plan kernels
    → AllDiffer (terminals plan kernels)
terminals_differ plan kernels names =
    differ_append (ports_from 0 kernels) (map FromCpu plan.from_cpu ++ map ToCpu plan.to_cpu)
    (ports_differ 0 kernels)
    (differ_append (map FromCpu plan.from_cpu) (map ToCpu plan.to_cpu)
    (differ_map FromCpu plan.from_cpu (λ x y e. cc) names.from_cpu)
    (differ_map ToCpu plan.to_cpu (λ x y e. cc) names.to_cpu)
    (λ t from to.
    let a = in_image FromCpu plan.from_cpu t from in
    let b = in_image ToCpu plan.to_cpu t to in
    let e = a.2 in let f = b.2 in cc))
    (λ t port stream.
    let n = from_number 0 kernels t port in
    ⊎_elim
    (λ from. let a = in_image FromCpu plan.from_cpu t from in let e = ap number_of a.2 in let f = n.2 in cc)
    (λ to. let b = in_image ToCpu plan.to_cpu t to in let e = ap number_of b.2 in let f = n.2 in cc)
    (Contains-append_cases (map FromCpu plan.from_cpu) (map ToCpu plan.to_cpu) t stream))
