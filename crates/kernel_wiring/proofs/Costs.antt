-- Sums of what the nodes of a kernel may take, and that they stay within the limits for each part.
use Rattle.std.proofs.Common.{◌≡◌, ℕ, ◌+◌, ◌*◌, ◌≤◌, Bool, true, false, cond, List, [], ◌∷◌, map, length, refl, arith}
use Rattle.std.specs.Prelude.{sum_by}
use Rattle.std.proofs.lemmas.List.{length-map}
use Rattle.std.proofs.lemmas.List.Sums.{sum_by-cons}
use Rattle.stream_graph.specs.declared.node.Kind.{Kind}
use Rattle.stream_graph.specs.declared.node.Kind.TheVariants as K
use Rattle.stream_graph.specs.declared.node.Node.{Node}
use Rattle.stream_graph.specs.Kernels.{AreKernel}
use Rattle.stream_graph.specs.Kinds.{is_input, is_output, is_scalar}
use Rattle.stream_graph.specs.LookUps.{type_at}
use Rattle.rtl_ops.specs.Costs.{wires_a_part}
use Rattle.rtl_ops.proofs.Costs.{few_wires}
use Rattle.kernel_control.specs.Ports.{numbers_from}
use Rattle.kernel_states.specs.States.{has_state, step_wires, state_count, step_nets}
use Rattle.kernel_states.proofs.Costs.{few_states}
use Rattle.kernel_states.proofs.Kernels.{nets_few as few_steps}
use Rattle.kernel_wiring.specs.Costs.{
  one_if,
  word_wires,
  parts_of,
  nets_of,
  bytes_of,
  all_bytes,
  all_memories,
  all_nets,
  all_ports,
  nets_a_part,
  bytes_a_part,
}
use Rattle.kernel_wiring.specs.OneNode.{operand_count}

-- ---- how many nodes are of a kind

abbrev pub count_if : (Kind → Bool) → List Node → ℕ
count_if is_kind nodes = sum_by (λ (node : Node). one_if (is_kind node.view.kind)) nodes

-- as many as numbers of such nodes
pub numbers_counted : (is_kind : Kind → Bool) (k : ℕ) (nodes : List Node)
    → length (numbers_from is_kind k nodes) ≡ count_if is_kind nodes
numbers_counted is_kind k [] = refl
numbers_counted is_kind k (n ∷ nodes) =
    let sum = sum_by-cons (λ (node : Node). one_if (is_kind node.view.kind)) n nodes in
    let first = by_test (is_kind n.view.kind) (numbers_from is_kind (k + 1) nodes) in
    let rest = numbers_counted is_kind (k + 1) nodes in
    omega (arith, sum, first, rest)
  where
    by_test : (b : Bool) (ns : List ℕ) → length (cond b (k ∷ ns) ns) ≡ one_if b + length ns
    by_test true ns = omega arith
    by_test false ns = omega arith

-- a node is an input, an output or a scalar, or none of these
one_port : (k : Kind) → one_if (is_input k) + one_if (is_output k) + one_if (is_scalar k) ≤ 1
one_port K.Input = omega arith
one_port _ = omega arith

pub few_ports : (nodes : List Node)
    → count_if is_input nodes + count_if is_output nodes + count_if is_scalar nodes ≤ length nodes
few_ports [] = omega arith
few_ports (x ∷ xs) =
    let one = one_port x.view.kind in
    let rest = few_ports xs in
    let i = sum_by-cons (λ (node : Node). one_if (is_input node.view.kind)) x xs in
    let o = sum_by-cons (λ (node : Node). one_if (is_output node.view.kind)) x xs in
    let s = sum_by-cons (λ (node : Node). one_if (is_scalar node.view.kind)) x xs in
    omega (arith, one, rest, i, o, s)

-- ---- sums by what the parts are for

abbrev pub ports_in : List Node → ℕ
ports_in nodes = 3 * count_if is_input nodes + 3 * count_if is_output nodes + count_if is_scalar nodes

pub ports_parted : (all nodes : List Node)
    → sum_by (λ (node : Node). (parts_of all node).ports) nodes ≡ ports_in nodes
ports_parted all [] = omega arith
ports_parted all (x ∷ xs) =
    let sum = sum_by-cons (λ (node : Node). (parts_of all node).ports) x xs in
    let rest = ports_parted all xs in
    let i = sum_by-cons (λ (node : Node). one_if (is_input node.view.kind)) x xs in
    let o = sum_by-cons (λ (node : Node). one_if (is_output node.view.kind)) x xs in
    let s = sum_by-cons (λ (node : Node). one_if (is_scalar node.view.kind)) x xs in
    omega (arith, sum, rest, i, o, s)

-- what the words of these nodes take, with the types of all
abbrev words_in : List Node → List Node → ℕ
words_in all nodes = sum_by (λ (node : Node). word_wires all node.view.kind node.operands) nodes

pub nets_parted : (all nodes : List Node)
    → sum_by (λ (node : Node). nets_of (parts_of all node)) nodes
    ≡ ports_in nodes + 11 * (count_if is_input nodes + count_if is_output nodes)
    + words_in all nodes + step_nets nodes + state_count nodes
    + 64 * length nodes + 10 * operand_count nodes
nets_parted all [] = omega arith
nets_parted all (x ∷ xs) =
    let sum = sum_by-cons (λ (node : Node). nets_of (parts_of all node)) x xs in
    let rest = nets_parted all xs in
    let i = sum_by-cons (λ (node : Node). one_if (is_input node.view.kind)) x xs in
    let o = sum_by-cons (λ (node : Node). one_if (is_output node.view.kind)) x xs in
    let s = sum_by-cons (λ (node : Node). one_if (is_scalar node.view.kind)) x xs in
    let words = sum_by-cons (λ (node : Node). word_wires all node.view.kind node.operands) x xs in
    let steps = sum_by-cons step_wires x xs in
    let states = sum_by-cons (λ (node : Node). one_if (has_state node.view.kind)) x xs in
    let operands = sum_by-cons (λ (node : Node). length node.operands) x xs in
    omega (arith, sum, rest, i, o, s, words, steps, states, operands)

bytes_parted : (all nodes : List Node)
    → sum_by (λ (node : Node). bytes_of (parts_of all node)) nodes
    ≡ 322 * ports_in nodes
    + 364 * (sum_by (λ (node : Node). nets_of (parts_of all node)) nodes + operand_count nodes)
bytes_parted all [] = omega arith
bytes_parted all (x ∷ xs) =
    let sum = sum_by-cons (λ (node : Node). bytes_of (parts_of all node)) x xs in
    let rest = bytes_parted all xs in
    let nets = sum_by-cons (λ (node : Node). nets_of (parts_of all node)) x xs in
    let ports = sum_by-cons (λ (node : Node). (parts_of all node).ports) x xs in
    let first = ports_parted all (x ∷ xs) in
    let second = ports_parted all xs in
    let operands = sum_by-cons (λ (node : Node). length node.operands) x xs in
    omega (arith, sum, rest, nets, ports, first, second, operands)

-- the bytes of a module, by its ports, nets and memories
pub all_bytes_parted : (nodes : List Node)
    → all_bytes nodes
    ≡ 200 + 322 * all_ports nodes + 364 * (all_nets nodes + all_memories nodes)
all_bytes_parted nodes =
    let bytes = bytes_parted nodes nodes in
    let ports = ports_parted nodes nodes in
    omega (arith, bytes, ports)

-- ---- they are few

-- the word of a node takes no more than a result and its operands may
few_words : (all nodes : List Node)
    → words_in all nodes ≤ wires_a_part * (length nodes + operand_count nodes)
few_words all [] = omega arith
few_words all (x ∷ xs) =
    let sum = sum_by-cons (λ (node : Node). word_wires all node.view.kind node.operands) x xs in
    let operands = sum_by-cons (λ (node : Node). length node.operands) x xs in
    let first = one x.view.kind x.operands in
    let rest = few_words all xs in
    omega (arith, sum, operands, first, rest)
  where
    one : (k : Kind) (operands : List ℕ)
        → word_wires all k operands ≤ wires_a_part * (1 + length operands)
    one (K.Operation op mode amount) operands =
        let few = few_wires op (map (type_at all) operands) in
        let long = length-map operands (type_at all) in
        omega (arith, few, long)
    one _ operands = omega arith

module _ (nodes : List Node) (kernel : ∥ AreKernel nodes ∥₁) where
  pub nets_few : all_nets nodes ≤ 18 + nets_a_part * (length nodes + operand_count nodes)
  nets_few =
      let nets = nets_parted nodes nodes in
      let ports = few_ports nodes in
      let words = few_words nodes nodes in
      let steps = few_steps nodes kernel in
      let states = few_states nodes in
      omega (arith, nets, ports, words, steps, states)

  pub bytes_few : all_bytes nodes ≤ 8362 + bytes_a_part * (length nodes + operand_count nodes)
  bytes_few =
      let bytes = all_bytes_parted nodes in
      let all_ports = ports_parted nodes nodes in
      let ports = few_ports nodes in
      let nets = nets_few in
      omega (arith, bytes, all_ports, ports, nets)
