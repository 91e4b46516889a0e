-- Where a port of a kernel stands among the streams of its kernel.
use Rattle.std.proofs.Common.{◌≡◌, ℕ, zero, suc, ◌+◌, ◌-◌, ◌<◌, ◌≤◌, Bool, true, false, not, cond, List, [], ◌∷◌, Option, Some, None}
use Rattle.std.proofs.Common.{length, refl, sym, ap, ◌∙◌, subst, arith, inl, inr, eqb-true, eq-eqb, lt-ltb}
use Rattle.std.specs.Prelude.{slice_get, unwrap_or, nat_eq, IsSomeAnd}
use Rattle.std.specs.List.{position_or_len}
use Rattle.std.specs.Option.{option_and_then, option_map_or}
use Rattle.std.proofs.lemmas.Bool.{false≢true}
use Rattle.std.proofs.lemmas.Option.{same_Some}
use Rattle.stream_graph.specs.declared.kernel.Kernel.{Kernel}
use Rattle.stream_graph.specs.declared.node.Kind.{Kind}
use Rattle.stream_graph.specs.declared.node.Kind.TheVariants as K
use Rattle.stream_graph.specs.declared.node.Node.{Node}
use Rattle.stream_graph.specs.Kinds.{is_input, is_output}
use Rattle.kernel_control.specs.Ports.{numbers_from, inputs_of, outputs_of}
use Rattle.manager_links.specs.declared.links.PortAt.{PortAt}
use Rattle.manager_links.specs.Ports.{IsPort, node_of}
use Rattle.project_streams.specs.Streams.{nodes_at}
use Rattle.project_rtl.specs.Blocks.{streams_of, place_of}
use Rattle.project_runs.proofs.Lists.{get_left, get_behind, within, either_part}

-- ---- the first place of a number

record IsFirst (n : ℕ) (ns : List ℕ) : Type 0 where
  below : position_or_len (nat_eq n) ns < length ns
  at : slice_get ns (position_or_len (nat_eq n) ns) ≡ Some n

first_more : (n x : ℕ) (ns : List ℕ) (b : Bool) → nat_eq n x ≡ b → (b ≡ false → IsFirst n ns) → IsFirst n (x ∷ ns)
first_more n x ns true e later =
    let none : position_or_len (nat_eq n) (x ∷ ns) ≡ 0 = ap (λ b. cond (not b) (1 + position_or_len (nat_eq n) ns) 0) e in
    record {
      below = omega arith;
      at = ap (λ k. slice_get (x ∷ ns) k) none ∙ ap (λ (k : ℕ). Some k) (sym (eqb-true n x e));
    }
first_more n x ns false e later =
    let l = later refl in
    let some : position_or_len (nat_eq n) (x ∷ ns) ≡ 1 + position_or_len (nat_eq n) ns = ap (λ b. cond (not b) (1 + position_or_len (nat_eq n) ns) 0) e in
    let more : 1 + position_or_len (nat_eq n) ns ≡ suc (position_or_len (nat_eq n) ns) = omega arith in
    let b = l.below in
    record { below = omega arith; at = ap (λ k. slice_get (x ∷ ns) k) (some ∙ more) ∙ l.at }

first : (n : ℕ) (ns : List ℕ) (i : ℕ) → slice_get ns i ≡ Some n → IsFirst n ns
first n [] i e = absurd (cc)
first n (x ∷ ns) zero e =
    let same : n ≡ x = sym (same_Some x n e) in
    first_more n x ns (nat_eq n x) refl (λ f. absurd (false≢true (sym f ∙ eq-eqb n x same)))
first n (x ∷ ns) (suc i) e = first_more n x ns (nat_eq n x) refl (λ f. first n ns i e)

-- a number that is there stands at its place
pub placed : (n : ℕ) (ns : List ℕ) (i : ℕ) → slice_get ns i ≡ Some n → slice_get ns (place_of n ns) ≡ Some n
placed n ns i e =
    let f = first n ns i e in
    let p = position_or_len (nat_eq n) ns in
    let is : place_of n ns ≡ p = ap (λ b. unwrap_or (cond b (Some p) None) 0) (lt-ltb p (length ns) f.below) in
    ap (λ k. slice_get ns k) is ∙ f.at

-- ---- the numbers of the nodes of a kind

-- a node of the kind
pub record IsKindNode (is_kind : Kind → Bool) (k n : ℕ) (nodes : List Node) : Type 0 where
  pub low : k ≤ n
  pub node : Node
  pub at : slice_get nodes (n - k) ≡ Some node
  pub kind : is_kind node.view.kind ≡ true

lower : (is_kind : Kind → Bool) (k n : ℕ) (x : Node) (nodes : List Node) → IsKindNode is_kind (k + 1) n nodes → IsKindNode is_kind k n (x ∷ nodes)
lower is_kind k n x nodes h =
    let l = h.low in
    let e : n - k ≡ suc (n - (k + 1)) = omega arith in
    record { low = omega arith; node = h.node; at = ap (λ j. slice_get (x ∷ nodes) j) e ∙ h.at; kind = h.kind }

pub kind_of_number : (is_kind : Kind → Bool) (k : ℕ) (nodes : List Node) (i n : ℕ) → slice_get (numbers_from is_kind k nodes) i ≡ Some n → IsKindNode is_kind k n nodes
kind_of_number is_kind k [] i n e = absurd (cc)
kind_of_number is_kind k (x ∷ nodes) i n e = of_test (is_kind x.view.kind) refl (λ j f. kind_of_number is_kind (k + 1) nodes j n f) i e
  where
    of_test : (b : Bool) → is_kind x.view.kind ≡ b
        → ((j : ℕ) → slice_get (numbers_from is_kind (k + 1) nodes) j ≡ Some n → IsKindNode is_kind (k + 1) n nodes) → (i : ℕ)
        → slice_get (cond b (k ∷ numbers_from is_kind (k + 1) nodes) (numbers_from is_kind (k + 1) nodes)) i ≡ Some n
        → IsKindNode is_kind k n (x ∷ nodes)
    of_test true kind rest zero e =
        let same : k ≡ n = same_Some k n e in
        let z : n - k ≡ 0 = omega arith in
        record { low = omega arith; node = x; at = ap (λ j. slice_get (x ∷ nodes) j) z; kind = kind }
    of_test true kind rest (suc i) e = lower is_kind k n x nodes (rest i e)
    of_test false kind rest i e = lower is_kind k n x nodes (rest i e)

-- a number is there once
pub one_place : (is_kind : Kind → Bool) (k : ℕ) (nodes : List Node) (i j n : ℕ)
    → slice_get (numbers_from is_kind k nodes) i ≡ Some n → slice_get (numbers_from is_kind k nodes) j ≡ Some n → i ≡ j
one_place is_kind k [] i j n e f = absurd (cc)
one_place is_kind k (x ∷ nodes) i j n e f = of_test (is_kind x.view.kind) (λ a b g h. one_place is_kind (k + 1) nodes a b n g h) i j e f
  where
    past : (i : ℕ) → slice_get (numbers_from is_kind (k + 1) nodes) i ≡ Some k → ⊥
    past i e = let h = (kind_of_number is_kind (k + 1) nodes i k e).low in omega arith

    of_test : (b : Bool)
        → ((a b : ℕ) → slice_get (numbers_from is_kind (k + 1) nodes) a ≡ Some n → slice_get (numbers_from is_kind (k + 1) nodes) b ≡ Some n → a ≡ b)
        → (i j : ℕ)
        → slice_get (cond b (k ∷ numbers_from is_kind (k + 1) nodes) (numbers_from is_kind (k + 1) nodes)) i ≡ Some n
        → slice_get (cond b (k ∷ numbers_from is_kind (k + 1) nodes) (numbers_from is_kind (k + 1) nodes)) j ≡ Some n
        → i ≡ j
    of_test true rest zero zero e f = refl
    of_test true rest zero (suc j) e f = absurd (past j (f ∙ sym e))
    of_test true rest (suc i) zero e f = absurd (past i (e ∙ sym f))
    of_test true rest (suc i) (suc j) e f = ap suc (rest i j e f)
    of_test false rest i j e f = rest i j e f

-- a place of a number
pub record IsAt (ns : List ℕ) (n : ℕ) : Type 0 where
  pub place : ℕ
  pub at : slice_get ns place ≡ Some n

number_of_kind : (is_kind : Kind → Bool) (k : ℕ) (nodes : List Node) (j : ℕ) (node : Node)
    → slice_get nodes j ≡ Some node → is_kind node.view.kind ≡ true → IsAt (numbers_from is_kind k nodes) (k + j)
number_of_kind is_kind k [] j node e kind = absurd (cc)
number_of_kind is_kind k (x ∷ nodes) zero node e kind =
    let same : x ≡ node = same_Some x node e in
    of_test (is_kind x.view.kind) (ap (λ (n : Node). is_kind n.view.kind) same ∙ kind)
  where
    of_test : (b : Bool) → b ≡ true → IsAt (cond b (k ∷ numbers_from is_kind (k + 1) nodes) (numbers_from is_kind (k + 1) nodes)) (k + 0)
    of_test true e = let z : k ≡ k + 0 = omega arith in record { place = 0; at = ap (λ (n : ℕ). Some n) z }
    of_test false e = absurd (false≢true e)
number_of_kind is_kind k (x ∷ nodes) (suc j) node e kind =
    of_test (is_kind x.view.kind) (number_of_kind is_kind (k + 1) nodes j node e kind)
  where
    of_test : (b : Bool) → IsAt (numbers_from is_kind (k + 1) nodes) (k + 1 + j)
        → IsAt (cond b (k ∷ numbers_from is_kind (k + 1) nodes) (numbers_from is_kind (k + 1) nodes)) (k + suc j)
    of_test true h = let z : k + 1 + j ≡ k + suc j = omega arith in record { place = suc h.place; at = h.at ∙ ap (λ (n : ℕ). Some n) z }
    of_test false h = let z : k + 1 + j ≡ k + suc j = omega arith in record { place = h.place; at = h.at ∙ ap (λ (n : ℕ). Some n) z }

-- ---- the two kinds of ports

not_both : (kind : Kind) → is_input kind ≡ true → is_output kind ≡ true → ⊥
not_both K.Input i o = false≢true o
not_both K.Output i o = false≢true i
not_both _ i o = false≢true i

-- ---- ports of a project

-- the node of a port
pub node_here : (kernels : List Kernel) (port : PortAt) → node_of kernels port ≡ slice_get (nodes_at kernels port.kernel) port.node
node_here kernels port = by_kernel (slice_get kernels port.kernel)
  where
    by_kernel : (o : Option Kernel)
        → option_and_then (λ (kernel : Kernel). slice_get kernel.nodes port.node) o
        ≡ slice_get (option_map_or (λ (kernel : Kernel). kernel.nodes) o []) port.node
    by_kernel None = refl
    by_kernel (Some kernel) = refl

-- a port is one of a kernel that is there
pub kernel_there : (kernels : List Kernel) (is_kind : Kind → Bool) (port : PortAt) → IsPort kernels is_kind port → port.kernel < length kernels
kernel_there kernels is_kind port h = by_kernel (slice_get kernels port.kernel) refl h
  where
    by_kernel : (o : Option Kernel) → slice_get kernels port.kernel ≡ o
        → IsSomeAnd (option_and_then (λ (kernel : Kernel). slice_get kernel.nodes port.node) o) (λ (node : Node). is_kind node.view.kind ≡ true)
        → port.kernel < length kernels
    by_kernel None e h = absurd h
    by_kernel (Some kernel) e h = within kernels port.kernel kernel e

record IsNodeOf (is_kind : Kind → Bool) (nodes : List Node) (n : ℕ) : Type 0 where
  node : Node
  at : slice_get nodes n ≡ Some node
  kind : is_kind node.view.kind ≡ true

node_of_port : (kernels : List Kernel) (is_kind : Kind → Bool) (port : PortAt) → IsPort kernels is_kind port → IsNodeOf is_kind (nodes_at kernels port.kernel) port.node
node_of_port kernels is_kind port h =
    by_node (slice_get (nodes_at kernels port.kernel) port.node) refl
    (subst (λ (o : Option Node). IsSomeAnd o (λ (node : Node). is_kind node.view.kind ≡ true)) (node_here kernels port) h)
  where
    by_node : (o : Option Node) → slice_get (nodes_at kernels port.kernel) port.node ≡ o → IsSomeAnd o (λ (node : Node). is_kind node.view.kind ≡ true)
        → IsNodeOf is_kind (nodes_at kernels port.kernel) port.node
    by_node None e h = absurd h
    by_node (Some node) e h = record { node = node; at = e; kind = h }

-- where a port stands: among the ports of its kind, and among all streams
pub record IsPlaced (nodes : List Node) (ns : List ℕ) (before n : ℕ) : Type 0 where
  pub place : ℕ
  pub at : slice_get ns place ≡ Some n
  pub is : place_of n (streams_of nodes) ≡ before + place

-- no number is one of an input and of an output
apart : (nodes : List Node) (n i j : ℕ) → slice_get (inputs_of nodes) i ≡ Some n → slice_get (outputs_of nodes) j ≡ Some n → ⊥
apart nodes n i j a b =
    let x = kind_of_number is_input 0 nodes i n a in
    let y = kind_of_number is_output 0 nodes j n b in
    let same : x.node ≡ y.node = same_Some x.node y.node (sym x.at ∙ y.at) in
    not_both x.node.view.kind x.kind (ap (λ (node : Node). is_output node.view.kind) same ∙ y.kind)

pub input_placed : (nodes : List Node) (n i : ℕ) → slice_get (inputs_of nodes) i ≡ Some n → place_of n (streams_of nodes) ≡ i
input_placed nodes n i e =
    let w = within (inputs_of nodes) i n e in
    let h = placed n (streams_of nodes) i (get_left (inputs_of nodes) (outputs_of nodes) i w ∙ e) in
    let p = place_of n (streams_of nodes) in
    elim (either_part (inputs_of nodes) (outputs_of nodes) p n h) [
      | inl a ↦ one_place is_input 0 nodes p i n a e
      | inr b ↦ absurd (apart nodes n i (p - length (inputs_of nodes)) e b.1)
    ]

pub output_placed : (nodes : List Node) (n i : ℕ) → slice_get (outputs_of nodes) i ≡ Some n → place_of n (streams_of nodes) ≡ length (inputs_of nodes) + i
output_placed nodes n i e =
    let h = placed n (streams_of nodes) (length (inputs_of nodes) + i) (get_behind (inputs_of nodes) (outputs_of nodes) (length (inputs_of nodes)) i refl ∙ e) in
    let p = place_of n (streams_of nodes) in
    elim (either_part (inputs_of nodes) (outputs_of nodes) p n h) [
      | inl a ↦ absurd (apart nodes n p i a e)
      | inr b ↦
          let l = b.0 in
          let s = one_place is_output 0 nodes (p - length (inputs_of nodes)) i n b.1 e in
          omega arith
    ]

pub input_port : (kernels : List Kernel) (port : PortAt) → IsPort kernels is_input port
    → IsPlaced (nodes_at kernels port.kernel) (inputs_of (nodes_at kernels port.kernel)) 0 port.node
input_port kernels port h =
    let nodes = nodes_at kernels port.kernel in
    let n = node_of_port kernels is_input port h in
    let k = number_of_kind is_input 0 nodes port.node n.node n.at n.kind in
    let z : 0 + port.node ≡ port.node = omega arith in
    let at : slice_get (inputs_of nodes) k.place ≡ Some port.node = k.at ∙ ap (λ (j : ℕ). Some j) z in
    let p = input_placed nodes port.node k.place at in
    record { place = k.place; at = at; is = omega arith }

pub output_port : (kernels : List Kernel) (port : PortAt) → IsPort kernels is_output port
    → IsPlaced (nodes_at kernels port.kernel) (outputs_of (nodes_at kernels port.kernel)) (length (inputs_of (nodes_at kernels port.kernel))) port.node
output_port kernels port h =
    let nodes = nodes_at kernels port.kernel in
    let n = node_of_port kernels is_output port h in
    let k = number_of_kind is_output 0 nodes port.node n.node n.at n.kind in
    let z : 0 + port.node ≡ port.node = omega arith in
    let at : slice_get (outputs_of nodes) k.place ≡ Some port.node = k.at ∙ ap (λ (j : ℕ). Some j) z in
    record { place = k.place; at = at; is = output_placed nodes port.node k.place at }

-- a node of a kind is a port of that kind
port_of_kind : (kernels : List Kernel) (is_kind : Kind → Bool) (k i n : ℕ)
    → slice_get (numbers_from is_kind 0 (nodes_at kernels k)) i ≡ Some n → IsPort kernels is_kind (record { kernel = k; node = n })
port_of_kind kernels is_kind k i n e =
    let h = kind_of_number is_kind 0 (nodes_at kernels k) i n e in
    let z : n - 0 ≡ n = omega arith in
    let at : node_of kernels (record { kernel = k; node = n }) ≡ Some h.node =
    node_here kernels (record { kernel = k; node = n }) ∙ ap (λ j. slice_get (nodes_at kernels k) j) (sym z) ∙ h.at in
    subst (λ (o : Option Node). IsSomeAnd o (λ (node : Node). is_kind node.view.kind ≡ true)) (sym at) h.kind

-- an input of a kernel is one of the project
pub input_is_port : (kernels : List Kernel) (k i n : ℕ) → slice_get (inputs_of (nodes_at kernels k)) i ≡ Some n
    → IsPort kernels is_input (record { kernel = k; node = n })
input_is_port kernels k i n e = port_of_kind kernels is_input k i n e

-- and so is an output
pub output_is_port : (kernels : List Kernel) (k i n : ℕ) → slice_get (outputs_of (nodes_at kernels k)) i ≡ Some n
    → IsPort kernels is_output (record { kernel = k; node = n })
output_is_port kernels k i n e = port_of_kind kernels is_output k i n e
