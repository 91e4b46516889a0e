-- The nodes of a kernel that are ports.
use Rattle.std.proofs.Common.{◌≡◌, ℕ, zero, suc, ◌+◌, ◌<◌, ◌≤◌, Bool, true, false, cond, List, []}
use Rattle.std.proofs.Common.{◌∷◌, ◌++◌, drop, get_or, length, refl, sym, ap, ◌∙◌, subst, arith}
use Rattle.std.proofs.Common.{append-nil, append_assoc, add-one, drop-cons}
use Rattle.stream_graph.specs.declared.node.Node.{Node}
use Rattle.stream_graph.specs.declared.node.Kind.{Kind}
use Rattle.stream_graph.specs.Kinds.{is_input, is_output, is_scalar}
use Rattle.stream_graph.specs.LookUps.{node_at, kind_at, no_node}
use Rattle.kernel_control.specs.Ports.{numbers_from, inputs_of, outputs_of, scalars_of}
use Rattle.project_design.specs.declared.nodes.PortNodes.{PortNodes}
use Rattle.project_design.specs.Nodes.{AreWithin, ArePortNodes}

one_more : (k : Kind → Bool) (n : ℕ) (made : List ℕ) (x : Node) (rest : List Node) → (made ++ cond (k x.view.kind) (n ∷ []) []) ++ numbers_from k (n + 1) rest ≡ made ++ numbers_from k n (x ∷ rest)
one_more k n made x rest = by (k x.view.kind)
  where
    by : (b : Bool) → (made ++ cond b (n ∷ []) []) ++ numbers_from k (n + 1) rest ≡ made ++ cond b (n ∷ numbers_from k (n + 1) rest) (numbers_from k (n + 1) rest)
    by true = append_assoc made (n ∷ []) (numbers_from k (n + 1) rest)
    by false = ap (λ l. l ++ numbers_from k (n + 1) rest) (append-nil made)

-- the ports among the first so many nodes were added
pub record AreSoFar (nodes : List Node) (n : ℕ) (p : PortNodes) : Type 0 where
  pub scalars : p.scalars.items ++ numbers_from is_scalar n (drop n nodes) ≡ scalars_of nodes
  pub inputs : p.inputs.items ++ numbers_from is_input n (drop n nodes) ≡ inputs_of nodes
  pub outputs : p.outputs.items ++ numbers_from is_output n (drop n nodes) ≡ outputs_of nodes

next_node : (nodes : List Node) (n : ℕ) → n < length nodes → drop n nodes ≡ node_at nodes n ∷ drop (n + 1) nodes
next_node nodes n h = rw (add-one, drop-cons nodes n no_node) refl

step : (k : Kind → Bool) (nodes : List Node) (n : ℕ) (old new all : List ℕ) → n < length nodes → new ≡ old ++ cond (k (kind_at nodes n)) (n ∷ []) []
    → old ++ numbers_from k n (drop n nodes) ≡ all → new ++ numbers_from k (n + 1) (drop (n + 1) nodes) ≡ all
step k nodes n old new all lt e h =
    ap (λ l. l ++ numbers_from k (n + 1) (drop (n + 1) nodes)) e
    ∙ one_more k n old (node_at nodes n) (drop (n + 1) nodes)
    ∙ ap (λ l. old ++ numbers_from k n l) (sym (next_node nodes n lt))
    ∙ h

pub so_far_more : (nodes : List Node) (n : ℕ) (p q : PortNodes) (kind : Kind) → n < length nodes → kind ≡ kind_at nodes n → AreSoFar nodes n p
    → q.scalars.items ≡ p.scalars.items ++ cond (is_scalar kind) (n ∷ []) []
    → q.inputs.items ≡ p.inputs.items ++ cond (is_input kind) (n ∷ []) []
    → q.outputs.items ≡ p.outputs.items ++ cond (is_output kind) (n ∷ []) []
    → AreSoFar nodes (n + 1) q
so_far_more nodes n p q kind lt e h s i o = record {
  scalars = step is_scalar nodes n p.scalars.items q.scalars.items (scalars_of nodes) lt (s ∙ ap (λ k. p.scalars.items ++ cond (is_scalar k) (n ∷ []) []) e) h.scalars;
  inputs = step is_input nodes n p.inputs.items q.inputs.items (inputs_of nodes) lt (i ∙ ap (λ k. p.inputs.items ++ cond (is_input k) (n ∷ []) []) e) h.inputs;
  outputs = step is_output nodes n p.outputs.items q.outputs.items (outputs_of nodes) lt (o ∙ ap (λ k. p.outputs.items ++ cond (is_output k) (n ∷ []) []) e) h.outputs;
}

no_nodes : (nodes : List Node) (n : ℕ) → length nodes ≤ n → drop n nodes ≡ []
no_nodes [] zero h = refl
no_nodes [] (suc n) h = refl
no_nodes (x ∷ nodes) zero h = absurd (omega arith)
no_nodes (x ∷ nodes) (suc n) h = no_nodes nodes n (omega arith)

finished : (k : Kind → Bool) (nodes : List Node) (n : ℕ) (made all : List ℕ) → length nodes ≤ n → made ++ numbers_from k n (drop n nodes) ≡ all → made ≡ all
finished k nodes n made all le h = sym (append-nil made) ∙ ap (λ l. made ++ numbers_from k n l) (sym (no_nodes nodes n le)) ∙ h

-- the numbers are below that of the last node
below_one : (b : Bool) (n m d : ℕ) (l : List ℕ) → ((i : ℕ) → i < length l → get_or l i d < n + 1 + m) → (i : ℕ) → i < length (cond b (n ∷ l) l) → get_or (cond b (n ∷ l) l) i d < n + suc m
below_one true n m d l rest zero h = omega arith
below_one true n m d l rest (suc i) h = let e = rest i (omega arith) in omega arith
below_one false n m d l rest i h = let e = rest i h in omega arith

pub numbers_within : (k : Kind → Bool) (n : ℕ) (xs : List Node) (d i : ℕ) → i < length (numbers_from k n xs) → get_or (numbers_from k n xs) i d < n + length xs
numbers_within k n [] d i h = absurd (omega arith)
numbers_within k n (x ∷ xs) d i h = below_one (k x.view.kind) n (length xs) d (numbers_from k (n + 1) xs) (numbers_within k (n + 1) xs d) i h

within : (k : Kind → Bool) (nodes : List Node) → AreWithin nodes (numbers_from k 0 nodes)
within k nodes i d h = let e = numbers_within k 0 nodes d i h in omega arith

-- no more numbers than nodes
few_one : (b : Bool) (n m : ℕ) (l : List ℕ) → length l ≤ m → length (cond b (n ∷ l) l) ≤ suc m
few_one true n m l h = omega arith
few_one false n m l h = omega arith

pub few_numbers : (k : Kind → Bool) (n : ℕ) (xs : List Node) → length (numbers_from k n xs) ≤ length xs
few_numbers k n [] = omega arith
few_numbers k n (x ∷ xs) = few_one (k x.view.kind) n (length xs) (numbers_from k (n + 1) xs) (few_numbers k (n + 1) xs)

-- there are at most 4,096 of each kind
pub record AreFew (p : PortNodes) : Type 0 where
  pub scalars : length p.scalars.items ≤ 4096
  pub inputs : length p.inputs.items ≤ 4096
  pub outputs : length p.outputs.items ≤ 4096

pub few_ports : (nodes : List Node) (p : PortNodes) → length nodes ≤ 4096 → ArePortNodes nodes p → AreFew p
few_ports nodes p few h =
    let s = few_numbers is_scalar 0 nodes in
    let i = few_numbers is_input 0 nodes in
    let o = few_numbers is_output 0 nodes in
    let a : length p.scalars.items ≡ length (scalars_of nodes) = ap (λ (l : List ℕ). length l) h.scalars in
    let b : length p.inputs.items ≡ length (inputs_of nodes) = ap (λ (l : List ℕ). length l) h.inputs in
    let c : length p.outputs.items ≡ length (outputs_of nodes) = ap (λ (l : List ℕ). length l) h.outputs in
    record { scalars = omega arith; inputs = omega arith; outputs = omega arith }

pub all_ports : (nodes : List Node) (n : ℕ) (p : PortNodes) → length nodes ≤ n → AreSoFar nodes n p → ArePortNodes nodes p
all_ports nodes n p le h =
    let s = finished is_scalar nodes n p.scalars.items (scalars_of nodes) le h.scalars in
    let i = finished is_input nodes n p.inputs.items (inputs_of nodes) le h.inputs in
    let o = finished is_output nodes n p.outputs.items (outputs_of nodes) le h.outputs in
    record {
      scalars = s;
      inputs = i;
      outputs = o;
      scalars_within = subst (AreWithin nodes) (sym s) (within is_scalar nodes);
      inputs_within = subst (AreWithin nodes) (sym i) (within is_input nodes);
      outputs_within = subst (AreWithin nodes) (sym o) (within is_output nodes);
    }
