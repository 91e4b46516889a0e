-- The names of the ports of a kernel's module.
use Rattle.std.proofs.Common.{◌≡◌, ℕ, suc, ◌+◌, ◌<◌, ◌≤◌, Bool, true, false, List, [], ◌∷◌, ◌++◌, map, length, refl, sym, ap, ◌∙◌, arith}
use Rattle.std.specs.Prelude.{codes, nat_eq, bytes_eq, if◌then◌else◌}
use Rattle.std.proofs.lemmas.Bool.Decides.{nat_tests}
use Rattle.rtl_ir.specs.Names.{is_name}
use Rattle.rtl_delays.specs.Partial.{is_own_name}
use Rattle.rtl_ir.specs.Ports.{PortView, input_port, output_port, host_input_ports, host_output_ports}
use Rattle.stream_graph.specs.declared.node.Kind.{Kind}
use Rattle.stream_graph.specs.declared.node.Kind.TheVariants as K
use Rattle.stream_graph.specs.declared.node.Node.{Node}
use Rattle.stream_graph.specs.Kinds.{is_input, is_output, is_scalar}
use Rattle.stream_graph.specs.LookUps.{node_at, kind_at}
use Rattle.kernel_control.specs.Ports.{numbers_from, inputs_of, outputs_of, scalars_of, port_shape, scalar_ports, module_ports}
use Rattle.kernel_ports.proofs.Kernels.{role_of, AreNamed}
use Rattle.kernel_ports.proofs.Spelled.{
  plain_from,
  IsPortName,
  AreSpelled,
  spelled_on,
  ArePlain,
  scalars_spelled,
  inputs_spelled,
  outputs_spelled,
}
use Rattle.kernel_ports.proofs.Apart.{AreApart, is_there, there_on, apart_on, both_other, no_scalar}
use Rattle.kernel_ports.proofs.Apart.{no_input, no_output, scalars_no_inputs, scalars_no_outputs}
use Rattle.kernel_ports.proofs.Apart.{inputs_no_outputs, scalars_no_end, inputs_no_end}
use Rattle.kernel_ports.proofs.Apart.{outputs_no_end, is_of, AreDifferent, scalars_apart}
use Rattle.kernel_ports.proofs.Apart.{inputs_apart, outputs_apart}

-- ---- the numbers of the nodes of a kind rise

abbrev pub AreRising : List Node → (Kind → Bool) → ℕ → List ℕ → Type 0
AreRising nodes is_kind k [] = Unit {0}
AreRising nodes is_kind k (n ∷ ns) =
    ((k ≤ n) × (n < length nodes) × (is_kind (kind_at nodes n) ≡ true)) × AreRising nodes is_kind (n + 1) ns

rising_lower : (nodes : List Node) (is_kind : Kind → Bool) (k j : ℕ) (ns : List ℕ) → k ≤ j → AreRising nodes is_kind j ns → AreRising nodes is_kind k ns
rising_lower nodes is_kind k j [] le h = tt
rising_lower nodes is_kind k j (n ∷ ns) le h = let a = h.0.0 in ((omega (arith, a, le), h.0.1, h.0.2), h.1)

numbers_rising : (nodes : List Node) (is_kind : Kind → Bool) (k : ℕ) (rest : List Node)
    → ((j : ℕ) → j < length rest → node_at rest j ≡ node_at nodes (k + j)) → k + length rest ≡ length nodes
    → AreRising nodes is_kind k (numbers_from is_kind k rest)
numbers_rising nodes is_kind k [] h e = tt
numbers_rising nodes is_kind k (node ∷ rest) h e = by_test (is_kind node.view.kind) refl
    (numbers_rising nodes is_kind (k + 1) rest
    (λ j lt. h (suc j) (omega (arith, lt)) ∙ ap (node_at nodes) (let f : k + suc j ≡ k + 1 + j = omega arith in f)) (omega (arith, e)))
  where
    here : node ≡ node_at nodes k
    here = h 0 (omega arith) ∙ ap (node_at nodes) (let f : k + 0 ≡ k = omega arith in f)

    by_test : (b : Bool) → is_kind node.view.kind ≡ b → AreRising nodes is_kind (k + 1) (numbers_from is_kind (k + 1) rest)
        → AreRising nodes is_kind k (if b then k ∷ numbers_from is_kind (k + 1) rest else numbers_from is_kind (k + 1) rest)
    by_test true g later = ((omega arith, omega (arith, e), ap (λ (x : Node). is_kind x.view.kind) (sym here) ∙ g), later)
    by_test false g later = rising_lower nodes is_kind k (k + 1) (numbers_from is_kind (k + 1) rest) (omega arith) later

pub all_rising : (nodes : List Node) (is_kind : Kind → Bool) → AreRising nodes is_kind 0 (numbers_from is_kind 0 nodes)
all_rising nodes is_kind = numbers_rising nodes is_kind 0 nodes
    (λ j lt. ap (node_at nodes) (let f : j ≡ 0 + j = omega arith in f)) (omega arith)

-- ---- and their names are plain and differ

bytes_sym : (xs ys : List ℕ) → bytes_eq xs ys ≡ bytes_eq ys xs
bytes_sym [] [] = refl
bytes_sym [] (y ∷ ys) = refl
bytes_sym (x ∷ xs) [] = refl
bytes_sym (x ∷ xs) (y ∷ ys) =
    let e : nat_eq x y ≡ nat_eq y x = grind (arith, nat_tests) in
    rw (e, bytes_sym xs ys) refl

module _ (nodes : List Node) (is_kind : Kind → Bool) (role : ℕ) (some : 0 < role) (of : (kind : Kind) → is_kind kind ≡ true → role_of kind ≡ role)
    (named : AreNamed nodes) where
  pub plain_names : (k : ℕ) (ns : List ℕ) → AreRising nodes is_kind k ns → ArePlain (map (port_shape nodes) ns)
  plain_names k [] h = tt
  plain_names k (n ∷ ns) h =
      let r = of (kind_at nodes n) h.0.2 in (
        plain_from (node_at nodes n).name (named.plain n h.0.1 (omega (arith, r, some))),
        plain_names (n + 1) ns h.1,
      )

  new_name : (n k : ℕ) (ns : List ℕ) → n < k → is_kind (kind_at nodes n) ≡ true → AreRising nodes is_kind k ns
      → is_of (node_at nodes n).name (map (port_shape nodes) ns) ≡ false
  new_name n k [] lt g h = refl
  new_name n k (m ∷ ns) lt g h =
      let le = h.0.0 in
      let r = of (kind_at nodes n) g in
      let s = of (kind_at nodes m) h.0.2 in
      let e = bytes_sym (node_at nodes n).name (node_at nodes m).name
      ∙ named.differ n m (omega (arith, le, lt)) h.0.1 (omega (arith, r, s)) (omega (arith, s, some)) in
      rw (e, new_name n (m + 1) ns (omega (arith, le, lt)) g h.1) refl

  pub different_names : (k : ℕ) (ns : List ℕ) → AreRising nodes is_kind k ns → AreDifferent (map (port_shape nodes) ns)
  different_names k [] h = tt
  different_names k (n ∷ ns) h = (new_name n (n + 1) ns (omega arith) h.0.2 h.1, different_names (n + 1) ns h.1)

input_role : (kind : Kind) → is_input kind ≡ true → role_of kind ≡ 1
input_role K.Input e = refl
input_role _ e = absurd (cc)

output_role : (kind : Kind) → is_output kind ≡ true → role_of kind ≡ 2
output_role K.Output e = refl
output_role _ e = absurd (cc)

scalar_role : (kind : Kind) → is_scalar kind ≡ true → role_of kind ≡ 3
scalar_role K.Scalar e = refl
scalar_role _ e = absurd (cc)

-- ---- the ports of the module

abbrev last : List PortView
last = output_port (codes "ended$") 1 ∷ []

-- the ports of these scalars, inputs and outputs, and the last one
abbrev node_ports : List (List ℕ × ℕ) → List (List ℕ × ℕ) → List (List ℕ × ℕ) → List PortView
node_ports xs ys zs = scalar_ports xs ++ host_input_ports ys ++ host_output_ports zs ++ last

abbrev ports_by : List (List ℕ × ℕ) → List (List ℕ × ℕ) → List (List ℕ × ℕ) → List PortView
ports_by xs ys zs =
    input_port (codes "clk") 1
    ∷ input_port (codes "reset") 1
    ∷ input_port (codes "hold$") 1
    ∷ input_port (codes "ticks$") 48
    ∷ node_ports xs ys zs

own_name : (name : List ℕ) → is_name name ≡ true → is_own_name name ≡ false → IsPortName name
own_name name a b = record { is = a; apart = b }

spelled_by : (xs ys zs : List (List ℕ × ℕ)) → ArePlain xs → ArePlain ys → ArePlain zs → AreSpelled (ports_by xs ys zs)
spelled_by xs ys zs a b c =
    let one = spelled_on (scalar_ports xs) (host_input_ports ys) (scalars_spelled xs a) (inputs_spelled ys b) in
    let two = spelled_on (scalar_ports xs ++ host_input_ports ys) (host_output_ports zs) one (outputs_spelled zs c) in
    let all = spelled_on (scalar_ports xs ++ host_input_ports ys ++ host_output_ports zs) last two (own_name (codes "ended$") refl refl, tt) in (
      own_name (codes "clk") refl refl,
      (own_name (codes "reset") refl refl, (own_name (codes "hold$") refl refl, (own_name (codes "ticks$") refl refl, all))),
    )

-- none of the ports of nodes has a name that begins with this byte
none_begins : (b : ℕ) (bs : List ℕ) (xs ys zs : List (List ℕ × ℕ)) → nat_eq b 115 ≡ false → nat_eq b 105 ≡ false → nat_eq b 111 ≡ false
    → is_there (b ∷ bs) last ≡ false → is_there (b ∷ bs) (node_ports xs ys zs) ≡ false
none_begins b bs xs ys zs s i o e =
    let name : List ℕ = b ∷ bs in
    let one = there_on name (scalar_ports xs) (host_input_ports ys) (no_scalar b bs xs s) (no_input b bs ys i) in
    let two = there_on name (scalar_ports xs ++ host_input_ports ys) (host_output_ports zs) one (no_output b bs zs o) in
    there_on name (scalar_ports xs ++ host_input_ports ys ++ host_output_ports zs) last two e

apart_by : (xs ys zs : List (List ℕ × ℕ)) → AreApart (scalar_ports xs) → AreApart (host_input_ports ys) → AreApart (host_output_ports zs)
    → AreApart (ports_by xs ys zs)
apart_by xs ys zs a b c =
    let one = apart_on (scalar_ports xs) (host_input_ports ys) a b (scalars_no_inputs xs ys) in
    let two = apart_on (scalar_ports xs ++ host_input_ports ys) (host_output_ports zs) one c
    (both_other (scalar_ports xs) (host_input_ports ys) (host_output_ports zs) (scalars_no_outputs xs zs) (inputs_no_outputs ys zs)) in
    let others = both_other (scalar_ports xs ++ host_input_ports ys) (host_output_ports zs) last
    (both_other (scalar_ports xs) (host_input_ports ys) last (scalars_no_end xs) (inputs_no_end ys)) (outputs_no_end zs) in
    let all = apart_on (scalar_ports xs ++ host_input_ports ys ++ host_output_ports zs) last two (refl, tt) others in (
      none_begins 99 (codes "lk") xs ys zs refl refl refl refl,
      (
        none_begins 114 (codes "eset") xs ys zs refl refl refl refl,
        (none_begins 104 (codes "old$") xs ys zs refl refl refl refl, (none_begins 116 (codes "icks$") xs ys zs refl refl refl refl, all)),
      ),
    )

pub ports_spelled : (nodes : List Node) → AreNamed nodes → AreSpelled (module_ports nodes)
ports_spelled nodes h = spelled_by (map (port_shape nodes) (scalars_of nodes)) (map (port_shape nodes) (inputs_of nodes))
    (map (port_shape nodes) (outputs_of nodes))
    (plain_names nodes is_scalar 3 (omega arith) scalar_role h 0 (scalars_of nodes) (all_rising nodes is_scalar))
    (plain_names nodes is_input 1 (omega arith) input_role h 0 (inputs_of nodes) (all_rising nodes is_input))
    (plain_names nodes is_output 2 (omega arith) output_role h 0 (outputs_of nodes) (all_rising nodes is_output))

pub ports_apart : (nodes : List Node) → AreNamed nodes → AreApart (module_ports nodes)
ports_apart nodes h = apart_by (map (port_shape nodes) (scalars_of nodes)) (map (port_shape nodes) (inputs_of nodes))
    (map (port_shape nodes) (outputs_of nodes))
    (scalars_apart (map (port_shape nodes) (scalars_of nodes))
    (different_names nodes is_scalar 3 (omega arith) scalar_role h 0 (scalars_of nodes) (all_rising nodes is_scalar)))
    (inputs_apart (map (port_shape nodes) (inputs_of nodes))
    (plain_names nodes is_input 1 (omega arith) input_role h 0 (inputs_of nodes) (all_rising nodes is_input))
    (different_names nodes is_input 1 (omega arith) input_role h 0 (inputs_of nodes) (all_rising nodes is_input)))
    (outputs_apart (map (port_shape nodes) (outputs_of nodes))
    (plain_names nodes is_output 2 (omega arith) output_role h 0 (outputs_of nodes) (all_rising nodes is_output))
    (different_names nodes is_output 2 (omega arith) output_role h 0 (outputs_of nodes) (all_rising nodes is_output)))
