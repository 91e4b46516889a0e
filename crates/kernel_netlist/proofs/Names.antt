-- The names in a kernel's module.
use Rattle.std.proofs.Common.{◌≡◌, ◌∙◌, ℕ, ◌+◌, ◌<◌, ◌≤◌, ◌^◌, true, List, ◌++◌, Option, Some, None, length, get_or, refl, sym, ap, subst, arith, inl, inr, length-append}
use Rattle.std.specs.Prelude.{◌⊎◌, slice_get, codes}
use Rattle.std.specs.List.{All}
use Rattle.std.specs.Option.{option_map}
use Rattle.std.specs.Fmt.{decimal}
use Rattle.std.proofs.lemmas.Bool.{cases_lt}
use Rattle.std.proofs.lemmas.Fmt.{length-decimal-le}
use Rattle.std.proofs.lemmas.List.Elements.{All-nil}
use Rattle.std.proofs.lemmas.Option.{slice_get-get_or, slice_get-map, slice_get_within}
use Rattle.rtl_ir.specs.declared.design.Instance.{Instance}
use Rattle.rtl_ir.specs.declared.design.Mem.{Mem}
use Rattle.rtl_ir.specs.declared.design.Module.{Module}
use Rattle.rtl_ir.specs.declared.design.Net.{Net}
use Rattle.rtl_ir.specs.Formed.{net_name, name_of}
use Rattle.rtl_ir.specs.Ports.{PortView, port_view, ports_of}
use Rattle.rtl_delays.specs.Names.{memory_name}
use Rattle.rtl_delays.specs.Partial.{IsPartial, IsOwnName, OfWire, OfRegister, OfPosition}
use Rattle.stream_graph.specs.declared.kernel.Kernel.{Kernel}
use Rattle.stream_graph.specs.declared.node.Node.{Node}
use Rattle.stream_graph.specs.LookUps.{node_at}
use Rattle.kernel_control.specs.Ports.{module_ports}
use Rattle.kernel_control.specs.Refines.{Refines}
use Rattle.link_fifo.specs.TextNames.{HasTextNames, is_text_name}
use Rattle.link_fifo.proofs.TextNames.{numbered_text}
use Rattle.kernel_wiring.specs.Costs.{port_name, own_name}
use Rattle.kernel_netlist.proofs.Lists.{found, one_of}
use Rattle.kernel_netlist.proofs.Ports.{OfPorts, all_ports}

-- ---- what holds of the names of ports and of those that the module gives

module _ (nodes : List Node) (m : Module) (partial : IsPartial m)
    (ports : ports_of m ≡ module_ports nodes)
    (few_nets : length m.nets < 2 ^ 64) (few_mems : length m.mems < 2 ^ 64) where
  -- the name of a net of a port is that of the port
  of_port : (P : List ℕ → Type 0) → All (λ (p : PortView). P p.name) (module_ports nodes)
      → (k : ℕ) (x : Net) → k < length m.ports → slice_get m.nets k ≡ Some x → P x.name
  of_port P all k x h e =
      let port = found m.ports k h in
      let net = partial.ports k port.0 port.1 in
      let view : slice_get (ports_of m) k ≡ Some (port_view m port.0) =
      slice_get-map (port_view m) m.ports k ∙ ap (option_map (port_view m)) port.1 in
      let each = subst (All (λ (p : PortView). P p.name)) (sym ports) all in
      let own =
      one_of (λ (p : PortView). P p.name) (ports_of m) each k (port_view m port.0) view in
      subst P (ap net_name (ap (slice_get m.nets) net ∙ e)) own

  -- of the names of all nets
  pub of_nets : (P : List ℕ → Type 0) → All (λ (p : PortView). P p.name) (module_ports nodes)
      → ((k : ℕ) (name : List ℕ) → k < 2 ^ 64 → IsOwnName k name → P name)
      → All (λ (n : Net). P n.name) m.nets
  of_nets P all own k d h =
      by_place (get_or m.nets k d) (slice_get-get_or m.nets k d h) (cases_lt k (length m.ports))
    where
      by_place : (x : Net) → slice_get m.nets k ≡ Some x
          → (k < length m.ports) ⊎ (length m.ports ≤ k) → P x.name
      by_place x e (inl before) = of_port P all k x before e
      by_place x e (inr behind) =
          own k x.name (omega (arith, h, few_nets)) (partial.names k x behind e)

  -- of those of all memories
  pub of_mems : (P : List ℕ → Type 0) → ((k : ℕ) → k < 2 ^ 64 → P (memory_name k))
      → All (λ (k : Mem). P k.name) m.mems
  of_mems P own k d h =
      subst P (sym (partial.mems k (get_or m.mems k d) (slice_get-get_or m.mems k d h)).name)
      (own k (omega (arith, h, few_mems)))

-- ---- they are short

abbrev pub IsShort : List ℕ → Type 0
IsShort name = length name ≤ port_name

-- those of ports have few bytes beside the names of nodes
ports_short : (nodes : List Node) → ((n : ℕ) → length (node_at nodes n).name ≤ 64)
    → OfPorts (λ (p : PortView). IsShort p.name) nodes
ports_short nodes short = record {
  clock = omega arith;
  reset = omega arith;
  hold = omega arith;
  ticks = omega arith;
  scalar = λ n width. let own = short n in omega (arith, own);
  input = record {
    word = λ n width output. let own = with_more n (codes "$data") in omega (arith, own);
    valid = λ n width output. let own = with_more n (codes "$valid") in omega (arith, own);
    ready = λ n width output. let own = with_more n (codes "$ready") in omega (arith, own);
  };
  output = record {
    word = λ n width output. let own = with_more n (codes "$data") in omega (arith, own);
    valid = λ n width output. let own = with_more n (codes "$valid") in omega (arith, own);
    ready = λ n width output. let own = with_more n (codes "$ready") in omega (arith, own);
  };
  ended = omega arith;
}
  where
    with_more : (n : ℕ) (more : List ℕ) → length ((node_at nodes n).name ++ more) ≤ 64 + length more
    with_more n more = omega (arith, length-append (node_at nodes n).name more, short n)

digits_few : (k : ℕ) → k < 2 ^ 64 → length (decimal k) ≤ 20
digits_few k h = length-decimal-le 20 k (omega arith) (omega (arith, h)) h

own_short : (k : ℕ) (name : List ℕ) → k < 2 ^ 64 → IsOwnName k name → length name ≤ own_name
own_short k name h (OfWire e) =
    let digits = digits_few k h in
    let same = ap (λ (n : List ℕ). length n) e in
    omega (arith, digits, same)
own_short k name h (OfRegister e) =
    let digits = digits_few k h in
    let same = ap (λ (n : List ℕ). length n) e in
    omega (arith, digits, same)
own_short k name h (OfPosition e) =
    let same = ap (λ (n : List ℕ). length n) e in
    omega (arith, same)

pub nets_short : (nodes : List Node) (m : Module) → IsPartial m
    → ports_of m ≡ module_ports nodes → ((n : ℕ) → length (node_at nodes n).name ≤ 64)
    → length m.nets < 2 ^ 64 → length m.mems < 2 ^ 64
    → All (λ (n : Net). length n.name ≤ port_name) m.nets
nets_short nodes m partial ports short few_nets few_mems =
    of_nets nodes m partial ports few_nets few_mems IsShort
    (all_ports (λ (p : PortView). IsShort p.name) nodes (ports_short nodes short))
    (λ k name h own. let few = own_short k name h own in omega (arith, few))

-- those of nets that are no ports are shorter
pub own_names_short : (m : Module) → IsPartial m → length m.nets < 2 ^ 64
    → (n : ℕ) → length m.ports ≤ n → length (name_of m n) ≤ own_name
own_names_short m partial few n behind = go (slice_get m.nets n) refl
  where
    go : (o : Option Net) → slice_get m.nets n ≡ o → length (net_name o) ≤ own_name
    go None e = omega arith
    go (Some x) e =
        let lt = slice_get_within m.nets n x e in
        own_short n x.name (omega (arith, lt, few)) (partial.names n x behind e)

pub mems_short : (nodes : List Node) (m : Module) → IsPartial m
    → ports_of m ≡ module_ports nodes → length m.nets < 2 ^ 64 → length m.mems < 2 ^ 64
    → All (λ (k : Mem). length k.name ≤ own_name) m.mems
mems_short nodes m partial ports few_nets few_mems =
    of_mems nodes m partial ports few_nets few_mems (λ (name : List ℕ). length name ≤ own_name)
    (λ k h. let digits = digits_few k h in omega (arith, digits))

-- ---- they are such as a text has

abbrev pub IsOfText : List ℕ → Type 0
IsOfText name = is_text_name name ≡ true

ports_text : (nodes : List Node) → OfPorts (λ (p : PortView). IsOfText p.name) nodes
ports_text nodes = record {
  clock = refl;
  reset = refl;
  hold = refl;
  ticks = refl;
  scalar = λ n width. refl;
  input = record {
    word = λ n width output. refl;
    valid = λ n width output. refl;
    ready = λ n width output. refl;
  };
  output = record {
    word = λ n width output. refl;
    valid = λ n width output. refl;
    ready = λ n width output. refl;
  };
  ended = refl;
}

own_text : (k : ℕ) (name : List ℕ) → k < 2 ^ 64 → IsOwnName k name → IsOfText name
own_text k name h (OfWire e) = ap is_text_name e ∙ numbered_text 119 k refl h
own_text k name h (OfRegister e) = ap is_text_name e ∙ numbered_text 114 k refl h
own_text k name h (OfPosition e) = ap is_text_name e

pub names_text : (kernel : Kernel) (times : ℕ → ℕ) (m : Module) → IsPartial m
    → Refines m kernel times → length m.nets < 2 ^ 64 → length m.mems < 2 ^ 64 → HasTextNames m
names_text kernel times m partial refines few_nets few_mems = record {
  own = ap is_text_name refines.name;
  nets =
      of_nets kernel.nodes m partial refines.ports few_nets few_mems IsOfText
      (all_ports (λ (p : PortView). IsOfText p.name) kernel.nodes (ports_text kernel.nodes)) own_text;
  mems =
      of_mems kernel.nodes m partial refines.ports few_nets few_mems IsOfText
      (λ k h. numbered_text 109 k refl h);
  instances =
      subst (All (λ (i : Instance). is_text_name i.name ≡ true)) (sym refines.instances)
      (All-nil (λ (i : Instance). is_text_name i.name ≡ true));
}
