-- The ports of a kernel that stands alone, each of which is joined to a stream of its name.
use Rattle.std.proofs.Common.{◌≡◌, ℕ, zero, suc, ◌+◌, ◌-◌, ◌<◌, ◌≤◌, Bool, true, false, List, [], ◌∷◌, length}
use Rattle.std.proofs.Common.{map, append-nil, refl, sym, ap, ◌∙◌, subst, arith, add-zero, lit<}
use Rattle.std.specs.Prelude.{Option, Some, None, slice_get, slice_index, if◌then◌else◌, IsSomeAnd, filter}
use Rattle.std.specs.List.{AllZip, Contains}
use Rattle.std.specs.Option.{option_map, option_and_then}
use Rattle.std.proofs.lemmas.List.Elements.{All-nil}
use Rattle.std.proofs.lemmas.Option.{same_Some, get_or_from_slice_get}
use Rattle.kernel_calls.specs.Laws.{is_port_name}
use Rattle.kernel_meaning.specs.declared.plan.Plan.{Plan}
use Rattle.stream_graph.specs.declared.kernel.Kernel.{Kernel}
use Rattle.stream_graph.specs.declared.node.Kind.{Kind}
use Rattle.stream_graph.specs.declared.node.Node.{Node}
use Rattle.stream_graph.specs.Kinds.{is_input, is_output}
use Rattle.stream_graph.specs.LookUps.{no_node}
use Rattle.stream_graph.proofs.NodeLemmas.{short_names}
use Rattle.manager_links.specs.declared.hosts.HostPort.{HostPort}
use Rattle.manager_links.specs.declared.links.LinkEnds.{LinkEnds}
use Rattle.manager_links.specs.declared.links.PortAt.{PortAt}
use Rattle.manager_links.specs.Hosts.{HasType, own_host, own_hosts, AreInputsBy, AreOutputsBy}
use Rattle.manager_links.specs.Joined.{IsLinkOf, is_link}
use Rattle.manager_links.specs.Lists.{AllDiffer}
use Rattle.manager_links.specs.Loops.{AreOrdered}
use Rattle.manager_links.specs.Plans.{IsAlone, AreKernelsOf}
use Rattle.manager_links.specs.Ports.{IsPort, type_of}
use Rattle.manager_links.specs.Projects.{AreAll, AreStreams, IsCarriedOut}
use Rattle.manager_links.specs.Terminals.{Terminal, Input, Output}
use Rattle.manager_links.proofs.JoinEnds.{in_map}
use Rattle.manager_links.proofs.OnlyPort.{TerminalsOf, input_terminals, output_terminals}
use Rattle.manager_links.proofs.Pieces.{in_more, in_image, differ_none, differ_cons}
use Rattle.manager_links.proofs.PortNames.{has_ports}
use Rattle.manager_links.proofs.Sides.{all_by, among}

-- a node has a stream, which is this one; the first of these nodes has this number
record IsOwn (is_kind : Kind → Bool) (first : ℕ) (nodes : List Node) (host : HostPort) : Type 0 where
  place : ℕ
  node : Node
  at : slice_get nodes place ≡ Some node
  kind : is_kind node.view.kind ≡ true
  is : own_host (first + place) node ≡ host

own_of : (is_kind : Kind → Bool) (first : ℕ) (nodes : List Node) (host : HostPort)
    → Contains (own_hosts is_kind first nodes) host → IsOwn is_kind first nodes host
own_of is_kind first [] host (k, lt, is) = absurd (omega arith)
own_of is_kind first (node ∷ nodes) host there =
    by_test (is_kind node.view.kind) refl there (λ rest. own_of is_kind (first + 1) nodes host rest)
  where
    later : IsOwn is_kind (first + 1) nodes host → IsOwn is_kind first (node ∷ nodes) host
    later own = record {
      place = suc own.place;
      node = own.node;
      at = own.at;
      kind = own.kind;
      is = ap (λ n. own_host n own.node) (let e : first + suc own.place ≡ first + 1 + own.place = omega arith in e) ∙ own.is;
    }

    by_test : (t : Bool) → is_kind node.view.kind ≡ t
        → Contains (if t then own_host first node ∷ own_hosts is_kind (first + 1) nodes
        else own_hosts is_kind (first + 1) nodes) host
        → (Contains (own_hosts is_kind (first + 1) nodes) host → IsOwn is_kind (first + 1) nodes host)
        → IsOwn is_kind first (node ∷ nodes) host
    by_test false kind there rest = later (rest there)
    by_test true kind (zero, lt, is) rest = record {
      place = 0;
      node = node;
      at = refl;
      kind = kind;
      is = ap (λ n. own_host n node) (add-zero first) ∙ is;
    }
    by_test true kind (suc k, lt, is) rest = later (rest (k, omega arith, is))

own_in : (is_kind : Kind → Bool) (first : ℕ) (nodes : List Node) (n : ℕ) (node : Node)
    → slice_get nodes n ≡ Some node → is_kind node.view.kind ≡ true
    → Contains (own_hosts is_kind first nodes) (own_host (first + n) node)
own_in is_kind first [] n node at kind = absurd (cc)
own_in is_kind first (one ∷ nodes) zero node at kind =
    let same = same_Some one node at in
    let host = own_host (first + 0) node in
    subst (λ t. Contains (if t then own_host first one ∷ own_hosts is_kind (first + 1) nodes
    else own_hosts is_kind (first + 1) nodes) host)
    (sym (ap (λ (x : Node). is_kind x.view.kind) same ∙ kind))
    (0, omega arith, ap (λ (x : Node). own_host first x) same ∙ ap (λ n. own_host n node) (sym (add-zero first)))
own_in is_kind first (one ∷ nodes) (suc n) node at kind =
    more (is_kind one.view.kind)
    (subst (λ m. Contains (own_hosts is_kind (first + 1) nodes) (own_host m node))
    (let e : first + 1 + n ≡ first + suc n = omega arith in e)
    (own_in is_kind (first + 1) nodes n node at kind))
  where
    host : HostPort
    host = own_host (first + suc n) node

    more : (t : Bool) → Contains (own_hosts is_kind (first + 1) nodes) host
        → Contains (if t then own_host first one ∷ own_hosts is_kind (first + 1) nodes
        else own_hosts is_kind (first + 1) nodes) host
    more true there = in_more host (own_host first one) (own_hosts is_kind (first + 1) nodes) there
    more false there = there

-- what streams of two nodes never share differs
own_differ : {A : Type 0} (of : HostPort → A) (is_kind : Kind → Bool) (first : ℕ) (nodes : List Node)
    → ((n m : ℕ) (a b : Node) → slice_get nodes n ≡ Some a → slice_get nodes m ≡ Some b
    → is_kind a.view.kind ≡ true → is_kind b.view.kind ≡ true
    → of (own_host (first + n) a) ≡ of (own_host (first + m) b) → n ≡ m)
    → AllDiffer (map of (own_hosts is_kind first nodes))
own_differ of is_kind first [] apart = differ_none
own_differ of is_kind first (node ∷ nodes) apart =
    by_test (is_kind node.view.kind) refl
    (own_differ of is_kind (first + 1) nodes (λ n m a b x y k l e.
    let same = apart (suc n) (suc m) a b x y k l
    (ap (λ i. of (own_host i a)) (let e : first + suc n ≡ first + 1 + n = omega arith in e) ∙ e
    ∙ ap (λ i. of (own_host i b)) (let e : first + 1 + m ≡ first + suc m = omega arith in e)) in
    omega arith))
  where
    by_test : (t : Bool) → is_kind node.view.kind ≡ t
        → AllDiffer (map of (own_hosts is_kind (first + 1) nodes))
        → AllDiffer (map of (if t then own_host first node ∷ own_hosts is_kind (first + 1) nodes
        else own_hosts is_kind (first + 1) nodes))
    by_test false kind rest = rest
    by_test true kind rest =
        differ_cons (of (own_host first node)) (map of (own_hosts is_kind (first + 1) nodes))
        (λ there.
        let image = in_image of (own_hosts is_kind (first + 1) nodes) (of (own_host first node)) there in
        let own = own_of is_kind (first + 1) nodes image.0 image.1 in
        let same = apart 0 (suc own.place) node own.node refl own.at kind own.kind
        (ap (λ i. of (own_host i node)) (add-zero first) ∙ sym image.2 ∙ ap of (sym own.is)
        ∙ ap (λ i. of (own_host i own.node)) (let e : first + 1 + own.place ≡ first + suc own.place = omega arith in e)) in
        omega arith)
        rest

-- ---- of the only kernel

abbrev port_of : HostPort → PortAt
port_of host = host.port

abbrev name_of : HostPort → List ℕ
name_of host = host.name

-- the node of a port of the only kernel
record Only (kernel : Kernel) (is_kind : Kind → Bool) (port : PortAt) : Type 0 where
  node : Node
  of : port.kernel ≡ 0
  at : slice_get kernel.nodes port.node ≡ Some node
  kind : is_kind node.view.kind ≡ true

only : (kernel : Kernel) (is_kind : Kind → Bool) (port : PortAt) → IsPort (kernel ∷ []) is_kind port
    → Only kernel is_kind port
only kernel is_kind port is = by_kernel port.kernel refl is
  where
    by_node : (o : Option Node) → slice_get kernel.nodes port.node ≡ o → port.kernel ≡ 0
        → IsSomeAnd o (λ (node : Node). is_kind node.view.kind ≡ true) → Only kernel is_kind port
    by_node None at of is = absurd is
    by_node (Some node) at of is = record { node = node; of = of; at = at; kind = is }

    by_kernel : (k : ℕ) → port.kernel ≡ k
        → IsSomeAnd (option_and_then (λ (k : Kernel). slice_get k.nodes port.node) (slice_get (kernel ∷ []) k))
        (λ (node : Node). is_kind node.view.kind ≡ true)
        → Only kernel is_kind port
    by_kernel zero of is = by_node (slice_get kernel.nodes port.node) refl of is
    by_kernel (suc k) of is = absurd is

pub own_all : (kernel : Kernel) (is_kind : Kind → Bool)
    → AreAll (kernel ∷ []) is_kind (map port_of (own_hosts is_kind 0 kernel.nodes))
own_all kernel is_kind = record {
  each = all_by (IsPort (kernel ∷ []) is_kind) (map port_of hosts) (λ port there.
      let image = in_image port_of hosts port there in
      let own = own_of is_kind 0 kernel.nodes image.0 image.1 in
      subst (IsPort (kernel ∷ []) is_kind) (ap port_of own.is ∙ image.2)
      (subst (λ n. IsPort (kernel ∷ []) is_kind (record { kernel = 0; node = n }))
      (let e : own.place ≡ 0 + own.place = omega arith in e)
      (subst (λ o. IsSomeAnd o (λ (node : Node). is_kind node.view.kind ≡ true)) (sym own.at) own.kind)));
  all = λ port is.
      let own = only kernel is_kind port is in
      let host = own_in is_kind 0 kernel.nodes port.node own.node own.at own.kind in
      let same : port_of (own_host (0 + port.node) own.node) ≡ port =
      λ i. record { kernel = sym own.of i; node = (let e : 0 + port.node ≡ port.node = omega arith in e) i } in
      among port (map port_of hosts)
      (subst (Contains (map port_of hosts)) same
      (in_map port_of hosts (own_host (0 + port.node) own.node) host));
  once = own_differ port_of is_kind 0 kernel.nodes (λ n m a b x y k l e.
      let same = ap (λ (port : PortAt). port.node) e in omega arith);
}
  where
    hosts : List HostPort
    hosts = own_hosts is_kind 0 kernel.nodes

pub own_streams : (kernel : Kernel) (is_kind : Kind → Bool) (end : ℕ → List ℕ → Terminal)
    → TerminalsOf is_kind end → AreStreams (kernel ∷ []) (own_hosts is_kind 0 kernel.nodes)
own_streams kernel is_kind end terminals = record {
  plain = all_by (λ (host : HostPort). is_port_name host.name ≡ true) hosts (λ host there.
      let own = own_of is_kind 0 kernel.nodes host there in
      subst (λ (h : HostPort). is_port_name h.name ≡ true) own.is
      ((has_ports kernel).plain 0 own.place own.node (end 0 own.node.name) own.at
      (terminals 0 own.node.view.kind own.node.name own.kind)));
  short = all_by (λ (host : HostPort). length host.name ≤ 64) hosts (λ host there.
      let own = own_of is_kind 0 kernel.nodes host there in
      subst (λ (h : HostPort). length h.name ≤ 64) own.is
      (subst (λ (node : Node). length node.name ≤ 64)
      (get_or_from_slice_get kernel.nodes own.place own.node no_node own.at)
      (short_names kernel.nodes kernel.made own.place)));
  differ = own_differ name_of is_kind 0 kernel.nodes (λ n m a b x y k l e.
      (has_ports kernel).differ 0 n m a b (end 0 b.name) x y
      (terminals 0 a.view.kind a.name k ∙ ap (λ name. Some (end 0 name)) e)
      (terminals 0 b.view.kind b.name l));
  typed = all_by (HasType (kernel ∷ [])) hosts (λ host there.
      let own = own_of is_kind 0 kernel.nodes host there in
      subst (HasType (kernel ∷ [])) own.is
      (ap (λ n. option_map (λ (node : Node). node.view.t) (slice_get kernel.nodes n))
      (let e : 0 + own.place ≡ own.place = omega arith in e)
      ∙ ap (option_map (λ (node : Node). node.view.t)) own.at));
}
  where
    hosts : List HostPort
    hosts = own_hosts is_kind 0 kernel.nodes

-- the only kernel in its place
one_ordered : AreOrdered 1 [] (0 ∷ []) (1 ∷ [])
one_ordered = record {
  size = refl;
  rising = All-nil (λ (link : LinkEnds). slice_index (1 ∷ []) link.from.kernel < slice_index (1 ∷ []) link.to.kernel);
  placed = placed;
  back = back;
  each = each;
  ranked = ranked;
}
  where
    placed : (k : ℕ) → k < 1 → 0 < slice_index (1 ∷ []) k
    placed zero lt = omega arith
    placed (suc k) lt = absurd (omega arith)

    back : (k : ℕ) → k < 1 → slice_index (0 ∷ []) (slice_index (1 ∷ []) k - 1) ≡ k
    back zero lt = refl
    back (suc k) lt = absurd (omega arith)

    each : (i : ℕ) → i < 1 → slice_index (0 ∷ []) i < 1
    each zero lt = omega arith
    each (suc i) lt = absurd (omega arith)

    ranked : (i : ℕ) → i < 1 → slice_index (1 ∷ []) (slice_index (0 ∷ []) i) ≡ i + 1
    ranked zero lt = refl
    ranked (suc i) lt = absurd (omega arith)

-- a plan of one kernel, joined to streams of its ports' names
carried_by : (plan : Plan) (kernel : Kernel) → plan.manager ≡ false → IsAlone plan
    → AreKernelsOf plan (kernel ∷ [])
    → IsCarriedOut plan (kernel ∷ []) (record {
      links = [];
      inputs = own_hosts is_input 0 kernel.nodes;
      outputs = own_hosts is_output 0 kernel.nodes;
      order = 0 ∷ [];
      ranks = 1 ∷ [];
    })
carried_by plan kernel manager alone named = record {
  project = record {
    named = named;
    differ = differ_cons kernel.name [] (λ there. let lt = there.1 in absurd (omega arith)) differ_none;
    few = record { some = omega arith; most = omega arith };
    links = subst (λ joins. AllZip (IsLinkOf (kernel ∷ [])) (filter is_link joins) []) (sym alone.no_joins) tt;
    count = lit< tt;
    types = All-nil (λ (link : LinkEnds). type_of (kernel ∷ []) link.from ≡ type_of (kernel ∷ []) link.to);
    feeds = own_all kernel is_input;
    gives = own_all kernel is_output;
    inputs = own_streams kernel is_input Input input_terminals;
    outputs = own_streams kernel is_output Output output_terminals;
    ordered = one_ordered;
  };
  from_cpu = subst (λ m. AreInputsBy m plan (kernel ∷ []) (own_hosts is_input 0 kernel.nodes)) (sym manager)
      (sym (append-nil (own_hosts is_input 0 kernel.nodes)));
  to_cpu = subst (λ m. AreOutputsBy m plan (kernel ∷ []) (own_hosts is_output 0 kernel.nodes)) (sym manager)
      (sym (append-nil (own_hosts is_output 0 kernel.nodes)));
  rules = λ other. absurd (cc (manager, other));
}

-- the kernels of a plan without a manager
pub carried_alone : (plan : Plan) (kernels : List Kernel) (kernel : Kernel) (links : List LinkEnds)
    (inputs outputs : List HostPort) (order ranks : List ℕ) → plan.manager ≡ false → IsAlone plan
    → AreKernelsOf plan kernels → length kernels ≡ 1 → slice_get kernels 0 ≡ Some kernel
    → links ≡ [] → inputs ≡ own_hosts is_input 0 kernel.nodes
    → outputs ≡ own_hosts is_output 0 kernel.nodes → order ≡ 0 ∷ [] → ranks ≡ 1 ∷ []
    → IsCarriedOut plan kernels
    (record { links = links; inputs = inputs; outputs = outputs; order = order; ranks = ranks })
carried_alone plan [] kernel links inputs outputs order ranks manager alone named one at unlinked from to o r =
    absurd (omega arith)
carried_alone plan (first ∷ []) kernel links inputs outputs order ranks manager alone named one at unlinked from to o r =
    let same = sym (same_Some first kernel at) in
    let fed = from ∙ ap (λ (k : Kernel). own_hosts is_input 0 k.nodes) same in
    let given = to ∙ ap (λ (k : Kernel). own_hosts is_output 0 k.nodes) same in
    subst (IsCarriedOut plan (first ∷ []))
    (λ i. record { links = sym unlinked i; inputs = sym fed i; outputs = sym given i; order = sym o i; ranks = sym r i })
    (carried_by plan first manager alone named)
carried_alone plan (first ∷ second ∷ kernels) kernel links inputs outputs order ranks manager alone named one at unlinked from to o r =
    absurd (omega arith)
