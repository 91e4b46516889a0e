-- The names of ports and nets: those of a kernel's module have at most 80 bytes, and so have those of
-- the top module but for its first ports, which have kernels' names in them.
use Rattle.std.proofs.Common.{◌≡◌, ◌∙◌, ℕ, suc, ◌+◌, ◌-◌, ◌*◌, ◌≤◌, ◌^◌, List, [], ◌∷◌, ◌++◌, map, Option, Some, None, length, refl, sym, ap, subst, arith, length-append, append_assoc}
use Rattle.std.specs.Prelude.{slice_get, codes, sum_by}
use Rattle.std.specs.List.{All, flat_map}
use Rattle.std.specs.Fmt.{decimal}
use Rattle.std.proofs.lemmas.Fmt.{length-decimal-le}
use Rattle.std.proofs.lemmas.List.{length-map, map-append}
use Rattle.std.proofs.lemmas.List.Sums.{sum_by-cons, sum_by-append, sum_by-le}
use Rattle.std.proofs.lemmas.List.Elements.{All-nil, All-cons, All-head, All-tail, All-append, All-map}
use Rattle.rtl_ir.specs.declared.design.Net.{Net}
use Rattle.rtl_ir.specs.Formed.{net_name}
use Rattle.rtl_ir.specs.Ports.{PortView, input_port, output_port, kernel_ports, host_input_ports, host_output_ports, shape_ports}
use Rattle.rtl_ir.specs.Ports as top_ports
use Rattle.rtl_build.specs.Wires.{wire_name}
use Rattle.stream_graph.specs.declared.kernel.Kernel.{Kernel}
use Rattle.stream_graph.specs.declared.node.Node.{Node}
use Rattle.stream_graph.specs.LookUps.{node_at}
use Rattle.stream_graph.proofs.NodeLemmas.{short_names}
use Rattle.kernel_control.specs.Ports.{inputs_of, outputs_of, scalars_of, port_shape, scalar_ports, module_ports}
use Rattle.link_fifo.specs.Netlist.{wire, wires_from}
use Rattle.manager_links.specs.declared.project.Project.{Project}
use Rattle.manager_links.specs.Rules.{kernel_names}
use Rattle.project_rtl.specs.Shapes.{scalar_shape, scalar_shapes, host_shape, shape_of, port_count}
use Rattle.project_rtl.specs.Blocks.{scalar_count, stream_count}
use Rattle.project_rtl.specs.Tops.{host_count, port_net, wire_widths, top_module}
use Rattle.project_rtl.specs.Designs.{kernel_weight}
use Rattle.project_sizes.proofs.Lists.{get_behind}
use Rattle.project_sizes.proofs.Counts.{length_kernels, length_scalars, length_ins, length_outs, length_wires, has_ports}
use Rattle.project_sizes.proofs.Limits.{few_wires}
use Rattle.verilog_size.specs.Names.{net_bytes}
use Rattle.verilog_size.proofs.Slices.{one_of}

-- the names of these ports have at most so many bytes each
abbrev pub AreShort : ℕ → List PortView → Type 0
AreShort most ps = All (λ (p : PortView). length p.name ≤ most) ps

-- the same of these nets
abbrev pub AreShortNets : ℕ → List Net → Type 0
AreShortNets most ns = All (λ (n : Net). length n.name ≤ most) ns

-- all bytes in the names of these ports
abbrev pub port_bytes : List PortView → ℕ
port_bytes ps = sum_by (λ (p : PortView). length p.name) ps

no_ports : (most : ℕ) → AreShort most []
no_ports most = All-nil (λ (p : PortView). length p.name ≤ most)

one_more : (most : ℕ) (p : PortView) (ps : List PortView) → length p.name ≤ most → AreShort most ps → AreShort most (p ∷ ps)
one_more most p ps h rest = All-cons (λ (p : PortView). length p.name ≤ most) p ps h rest

both_short : (most : ℕ) (ps qs : List PortView) → AreShort most ps → AreShort most qs → AreShort most (ps ++ qs)
both_short most ps qs h k = All-append (λ (p : PortView). length p.name ≤ most) ps qs h k

three_more : (most : ℕ) (a b c : PortView) (ps : List PortView) → length a.name ≤ most → length b.name ≤ most → length c.name ≤ most
    → AreShort most ps → AreShort most (a ∷ b ∷ c ∷ ps)
three_more most a b c ps x y z rest = one_more most a (b ∷ c ∷ ps) x (one_more most b (c ∷ ps) y (one_more most c ps z rest))

-- together they have at most so many bytes
bytes_up_to : (most count : ℕ) (ps : List PortView) → AreShort most ps → length ps ≡ count → port_bytes ps ≤ count * most
bytes_up_to most count ps h long =
    let e = ap (λ n. n * most) long in
    let sum = sum_by-le (λ (p : PortView). length p.name) most ps h in
    omega (arith, e, sum)

-- lists joined from the front are lists joined from behind
regroup : (a b c d : List PortView) → a ++ b ++ c ++ d ≡ a ++ (b ++ (c ++ d))
regroup a b c d = append_assoc (a ++ b) c d ∙ append_assoc a b (c ++ d)

-- ---- streams, of which each has a short name

abbrev HasShort : List ℕ × ℕ → Type 0
HasShort x = length x.0 ≤ 64

-- a name with something behind it
with_more : (name more : List ℕ) → length name ≤ 64 → length (name ++ more) ≤ 64 + length more
with_more name more h = omega (arith, length-append name more, h)

ins_short : (xs : List (List ℕ × ℕ)) → All HasShort xs → AreShort 80 (host_input_ports xs)
ins_short [] h = no_ports 80
ins_short (x ∷ xs) h =
    let short = All-head HasShort x xs h in
    let word = with_more x.0 (codes "$data") short in
    let valid = with_more x.0 (codes "$valid") short in
    let ready = with_more x.0 (codes "$ready") short in
    three_more 80 _ _ _ (host_input_ports xs) (omega (arith, word)) (omega (arith, valid)) (omega (arith, ready)) (ins_short xs (All-tail HasShort x xs h))

outs_short : (xs : List (List ℕ × ℕ)) → All HasShort xs → AreShort 80 (host_output_ports xs)
outs_short [] h = no_ports 80
outs_short (x ∷ xs) h =
    let short = All-head HasShort x xs h in
    let word = with_more x.0 (codes "$data") short in
    let valid = with_more x.0 (codes "$valid") short in
    let ready = with_more x.0 (codes "$ready") short in
    three_more 80 _ _ _ (host_output_ports xs) (omega (arith, word)) (omega (arith, valid)) (omega (arith, ready)) (outs_short xs (All-tail HasShort x xs h))

-- the ports of streams, and a last one
abbrev stream_ports : List (List ℕ × ℕ) → List (List ℕ × ℕ) → PortView → List PortView
stream_ports xs ys last = host_input_ports xs ++ (host_output_ports ys ++ last ∷ [])

streams_short : (xs ys : List (List ℕ × ℕ)) (last : PortView) → All HasShort xs → All HasShort ys → length last.name ≤ 80 → AreShort 80 (stream_ports xs ys last)
streams_short xs ys last h k l =
    both_short 80 (host_input_ports xs) (host_output_ports ys ++ last ∷ []) (ins_short xs h)
    (both_short 80 (host_output_ports ys) (last ∷ []) (outs_short ys k) (one_more 80 last [] l (no_ports 80)))

length_streams : (xs ys : List (List ℕ × ℕ)) (last : PortView) → length (stream_ports xs ys last) ≡ 3 * length xs + 3 * length ys + 1
length_streams xs ys last =
    let a = length-append (host_input_ports xs) (host_output_ports ys ++ last ∷ []) in
    let b = length-append (host_output_ports ys) (last ∷ []) in
    let c = length_ins xs in
    let d = length_outs ys in
    omega (arith, a, b, c, d)

-- ---- the ports of a kernel's module

length_own_scalars : (xs : List (List ℕ × ℕ)) → length (scalar_ports xs) ≡ length xs
length_own_scalars [] = refl
length_own_scalars (x ∷ xs) = ap suc (length_own_scalars xs)

own_scalars_short : (xs : List (List ℕ × ℕ)) → All HasShort xs → AreShort 80 (scalar_ports xs)
own_scalars_short [] h = no_ports 80
own_scalars_short (x ∷ xs) h =
    one_more 80 _ (scalar_ports xs) (omega (arith, All-head HasShort x xs h)) (own_scalars_short xs (All-tail HasShort x xs h))

module _ (kernel : Kernel) where
  abbrev nodes : List Node
  nodes = kernel.nodes

  abbrev ended : PortView
  ended = output_port (codes "ended$") 1

  abbrev own_scalars : List PortView
  own_scalars = scalar_ports (map (port_shape nodes) (scalars_of nodes))

  abbrev own_streams : List PortView
  own_streams = stream_ports (map (port_shape nodes) (inputs_of nodes)) (map (port_shape nodes) (outputs_of nodes)) ended

  shapes_short : (ns : List ℕ) → All HasShort (map (port_shape nodes) ns)
  shapes_short ns = All-map HasShort (port_shape nodes) ns (λ k d within. short_names nodes kernel.made _)

  own_ports_are : module_ports nodes
      ≡ input_port (codes "clk") 1 ∷ input_port (codes "reset") 1 ∷ input_port (codes "hold$") 1
      ∷ input_port (codes "ticks$") 48 ∷ (own_scalars ++ own_streams)
  own_ports_are =
      ap (λ (l : List PortView). input_port (codes "clk") 1 ∷ input_port (codes "reset") 1 ∷ input_port (codes "hold$") 1 ∷ input_port (codes "ticks$") 48 ∷ l)
      (regroup own_scalars (host_input_ports (map (port_shape nodes) (inputs_of nodes))) (host_output_ports (map (port_shape nodes) (outputs_of nodes))) (ended ∷ []))

  own_ports_short : AreShort 80 (module_ports nodes)
  own_ports_short =
      let all = own_scalars ++ own_streams in
      let rest =
      both_short 80 own_scalars own_streams (own_scalars_short (map (port_shape nodes) (scalars_of nodes)) (shapes_short (scalars_of nodes)))
      (streams_short (map (port_shape nodes) (inputs_of nodes)) (map (port_shape nodes) (outputs_of nodes)) ended (shapes_short (inputs_of nodes)) (shapes_short (outputs_of nodes)) (omega arith)) in
      subst (AreShort 80) (sym own_ports_are)
      (one_more 80 (input_port (codes "clk") 1) (input_port (codes "reset") 1 ∷ input_port (codes "hold$") 1 ∷ input_port (codes "ticks$") 48 ∷ all) (omega arith)
      (three_more 80 (input_port (codes "reset") 1) (input_port (codes "hold$") 1) (input_port (codes "ticks$") 48) all
      (omega arith) (omega arith) (omega arith) rest))

  length_own_ports : length (module_ports nodes) ≡ 5 + scalar_count kernel + 3 * stream_count kernel
  length_own_ports =
      let all = ap (λ (l : List PortView). length l) own_ports_are in
      let a = length-append own_scalars own_streams in
      let b = length_own_scalars (map (port_shape nodes) (scalars_of nodes)) in
      let c = length-map (scalars_of nodes) (port_shape nodes) in
      let d = length_streams (map (port_shape nodes) (inputs_of nodes)) (map (port_shape nodes) (outputs_of nodes)) ended in
      let e = length-map (inputs_of nodes) (port_shape nodes) in
      let f = length-map (outputs_of nodes) (port_shape nodes) in
      let g = length-append (inputs_of nodes) (outputs_of nodes) in
      omega (arith, all, a, b, c, d, e, f, g)

  -- all bytes in their names
  pub own_bytes : port_bytes (module_ports nodes) ≤ 400 * kernel_weight kernel
  own_bytes =
      let all = bytes_up_to 80 (length (module_ports nodes)) (module_ports nodes) own_ports_short refl in
      let count = length_own_ports in
      omega (arith, all, count)

-- ---- the first ports of the top module, which have kernels' names in them

-- how often a kernel's name stands in them, by its bytes
abbrev pub front_bytes : Kernel → ℕ
front_bytes kernel = (2 + scalar_count kernel) * length kernel.name

-- whether the kernels are held, and how many ticks they run
kernels_bytes : (kernels : List Kernel) → port_bytes (kernel_ports (kernel_names kernels)) ≡ sum_by (λ (kernel : Kernel). 11 + 2 * length kernel.name) kernels
kernels_bytes [] = refl
kernels_bytes (kernel ∷ kernels) =
    let hold = input_port (codes "hold$" ++ kernel.name) 1 in
    let ticks = input_port (codes "ticks$" ++ kernel.name) 48 in
    let more = kernel_ports (kernel_names kernels) in
    let bytes : PortView → ℕ = λ p. length p.name in
    let rest = kernels_bytes kernels in
    let a = sum_by-cons bytes hold (ticks ∷ more) in
    let b = sum_by-cons bytes ticks more in
    let c = sum_by-cons (λ (k : Kernel). 11 + 2 * length k.name) kernel kernels in
    omega (arith, rest, a, b, c)

-- the scalars of a kernel
scalars_bytes : (kernel : Kernel) (ns : List ℕ) → port_bytes (top_ports.scalar_ports (map (scalar_shape kernel) ns)) ≤ length ns * (72 + length kernel.name)
scalars_bytes kernel [] = omega arith
scalars_bytes kernel (n ∷ ns) =
    let a = length-append (kernel.name ++ codes "$") (node_at kernel.nodes n).name in
    let b = length-append kernel.name (codes "$") in
    let own = short_names kernel.nodes kernel.made n in
    let view = input_port (codes "scalar$" ++ kernel.name ++ codes "$" ++ (node_at kernel.nodes n).name) (scalar_shape kernel n).2 in
    let rest = scalars_bytes kernel ns in
    let sum = sum_by-cons (λ (p : PortView). length p.name) view (top_ports.scalar_ports (map (scalar_shape kernel) ns)) in
    omega (arith, a, b, own, rest, sum)

ports_append : (xs ys : List (List ℕ × List ℕ × ℕ)) → top_ports.scalar_ports (xs ++ ys) ≡ top_ports.scalar_ports xs ++ top_ports.scalar_ports ys
ports_append [] ys = refl
ports_append (x ∷ xs) ys = ap (λ (l : List PortView). input_port (codes "scalar$" ++ x.0 ++ codes "$" ++ x.1) x.2 ∷ l) (ports_append xs ys)

-- those of all kernels
all_scalars_bytes : (kernels : List Kernel)
    → port_bytes (top_ports.scalar_ports (flat_map scalar_shapes kernels)) ≤ sum_by (λ (kernel : Kernel). scalar_count kernel * (72 + length kernel.name)) kernels
all_scalars_bytes [] = omega arith
all_scalars_bytes (kernel ∷ kernels) =
    let here = scalars_bytes kernel (scalars_of kernel.nodes) in
    let rest = all_scalars_bytes kernels in
    let all = ap port_bytes (ports_append (scalar_shapes kernel) (flat_map scalar_shapes kernels)) in
    let both = sum_by-append (λ (p : PortView). length p.name) (top_ports.scalar_ports (scalar_shapes kernel)) (top_ports.scalar_ports (flat_map scalar_shapes kernels)) in
    let sum = sum_by-cons (λ (k : Kernel). scalar_count k * (72 + length k.name)) kernel kernels in
    omega (arith, here, rest, all, both, sum)

both_bytes : (kernels : List Kernel)
    → sum_by (λ (kernel : Kernel). 11 + 2 * length kernel.name) kernels + sum_by (λ (kernel : Kernel). scalar_count kernel * (72 + length kernel.name)) kernels
    ≤ sum_by front_bytes kernels + 80 * sum_by kernel_weight kernels
both_bytes [] = omega arith
both_bytes (kernel ∷ kernels) =
    let rest = both_bytes kernels in
    let a = sum_by-cons (λ (k : Kernel). 11 + 2 * length k.name) kernel kernels in
    let b = sum_by-cons (λ (k : Kernel). scalar_count k * (72 + length k.name)) kernel kernels in
    let c = sum_by-cons front_bytes kernel kernels in
    let d = sum_by-cons kernel_weight kernel kernels in
    omega (arith, rest, a, b, c, d)

-- ---- the ports of the top module

wires_short : (n : ℕ) (ws : List ℕ) → n + length ws ≤ 10 ^ 10 → AreShortNets 80 (wires_from n ws)
wires_short n [] few = All-nil (λ (x : Net). length x.name ≤ 80)
wires_short n (w ∷ ws) few =
    let digits : length (decimal n) ≤ 10 = length-decimal-le 10 n (omega arith) (omega (arith, few)) (omega (arith, few)) in
    All-cons (λ (x : Net). length x.name ≤ 80) (wire (wire_name n) w) (wires_from (n + 1) ws) (omega (arith, digits)) (wires_short (n + 1) ws (omega (arith, few)))

nets_of_short : (most : ℕ) (ps : List PortView) → AreShort most ps → AreShortNets most (map port_net ps)
nets_of_short most ps h = All-map (λ (n : Net). length n.name ≤ most) port_net ps h

-- the names of ports are those of their nets
nets_bytes : (ps : List PortView) → sum_by (λ (n : Net). length n.name) (map port_net ps) ≡ port_bytes ps
nets_bytes [] = refl
nets_bytes (p ∷ ps) =
    let rest = nets_bytes ps in
    let a = sum_by-cons (λ (n : Net). length n.name) (port_net p) (map port_net ps) in
    let b = sum_by-cons (λ (q : PortView). length q.name) p ps in
    omega (arith, rest, a, b)

module _ (project : Project) where
  abbrev kernels : List Kernel
  kernels = project.kernels

  -- the ports before the streams
  abbrev front_ports : List PortView
  front_ports =
      input_port (codes "clk") 1 ∷ input_port (codes "reset") 1
      ∷ (kernel_ports (shape_of project).kernels ++ top_ports.scalar_ports (shape_of project).scalars)

  abbrev done : PortView
  done = output_port (codes "done") 1

  abbrev rest_ports : List PortView
  rest_ports = stream_ports (shape_of project).inputs (shape_of project).outputs done

  -- all ports
  ports_are : shape_ports (shape_of project) ≡ front_ports ++ rest_ports
  ports_are =
      ap (λ (l : List PortView). input_port (codes "clk") 1 ∷ input_port (codes "reset") 1 ∷ l)
      (regroup (kernel_ports (shape_of project).kernels ++ top_ports.scalar_ports (shape_of project).scalars)
      (host_input_ports (shape_of project).inputs) (host_output_ports (shape_of project).outputs) (done ∷ []))

  pub length_front : length front_ports ≡ top_ports.first_input (shape_of project)
  length_front =
      let a = length-append (kernel_ports (shape_of project).kernels) (top_ports.scalar_ports (shape_of project).scalars) in
      let b = length_kernels (shape_of project).kernels in
      let c = length_scalars (shape_of project).scalars in
      omega (arith, a, b, c)

  length_rest : length rest_ports ≡ 3 * host_count project + 1
  length_rest =
      let a = length_streams (shape_of project).inputs (shape_of project).outputs done in
      let b = (has_ports project).inputs in
      let c = (has_ports project).outputs in
      omega (arith, a, b, c)

  rest_short : AreShort 80 rest_ports
  rest_short =
      streams_short (shape_of project).inputs (shape_of project).outputs done
      (All-map HasShort host_shape project.joints.inputs project.whole.inputs.short)
      (All-map HasShort host_shape project.joints.outputs project.whole.outputs.short)
      (omega arith)

  front_few : port_bytes front_ports ≤ 8 + sum_by front_bytes kernels + 80 * sum_by kernel_weight kernels
  front_few =
      let bytes : PortView → ℕ = λ p. length p.name in
      let ks = kernel_ports (shape_of project).kernels in
      let ss = top_ports.scalar_ports (shape_of project).scalars in
      let clock = input_port (codes "clk") 1 in
      let reset = input_port (codes "reset") 1 in
      let a = sum_by-cons bytes clock (reset ∷ (ks ++ ss)) in
      let b = sum_by-cons bytes reset (ks ++ ss) in
      let c = sum_by-append bytes ks ss in
      let d = kernels_bytes kernels in
      let e = all_scalars_bytes kernels in
      let f = both_bytes kernels in
      omega (arith, a, b, c, d, e, f)

  rest_few : port_bytes rest_ports ≤ 80 + 240 * host_count project
  rest_few =
      let all = bytes_up_to 80 (3 * host_count project + 1) rest_ports rest_short length_rest in
      omega (arith, all)

  -- all bytes in their names
  pub top_bytes : port_bytes (shape_ports (shape_of project)) ≤ 88 + sum_by front_bytes kernels + 80 * sum_by kernel_weight kernels + 240 * host_count project
  top_bytes =
      let a = front_few in
      let b = rest_few in
      let both = sum_by-append (λ (p : PortView). length p.name) front_ports rest_ports in
      let all = ap port_bytes ports_are in
      omega (arith, a, b, both, all)

  -- ---- its nets

  abbrev wires : List Net
  wires = wires_from (port_count project) (wire_widths project)

  -- those behind the first ports
  abbrev rest : List Net
  rest = map port_net rest_ports ++ wires

  nets_are : (top_module project).nets ≡ map port_net front_ports ++ rest
  nets_are =
      ap (λ (ps : List PortView). map port_net ps ++ wires) ports_are
      ∙ ap (λ l. l ++ wires) (map-append port_net front_ports rest_ports)
      ∙ append_assoc (map port_net front_ports) (map port_net rest_ports) wires

  all_wires_short : AreShortNets 80 wires
  all_wires_short = let few = few_wires project in wires_short (port_count project) (wire_widths project) (omega (arith, few))

  -- all bytes in the names of the nets
  pub net_names : sum_by (λ (n : Net). length n.name) (top_module project).nets
      ≤ 88 + sum_by front_bytes kernels + 80 * sum_by kernel_weight kernels + 240 * host_count project + 80 * length (wire_widths project)
  net_names =
      let bytes : Net → ℕ = λ n. length n.name in
      let ports = nets_bytes (shape_ports (shape_of project)) in
      let few = top_bytes in
      let own = sum_by-le bytes 80 wires all_wires_short in
      let count = length_wires (port_count project) (wire_widths project) in
      let both = sum_by-append bytes (map port_net (shape_ports (shape_of project))) wires in
      omega (arith, ports, few, own, count, both)

  -- the nets from the streams on
  pub net_short : (n : ℕ) → top_ports.first_input (shape_of project) ≤ n → net_bytes (top_module project) n ≤ 80
  net_short n h =
      let first = top_ports.first_input (shape_of project) in
      let at : n ≡ first + (n - first) = omega (arith, h) in
      let same =
      ap (λ k. slice_get (top_module project).nets k) at
      ∙ ap (λ l. slice_get l (first + (n - first))) nets_are
      ∙ get_behind (map port_net front_ports) rest first (n - first) (sym (length-map front_ports port_net ∙ length_front)) in
      subst (λ o. length (net_name o) ≤ 80) (sym same) (go (slice_get rest (n - first)) refl)
    where
      rest_nets_short : AreShortNets 80 rest
      rest_nets_short = All-append (λ (x : Net). length x.name ≤ 80) (map port_net rest_ports) wires (nets_of_short 80 rest_ports rest_short) all_wires_short

      go : (o : Option Net) → slice_get rest (n - top_ports.first_input (shape_of project)) ≡ o → length (net_name o) ≤ 80
      go None e = omega arith
      go (Some x) e = one_of (λ (y : Net). length y.name ≤ 80) rest rest_nets_short (n - top_ports.first_input (shape_of project)) x e
