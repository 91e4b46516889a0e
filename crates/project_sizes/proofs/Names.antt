-- How many bytes the names in the design of a project have.
use Rattle.std.proofs.Common.{◌≡◌, ◌∙◌, ℕ, zero, suc, ◌+◌, ◌-◌, ◌*◌, ◌<◌, ◌≤◌, ◌^◌, List, [], ◌∷◌, ◌++◌, map, Option, Some, length, refl, sym, ap, subst, arith}
use Rattle.std.proofs.lemmas.List.{length-map}
use Rattle.std.specs.Prelude.{slice_get, codes, sum_by}
use Rattle.std.specs.List.{All}
use Rattle.std.specs.Fmt.{decimal}
use Rattle.std.proofs.lemmas.Fmt.{length-decimal-le}
use Rattle.std.proofs.lemmas.List.Elements.{All-nil, All-cons, All-head, All-tail, All-append}
use Rattle.std.proofs.lemmas.List.Sums.{sum_by-cons, sum_by-append, sum_by-le}
use Rattle.std.proofs.lemmas.Option.{same_Some, slice_get_within}
use Rattle.rtl_ir.specs.declared.design.Net.{Net}
use Rattle.rtl_ir.specs.declared.design.Instance.{Instance}
use Rattle.rtl_ir.specs.declared.design.Module.{Module}
use Rattle.rtl_ir.specs.declared.design.Design.{Design}
use Rattle.rtl_ir.specs.declared.design.Expr.TheVariants as exprs
use Rattle.rtl_ir.specs.declared.design.Sign.TheVariants.{And}
use Rattle.rtl_ir.specs.Ports.{PortView, ports_of, first_input, first_output, done_port}
use Rattle.stream_graph.specs.declared.kernel.Kernel.{Kernel}
use Rattle.kernel_control.specs.Ports.{module_ports}
use Rattle.rtl_delays.proofs.Lists.{get_within}
use Rattle.link_fifo.specs.Netlist.{gets}
use Rattle.link_fifo.specs.Fifo.{IsFifoModule}
use Rattle.manager_links.specs.declared.hosts.HostPort.{HostPort}
use Rattle.manager_links.specs.declared.links.LinkEnds.{LinkEnds}
use Rattle.manager_links.specs.declared.links.Links.{Links}
use Rattle.manager_links.specs.declared.project.Project.{Project}
use Rattle.project_rtl.specs.Shapes.{shape_of}
use Rattle.project_rtl.specs.Blocks.{first_net, stream_net, ended_net}
use Rattle.project_rtl.specs.Tops.{range, instance, fifo_nets, kernel_nets, input_instances, output_instances, link_instances}
use Rattle.project_rtl.specs.Tops.{kernel_instances, host_count, fifo_count, empty_assigns, ended_assigns, valid_nets, ended_nets, top_module}
use Rattle.project_rtl.specs.Projects.{Queue, fifo_name, queues_of, AreFifos, IsProjectOf}
use Rattle.project_rtl.specs.Designs.{kernel_weight, part_weight, kernel_bytes}
use Rattle.project_sizes.proofs.Lists.{length_range}
use Rattle.project_sizes.proofs.Counts.{weights, block_sizes, count_wires, count_queues}
use Rattle.project_sizes.proofs.Limits.{few_fifos}
use Rattle.project_sizes.proofs.Facts.{has_shape, count_fifos, inner_at}
use Rattle.project_sizes.proofs.Stored.{IsLeaf}
use Rattle.project_sizes.proofs.PortNames.{port_bytes, own_bytes, front_bytes, top_bytes, net_names, net_short}
use Rattle.project_sizes.proofs.KernelNets.{kernel_net_names}
use Rattle.project_sizes.proofs.Sizes.{fifo_port_count, links, kernels, sum_instances}
use Rattle.verilog_size.specs.Names.{net_bytes, assign_names, port_names, instance_names, inner_names, module_names, design_names}
use Rattle.verilog_size.proofs.Names.{names_few}
use Rattle.verilog_size.proofs.Slices.{found}

-- ---- a FIFO

-- the names of its ports are short
fifo_ports_short : (name : List ℕ) (width depth : ℕ) (f : Module) → IsFifoModule name width depth f → port_names f ≤ 60
fifo_ports_short name width depth f is =
    let e = ap (λ l. sum_by (λ (p : PortView). length p.name) l) is.ports in
    omega (arith, e)

-- the names in it
fifo_names : (modules : List Module) (name : List ℕ) (width depth : ℕ) (f : Module) → IsFifoModule name width depth f → length name ≤ 25
    → module_names modules f ≤ 6000
fifo_names modules name width depth f is few =
    let ports = fifo_port_count name width depth f is in
    let nets = is.few in
    let mems = is.few_mems in
    let none = ap (λ (l : List Instance). sum_by (λ (i : Instance). instance_names f i (slice_get modules i.«module»)) l) is.no_instances in
    let own = ap (λ (n : List ℕ). length n) is.named in
    let inner = names_few (record { modules = [] }) [] f 16 (is.formed []) (is.sound (record { modules = [] })) (record { nets = is.short_nets; mems = is.short_mems }) in
    omega (arith, ports, nets, mems, none, own, inner, few)

-- its own name
fifo_name_short : (number : ℕ) → number < 10 ^ 10 → length (fifo_name number) ≤ 25
fifo_name_short number h =
    let digits : length (decimal number) ≤ 10 = length-decimal-le 10 number (omega arith) h (omega (arith, h)) in
    omega (arith, digits)

fifos_names : (modules : List Module) (number : ℕ) (queues : List Queue) (fifos : List Module) → AreFifos number queues fifos
    → number + length queues ≤ 10 ^ 10 → sum_by (module_names modules) fifos ≤ 6000 * length queues
fifos_names modules number [] [] h few = omega arith
fifos_names modules number [] (m ∷ ms) h few = absurd h
fifos_names modules number (q ∷ queues) [] h few = absurd h
fifos_names modules number (q ∷ queues) (m ∷ ms) h few =
    let here = fifo_names modules (fifo_name number) _ _ m h.0 (fifo_name_short number (omega (arith, few))) in
    let rest = fifos_names modules (number + 1) queues ms h.1 (omega (arith, few)) in
    let sum = sum_by-cons (module_names modules) m ms in
    omega (arith, here, rest, sum)

-- a FIFO whose name and whose ports' names are short
record IsShortFifo (found : Option Module) : Type 0 where
  fifo : Module
  at : found ≡ Some fifo
  own : length fifo.name ≤ 25
  ports : port_names fifo ≤ 60

short_fifos : (number : ℕ) (queues : List Queue) (fifos : List Module) (k : ℕ) → AreFifos number queues fifos → number + length queues ≤ 10 ^ 10
    → k < length fifos → IsShortFifo (slice_get fifos k)
short_fifos number [] [] k h few lt = absurd (omega (arith, lt))
short_fifos number [] (m ∷ ms) k h few lt = absurd h
short_fifos number (q ∷ queues) [] k h few lt = absurd h
short_fifos number (q ∷ queues) (m ∷ ms) zero h few lt =
    let name = fifo_name_short number (omega (arith, few)) in
    let named = ap (λ (n : List ℕ). length n) h.0.named in
    record { fifo = m; at = refl; own = omega (arith, name, named); ports = fifo_ports_short _ _ _ m h.0 }
short_fifos number (q ∷ queues) (m ∷ ms) (suc k) h few lt = short_fifos (number + 1) queues ms k h.1 (omega (arith, few)) (omega (arith, lt))

-- ---- a kernel's module

-- it has the kernel's name and ports, and no instances
pub record IsInner (kernel : Kernel) (m : Module) : Type 0 where
  pub named : m.name ≡ codes "kernel$" ++ kernel.name
  pub ports : ports_of m ≡ module_ports kernel.nodes
  pub leaf : IsLeaf m

-- the names in it
inner_bytes : (modules : List Module) (kernel : Kernel) (m : Module) → IsInner kernel m → module_names modules m ≤ inner_names m + 7 + length kernel.name
inner_bytes modules kernel m is =
    let own = ap (λ (n : List ℕ). length n) is.named in
    let alone = ap (λ (l : List Instance). sum_by (λ (i : Instance). instance_names m i (slice_get modules i.«module»)) l) is.leaf in
    omega (arith, own, alone)

-- so it is with the kernels' modules in their order
abbrev pub AreInner : List Kernel → List Module → Type 0
AreInner kernels inners = (k : ℕ) (m : Module) → slice_get inners k ≡ Some m → (kernel : Kernel) × (slice_get kernels k ≡ Some kernel) × IsInner kernel m

inners_bytes : (modules : List Module) (kernels : List Kernel) (inners : List Module) → length inners ≡ length kernels → AreInner kernels inners
    → sum_by (module_names modules) inners ≤ sum_by inner_names inners + 7 * length kernels + sum_by (λ (kernel : Kernel). length kernel.name) kernels
inners_bytes modules [] [] long are = omega arith
inners_bytes modules [] (m ∷ inners) long are = absurd (omega (arith, long))
inners_bytes modules (x ∷ kernels) [] long are = absurd (omega (arith, long))
inners_bytes modules (x ∷ kernels) (m ∷ inners) long are =
    let own = are 0 m refl in
    let same : own.0 ≡ x = let e = own.1 in cc in
    let here = inner_bytes modules x m (subst (λ (k : Kernel). IsInner k m) same own.2) in
    let rest = inners_bytes modules kernels inners (omega (arith, long)) (λ k. are (suc k)) in
    let a = sum_by-cons (module_names modules) m inners in
    let b = sum_by-cons inner_names m inners in
    let c = sum_by-cons (λ (kernel : Kernel). length kernel.name) x kernels in
    omega (arith, here, rest, a, b, c)

-- ---- the top module

module _ (project : Project) where
  abbrev top : Module
  top = top_module project

  abbrev late : ℕ → Type 0
  late n = first_input (shape_of project) ≤ n

  -- a net from the streams on
  short : (n : ℕ) → late n → net_bytes top n ≤ 80
  short n h = net_short project n h

  short_range : (from count : ℕ) → late from → All (λ n. net_bytes top n ≤ 80) (range from count)
  short_range from zero h = All-nil (λ n. net_bytes top n ≤ 80)
  short_range from (suc count) h =
      All-cons (λ n. net_bytes top n ≤ 80) from (range (from + 1) count) (short from h) (short_range (from + 1) count (omega (arith, h)))

  -- the clock and the reset
  first_two : All (λ n. net_bytes top n ≤ 80) (range 0 2)
  first_two =
      let P : ℕ → Type 0 = λ n. net_bytes top n ≤ 80 in
      All-cons P 0 (1 ∷ []) (omega arith) (All-cons P 1 [] (omega arith) (All-nil P))

  -- the nets of a FIFO
  eight_nets : (a b : ℕ) → late a → late b → sum_by (net_bytes top) (fifo_nets a b) ≤ 640
  eight_nets a b h k =
      let P : ℕ → Type 0 = λ n. net_bytes top n ≤ 80 in
      sum_by-le (net_bytes top) 80 (fifo_nets a b)
      (All-append P (range 0 2 ++ range a 3) (range b 3) (All-append P (range 0 2) (range a 3) first_two (short_range a 3 h)) (short_range b 3 k))

  -- those of blocks
  late_stream : (host : HostPort) → late (stream_net project host.port)
  late_stream host = omega arith

  -- ---- its instances

  -- an instance of a FIFO, whose own name is short
  fifo_part : (name nets : List ℕ) (of : ℕ) (found : Option Module) → IsShortFifo found → length name ≤ 80 → sum_by (net_bytes top) nets ≤ 640
      → instance_names top (instance of name nets) found ≤ 805
  fifo_part name nets of found is few sum =
      let own = is.own in
      let ports = is.ports in
      let e = ap (λ o. instance_names top (instance of name nets) o) is.at in
      omega (arith, own, ports, e, few, sum)

  module _ (modules : List Module) (fifo_at : (k : ℕ) → k < fifo_count project → IsShortFifo (slice_get modules k)) where
    abbrev part_names : Instance → ℕ
    part_names i = instance_names top i (slice_get modules i.«module»)

    ins_names : (of port : ℕ) (hosts : List HostPort) → All (λ (host : HostPort). length host.name ≤ 64) hosts → of + length hosts ≤ fifo_count project → late port
        → sum_by part_names (input_instances project of port hosts) ≤ 805 * length hosts
    ins_names of port [] named few h = omega arith
    ins_names of port (x ∷ hosts) named few h =
        let i = instance of (codes "fifo$in$" ++ x.name) (fifo_nets port (stream_net project x.port)) in
        let own = All-head (λ (host : HostPort). length host.name ≤ 64) x hosts named in
        let here = fifo_part i.name i.nets of (slice_get modules of) (fifo_at of (omega (arith, few))) (omega (arith, own)) (eight_nets port (stream_net project x.port) h (late_stream x)) in
        let rest = ins_names (of + 1) (port + 3) hosts (All-tail (λ (host : HostPort). length host.name ≤ 64) x hosts named) (omega (arith, few)) (omega (arith, h)) in
        let sum = sum_by-cons part_names i (input_instances project (of + 1) (port + 3) hosts) in
        omega (arith, here, rest, sum)

    outs_names : (of port : ℕ) (hosts : List HostPort) → All (λ (host : HostPort). length host.name ≤ 64) hosts → of + length hosts ≤ fifo_count project → late port
        → sum_by part_names (output_instances project of port hosts) ≤ 805 * length hosts
    outs_names of port [] named few h = omega arith
    outs_names of port (x ∷ hosts) named few h =
        let i = instance of (codes "fifo$out$" ++ x.name) (fifo_nets (stream_net project x.port) port) in
        let own = All-head (λ (host : HostPort). length host.name ≤ 64) x hosts named in
        let here = fifo_part i.name i.nets of (slice_get modules of) (fifo_at of (omega (arith, few))) (omega (arith, own)) (eight_nets (stream_net project x.port) port (late_stream x) h) in
        let rest = outs_names (of + 1) (port + 3) hosts (All-tail (λ (host : HostPort). length host.name ≤ 64) x hosts named) (omega (arith, few)) (omega (arith, h)) in
        let sum = sum_by-cons part_names i (output_instances project (of + 1) (port + 3) hosts) in
        omega (arith, here, rest, sum)

    links_names : (of number : ℕ) (links : List LinkEnds) → number + length links ≤ 10 ^ 10 → of + length links ≤ fifo_count project
        → sum_by part_names (link_instances project of number links) ≤ 805 * length links
    links_names of number [] low few = omega arith
    links_names of number (x ∷ links) low few =
        let i = instance of (codes "fifo$link$" ++ decimal number) (fifo_nets (stream_net project x.from) (stream_net project x.to)) in
        let digits : length (decimal number) ≤ 10 = length-decimal-le 10 number (omega arith) (omega (arith, low)) (omega (arith, low)) in
        let here = fifo_part i.name i.nets of (slice_get modules of) (fifo_at of (omega (arith, few))) (omega (arith, digits))
        (eight_nets (stream_net project x.from) (stream_net project x.to) (omega arith) (omega arith)) in
        let rest = links_names (of + 1) (number + 1) links (omega (arith, low)) (omega (arith, few)) in
        let sum = sum_by-cons part_names i (link_instances project (of + 1) (number + 1) links) in
        omega (arith, here, rest, sum)

    -- the instance of a kernel
    kernel_part : (kernel : Kernel) (m : Module) (name nets : List ℕ) (of : ℕ) → slice_get modules of ≡ Some m → IsInner kernel m → name ≡ codes "kernel$" ++ kernel.name
        → part_names (instance of name nets) ≤ 14 + 2 * length kernel.name + 400 * kernel_weight kernel + sum_by (net_bytes top) nets
    kernel_part kernel m name nets of at is same =
        let own = ap (λ (n : List ℕ). length n) is.named in
        let other = ap (λ (n : List ℕ). length n) same in
        let e = ap (λ o. instance_names top (instance of name nets) o) at in
        let f = ap port_bytes is.ports in
        let inner = own_bytes kernel in
        omega (arith, own, other, e, f, inner)

    kernels_names : (of k : ℕ) (kernels : List Kernel) → ((j : ℕ) (kernel : Kernel) → slice_get kernels j ≡ Some kernel → (m : Module) × (slice_get modules (of + j) ≡ Some m) × IsInner kernel m)
        → sum_by part_names (kernel_instances project of k kernels)
        ≤ 2 * sum_by (λ (kernel : Kernel). length kernel.name) kernels + 414 * sum_by kernel_weight kernels
        + sum_by (λ (i : Instance). sum_by (net_bytes top) i.nets) (kernel_instances project of k kernels)
    kernels_names of k [] inner = omega arith
    kernels_names of k (x ∷ kernels) inner =
        let i = instance of (codes "kernel$" ++ x.name) (kernel_nets project k x) in
        let more = kernel_instances project (of + 1) (k + 1) kernels in
        let own = inner 0 x refl in
        let z : of ≡ of + 0 = omega arith in
        let here = kernel_part x own.0 i.name i.nets of (ap (λ n. slice_get modules n) z ∙ own.1) own.2 refl in
        let rest = kernels_names (of + 1) (k + 1) kernels
        (λ j y e. let m = inner (suc j) y e in let f : of + 1 + j ≡ of + suc j = omega arith in (m.0, ap (λ n. slice_get modules n) f ∙ m.1, m.2)) in
        let a = sum_by-cons part_names i more in
        let b = sum_by-cons (λ (j : Instance). sum_by (net_bytes top) j.nets) i more in
        let c = sum_by-cons (λ (kernel : Kernel). length kernel.name) x kernels in
        let d = sum_by-cons kernel_weight x kernels in
        omega (arith, here, rest, a, b, c, d)

    -- all instances
    parts_names : ((j : ℕ) (kernel : Kernel) → slice_get project.kernels j ≡ Some kernel → (m : Module) × (slice_get modules (fifo_count project + j) ≡ Some m) × IsInner kernel m)
        → sum_by part_names top.instances
        ≤ 805 * fifo_count project + 2 * sum_by (λ (kernel : Kernel). length kernel.name) project.kernels + 422 * sum_by kernel_weight project.kernels
        + sum_by (λ (x : Net). length x.name) top.nets
    parts_names inner =
        let fifos = few_fifos project in
        let weight = weights project.kernels in
        let a = ins_names 0 (first_input (shape_of project)) project.joints.inputs project.whole.inputs.short (omega arith) (omega arith) in
        let b = outs_names (length project.joints.inputs) (first_output (shape_of project)) project.joints.outputs project.whole.outputs.short (omega arith) (omega arith) in
        let c = links_names (host_count project) 0 project.joints.links (omega (arith, fifos)) (omega arith) in
        let e = kernels_names (fifo_count project) 0 project.kernels inner in
        let nets = kernel_net_names project (fifo_count project) in
        let all = sum_instances project part_names in
        omega (arith, weight, a, b, c, e, nets, all)

  -- ---- its assignments

  empty_names : (done next last : ℕ) (valids : List ℕ) → late done → late next → late last → All late valids
      → sum_by (assign_names top) (empty_assigns done next last valids) ≤ 160 + 400 * length valids
  empty_names done next last [] a b c d =
      let of_done = short done a in
      let of_last = short last c in
      omega (arith, of_done, of_last)
  empty_names done next last (valid ∷ valids) a b c d =
      let first = gets next (exprs.Not valid) in
      let second = gets (next + 1) (exprs.Binary And last next) in
      let more = empty_assigns done (next + 2) (next + 1) valids in
      let of_next = short next b in
      let of_after = short (next + 1) (omega (arith, b)) in
      let of_last = short last c in
      let of_valid = short valid (All-head late valid valids d) in
      let rest = empty_names done (next + 2) (next + 1) valids a (omega (arith, b)) (omega (arith, b)) (All-tail late valid valids d) in
      let sum = sum_by-cons (assign_names top) first (second ∷ more) in
      let sum_more = sum_by-cons (assign_names top) second more in
      omega (arith, of_next, of_after, of_last, of_valid, rest, sum, sum_more)

  ended_names : (done next last : ℕ) (ends valids : List ℕ) → late done → late next → late last → All late ends → All late valids
      → sum_by (assign_names top) (ended_assigns done next last ends valids) ≤ 160 + 240 * length ends + 400 * length valids
  ended_names done next last [] valids a b c d e = let rest = empty_names done next last valids a b c e in omega (arith, rest)
  ended_names done next last (ended ∷ ends) valids a b c d e =
      let first = gets next (exprs.Binary And last ended) in
      let of_next = short next b in
      let of_last = short last c in
      let of_ended = short ended (All-head late ended ends d) in
      let rest = ended_names done (next + 1) next ends valids a (omega (arith, b)) b (All-tail late ended ends d) e in
      let sum = sum_by-cons (assign_names top) first (ended_assigns done (next + 1) next ends valids) in
      omega (arith, of_next, of_last, of_ended, rest, sum)

  late_valids : (port : ℕ) (hosts : List HostPort) → late port → All late (valid_nets port hosts)
  late_valids port [] h = All-nil late
  late_valids port (x ∷ hosts) h = All-cons late (port + 1) (valid_nets (port + 3) hosts) (omega (arith, h)) (late_valids (port + 3) hosts (omega (arith, h)))

  length_valids : (port : ℕ) (hosts : List HostPort) → length (valid_nets port hosts) ≡ length hosts
  length_valids port [] = refl
  length_valids port (x ∷ hosts) = ap suc (length_valids (port + 3) hosts)

  late_ends : (ks : List ℕ) → All late (map (ended_net project) ks)
  late_ends [] = All-nil late
  late_ends (k ∷ ks) = All-cons late (ended_net project k) (map (ended_net project) ks) (omega arith) (late_ends ks)

  assigns_names : sum_by (assign_names top) top.assigns ≤ 160 + 240 * length project.kernels + 400 * length project.joints.outputs
  assigns_names =
      let n = length project.kernels - 1 in
      let all = ended_names (done_port (shape_of project)) (first_net project (length project.kernels)) (ended_net project 0) (ended_nets project)
      (valid_nets (first_output (shape_of project)) project.joints.outputs) (omega arith) (omega arith) (omega arith) (late_ends (range 1 n))
      (late_valids (first_output (shape_of project)) project.joints.outputs (omega arith)) in
      let ends = length-map (range 1 n) (ended_net project) in
      let count = length_range 1 n in
      let valids = length_valids (first_output (shape_of project)) project.joints.outputs in
      omega (arith, all, ends, count, valids)

  -- ---- all of it

  -- all names of the top module but those of its instances
  top_inner_names : inner_names top
      ≤ 400 + 2 * sum_by front_bytes project.kernels + 1000 * sum_by kernel_weight project.kernels + 1200 * host_count project
  top_inner_names =
      let ports = ap port_bytes (has_shape project) in
      let of_ports = top_bytes project in
      let of_nets = net_names project in
      let of_done = assigns_names in
      let weight = weights project.kernels in
      let blocks = block_sizes project.kernels in
      let wires = count_wires project in
      omega (arith, ports, of_ports, of_nets, of_done, weight, blocks, wires)

-- the names of kernels, as often as they stand in the design
kernels_few : (kernels : List Kernel) → 3 * sum_by front_bytes kernels + 3 * sum_by (λ (kernel : Kernel). length kernel.name) kernels ≤ sum_by kernel_bytes kernels
kernels_few [] = omega arith
kernels_few (x ∷ kernels) =
    let rest = kernels_few kernels in
    let a = sum_by-cons front_bytes x kernels in
    let b = sum_by-cons (λ (kernel : Kernel). length kernel.name) x kernels in
    let c = sum_by-cons kernel_bytes x kernels in
    omega (arith, rest, a, b, c)

module _ (project : Project) (made : Links) (inners : List Module) (d : Design) (is : IsProjectOf project made inners d) (are : AreInner project.kernels inners) where
  few_numbers : 0 + length (queues_of project made) ≤ 10 ^ 10
  few_numbers =
      let fifos = few_fifos project in
      let count = count_queues project made is.links in
      omega (arith, fifos, count)

  short_fifo : (k : ℕ) → k < fifo_count project → IsShortFifo (slice_get d.modules k)
  short_fifo k h =
      let many = count_fifos project made inners d is in
      let found = short_fifos 0 (queues_of project made) is.fifos k is.are_fifos few_numbers (omega (arith, h, many)) in
      record {
        fifo = found.fifo;
        at =
            ap (λ (l : List Module). slice_get l k) is.modules
            ∙ get_within is.fifos (inners ++ top project ∷ []) k (omega (arith, h, many))
            ∙ found.at;
        own = found.own;
        ports = found.ports;
      }

  -- the module of each kernel
  inner_of : (k : ℕ) (kernel : Kernel) → slice_get project.kernels k ≡ Some kernel → (m : Module) × (slice_get d.modules (fifo_count project + k) ≡ Some m) × IsInner kernel m
  inner_of k kernel at =
      let lt = slice_get_within project.kernels k kernel at in
      let count = is.kernels in
      let one = found inners k (omega (arith, lt, count)) in
      let own = are k one.0 one.1 in
      let same : own.0 ≡ kernel = same_Some own.0 kernel (sym own.1 ∙ at) in
      (one.0, inner_at project made inners d is k one.0 one.1, subst (λ (x : Kernel). IsInner x one.0) same own.2)

  pub names : design_names d ≤ sum_by inner_names inners + sum_by kernel_bytes project.kernels + 2 ^ 14 * (1 + part_weight project)
  names =
      let all = ap (λ l. sum_by (module_names d.modules) l) is.modules in
      let a = sum_by-append (module_names d.modules) is.fifos (inners ++ top project ∷ []) in
      let b = sum_by-append (module_names d.modules) inners (top project ∷ []) in
      let c = sum_by-cons (module_names d.modules) (top project) [] in
      let fifos = fifos_names d.modules 0 (queues_of project made) is.fifos is.are_fifos few_numbers in
      let count = count_queues project made is.links in
      let own = inners_bytes d.modules project.kernels inners is.kernels are in
      let instances = parts_names project d.modules short_fifo inner_of in
      let nets = net_names project in
      let inner = top_inner_names project in
      let kernels = kernels_few project.kernels in
      let weight = weights project.kernels in
      let blocks = block_sizes project.kernels in
      let wires = count_wires project in
      omega (arith, all, a, b, c, fifos, count, own, instances, nets, inner, kernels, weight, blocks, wires)
