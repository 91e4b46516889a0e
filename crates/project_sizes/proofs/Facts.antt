-- The modules of the design, the ports of the top module, and what stores nothing.
use Rattle.std.proofs.Common.{◌≡◌, ℕ, zero, suc, ◌+◌, ◌-◌, false, List, [], ◌∷◌, ◌++◌, map, Option, Some, length, refl, sym, ap, ◌∙◌, subst, arith, length-append}
use Rattle.std.proofs.lemmas.List.{length-map}
use Rattle.std.specs.Prelude.{slice_get}
use Rattle.std.specs.List.{All}
use Rattle.std.specs.Option.{option_map}
use Rattle.std.proofs.lemmas.List.Elements.{All-nil, All-cons, All-append}
use Rattle.std.proofs.lemmas.Option.{slice_get-map, slice_get_within}
use Rattle.rtl_ir.specs.declared.design.Net.{Net}
use Rattle.rtl_ir.specs.declared.design.Port.{Port}
use Rattle.rtl_ir.specs.declared.design.Instance.{Instance}
use Rattle.rtl_ir.specs.declared.design.Module.{Module}
use Rattle.rtl_ir.specs.declared.design.Design.{Design}
use Rattle.rtl_ir.specs.Value.{net_kept, net_width}
use Rattle.rtl_ir.specs.Formed.{net_name}
use Rattle.rtl_ir.specs.Flat.{top_of}
use Rattle.rtl_ir.specs.Ports.{PortView, port_view, HasShape, shape_ports, first_input, first_output}
use Rattle.rtl_reading.specs.Reads.{numbers_from, IsPortsFirst, ArePortsFirst}
use Rattle.stream_graph.specs.declared.kernel.Kernel.{Kernel}
use Rattle.rtl_delays.proofs.Lists.{get_within}
use Rattle.link_fifo.specs.Netlist.{wires_from}
use Rattle.link_fifo.specs.Fifo.{IsFifoModule}
use Rattle.manager_links.specs.declared.hosts.HostPort.{HostPort}
use Rattle.manager_links.specs.declared.links.LinkEnds.{LinkEnds}
use Rattle.manager_links.specs.declared.links.Links.{Links}
use Rattle.manager_links.specs.declared.project.Project.{Project}
use Rattle.project_rtl.specs.Shapes.{shape_of, port_count}
use Rattle.project_rtl.specs.Tops.{range, input_instances, output_instances, link_instances, kernel_instances, host_count, fifo_count, instances_of, port_net, ports_from, wire_widths, top_module}
use Rattle.project_rtl.specs.Projects.{Queue, fifo_name, queues_of, AreFifos, IsProjectOf}
use Rattle.project_rtl.specs.Designs.{StoresParts}
use Rattle.project_sizes.proofs.Lists.{get_behind, range_append}
use Rattle.project_sizes.proofs.Counts.{length_fifos, count_queues}
use Rattle.verilog_size.proofs.Slices.{one_of}

-- ---- the ports

pub views : (m : Module) (n : ℕ) (ps : List PortView) → ((k : ℕ) (p : PortView) → slice_get ps k ≡ Some p → slice_get m.nets (n + k) ≡ Some (port_net p)) → map (port_view m) (ports_from n ps) ≡ ps
views m n [] h = refl
views m n (p ∷ ps) h =
    let z : n ≡ n + 0 = omega arith in
    let e : slice_get m.nets n ≡ Some (port_net p) = ap (λ k. slice_get m.nets k) z ∙ h 0 p refl in
    let P : Option Net → PortView = λ o. record { name = net_name o; width = net_width o; output = p.output } in
    let rest = views m (n + 1) ps (λ k q at. let f : n + 1 + k ≡ n + suc k = omega arith in ap (λ j. slice_get m.nets j) f ∙ h (suc k) q at) in
    ap (λ (v : PortView). v ∷ map (port_view m) (ports_from (n + 1) ps)) (ap P e) ∙ ap (λ l. p ∷ l) rest

pub has_shape : (project : Project) → HasShape (top_module project) (shape_of project)
has_shape project =
    let ps = shape_ports (shape_of project) in
    let more = wires_from (port_count project) (wire_widths project) in
    views (top_module project) 0 ps (λ k p at.
    let e : 0 + k ≡ k = omega arith in
    let l = length-map ps port_net in
    let lt = slice_get_within ps k p at in
    ap (λ j. slice_get (map port_net ps ++ more) j) e ∙ get_within (map port_net ps) more k (omega (arith, l, lt)) ∙ slice_get-map port_net ps k ∙ ap (option_map port_net) at)

first_from : (n : ℕ) (ps : List Port) → ((k : ℕ) (p : Port) → slice_get ps k ≡ Some p → p.net ≡ n + k) → map (λ (p : Port). p.net) ps ≡ numbers_from n ps
first_from n [] h = refl
first_from n (p ∷ ps) h =
    let e : p.net ≡ n = h 0 p refl ∙ (let z : n + 0 ≡ n = omega arith in z) in
    let rest = first_from (n + 1) ps (λ k q at. h (suc k) q at ∙ (let f : n + suc k ≡ n + 1 + k = omega arith in f)) in
    ap (λ x. x ∷ map (λ (q : Port). q.net) ps) e ∙ ap (λ l. n ∷ l) rest

numbered_first : (m : Module) → ((k : ℕ) (p : Port) → slice_get m.ports k ≡ Some p → p.net ≡ k) → IsPortsFirst m
numbered_first m h = first_from 0 m.ports (λ k p at. h k p at ∙ (let e : k ≡ 0 + k = omega arith in e))

top_first_from : (n : ℕ) (ps : List PortView) → map (λ (p : Port). p.net) (ports_from n ps) ≡ numbers_from n (ports_from n ps)
top_first_from n [] = refl
top_first_from n (p ∷ ps) = ap (λ l. n ∷ l) (top_first_from (n + 1) ps)

-- ---- the modules

-- what holds of such modules holds of each FIFO
pub all_fifos : (P : Module → Type 0) (number : ℕ) (queues : List Queue) (fifos : List Module) → AreFifos number queues fifos
    → ((n width depth : ℕ) (f : Module) → IsFifoModule (fifo_name n) width depth f → P f) → All P fifos
all_fifos P number [] [] h each = All-nil P
all_fifos P number [] (m ∷ ms) h each = absurd h
all_fifos P number (q ∷ queues) [] h each = absurd h
all_fifos P number (q ∷ queues) (m ∷ ms) h each =
    All-cons P m ms (each number q.width q.depth m h.0) (all_fifos P (number + 1) queues ms h.1 each)

module _ (project : Project) (made : Links) (inners : List Module) (d : Design) (is : IsProjectOf project made inners d) where
  abbrev top : Module
  top = top_module project

  -- there is a FIFO for each stream of the host and for each link
  pub count_fifos : length is.fifos ≡ fifo_count project
  count_fifos = length_fifos 0 (queues_of project made) is.fifos is.are_fifos ∙ count_queues project made is.links

  -- what holds besides of the kernels' modules and of the top holds of each module
  pub all_modules : (P : Module → Type 0) → ((n width depth : ℕ) (f : Module) → IsFifoModule (fifo_name n) width depth f → P f)
      → All P inners → P top → All P d.modules
  all_modules P each own last =
      subst (All P) (sym is.modules)
      (All-append P is.fifos (inners ++ top ∷ []) (all_fifos P 0 (queues_of project made) is.fifos is.are_fifos each)
      (All-append P inners (top ∷ []) own (All-cons P top [] last (All-nil P))))

  pub ports_first : All IsPortsFirst inners → ArePortsFirst d
  ports_first first =
      one_of IsPortsFirst d.modules
      (all_modules IsPortsFirst (λ n width depth f fifo. numbered_first f fifo.numbered) first (top_first_from 0 (shape_ports (shape_of project))))

  -- the module of a kernel, by the kernel's number
  pub inner_at : (k : ℕ) (m : Module) → slice_get inners k ≡ Some m → slice_get d.modules (fifo_count project + k) ≡ Some m
  inner_at k m at =
      let lt = slice_get_within inners k m at in
      ap (λ (l : List Module). slice_get l (fifo_count project + k)) is.modules
      ∙ get_behind is.fifos (inners ++ top ∷ []) (fifo_count project) k (sym count_fifos)
      ∙ get_within inners (top ∷ []) k lt
      ∙ at

  pub is_top : top_of d ≡ Some top
  is_top =
      let n = length is.fifos in
      let m = length inners in
      let all = ap (λ (l : List Module). length l) is.modules in
      let a = length-append is.fifos (inners ++ top ∷ []) in
      let b = length-append inners (top ∷ []) in
      let e : length d.modules - 1 ≡ n + (m + 0) = omega (arith, all, a, b) in
      ap (λ k. slice_get d.modules k) e
      ∙ ap (λ (l : List Module). slice_get l (n + (m + 0))) is.modules
      ∙ get_behind is.fifos (inners ++ top ∷ []) n (m + 0) refl
      ∙ get_behind inners (top ∷ []) m 0 refl

-- ---- nothing is stored in the top

kept_wires : (k : ℕ) (ws : List ℕ) (n : ℕ) → net_kept (slice_get (wires_from k ws) n) ≡ false
kept_wires k [] n = refl
kept_wires k (w ∷ ws) zero = refl
kept_wires k (w ∷ ws) (suc n) = kept_wires (k + 1) ws n

kept_ports : (ps : List PortView) (more : List Net) → ((n : ℕ) → net_kept (slice_get more n) ≡ false) → (n : ℕ) → net_kept (slice_get (map port_net ps ++ more) n) ≡ false
kept_ports [] more h n = h n
kept_ports (p ∷ ps) more h zero = refl
kept_ports (p ∷ ps) more h (suc n) = kept_ports ps more h n

-- ---- one instance of each module

abbrev modules_of : List Instance → List ℕ
modules_of is = map (λ (i : Instance). i.«module») is

of_inputs : (project : Project) (of port : ℕ) (hosts : List HostPort) → modules_of (input_instances project of port hosts) ≡ range of (length hosts)
of_inputs project of port [] = refl
of_inputs project of port (x ∷ hosts) = ap (λ l. of ∷ l) (of_inputs project (of + 1) (port + 3) hosts)

of_outputs : (project : Project) (of port : ℕ) (hosts : List HostPort) → modules_of (output_instances project of port hosts) ≡ range of (length hosts)
of_outputs project of port [] = refl
of_outputs project of port (x ∷ hosts) = ap (λ l. of ∷ l) (of_outputs project (of + 1) (port + 3) hosts)

of_links : (project : Project) (of number : ℕ) (links : List LinkEnds) → modules_of (link_instances project of number links) ≡ range of (length links)
of_links project of number [] = refl
of_links project of number (x ∷ links) = ap (λ l. of ∷ l) (of_links project (of + 1) (number + 1) links)

of_kernels : (project : Project) (of k : ℕ) (kernels : List Kernel) → modules_of (kernel_instances project of k kernels) ≡ range of (length kernels)
of_kernels project of k [] = refl
of_kernels project of k (x ∷ kernels) = ap (λ l. of ∷ l) (of_kernels project (of + 1) (k + 1) kernels)

map_append : (xs ys : List Instance) → modules_of (xs ++ ys) ≡ modules_of xs ++ modules_of ys
map_append [] ys = refl
map_append (x ∷ xs) ys = ap (λ l. x.«module» ∷ l) (map_append xs ys)

-- two lists of instances of modules one after another
joined : (xs ys : List Instance) (from a next b : ℕ) → next ≡ from + a → modules_of xs ≡ range from a → modules_of ys ≡ range next b → modules_of (xs ++ ys) ≡ range from (a + b)
joined xs ys from a next b e h k =
    map_append xs ys ∙ ap (λ l. l ++ modules_of ys) h ∙ ap (λ l. range from a ++ l) (k ∙ ap (λ n. range n b) e) ∙ sym (range_append from a b)

once : (project : Project) → modules_of (instances_of project) ≡ range 0 (fifo_count project + length project.kernels)
once project =
    let i = length project.joints.inputs in
    let o = length project.joints.outputs in
    let l = length project.joints.links in
    let k = length project.kernels in
    let ins = input_instances project 0 (first_input (shape_of project)) project.joints.inputs in
    let outs = output_instances project i (first_output (shape_of project)) project.joints.outputs in
    let links = link_instances project (host_count project) 0 project.joints.links in
    let kernels = kernel_instances project (fifo_count project) 0 project.kernels in
    let all : i + (o + (l + k)) ≡ fifo_count project + k = omega arith in
    joined ins (outs ++ (links ++ kernels)) 0 i i (o + (l + k)) (omega arith) (of_inputs project 0 (first_input (shape_of project)) project.joints.inputs)
    (joined outs (links ++ kernels) i o (host_count project) (l + k) refl (of_outputs project i (first_output (shape_of project)) project.joints.outputs)
    (joined links kernels (host_count project) l (fifo_count project) k refl (of_links project (host_count project) 0 project.joints.links)
    (of_kernels project (fifo_count project) 0 project.kernels)))
    ∙ ap (λ n. range 0 n) all

pub stores_parts : (project : Project) (made : Links) (inners : List Module) (d : Design) → IsProjectOf project made inners d
    → StoresParts project made inners d (top_module project)
stores_parts project made inners d is =
    let fifos = count_fifos project made inners d is in
    let kernels = is.kernels in
    let count : fifo_count project + length project.kernels ≡ length is.fifos + length inners = omega (arith, fifos, kernels) in
    record {
      fifos = is.fifos;
      are_fifos = is.are_fifos;
      modules = is.modules;
      once = once project ∙ ap (λ n. range 0 n) count;
      no_registers = λ n. kept_ports (shape_ports (shape_of project)) (wires_from (port_count project) (wire_widths project)) (kept_wires (port_count project) (wire_widths project)) n;
      no_memories = refl;
      no_updates = refl;
    }
