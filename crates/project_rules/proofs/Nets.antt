-- The nets of the top module are as their slots say.
use Rattle.std.proofs.Common.{◌≡◌, ◌∙◌, ℕ, zero, suc, ◌+◌, ◌-◌, ◌*◌, ◌<◌, ◌≤◌, Bool, true, false, not, ◌&&◌, ◌||◌, eqb, inl, inr, List, [], ◌∷◌, ◌++◌, map, replicate}
use Rattle.std.proofs.Common.{Some, length, refl, sym, ap, subst, arith, length-append, append_assoc}
use Rattle.std.specs.Prelude.{◌⊎◌, slice_get, codes}
use Rattle.std.specs.List.{flat_map}
use Rattle.fix_arith.specs.Types.{width_of as type_width}
use Rattle.rtl_ir.specs.declared.design.Net.{Net}
use Rattle.rtl_ir.specs.declared.design.Module.{Module}
use Rattle.rtl_ir.specs.Value.{width_of, net_width, net_kept, is_reg}
use Rattle.rtl_ir.specs.Typed.{is_input, is_given}
use Rattle.rtl_ir.specs.Ports.{PortView, kernel_ports, scalar_ports, host_input_ports, host_output_ports, input_port, output_port, shape_ports}
use Rattle.stream_graph.specs.declared.kernel.Kernel.{Kernel}
use Rattle.stream_graph.specs.declared.node.Node.{Node}
use Rattle.stream_graph.specs.LookUps.{width_at}
use Rattle.kernel_control.specs.Ports.{inputs_of, outputs_of, scalars_of}
use Rattle.link_fifo.specs.Netlist.{wires_from}
use Rattle.manager_links.specs.declared.hosts.HostPort.{HostPort}
use Rattle.manager_links.specs.declared.project.Project.{Project}
use Rattle.manager_links.specs.Rules.{kernel_names}
use Rattle.project_rtl.specs.Shapes.{shape_of, scalar_shapes, scalar_shape, host_shape, port_count}
use Rattle.project_rtl.specs.Blocks.{block_size}
use Rattle.project_rtl.specs.Tops.{port_net, ports_from, stream_widths, block_widths, done_count, wire_widths, top_module}
use Rattle.project_rules.proofs.Lists.{within, at_left, get_left, get_behind, map_at, map_join, both_at, length_map, below_or, joined, Each, each_at, each_join, each_joined}
use Rattle.project_rules.proofs.Slots.{Slot, given_slot, driven_slot, done_slots, control_slots, scalar_slots, in_slots, out_slots, done_slot, port_slots, fed_slots}
use Rattle.project_rules.proofs.Slots.{given_slots, ended_slot, block_slots, block_sized, wire_slots, slots, length_ports, length_fed, length_given, feeder, drain, core}
use Rattle.project_rules.proofs.Slots as own

-- ---- ports

abbrev pub kind_of_port : PortView → ℕ × Bool
kind_of_port p = (p.width, not p.output)

abbrev pub kind_of_slot : Slot → ℕ × Bool
kind_of_slot s = (s.width, s.given)

pub both_mapped : {A B C : Type 0} (f : A → C) (g : B → C) (xs ys : List A) (us vs : List B) → map f xs ≡ map g us → map f ys ≡ map g vs
    → map f (xs ++ ys) ≡ map g (us ++ vs)
both_mapped f g xs ys us vs e h = map_join f xs ys ∙ ap (λ l. l ++ map f ys) e ∙ ap (λ l. map g us ++ l) h ∙ sym (map_join g us vs)

controls : (kernels : List Kernel) → map kind_of_port (kernel_ports (kernel_names kernels)) ≡ map kind_of_slot (control_slots kernels)
controls [] = refl
controls (kernel ∷ kernels) = ap (λ l. (1, true) ∷ (48, true) ∷ l) (controls kernels)

pub scalar_ports_join : (xs ys : List (List ℕ × List ℕ × ℕ)) → scalar_ports (xs ++ ys) ≡ scalar_ports xs ++ scalar_ports ys
scalar_ports_join [] ys = refl
scalar_ports_join (x ∷ xs) ys =
    ap (λ l. input_port (codes "scalar$" ++ x.0 ++ codes "$" ++ x.1) x.2 ∷ l) (scalar_ports_join xs ys)

scalars_of_kernel : (kernel : Kernel) (k : ℕ) (ns : List ℕ)
    → map kind_of_port (scalar_ports (map (scalar_shape kernel) ns)) ≡ map kind_of_slot (map (λ n. given_slot (width_at kernel.nodes n)) ns)
scalars_of_kernel kernel k [] = refl
scalars_of_kernel kernel k (n ∷ ns) = ap (λ l. (width_at kernel.nodes n, true) ∷ l) (scalars_of_kernel kernel k ns)

scalars : (k : ℕ) (kernels : List Kernel) → map kind_of_port (scalar_ports (flat_map scalar_shapes kernels)) ≡ map kind_of_slot (joined scalar_slots k kernels)
scalars k [] = refl
scalars k (kernel ∷ kernels) =
    ap (λ l. map kind_of_port l) (scalar_ports_join (scalar_shapes kernel) (flat_map scalar_shapes kernels))
    ∙ both_mapped kind_of_port kind_of_slot (scalar_ports (scalar_shapes kernel)) (scalar_ports (flat_map scalar_shapes kernels))
    (scalar_slots k kernel) (joined scalar_slots (k + 1) kernels)
    (scalars_of_kernel kernel k (scalars_of kernel.nodes)) (scalars (k + 1) kernels)

below_none : (n : ℕ) (ps : List PortView) (k : ℕ) → k < n → is_input (ports_from n ps) k ≡ false
below_none n [] k h = refl
below_none n (p ∷ ps) k h =
    let other : eqb n k ≡ false = grind (arith, h) in
    ap (λ b. (b && not p.output) || is_input (ports_from (n + 1) ps) k) other ∙ below_none (n + 1) ps k (omega arith)

or_none : (a b : Bool) → b ≡ false → a || b ≡ a
or_none true b h = refl
or_none false b h = h

inputs_from : (n : ℕ) (ps : List PortView) (k : ℕ) (p : PortView) → slice_get ps k ≡ Some p → is_input (ports_from n ps) (n + k) ≡ not p.output
inputs_from n [] k p e = absurd (cc)
inputs_from n (q ∷ ps) zero p e =
    let same : q ≡ p = cc in
    let one : eqb n (n + 0) ≡ true = grind arith in
    ap (λ b. (b && not q.output) || is_input (ports_from (n + 1) ps) (n + 0)) one
    ∙ or_none (not q.output) _ (below_none (n + 1) ps (n + 0) (omega arith))
    ∙ ap (λ (x : PortView). not x.output) same
inputs_from n (q ∷ ps) (suc k) p e =
    let other : eqb n (n + suc k) ≡ false = grind arith in
    let z : n + suc k ≡ n + 1 + k = omega arith in
    ap (λ b. (b && not q.output) || is_input (ports_from (n + 1) ps) (n + suc k)) other
    ∙ ap (λ j. is_input (ports_from (n + 1) ps) j) z
    ∙ inputs_from (n + 1) ps k p e

above_none : (n : ℕ) (ps : List PortView) (k : ℕ) → n + length ps ≤ k → is_input (ports_from n ps) k ≡ false
above_none n [] k h = refl
above_none n (p ∷ ps) k h =
    let other : eqb n k ≡ false = grind (arith, h) in
    ap (λ b. (b && not p.output) || is_input (ports_from (n + 1) ps) k) other ∙ above_none (n + 1) ps k (omega arith)

-- ---- no registers

kept_wires : (k : ℕ) (ws : List ℕ) (n : ℕ) → net_kept (slice_get (wires_from k ws) n) ≡ false
kept_wires k [] n = refl
kept_wires k (w ∷ ws) zero = refl
kept_wires k (w ∷ ws) (suc n) = kept_wires (k + 1) ws n

kept_ports : (ps : List PortView) (more : List Net) → ((n : ℕ) → net_kept (slice_get more n) ≡ false) → (n : ℕ) → net_kept (slice_get (map port_net ps ++ more) n) ≡ false
kept_ports [] more h n = h n
kept_ports (p ∷ ps) more h zero = refl
kept_ports (p ∷ ps) more h (suc n) = kept_ports ps more h n

-- ---- widths of wires

abbrev widths : List Slot → List ℕ
widths ss = map (λ (s : Slot). s.width) ss

stream_widths_join : (nodes : List Node) (xs ys : List ℕ) → stream_widths nodes (xs ++ ys) ≡ stream_widths nodes xs ++ stream_widths nodes ys
stream_widths_join nodes [] ys = refl
stream_widths_join nodes (x ∷ xs) ys = ap (λ l. width_at nodes x ∷ 1 ∷ 1 ∷ l) (stream_widths_join nodes xs ys)

done_wide : (t count : ℕ) → widths (done_slots t count) ≡ replicate count 1
done_wide t zero = refl
done_wide t (suc count) = ap (λ l. 1 ∷ l) (done_wide (t + 1) count)

wire_at : (n : ℕ) (ws : List ℕ) (k w : ℕ) → slice_get ws k ≡ Some w → net_width (slice_get (wires_from n ws) k) ≡ w
wire_at n [] k w e = absurd (cc)
wire_at n (x ∷ ws) zero w e = let same : x ≡ w = cc in same
wire_at n (x ∷ ws) (suc k) w e = wire_at (n + 1) ws k w e

pub count_wires : (k : ℕ) (ws : List ℕ) → length (wires_from k ws) ≡ length ws
count_wires k [] = refl
count_wires k (w ∷ ws) = ap suc (count_wires (k + 1) ws)

module _ (project : Project) where
  abbrev pub top : Module
  top = top_module project

  abbrev pub views : List PortView
  views = shape_ports (shape_of project)

  abbrev pub more : List Net
  more = wires_from (port_count project) (wire_widths project)

  ins_kinds : (i : ℕ) (hosts : List HostPort) → map kind_of_port (host_input_ports (map host_shape hosts)) ≡ map kind_of_slot (in_slots project i hosts)
  ins_kinds i [] = refl
  ins_kinds i (host ∷ hosts) = ap (λ l. (type_width host.t, true) ∷ (1, true) ∷ (1, false) ∷ l) (ins_kinds (i + 1) hosts)

  outs_kinds : (i : ℕ) (hosts : List HostPort) → map kind_of_port (host_output_ports (map host_shape hosts)) ≡ map kind_of_slot (out_slots project i hosts)
  outs_kinds i [] = refl
  outs_kinds i (host ∷ hosts) = ap (λ l. (type_width host.t, false) ∷ (1, false) ∷ (1, true) ∷ l) (outs_kinds (i + 1) hosts)

  pub top_kinds : map kind_of_port views ≡ map kind_of_slot (port_slots project)
  top_kinds =
      let kp = kernel_ports (kernel_names project.kernels) in
      let sp = scalar_ports (flat_map scalar_shapes project.kernels) in
      let ip = host_input_ports (map host_shape project.joints.inputs) in
      let op = host_output_ports (map host_shape project.joints.outputs) in
      let last : List PortView = output_port (codes "done") 1 ∷ [] in
      let f : PortView → ℕ × Bool = kind_of_port in
      let g : Slot → ℕ × Bool = kind_of_slot in
      let a = both_mapped f g op last (out_slots project 0 project.joints.outputs) (done_slot project ∷ []) (outs_kinds 0 project.joints.outputs) refl in
      let b = both_mapped f g ip (op ++ last) (in_slots project 0 project.joints.inputs) (own.out_ports project) (ins_kinds 0 project.joints.inputs) a in
      let c = both_mapped f g sp (ip ++ (op ++ last)) (joined scalar_slots 0 project.kernels) (own.in_ports project) (scalars 0 project.kernels) b in
      let d = both_mapped f g kp (sp ++ (ip ++ (op ++ last))) (control_slots project.kernels) (own.scalar_ports project) (controls project.kernels) c in
      ap (λ l. (1, true) ∷ (1, true) ∷ l)
      (ap (λ l. map f l) (append_assoc (kp ++ sp ++ ip) op last ∙ append_assoc (kp ++ sp) ip (op ++ last) ∙ append_assoc kp sp (ip ++ (op ++ last))) ∙ d)

  pub count_views : length views ≡ port_count project
  count_views =
      let a = ap (λ (l : List (ℕ × Bool)). length l) top_kinds in
      let b = length_map kind_of_port views in
      let c = length_map kind_of_slot (port_slots project) in
      let d = length_ports project in
      omega (arith, a, b, c, d)

  -- ---- wires

  fed_wide : (k : ℕ) (kernel : Kernel) (p : ℕ) (ns : List ℕ) → widths (fed_slots project k kernel p ns) ≡ stream_widths kernel.nodes ns
  fed_wide k kernel p [] = refl
  fed_wide k kernel p (n ∷ ns) = ap (λ l. width_at kernel.nodes n ∷ 1 ∷ 1 ∷ l) (fed_wide k kernel (p + 1) ns)

  given_wide : (k : ℕ) (kernel : Kernel) (p : ℕ) (ns : List ℕ) → widths (given_slots project k kernel p ns) ≡ stream_widths kernel.nodes ns
  given_wide k kernel p [] = refl
  given_wide k kernel p (n ∷ ns) = ap (λ l. width_at kernel.nodes n ∷ 1 ∷ 1 ∷ l) (given_wide k kernel (p + 1) ns)

  block_wide : (k : ℕ) (kernel : Kernel) → widths (block_slots project k kernel) ≡ block_widths kernel
  block_wide k kernel =
      let nodes = kernel.nodes in
      let f : Slot → ℕ = λ s. s.width in
      let fed = fed_slots project k kernel 0 (inputs_of nodes) in
      let giv = given_slots project k kernel 0 (outputs_of nodes) in
      let last : List Slot = ended_slot project k kernel ∷ [] in
      map_join f fed (giv ++ last)
      ∙ ap (λ l. l ++ widths (giv ++ last)) (fed_wide k kernel 0 (inputs_of nodes))
      ∙ ap (λ l. stream_widths nodes (inputs_of nodes) ++ l) (map_join f giv last ∙ ap (λ l. l ++ 1 ∷ []) (given_wide k kernel 0 (outputs_of nodes)))
      ∙ sym (append_assoc (stream_widths nodes (inputs_of nodes)) (stream_widths nodes (outputs_of nodes)) (1 ∷ []))
      ∙ ap (λ l. l ++ 1 ∷ []) (sym (stream_widths_join nodes (inputs_of nodes) (outputs_of nodes)))

  blocks_wide : (k : ℕ) (kernels : List Kernel) → widths (joined (block_slots project) k kernels) ≡ flat_map block_widths kernels
  blocks_wide k [] = refl
  blocks_wide k (kernel ∷ kernels) =
      map_join (λ (s : Slot). s.width) (block_slots project k kernel) (joined (block_slots project) (k + 1) kernels)
      ∙ ap (λ l. l ++ widths (joined (block_slots project) (k + 1) kernels)) (block_wide k kernel)
      ∙ ap (λ l. block_widths kernel ++ l) (blocks_wide (k + 1) kernels)

  wires_wide : widths (wire_slots project) ≡ wire_widths project
  wires_wide =
      map_join (λ (s : Slot). s.width) (joined (block_slots project) 0 project.kernels) (done_slots 0 (done_count project))
      ∙ ap (λ l. l ++ widths (done_slots 0 (done_count project))) (blocks_wide 0 project.kernels)
      ∙ ap (λ l. flat_map block_widths project.kernels ++ l) (done_wide 0 (done_count project))

  pub count_wire_widths : length (wire_widths project) ≡ length (wire_slots project)
  count_wire_widths = ap (λ (l : List ℕ). length l) (sym wires_wide) ∙ length_map (λ (s : Slot). s.width) (wire_slots project)

  pub count_nets : length top.nets ≡ port_count project + length (wire_slots project)
  count_nets =
      let a = length-append (map port_net views) more in
      let b = length_map port_net views in
      let c = count_views in
      let e = count_wires (port_count project) (wire_widths project) in
      let f = count_wire_widths in
      omega (arith, a, b, c, e, f)

  pub no_registers : (n : ℕ) → is_reg top n ≡ false
  no_registers n = kept_ports views more (kept_wires (port_count project) (wire_widths project)) n

  -- ---- wires are free

  abbrev IsFree : ℕ → Slot → Type 0
  IsFree n s = s.given ≡ false

  done_free : (n t count : ℕ) → Each IsFree n (done_slots t count)
  done_free n t zero = tt
  done_free n t (suc count) = (refl, done_free (n + 1) (t + 1) count)

  fed_free : (n k : ℕ) (kernel : Kernel) (p : ℕ) (ns : List ℕ) → Each IsFree n (fed_slots project k kernel p ns)
  fed_free n k kernel p [] = tt
  fed_free n k kernel p (x ∷ ns) = (refl, (refl, (refl, fed_free (n + 1 + 1 + 1) k kernel (p + 1) ns)))

  given_free : (n k : ℕ) (kernel : Kernel) (p : ℕ) (ns : List ℕ) → Each IsFree n (given_slots project k kernel p ns)
  given_free n k kernel p [] = tt
  given_free n k kernel p (x ∷ ns) = (refl, (refl, (refl, given_free (n + 1 + 1 + 1) k kernel (p + 1) ns)))

  block_free : (n k : ℕ) (kernel : Kernel) → Each IsFree n (block_slots project k kernel)
  block_free n k kernel =
      let nodes = kernel.nodes in
      each_join IsFree n (3 * length (inputs_of nodes)) (fed_slots project k kernel 0 (inputs_of nodes)) (given_slots project k kernel 0
      (outputs_of nodes) ++ ended_slot project k kernel ∷ [])
      (sym (length_fed project k kernel)) (fed_free n k kernel 0 (inputs_of nodes))
      (each_join IsFree (n + 3 * length (inputs_of nodes)) (3 * length (outputs_of nodes)) (given_slots project k kernel 0 (outputs_of nodes))
      (ended_slot project k kernel ∷ [])
      (sym (length_given project k kernel)) (given_free (n + 3 * length (inputs_of nodes)) k kernel 0 (outputs_of nodes)) (refl, tt))

  wires_free : Each IsFree 0 (wire_slots project)
  wires_free =
      each_join IsFree 0 (length (joined (block_slots project) 0 project.kernels)) (joined (block_slots project) 0 project.kernels) (done_slots 0
      (done_count project)) refl
      (each_joined (block_slots project) block_size (block_sized project) IsFree 0 0 project.kernels (λ k kernel e. block_free _ (0 + k) kernel))
      (done_free _ 0 (done_count project))

  pub wire_free : (k : ℕ) (s : Slot) → slice_get (wire_slots project) k ≡ Some s → s.given ≡ false
  wire_free k s e = each_at IsFree 0 (wire_slots project) wires_free k s e

  -- ---- the slots

  -- a slot says what is so of a net of the top module
  pub record IsSlot (n : ℕ) (s : Slot) : Type 0 where
    pub in_range : n < length top.nets
    pub width : width_of top n ≡ s.width
    pub given : is_given top n ≡ s.given

  port_is : (k : ℕ) (s : Slot) → slice_get (port_slots project) k ≡ Some s → IsSlot k s
  port_is k s e =
      let p = both_at kind_of_port kind_of_slot views (port_slots project) k s top_kinds e in
      let lt = within views k p.0 p.1 in
      let l = length_map port_net views in
      let c = count_views in
      let all = count_nets in
      let here : slice_get top.nets k ≡ Some (port_net p.0) = at_left (map port_net views) more k (port_net p.0) (map_at port_net views k p.0 p.1) in
      let z : 0 + k ≡ k = omega arith in
      let input : is_input top.ports k ≡ not p.0.output = ap (λ j. is_input top.ports j) (sym z) ∙ inputs_from 0 views k p.0 p.1 in
      record {
        in_range = omega (arith, lt, c, all);
        width = ap net_width here ∙ ap (λ (x : ℕ × Bool). x.0) p.2;
        given = ap (λ b. b || is_input top.ports k) (no_registers k) ∙ input ∙ ap (λ (x : ℕ × Bool). x.1) p.2;
      }

  wire_is : (k : ℕ) (s : Slot) → slice_get (wire_slots project) k ≡ Some s → IsSlot (port_count project + k) s
  wire_is k s e =
      let free = wire_free k s e in
      let f : Slot → ℕ = λ s. s.width in
      let l = length_map port_net views in
      let c = count_views in
      let lt = within (wire_slots project) k s e in
      let all = count_nets in
      let here : slice_get (wire_widths project) k ≡ Some s.width = ap (λ (l : List ℕ). slice_get l k) (sym wires_wide) ∙ map_at f (wire_slots project) k s e in
      record {
        in_range = omega (arith, lt, all);
        width =
            ap net_width (get_behind (map port_net views) more (port_count project) k (omega (arith, l, c)))
            ∙ wire_at (port_count project) (wire_widths project) k s.width here;
        given =
            ap (λ b. b || is_input top.ports (port_count project + k)) (no_registers (port_count project + k))
            ∙ above_none 0 views (port_count project + k) (omega (arith, c)) ∙ sym free;
      }

  -- each slot
  pub slot_is : (n : ℕ) (s : Slot) → slice_get (slots project) n ≡ Some s → IsSlot n s
  slot_is n s e = by_case (below_or n (port_count project))
    where
      by_case : (n < port_count project) ⊎ (port_count project ≤ n) → IsSlot n s
      by_case (inl lt) =
          let l = length_ports project in
          port_is n s (sym (get_left (port_slots project) (wire_slots project) n (omega (arith, lt, l))) ∙ e)
      by_case (inr ge) =
          let z : port_count project + (n - port_count project) ≡ n = omega (arith, ge) in
          subst (λ j. IsSlot j s) z
          (wire_is (n - port_count project) s
          (sym (get_behind (port_slots project) (wire_slots project) (port_count project) (n - port_count project) (sym (length_ports project)))
          ∙ ap (λ j. slice_get (slots project) j) z ∙ e))
