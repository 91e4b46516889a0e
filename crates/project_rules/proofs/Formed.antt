-- The top module is formed behind the other modules.
use Rattle.std.proofs.Common.{◌≡◌, ◌∙◌, ℕ, zero, suc, ◌+◌, ◌-◌, ◌*◌, ◌<◌, ◌≤◌, true, inl, inr, List, [], ◌∷◌, ◌++◌, map, Some, length, take, refl, sym, ap, subst, arith}
use Rattle.std.proofs.Common.{length-append}
use Rattle.std.specs.Prelude.{slice_get, ◌⊎◌, sum_by}
use Rattle.fix_arith.specs.Types.{width_of as type_width}
use Rattle.rtl_ir.specs.declared.design.Net.{Net}
use Rattle.rtl_ir.specs.declared.design.Mem.{Mem}
use Rattle.rtl_ir.specs.declared.design.Port.{Port}
use Rattle.rtl_ir.specs.declared.design.Instance.{Instance}
use Rattle.rtl_ir.specs.declared.design.Module.{Module}
use Rattle.rtl_ir.specs.declared.design.Design.{Design}
use Rattle.rtl_ir.specs.Value.{net_width}
use Rattle.rtl_ir.specs.Names.{is_name}
use Rattle.rtl_ir.specs.Formed.{IsFormedNet, IsFormedInstance, IsFormedModule}
use Rattle.rtl_ir.specs.Ports.{PortView, port_view, shape_ports}
use Rattle.stream_graph.specs.declared.kernel.Kernel.{Kernel}
use Rattle.kernel_control.specs.Ports.{module_ports}
use Rattle.manager_links.specs.declared.hosts.HostPort.{HostPort}
use Rattle.manager_links.specs.declared.links.Links.{Links}
use Rattle.manager_links.specs.declared.links.PortAt.{PortAt}
use Rattle.manager_links.specs.declared.project.Project.{Project}
use Rattle.project_rtl.specs.Shapes.{shape_of, port_count}
use Rattle.project_rtl.specs.Blocks.{block_size, scalar_count, stream_net}
use Rattle.project_rtl.specs.Tops.{instance, ports_from, fifo_count, done_count, instances_of, top_module}
use Rattle.project_rtl.specs.Projects.{IsProjectOf}
use Rattle.project_rtl.specs.Kept.{AllKeepRules}
use Rattle.project_rules.proofs.Lists.{within, there, at_left, at_behind, get_left, get_behind, map_at, map_back, length_map, below_or, Each, each_at, each_join}
use Rattle.project_rules.proofs.Lists.{each_from, each_thrice, joined, each_joined, reads_at}
use Rattle.project_rules.proofs.Slots.{Slot, given_slot, driven_slot, control_slots, length_controls, scalar_slots, scalars_sized, done_slots, in_slots, out_slots}
use Rattle.project_rules.proofs.Slots.{done_slot, port_slots, block_slots, block_sized, wire_slots, slots, length_ports, length_ins, length_outs, length_scalars}
use Rattle.project_rules.proofs.Slots.{count_blocks, core}
use Rattle.project_rules.proofs.Slots as all_slots
use Rattle.project_rules.proofs.Nets.{slot_is, no_registers, count_nets, count_views}
use Rattle.project_rules.proofs.Parts.{which, count_parts, many}
use Rattle.project_rules.proofs.Wired.{fits_at, view_at, kernel_fits, own_slots}
use Rattle.project_rules.proofs.Queues.{module_of, IsPart, part_at, in_given, out_taken}
use Rattle.project_rules.proofs.Levels.{fine}
use Rattle.project_rules.proofs.Differ.{names_spelled}
use Rattle.rtl_ir.specs.Rules.{ByPort}

abbrev InRange : ℕ → Type 0
InRange w = (1 ≤ w) × (w ≤ 128)

port_at : (from : ℕ) (ps : List PortView) (k : ℕ) (p : Port) → slice_get (ports_from from ps) k ≡ Some p → (p.net ≡ from + k) × (k < length ps)
port_at from [] k p e = absurd (cc)
port_at from (q ∷ ps) zero p e = let s : from ≡ p.net = cc in (omega (arith, s), omega arith)
port_at from (q ∷ ps) (suc k) p e = let r = port_at (from + 1) ps k p e in (omega (arith, r.0), omega (arith, r.1))

length_take : {A : Type 0} (n : ℕ) (xs : List A) → n ≤ length xs → length (take n xs) ≡ n
length_take zero xs h = refl
length_take (suc n) [] h = absurd (omega (arith, h))
length_take (suc n) (x ∷ xs) h = ap suc (length_take n xs (omega (arith, h)))

taken : {A : Type 0} (n : ℕ) (xs : List A) (k : ℕ) (x : A) → slice_get (take n xs) k ≡ Some x → slice_get xs k ≡ Some x
taken zero xs k x e = absurd (cc)
taken (suc n) [] k x e = absurd (cc)
taken (suc n) (y ∷ xs) zero x e = e
taken (suc n) (y ∷ xs) (suc k) x e = taken n xs k x e

module _ (project : Project) (made : Links) (inners : List Module) (d : Design) (whole : IsProjectOf project made inners d) (keeps : AllKeepRules project inners) where
  abbrev top : Module
  top = top_module project

  -- ---- widths

  abbrev IsWide : ℕ → Slot → Type 0
  IsWide n s = InRange s.width

  -- the ports of a kernel's module have widths in range
  own_range : (k : ℕ) (kernel : Kernel) (j : ℕ) (s : Slot) → slice_get project.kernels k ≡ Some kernel
      → slice_get (own_slots project k kernel) j ≡ Some s → InRange s.width
  own_range k kernel j s e f =
      let c = core project k in
      let m = module_of project made inners d whole keeps k kernel e in
      let ss = own_slots project k kernel in
      let v = view_at c 0 (module_ports kernel.nodes) ss j s (kernel_fits project k kernel) f in
      let fit = fits_at c 0 (module_ports kernel.nodes) ss j v.0 s (kernel_fits project k kernel) v.1 f in
      let p = map_back (port_view m.inner) m.inner.ports j v.0 (ap (λ l. slice_get l j) m.keeps_rules.ports ∙ v.1) in
      let formed = m.keeps_rules.formed [] in
      let n = there m.inner.nets p.0.net (formed.ports j p.0 p.1).net in
      let net = formed.nets p.0.net n.0 n.1 in
      let wide : n.0.width ≡ s.width = sym (ap net_width n.1) ∙ ap (λ (v : PortView). v.width) p.2 ∙ sym fit.width in
      subst InRange wide (net.some, net.at_most)

  scalar_range : (k : ℕ) (kernel : Kernel) (q : ℕ) (s : Slot) → slice_get project.kernels k ≡ Some kernel → slice_get (scalar_slots k kernel) q ≡ Some s → InRange s.width
  scalar_range k kernel q s e f =
      let low : List Slot = given_slot 1 ∷ given_slot 1 ∷ given_slot 1 ∷ given_slot 48 ∷ [] in
      own_range k kernel (4 + q) s e
      (at_behind low (scalar_slots k kernel ++ block_slots project k kernel) 4 q s refl (at_left (scalar_slots k kernel) (block_slots project k kernel) q s f))

  block_range : (k : ℕ) (kernel : Kernel) (q : ℕ) (s : Slot) → slice_get project.kernels k ≡ Some kernel
      → slice_get (block_slots project k kernel) q ≡ Some s → InRange s.width
  block_range k kernel q s e f =
      let low : List Slot = given_slot 1 ∷ given_slot 1 ∷ given_slot 1 ∷ given_slot 48 ∷ [] in
      own_range k kernel (4 + (scalar_count kernel + q)) s e
      (at_behind low (scalar_slots k kernel ++ block_slots project k kernel) 4 (scalar_count kernel + q) s refl
      (at_behind (scalar_slots k kernel) (block_slots project k kernel) (scalar_count kernel) q s (sym (scalars_sized k kernel)) f))

  one_range : InRange 1
  one_range = (omega arith, omega arith)

  done_range : (n t count : ℕ) → Each IsWide n (done_slots t count)
  done_range n t zero = tt
  done_range n t (suc count) = (one_range, done_range (n + 1) (t + 1) count)

  wires_range : Each IsWide 0 (wire_slots project)
  wires_range =
      each_join IsWide 0 (sum_by block_size project.kernels) (joined (block_slots project) 0 project.kernels) (done_slots 0 (done_count project))
      (sym (count_blocks project))
      (each_joined (block_slots project) block_size (block_sized project) IsWide 0 0 project.kernels
      (λ k kernel e.
      let y : k ≡ 0 + k = omega arith in
      subst (λ j. Each IsWide (0 + sum_by block_size (take k project.kernels)) (block_slots project j kernel)) y
      (each_from IsWide (0 + sum_by block_size (take k project.kernels)) (block_slots project k kernel) (λ q s f. block_range k kernel q s e f))))
      (done_range _ 0 (done_count project))

  wire_range : (n : ℕ) (s : Slot) → slice_get (wire_slots project) n ≡ Some s → InRange s.width
  wire_range n s e = each_at IsWide 0 (wire_slots project) wires_range n s e

  -- a net of a port of a kernel
  stream_range : (port : PortAt) (s : Slot) → slice_get (slots project) (stream_net project port) ≡ Some s → InRange s.width
  stream_range port s e =
      let far : port_count project + (stream_net project port - port_count project) ≡ stream_net project port = omega arith in
      wire_range (stream_net project port - port_count project) s
      (sym (get_behind (port_slots project) (wire_slots project) (port_count project) (stream_net project port - port_count project) (sym (length_ports project)))
      ∙ ap (λ j. slice_get (slots project) j) far ∙ e)

  in_range : (i : ℕ) (host : HostPort) → slice_get project.joints.inputs i ≡ Some host → InRange (type_width host.t)
  in_range i host e = stream_range host.port (driven_slot (type_width host.t) (ByPort i 5) 0) (in_given project i host e).are.first

  out_range : (i : ℕ) (host : HostPort) → slice_get project.joints.outputs i ≡ Some host → InRange (type_width host.t)
  out_range i host e =
      let t = out_taken project i host e in
      subst InRange t.wide (stream_range host.port t.word t.are.first)

  controls_range : (n : ℕ) (kernels : List Kernel) → Each IsWide n (control_slots kernels)
  controls_range n [] = tt
  controls_range n (kernel ∷ kernels) = (one_range, ((omega arith, omega arith), controls_range (n + 1 + 1) kernels))

  ports_range : Each IsWide 0 (port_slots project)
  ports_range =
      let ins = project.joints.inputs in
      let outs = project.joints.outputs in
      let kernels = project.kernels in
      let n = 0 + 1 + 1 + 2 * length kernels in
      let m = n + sum_by scalar_count kernels in
      let l = m + 3 * length ins in (
        one_range,
        (
          one_range,
          each_join IsWide (0 + 1 + 1) (2 * length kernels) (control_slots kernels) (all_slots.scalar_ports project) (sym (length_controls kernels))
              (controls_range (0 + 1 + 1) kernels)
              (each_join IsWide n (sum_by scalar_count kernels) (joined scalar_slots 0 kernels) (all_slots.in_ports project) (sym (length_scalars project))
              (each_joined scalar_slots scalar_count scalars_sized IsWide n 0 kernels
              (λ k kernel e. each_from IsWide (n + sum_by scalar_count (take k kernels)) (scalar_slots (0 + k) kernel) (λ q s f. scalar_range k kernel q s e f)))
              (each_join IsWide m (3 * length ins) (in_slots project 0 ins) (all_slots.out_ports project) (sym (length_ins project))
              (each_thrice IsWide (λ i (host : HostPort). given_slot (type_width host.t)) (λ i (host : HostPort). given_slot 1) (λ i
              (host : HostPort). driven_slot 1 (ByPort i 4) 0) m 0 ins
              (λ i host e. (in_range i host e, one_range, one_range)))
              (each_join IsWide l (3 * length outs) (out_slots project 0 outs) (done_slot project ∷ []) (sym (length_outs project))
              (each_thrice IsWide (λ i (host : HostPort). driven_slot (type_width host.t) (ByPort (length ins + i) 5) 0)
              (λ i (host : HostPort). driven_slot 1 (ByPort (length ins + i) 6) 0) (λ i (host : HostPort). given_slot 1) l 0 outs
              (λ i host e. (out_range i host e, one_range, one_range)))
              (one_range, tt)))),
        ),
      )

  slot_range : (n : ℕ) (s : Slot) → slice_get (slots project) n ≡ Some s → InRange s.width
  slot_range n s e = by_case (below_or n (port_count project))
    where
      by_case : (n < port_count project) ⊎ (port_count project ≤ n) → InRange s.width
      by_case (inl lt) =
          let l = length_ports project in
          each_at IsWide 0 (port_slots project) ports_range n s (sym (get_left (port_slots project) (wire_slots project) n (omega (arith, lt, l))) ∙ e)
      by_case (inr ge) =
          let z : port_count project + (n - port_count project) ≡ n = omega (arith, ge) in
          wire_range (n - port_count project) s
          (sym (get_behind (port_slots project) (wire_slots project) (port_count project) (n - port_count project) (sym (length_ports project)))
          ∙ ap (λ j. slice_get (slots project) j) z ∙ e)

  -- ---- nets

  abbrev net_names : List (List ℕ)
  net_names = map (λ (n : Net). n.name) top.nets

  abbrev part_names : List (List ℕ)
  part_names = map (λ (i : Instance). i.name) top.instances

  count_names : length (net_names ++ map (λ (k : Mem). k.name) top.mems) ≡ length top.nets
  count_names = length-append net_names [] ∙ (let l = length_map (λ (n : Net). n.name) top.nets in omega (arith, l))

  nets_formed : (k : ℕ) (n : Net) → slice_get top.nets k ≡ Some n → IsFormedNet n
  nets_formed k n e =
      let lt = within top.nets k n e in
      let c = count_nets project in
      let l = length_ports project in
      let a = length-append (port_slots project) (wire_slots project) in
      let s = there (slots project) k (omega (arith, lt, c, l, a)) in
      let wide : s.0.width ≡ n.width = sym (slot_is project k s.0 s.1).width ∙ ap net_width e in
      let w = subst InRange wide (slot_range k s.0 s.1) in
      record {
        name =
            names_spelled project made inners d whole keeps k n.name
            (at_left (net_names ++ []) part_names k n.name (at_left net_names [] k n.name (map_at (λ (n : Net). n.name) top.nets k n e)));
        some = w.0;
        at_most = w.1;
      }

  -- ---- instances

  abbrev count : ℕ
  count = fifo_count project + length project.kernels

  abbrev earlier : List Module
  earlier = take count d.modules

  pub count_modules : length d.modules ≡ count + 1
  count_modules =
      let a = ap (λ (l : List Module). length l) whole.modules in
      let b = length-append whole.fifos (inners ++ top ∷ []) in
      let c = length-append inners (top ∷ []) in
      let e = many project made inners d whole in
      let f = whole.kernels in
      omega (arith, a, b, c, e, f)

  instances_formed : (k : ℕ) (x : Instance) → slice_get top.instances k ≡ Some x → IsFormedInstance earlier top x
  instances_formed k x e =
      let parts = count_parts project in
      let lt = within top.instances k x e in
      let p = part_at project made inners d whole keeps k (which project k (omega (arith, parts, lt))) in
      by_part p lt parts
    where
      by_part : IsPart project made inners d whole keeps k → k < length top.instances → length (instances_of project) ≡ fifo_count project + length project.kernels
          → IsFormedInstance earlier top x
      by_part p lt parts =
          let same : instance k p.joint.name p.nets ≡ x = let q = sym p.joint.at ∙ e in cc in
          let c = count_modules in
          let l = length_take count d.modules (omega (arith, c)) in
          let l2 : length p.inner.ports ≡ length p.views = sym (length_map (port_view p.inner) p.inner.ports) ∙ ap (λ (v : List PortView). length v) p.joint.ports in
          let n = count_names in
          let name : is_name x.name ≡ true = names_spelled project made inners d whole keeps (length top.nets + k) x.name
          (at_behind (net_names ++ []) part_names (length top.nets) k x.name (sym n) (map_at (λ (i : Instance). i.name) top.instances k x e)) in
          subst (IsFormedInstance earlier top) same (record {
            name = ap (λ (i : Instance). is_name i.name) same ∙ name;
            is_earlier = omega (arith, l, lt, parts);
            nets = λ j n e.
                let r = reads_at (slots project) p.nets p.ss j n p.reads e in
                (slot_is project n r.item r.is).in_range;
            ports = λ other e.
                let also : p.inner ≡ other = let q = sym p.joint.is ∙ taken count d.modules k other e in cc in
                p.formed ∙ sym l2 ∙ ap (λ (y : Module). length y.ports) also;
          })

  pub formed : IsFormedModule earlier top
  formed = record {
    name = refl;
    nets = nets_formed;
    mems = λ k x e. absurd (cc);
    ports = λ k p e.
        let q = port_at 0 (shape_ports (shape_of project)) k p e in
        let near = q.0 in
        let lt = q.1 in
        let l = count_views project in
        let c = count_nets project in
        record { net = omega (arith, near, lt, l, c); wire = no_registers project p.net };
    apart = λ j k p q e f same.
        let x = port_at 0 (shape_ports (shape_of project)) j p e in
        let y = port_at 0 (shape_ports (shape_of project)) k q f in
        let a = x.0 in
        let b = y.0 in
        omega (arith, a, b, same);
    assigns = λ t a e. (fine project t a e).formed;
    updates = λ k u e. absurd (cc);
    instances = instances_formed;
    clock = refl;
    reset = refl;
  }
