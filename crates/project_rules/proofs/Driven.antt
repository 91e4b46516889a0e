-- Each net of the top module has one driver.
use Rattle.std.proofs.Common.{◌≡◌, ◌∙◌, ℕ, zero, suc, ◌+◌, ◌-◌, ◌*◌, ◌<◌, Bool, true, false, inl, inr, List, [], ◌∷◌, ◌++◌, map, Option, Some, None, length, refl, sym}
use Rattle.std.proofs.Common.{ap, subst, arith, length-append}
use Rattle.std.specs.Prelude.{slice_get, ◌⊎◌, sum_by}
use Rattle.std.proofs.lemmas.Bool.{false≢true}
use Rattle.fix_arith.specs.Types.{width_of}
use Rattle.rtl_ir.specs.declared.design.Module.{Module}
use Rattle.rtl_ir.specs.declared.design.Design.{Design}
use Rattle.rtl_ir.specs.Typed.{is_given}
use Rattle.rtl_ir.specs.Rules.{Connection, Driver, ByAssign, ByPort, Drives, HasDrivers}
use Rattle.rtl_ir.specs.Ports.{PortView, port_view, first_input, first_output, done_port}
use Rattle.stream_graph.specs.declared.kernel.Kernel.{Kernel}
use Rattle.stream_graph.specs.LookUps.{width_at}
use Rattle.kernel_control.specs.Ports as own
use Rattle.kernel_control.specs.Ports.{inputs_of, outputs_of, module_ports}
use Rattle.manager_links.specs.declared.hosts.HostPort.{HostPort}
use Rattle.manager_links.specs.declared.links.Links.{Links}
use Rattle.manager_links.specs.declared.project.Project.{Project}
use Rattle.project_rtl.specs.Shapes.{shape_of, port_count}
use Rattle.project_rtl.specs.Blocks.{block_size, scalar_count, first_net, ended_net, first_scalar_port}
use Rattle.project_rtl.specs.Tops.{range, kernel_nets, done_count, ended_nets, valid_nets, done_assigns, top_module}
use Rattle.project_rtl.specs.Projects.{IsProjectOf}
use Rattle.project_rtl.specs.Kept.{AllKeepRules}
use Rattle.project_rules.proofs.Lists.{within, there, at, at_behind, Each, each_at, each_join, each_from, each_thrice, joined, each_joined, reads_at, length_range}
use Rattle.project_rules.proofs.Lists.{range_at, length_map}
use Rattle.project_rules.proofs.Slots.{Slot, given_slot, driven_slot, control_slots, length_controls, scalar_slots, scalars_sized, done_slots, in_slots, out_slots}
use Rattle.project_rules.proofs.Slots.{done_slot, port_slots, fed_slots, given_slots, ended_slot, block_slots, block_sized, wire_slots, slots, length_ports, length_fed}
use Rattle.project_rules.proofs.Slots.{length_given, length_ins, length_outs, length_scalars, length_wires, ins_begin, outs_begin, done_is, feeder, drain, core, take_all}
use Rattle.project_rules.proofs.Slots.{assigned_place, done_place}
use Rattle.project_rules.proofs.Slots as own_slots
use Rattle.project_rules.proofs.Nets.{slot_is, count_nets}
use Rattle.project_rules.proofs.Parts.{joint, Which, which, count_parts, input_joint, output_joint}
use Rattle.project_rules.proofs.Assigns.{IsWireOrDone, is_wire, is_done, targets, target_at, last_at}
use Rattle.project_rules.proofs.Wired.{IsFit, Fits, fits_at, view_at, IsRanked, AreRanked, ranked_at, kernel_ranked, kernel_fits}
use Rattle.project_rules.proofs.Queues.{IsPart, part_at, drives_by, fifo_drives, fed_drives, drained_drives, module_of}
use Rattle.project_rules.proofs.Parts.{kernel_joint}
use Rattle.project_rules.proofs.Wired as wired

abbrev driver_of : Option Slot → Driver
driver_of None = ByAssign 0
driver_of (Some s) = s.driver

-- the nets of `done` are as many as its wires
count_valids : (port : ℕ) (hosts : List HostPort) → length (valid_nets port hosts) ≡ length hosts
count_valids port [] = refl
count_valids port (host ∷ hosts) = ap suc (count_valids (port + 3) hosts)

pub count_done : (project : Project) → length (ended_nets project) + 2 * length (valid_nets (first_output (shape_of project)) project.joints.outputs) ≡ done_count project
count_done project =
    let a = length_map (ended_net project) (range 1 (length project.kernels - 1)) in
    let b = length_range 1 (length project.kernels - 1) in
    let c = count_valids (first_output (shape_of project)) project.joints.outputs in
    omega (arith, a, b, c)

module _ (project : Project) (made : Links) (inners : List Module) (d : Design) (whole : IsProjectOf project made inners d) (keeps : AllKeepRules project inners) where
  abbrev top : Module
  top = top_module project

  abbrev driver : ℕ → Driver
  driver n = driver_of (slice_get (slots project) n)

  -- ---- what a driver drives

  abbrev IsOnly : ℕ → Driver → Type 0
  IsOnly n x = (n < length top.nets) × (is_given top n ≡ false) × (x ≡ driver n)

  by_slot : (n : ℕ) (s : Slot) (x : Driver) → slice_get (slots project) n ≡ Some s → s.given ≡ false → s.driver ≡ x → IsOnly n x
  by_slot n s x e free same =
      let i = slot_is project n s e in
      (i.in_range, i.given ∙ free, sym same ∙ sym (ap driver_of e))

  -- an instance of a connection
  pub which_of : (k j : ℕ) → Connection d top k j → Which project k
  which_of k j e =
      let l = count_parts project in
      let lt = within top.instances k e.part e.of in
      which project k (omega (arith, l, lt))

  -- what is so of a connection: its net's slot and its port
  pub record IsConnected {k j : ℕ} (e : Connection d top k j) (p : IsPart project made inners d whole keeps k) : Type 0 where
    pub slot : Slot
    pub own : slice_get p.ss j ≡ Some slot
    pub is : slice_get (slots project) e.net ≡ Some slot
    pub view : slice_get p.views j ≡ Some (port_view e.inner e.port)
    pub fit : IsFit k j (port_view e.inner e.port) slot
    pub of : e.inner ≡ p.inner

  pub connected : (k j : ℕ) (e : Connection d top k j) (p : IsPart project made inners d whole keeps k) → IsConnected e p
  connected k j e p =
      let x = joint d top k j p.nets p.views p.inner p.joint e in
      let r = reads_at (slots project) p.nets p.ss j e.net p.reads x.net in
      let z : 0 + j ≡ j = omega arith in
      record {
        slot = r.item;
        own = r.own;
        is = r.is;
        view = x.view;
        fit = subst (λ i. IsFit k i (port_view e.inner e.port) r.item) z (fits_at k 0 p.views p.ss j (port_view e.inner e.port) r.item p.fits x.view r.own);
        of = x.of;
      }

  only : (n : ℕ) (x : Driver) → Drives d top x n → IsOnly n x
  only n (ByAssign t) h =
      by_case
      (targets (done_port (shape_of project)) (first_net project (length project.kernels)) (ended_net project 0) (ended_nets project)
      (valid_nets (first_output (shape_of project)) project.joints.outputs) t h.0 h.1)
    where
      by_case : IsWireOrDone (done_port (shape_of project)) (first_net project (length project.kernels))
          (length (ended_nets project) + 2 * length (valid_nets (first_output (shape_of project)) project.joints.outputs)) t h.0 → IsOnly n (ByAssign t)
      by_case (is_wire lt e) =
          let c = count_done project in
          let s = driven_slot 1 (ByAssign t) (2 + t) in
          subst (λ i. IsOnly i (ByAssign t)) (sym e ∙ h.2)
          (by_slot (first_net project (length project.kernels) + t) s (ByAssign t) (assigned_place project t (omega (arith, lt, c))) refl refl)
      by_case (is_done e f) =
          let c = count_done project in
          let same : done_count project ≡ t = omega (arith, e, c) in
          subst (λ i. IsOnly i (ByAssign t)) (sym f ∙ h.2)
          (by_slot (done_port (shape_of project)) (done_slot project) (ByAssign t) (own_slots.port_place project (done_port (shape_of project))
          (done_slot project) (done_place project)) refl
          (ap ByAssign same))
  only n (ByPort k j) h =
      let e = h.0 in
      let c = connected k j e (part_at project made inners d whole keeps k (which_of k j e)) in
      subst (λ i. IsOnly i (ByPort k j)) h.2 (by_slot e.net c.slot (ByPort k j) c.is (c.fit.free h.1) (c.fit.driver h.1))

  -- ---- what drives a net

  abbrev IsDriven : ℕ → Slot → Type 0
  IsDriven n s = s.given ≡ false → Drives d top s.driver n

  not_free : {A : Type 0} → true ≡ false → A
  not_free h = absurd (false≢true (sym h))

  driven_at : (k n : ℕ) (s : Slot) → IsDriven k s → k ≡ n → IsDriven n s
  driven_at k n s h same = subst (λ i. IsDriven i s) same h

  controls_driven : (n : ℕ) (kernels : List Kernel) → Each IsDriven n (control_slots kernels)
  controls_driven n [] = tt
  controls_driven n (kernel ∷ kernels) = ((λ h. not_free h), ((λ h. not_free h), controls_driven (n + 1 + 1) kernels))

  scalars_driven : (n k : ℕ) (kernel : Kernel) (ns : List ℕ) → Each IsDriven n (map (λ m. given_slot (width_at kernel.nodes m)) ns)
  scalars_driven n k kernel [] = tt
  scalars_driven n k kernel (m ∷ ns) = ((λ h. not_free h), scalars_driven (n + 1) k kernel ns)

  -- an output of a kernel's instance drives the net of its slot
  kernel_drives : (k : ℕ) (kernel : Kernel) (q : ℕ) (s : Slot) → slice_get project.kernels k ≡ Some kernel → slice_get (block_slots project k kernel) q ≡ Some s
      → s.rank ≡ 1 → Drives d top s.driver (first_net project k + q)
  kernel_drives k kernel q s e f one =
      let c = core project k in
      let low : List Slot = given_slot 1 ∷ given_slot 1 ∷ given_slot 1 ∷ given_slot 48 ∷ scalar_slots k kernel in
      let size = 4 + scalar_count kernel in
      let sized = scalars_sized k kernel in
      let ss = wired.own_slots project k kernel in
      let here : slice_get ss (size + q) ≡ Some s = at_behind low (block_slots project k kernel) size q s (omega (arith, sized)) f in
      let v = view_at c 0 (module_ports kernel.nodes) ss (size + q) s (kernel_fits project k kernel) here in
      let z : 0 + (size + q) ≡ size + q = omega arith in
      let fit = subst (λ i. IsFit c i v.0 s) z (fits_at c 0 (module_ports kernel.nodes) ss (size + q) v.0 s (kernel_fits project k kernel) v.1 here) in
      let r = ranked_at (module_ports kernel.nodes) ss (size + q) v.0 s (kernel_ranked project k kernel) v.1 here in
      let out : v.0.output ≡ true = is_output v.0.output refl r one in
      let m = module_of project made inners d whole keeps k kernel e in
      let joint = kernel_joint project made inners d whole k kernel m.inner e m.is m.keeps_rules.ports in
      let front = range 0 2 ++ range (2 + 2 * k) 2 ++ range (first_scalar_port project k) (scalar_count kernel) in
      let sum = length-append (range 0 2 ++ range (2 + 2 * k) 2) (range (first_scalar_port project k) (scalar_count kernel)) in
      let wide = length_range (first_scalar_port project k) (scalar_count kernel) in
      let b = block_sized project k kernel in
      let lt = within (block_slots project k kernel) q s f in
      let net : slice_get (kernel_nets project k kernel) (size + q) ≡ Some (first_net project k + q) =
      at_behind front (range (first_net project k) (block_size kernel)) size q (first_net project k + q) (omega (arith, sum, wide))
      (range_at (first_net project k) (block_size kernel) q (omega (arith, lt, b))) in
      subst (λ x. Drives d top x (first_net project k + q)) (sym (fit.driver out))
      (drives_by project made inners d whole keeps c (size + q) (first_net project k + q) (kernel_nets project k kernel)
      (module_ports kernel.nodes) v.0 m.inner joint net v.1 out)
    where
      is_output : {v : PortView} (b : Bool) → v.output ≡ b → IsRanked v s → s.rank ≡ 1 → b ≡ true
      is_output true h r one = refl
      is_output false h r one = let zero' = r.inner h in absurd (omega (arith, zero', one))

  -- a slot of a block is of an output of the kernel, or of a FIFO that drives it
  abbrev IsOfBlock : ℕ → ℕ → Slot → Type 0
  IsOfBlock k q s = (s.rank ≡ 1) ⊎ Drives d top s.driver (first_net project k + q)

  moved : (x : Driver) (a b : ℕ) → Drives d top x a → a ≡ b → Drives d top x b
  moved x a b h same = subst (λ n. Drives d top x n) same h

  block_sides : (k : ℕ) (kernel : Kernel) → slice_get project.kernels k ≡ Some kernel → Each (IsOfBlock k) 0 (block_slots project k kernel)
  block_sides k kernel e =
      let nodes = kernel.nodes in
      each_join (IsOfBlock k) 0 (3 * length (inputs_of nodes)) (fed_slots project k kernel 0 (inputs_of nodes)) (given_slots project k kernel 0
      (outputs_of nodes) ++ ended_slot project k kernel ∷ [])
      (sym (length_fed project k kernel))
      (each_thrice (IsOfBlock k) (λ p n. driven_slot (width_at kernel.nodes n) (ByPort (feeder project k n) 5) 0) (λ p n. driven_slot 1 (ByPort (feeder project k n) 6) 0)
      (λ p n. driven_slot 1 (ByPort (core project k) (own.first_input kernel.nodes + 3 * p + 2)) 1) 0 0 (inputs_of nodes)
      (λ i n f.
      let r = fed_drives project made inners d whole keeps k kernel i n e f in (
        inr (moved (ByPort (feeder project k n) 5) (first_net project k + 3 * i) (first_net project k + (0 + 3 * i)) r.drives.word (omega arith)),
        inr (moved (ByPort (feeder project k n) 6) (first_net project k + 3 * i + 1) (first_net project k + (0 + 3 * i + 1)) r.drives.valid (omega arith)),
        inl refl,
      )))
      (each_join (IsOfBlock k) (0 + 3 * length (inputs_of nodes)) (3 * length (outputs_of nodes)) (given_slots project k kernel 0
      (outputs_of nodes)) (ended_slot project k kernel ∷ [])
      (sym (length_given project k kernel))
      (each_thrice (IsOfBlock k) (λ p n. driven_slot (width_at kernel.nodes n) (ByPort (core project k) (own.first_output kernel.nodes + 3 * p)) 1)
      (λ p n. driven_slot 1 (ByPort (core project k) (own.first_output kernel.nodes + 3 * p + 1)) 1) (λ p n. driven_slot 1 (ByPort (drain project k n) 4) 0)
      (0 + 3 * length (inputs_of nodes)) 0 (outputs_of nodes)
      (λ i n f.
      let r = drained_drives project made inners d whole keeps k kernel i n e f in (
        inl refl,
        inl refl,
        inr (moved (ByPort (drain project k n) 4) (first_net project k + 3 * (length (inputs_of nodes) + i) + 2) (first_net project k +
            (0 + 3 * length (inputs_of nodes) + 3 * i + 2)) r.drives.ready (omega arith)),
      )))
      (inl refl, tt))

  block_driven : (k : ℕ) (kernel : Kernel) → slice_get project.kernels k ≡ Some kernel → Each IsDriven (first_net project k) (block_slots project k kernel)
  block_driven k kernel e =
      each_from IsDriven (first_net project k) (block_slots project k kernel)
      (λ q s f h. by_side q s f (each_at (IsOfBlock k) 0 (block_slots project k kernel) (block_sides k kernel e) q s f))
    where
      by_side : (q : ℕ) (s : Slot) → slice_get (block_slots project k kernel) q ≡ Some s → IsOfBlock k (0 + q) s → Drives d top s.driver (first_net project k + q)
      by_side q s f (inl one) = kernel_drives k kernel q s e f one
      by_side q s f (inr h) = moved s.driver (first_net project k + (0 + q)) (first_net project k + q) h (omega arith)

  ports_driven : Each IsDriven 0 (port_slots project)
  ports_driven =
      let ins = project.joints.inputs in
      let outs = project.joints.outputs in
      let kernels = project.kernels in
      let a = length_scalars project in
      let b = ins_begin project in
      let o = outs_begin project in
      let f = done_is project in
      let n = 0 + 1 + 1 + 2 * length kernels in
      let m = n + sum_by scalar_count kernels in
      let l = m + 3 * length ins in (
        (λ h. not_free h),
        (
          (λ h. not_free h),
          each_join IsDriven (0 + 1 + 1) (2 * length kernels) (control_slots kernels) (own_slots.scalar_ports project) (sym
              (length_controls kernels)) (controls_driven (0 + 1 + 1) kernels)
              (each_join IsDriven n (sum_by scalar_count kernels) (joined scalar_slots 0 kernels) (own_slots.in_ports project) (sym a)
              (each_joined scalar_slots scalar_count scalars_sized IsDriven n 0 kernels (λ k kernel e. scalars_driven _ (0 + k) kernel (own.scalars_of kernel.nodes)))
              (each_join IsDriven m (3 * length ins) (in_slots project 0 ins) (own_slots.out_ports project) (sym (length_ins project))
              (each_thrice IsDriven (λ i (host : HostPort). given_slot (width_of host.t)) (λ i (host : HostPort). given_slot 1) (λ i
              (host : HostPort). driven_slot 1 (ByPort i 4) 0) m 0 ins
              (λ i host e.
              let r = fifo_drives project made inners d whole keeps i (width_of host.t) (first_input (shape_of project) + 3 * i) _
              (input_joint project made inners d whole i host e) in
              let z : i ≡ 0 + i = omega arith in (
                (λ h. not_free h),
                (λ h. not_free h),
                (λ h. subst (λ j. Drives d top (ByPort j 4) (m + 3 * i + 2)) z (moved (ByPort i 4) (first_input (shape_of project) + 3 * i + 2)
                    (m + 3 * i + 2) r.ready (omega (arith, b)))),
              )))
              (each_join IsDriven l (3 * length outs) (out_slots project 0 outs) (done_slot project ∷ []) (sym (length_outs project))
              (each_thrice IsDriven (λ i (host : HostPort). driven_slot (width_of host.t) (ByPort (length ins + i) 5) 0)
              (λ i (host : HostPort). driven_slot 1 (ByPort (length ins + i) 6) 0) (λ i (host : HostPort). given_slot 1) l 0 outs
              (λ i host e.
              let r = fifo_drives project made inners d whole keeps (length ins + i) (width_of host.t) _ (first_output (shape_of project) + 3 * i)
              (output_joint project made inners d whole i host e) in
              let z : length ins + i ≡ length ins + (0 + i) = omega arith in (
                (λ h. subst (λ j. Drives d top (ByPort j 5) (l + 3 * i)) z (moved (ByPort (length ins + i) 5) (first_output
                    (shape_of project) + 3 * i) (l + 3 * i) r.word (omega (arith, b, o)))),
                (λ h. subst (λ j. Drives d top (ByPort j 6) (l + 3 * i + 1)) z (moved (ByPort (length ins + i) 6) (first_output
                    (shape_of project) + 3 * i + 1) (l + 3 * i + 1) r.valid (omega (arith, b, o)))),
                (λ h. not_free h),
              ))) (
                (λ h.
                    let g = last_at (done_port (shape_of project)) (first_net project (length kernels)) (ended_net project 0) (ended_nets project)
                    (valid_nets (first_output (shape_of project)) outs) in
                    let c = count_done project in
                    let place : done_port (shape_of project) ≡ l + 3 * length outs = omega (arith, b, o, f) in (
                      g.assign,
                      at (done_assigns project) (length (ended_nets project) + 2 * length (valid_nets (first_output
                          (shape_of project)) outs)) (done_count project) g.assign g.is c,
                      g.target ∙ place,
                    )),
                tt,
              )))),
        ),
      )

  done_driven : (t count : ℕ) → t + count ≡ done_count project → Each IsDriven (first_net project (length project.kernels) + t) (done_slots t count)
  done_driven t zero e = tt
  done_driven t (suc count) e =
      let c = count_done project in
      let g = target_at (done_port (shape_of project)) (first_net project (length project.kernels)) (ended_net project 0) (ended_nets project)
      (valid_nets (first_output (shape_of project)) project.joints.outputs) t (omega (arith, e, c)) in
      let z : first_net project (length project.kernels) + (t + 1) ≡ first_net project (length project.kernels) + t + 1 = omega arith in
      ((λ h. (g.assign, g.is, g.target)), subst (λ n. Each IsDriven n (done_slots (t + 1) count)) z (done_driven (t + 1) count (omega (arith, e))))

  wires_driven : Each IsDriven (port_count project) (wire_slots project)
  wires_driven =
      let kernels = project.kernels in
      let all = ap (λ l. sum_by block_size l) (take_all kernels) in
      let z : first_net project (length kernels) + 0 ≡ port_count project + sum_by block_size kernels = omega (arith, all) in
      each_join IsDriven (port_count project) (sum_by block_size kernels) (joined (block_slots project) 0 kernels) (done_slots 0 (done_count project))
      (sym (own_slots.count_blocks project))
      (each_joined (block_slots project) block_size (block_sized project) IsDriven (port_count project) 0 kernels
      (λ k kernel e.
      let y : k ≡ 0 + k = omega arith in
      subst (λ j. Each IsDriven (first_net project k) (block_slots project j kernel)) y (block_driven k kernel e)))
      (subst (λ n. Each IsDriven n (done_slots 0 (done_count project))) z (done_driven 0 (done_count project) (omega arith)))

  some : (n : ℕ) → n < length top.nets → is_given top n ≡ false → Drives d top (driver n) n
  some n lt free =
      let c = count_nets project in
      let l = length_ports project in
      let a = length-append (port_slots project) (wire_slots project) in
      let s = there (slots project) n (omega (arith, lt, c, l, a)) in
      let i = slot_is project n s.0 s.1 in
      let z : 0 + n ≡ n = omega arith in
      let all = each_join IsDriven 0 (port_count project) (port_slots project) (wire_slots project) (sym l) ports_driven
      (subst (λ j. Each IsDriven j (wire_slots project)) (let y : port_count project ≡ 0 + port_count project = omega arith in y) wires_driven) in
      let h : IsDriven n s.0 = driven_at (0 + n) n s.0 (each_at IsDriven 0 (slots project) all n s.0 s.1) z in
      subst (λ x. Drives d top x n) (sym (ap driver_of s.1)) (h (sym i.given ∙ free))

  pub driven : HasDrivers d top
  driven = record { driver = driver; some = some; only = only }
