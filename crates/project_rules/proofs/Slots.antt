-- What holds of each net of the top module: its width, whether it is given, what drives it, and its rank.
use Rattle.std.proofs.Common.{◌≡◌, ◌∙◌, ℕ, zero, suc, ◌+◌, ◌*◌, ◌<◌, Bool, true, false, List, [], ◌∷◌, ◌++◌, map, take, Some, length, refl, sym, ap, subst, arith, length-append}
use Rattle.std.specs.Prelude.{slice_get, sum_by}
use Rattle.std.specs.List.{flat_map}
use Rattle.fix_arith.specs.Types.{width_of}
use Rattle.rtl_ir.specs.Rules.{Driver, ByAssign, ByPort}
use Rattle.rtl_ir.specs.Ports.{first_scalar, first_input, first_output, done_port}
use Rattle.stream_graph.specs.declared.kernel.Kernel.{Kernel}
use Rattle.stream_graph.specs.LookUps.{width_at}
use Rattle.kernel_control.specs.Ports.{inputs_of, outputs_of, scalars_of, ended_port}
use Rattle.kernel_control.specs.Ports as own
use Rattle.manager_links.specs.declared.hosts.HostPort.{HostPort}
use Rattle.manager_links.specs.declared.links.LinkEnds.{LinkEnds}
use Rattle.manager_links.specs.declared.project.Project.{Project}
use Rattle.project_rtl.specs.Shapes.{shape_of, scalar_shapes, scalar_shape, host_shape, port_count}
use Rattle.project_rtl.specs.Blocks.{stream_count, scalar_count, block_size, first_net, first_scalar_port}
use Rattle.project_rtl.specs.Tops.{host_count, fifo_count, done_count}
use Rattle.project_rules.proofs.Lists.{at, at_left, at_behind, length_map, thrice, length_thrice, thrice_at, AreThere, three_at, there_left, there_behind, joined}
use Rattle.project_rules.proofs.Lists.{length_joined, joined_at}
use Rattle.project_rules.proofs.Taps.{Tap, taps_to, taps_from, taps_of, find}

pub record Slot : Type 0 where
  pub width : ℕ
  pub given : Bool
  pub driver : Driver
  pub rank : ℕ

abbrev pub given_slot : ℕ → Slot
given_slot w = record { width = w; given = true; driver = ByAssign 0; rank = 0 }

abbrev pub driven_slot : ℕ → Driver → ℕ → Slot
driven_slot w x rank = record { width = w; given = false; driver = x; rank = rank }

-- lists of lists, whatever their places
pub flat_is : {A B : Type 0} (f : B → List A) (k : ℕ) (xs : List B) → flat_map f xs ≡ joined (λ (j : ℕ). f) k xs
flat_is f k [] = refl
flat_is f k (x ∷ xs) = ap (λ l. f x ++ l) (flat_is f (k + 1) xs)

pub take_all : {A : Type 0} (xs : List A) → take (length xs) xs ≡ xs
take_all [] = refl
take_all (x ∷ xs) = ap (λ l. x ∷ l) (take_all xs)

-- so many wires of assignments, from this one on
abbrev pub done_slots : ℕ → ℕ → List Slot
done_slots t zero = []
done_slots t (suc count) = driven_slot 1 (ByAssign t) (2 + t) ∷ done_slots (t + 1) count

pub length_done : (t count : ℕ) → length (done_slots t count) ≡ count
length_done t zero = refl
length_done t (suc count) = ap suc (length_done (t + 1) count)

pub done_at : (t count k : ℕ) → k < count → slice_get (done_slots t count) k ≡ Some (driven_slot 1 (ByAssign (t + k)) (2 + (t + k)))
done_at t zero k h = absurd (omega arith)
done_at t (suc count) zero h = let z : t ≡ t + 0 = omega arith in ap (λ n. Some (driven_slot 1 (ByAssign n) (2 + n))) z
done_at t (suc count) (suc k) h =
    let z : t + 1 + k ≡ t + suc k = omega arith in
    done_at (t + 1) count k (omega (arith, h)) ∙ ap (λ n. Some (driven_slot 1 (ByAssign n) (2 + n))) z

-- those of the controls of kernels
abbrev pub control_slots : List Kernel → List Slot
control_slots [] = []
control_slots (kernel ∷ kernels) = given_slot 1 ∷ given_slot 48 ∷ control_slots kernels

pub length_controls : (kernels : List Kernel) → length (control_slots kernels) ≡ 2 * length kernels
length_controls [] = refl
length_controls (kernel ∷ kernels) = let e = length_controls kernels in omega (arith, e)

pub hold_at : (kernels : List Kernel) (k : ℕ) → k < length kernels → slice_get (control_slots kernels) (2 * k) ≡ Some (given_slot 1)
hold_at [] k h = absurd (omega arith)
hold_at (x ∷ kernels) zero h = refl
hold_at (x ∷ kernels) (suc k) h =
    let z : suc (suc (2 * k)) ≡ 2 * suc k = omega arith in
    at (control_slots (x ∷ kernels)) (suc (suc (2 * k))) (2 * suc k) (given_slot 1) (hold_at kernels k (omega (arith, h))) z

pub ticks_at : (kernels : List Kernel) (k : ℕ) → k < length kernels → slice_get (control_slots kernels) (2 * k + 1) ≡ Some (given_slot 48)
ticks_at [] k h = absurd (omega arith)
ticks_at (x ∷ kernels) zero h = refl
ticks_at (x ∷ kernels) (suc k) h =
    let z : suc (suc (2 * k + 1)) ≡ 2 * suc k + 1 = omega arith in
    at (control_slots (x ∷ kernels)) (suc (suc (2 * k + 1))) (2 * suc k + 1) (given_slot 48) (ticks_at kernels k (omega (arith, h))) z

-- those of the scalars of a kernel
abbrev pub scalar_slots : ℕ → Kernel → List Slot
scalar_slots k kernel = map (λ n. given_slot (width_at kernel.nodes n)) (scalars_of kernel.nodes)

pub scalars_sized : (k : ℕ) (kernel : Kernel) → length (scalar_slots k kernel) ≡ scalar_count kernel
scalars_sized k kernel = length_map (λ n. given_slot (width_at kernel.nodes n)) (scalars_of kernel.nodes)

module _ (project : Project) where
  abbrev pub kernels : List Kernel
  kernels = project.kernels

  abbrev pub ins : List HostPort
  ins = project.joints.inputs

  abbrev pub outs : List HostPort
  outs = project.joints.outputs

  abbrev pub links : List LinkEnds
  links = project.joints.links

  -- the FIFOs that feed inputs, and those that take words of outputs
  abbrev pub feeding : List Tap
  feeding = taps_to (host_count project) links ++ taps_of 0 ins

  abbrev pub draining : List Tap
  draining = taps_from (host_count project) links ++ taps_of (length ins) outs

  abbrev pub feeder : ℕ → ℕ → ℕ
  feeder k n = find (record { kernel = k; node = n }) feeding

  abbrev pub drain : ℕ → ℕ → ℕ
  drain k n = find (record { kernel = k; node = n }) draining

  -- the instance of a kernel
  abbrev pub core : ℕ → ℕ
  core k = fifo_count project + k

  -- ---- ports

  abbrev pub in_slots : ℕ → List HostPort → List Slot
  in_slots =
      thrice (λ i (host : HostPort). given_slot (width_of host.t)) (λ i (host : HostPort). given_slot 1)
      (λ i (host : HostPort). driven_slot 1 (ByPort i 4) 0)

  abbrev pub out_slots : ℕ → List HostPort → List Slot
  out_slots =
      thrice (λ i (host : HostPort). driven_slot (width_of host.t) (ByPort (length ins + i) 5) 0)
      (λ i (host : HostPort). driven_slot 1 (ByPort (length ins + i) 6) 0) (λ i (host : HostPort). given_slot 1)

  abbrev pub done_slot : Slot
  done_slot = driven_slot 1 (ByAssign (done_count project)) (2 + done_count project)

  abbrev pub out_ports : List Slot
  out_ports = out_slots 0 outs ++ done_slot ∷ []

  abbrev pub in_ports : List Slot
  in_ports = in_slots 0 ins ++ out_ports

  abbrev pub scalar_ports : List Slot
  scalar_ports = joined scalar_slots 0 kernels ++ in_ports

  abbrev pub port_slots : List Slot
  port_slots = given_slot 1 ∷ given_slot 1 ∷ (control_slots kernels ++ scalar_ports)

  -- ---- wires

  abbrev pub fed_slots : ℕ → Kernel → ℕ → List ℕ → List Slot
  fed_slots k kernel =
      thrice (λ p n. driven_slot (width_at kernel.nodes n) (ByPort (feeder k n) 5) 0) (λ p n. driven_slot 1 (ByPort (feeder k n) 6) 0)
      (λ p n. driven_slot 1 (ByPort (core k) (own.first_input kernel.nodes + 3 * p + 2)) 1)

  abbrev pub given_slots : ℕ → Kernel → ℕ → List ℕ → List Slot
  given_slots k kernel =
      thrice (λ p n. driven_slot (width_at kernel.nodes n) (ByPort (core k) (own.first_output kernel.nodes + 3 * p)) 1)
      (λ p n. driven_slot 1 (ByPort (core k) (own.first_output kernel.nodes + 3 * p + 1)) 1) (λ p n. driven_slot 1 (ByPort (drain k n) 4) 0)

  abbrev pub ended_slot : ℕ → Kernel → Slot
  ended_slot k kernel = driven_slot 1 (ByPort (core k) (ended_port kernel.nodes)) 1

  abbrev pub block_slots : ℕ → Kernel → List Slot
  block_slots k kernel =
      fed_slots k kernel 0 (inputs_of kernel.nodes) ++ (given_slots k kernel 0 (outputs_of kernel.nodes) ++ ended_slot k kernel ∷ [])

  abbrev pub wire_slots : List Slot
  wire_slots = joined block_slots 0 kernels ++ done_slots 0 (done_count project)

  abbrev pub slots : List Slot
  slots = port_slots ++ wire_slots

  -- ---- how many

  pub length_fed : (k : ℕ) (kernel : Kernel) → length (fed_slots k kernel 0 (inputs_of kernel.nodes)) ≡ 3 * length (inputs_of kernel.nodes)
  length_fed k kernel =
      length_thrice (λ p n. driven_slot (width_at kernel.nodes n) (ByPort (feeder k n) 5) 0) (λ p n. driven_slot 1 (ByPort (feeder k n) 6) 0)
      (λ p n. driven_slot 1 (ByPort (core k) (own.first_input kernel.nodes + 3 * p + 2)) 1) 0 (inputs_of kernel.nodes)

  pub length_given : (k : ℕ) (kernel : Kernel) → length (given_slots k kernel 0 (outputs_of kernel.nodes)) ≡ 3 * length (outputs_of kernel.nodes)
  length_given k kernel =
      length_thrice (λ p n. driven_slot (width_at kernel.nodes n) (ByPort (core k) (own.first_output kernel.nodes + 3 * p)) 1)
      (λ p n. driven_slot 1 (ByPort (core k) (own.first_output kernel.nodes + 3 * p + 1)) 1) (λ p n. driven_slot 1 (ByPort (drain k n) 4) 0) 0 (outputs_of kernel.nodes)

  pub block_sized : (k : ℕ) (kernel : Kernel) → length (block_slots k kernel) ≡ block_size kernel
  block_sized k kernel =
      let a = length-append (fed_slots k kernel 0 (inputs_of kernel.nodes)) (given_slots k kernel 0 (outputs_of kernel.nodes) ++ ended_slot k kernel ∷ []) in
      let b = length-append (given_slots k kernel 0 (outputs_of kernel.nodes)) (ended_slot k kernel ∷ []) in
      let c = length_fed k kernel in
      let d = length_given k kernel in
      let e = length-append (inputs_of kernel.nodes) (outputs_of kernel.nodes) in
      omega (arith, a, b, c, d, e)

  pub length_ins : length (in_slots 0 ins) ≡ 3 * length ins
  length_ins =
      length_thrice (λ i (host : HostPort). given_slot (width_of host.t)) (λ i (host : HostPort). given_slot 1)
      (λ i (host : HostPort). driven_slot 1 (ByPort i 4) 0) 0 ins

  pub length_outs : length (out_slots 0 outs) ≡ 3 * length outs
  length_outs =
      length_thrice (λ i (host : HostPort). driven_slot (width_of host.t) (ByPort (length ins + i) 5) 0)
      (λ i (host : HostPort). driven_slot 1 (ByPort (length ins + i) 6) 0) (λ i (host : HostPort). given_slot 1) 0 outs

  pub length_scalars : length (joined scalar_slots 0 kernels) ≡ sum_by scalar_count kernels
  length_scalars = length_joined scalar_slots scalar_count scalars_sized 0 kernels

  -- where the ports of the host begin
  pub scalars_begin : first_scalar (shape_of project) ≡ 2 + 2 * length kernels
  scalars_begin = let e = length_map (λ (kernel : Kernel). kernel.name) kernels in omega (arith, e)

  pub ins_begin : first_input (shape_of project) ≡ 2 + 2 * length kernels + sum_by scalar_count kernels
  ins_begin =
      let a = scalars_begin in
      let b : length (flat_map scalar_shapes kernels) ≡ sum_by scalar_count kernels =
      ap (λ l. length l) (flat_is scalar_shapes 0 kernels)
      ∙ length_joined (λ (j : ℕ). scalar_shapes) scalar_count (λ j kernel. length_map (scalar_shape kernel) (scalars_of kernel.nodes)) 0 kernels in
      omega (arith, a, b)

  pub outs_begin : first_output (shape_of project) ≡ first_input (shape_of project) + 3 * length ins
  outs_begin = let e = length_map host_shape ins in omega (arith, e)

  pub done_is : done_port (shape_of project) ≡ first_output (shape_of project) + 3 * length outs
  done_is = let e = length_map host_shape outs in omega (arith, e)

  pub length_ports : length port_slots ≡ port_count project
  length_ports =
      let a = length-append (control_slots kernels) scalar_ports in
      let b = length-append (joined scalar_slots 0 kernels) in_ports in
      let c = length-append (in_slots 0 ins) out_ports in
      let d = length-append (out_slots 0 outs) (done_slot ∷ []) in
      let e = length_controls kernels in
      let f = length_scalars in
      let g = length_ins in
      let h = length_outs in
      let i = ins_begin in
      let j = outs_begin in
      let k = done_is in
      omega (arith, a, b, c, d, e, f, g, h, i, j, k)

  pub count_blocks : length (joined block_slots 0 kernels) ≡ sum_by block_size kernels
  count_blocks = length_joined block_slots block_size block_sized 0 kernels

  pub length_wires : length wire_slots ≡ sum_by block_size kernels + done_count project
  length_wires =
      let a = length-append (joined block_slots 0 kernels) (done_slots 0 (done_count project)) in
      let b = length_joined block_slots block_size block_sized 0 kernels in
      let c = length_done 0 (done_count project) in
      omega (arith, a, b, c)

  -- ---- where they stand

  pub port_place : (n : ℕ) (s : Slot) → slice_get port_slots n ≡ Some s → slice_get slots n ≡ Some s
  port_place n s e = at_left port_slots wire_slots n s e

  wire_place : (n : ℕ) (s : Slot) → slice_get wire_slots n ≡ Some s → slice_get slots (port_count project + n) ≡ Some s
  wire_place n s e = at_behind port_slots wire_slots (port_count project) n s (sym length_ports) e

  behind_controls : (n : ℕ) (s : Slot) → slice_get scalar_ports n ≡ Some s → slice_get port_slots (2 + 2 * length kernels + n) ≡ Some s
  behind_controls n s e =
      let z : suc (suc (2 * length kernels + n)) ≡ 2 + 2 * length kernels + n = omega arith in
      at port_slots (suc (suc (2 * length kernels + n))) (2 + 2 * length kernels + n) s
      (at_behind (control_slots kernels) scalar_ports (2 * length kernels) n s (sym (length_controls kernels)) e) z

  pub hold_place : (k : ℕ) → k < length kernels → slice_get port_slots (2 + 2 * k) ≡ Some (given_slot 1)
  hold_place k h =
      let z : suc (suc (2 * k)) ≡ 2 + 2 * k = omega arith in
      at port_slots (suc (suc (2 * k))) (2 + 2 * k) (given_slot 1) (at_left (control_slots kernels) scalar_ports (2 * k) (given_slot 1) (hold_at kernels k h)) z

  pub ticks_place : (k : ℕ) → k < length kernels → slice_get port_slots (2 + 2 * k + 1) ≡ Some (given_slot 48)
  ticks_place k h =
      let z : suc (suc (2 * k + 1)) ≡ 2 + 2 * k + 1 = omega arith in
      at port_slots (suc (suc (2 * k + 1))) (2 + 2 * k + 1) (given_slot 48)
      (at_left (control_slots kernels) scalar_ports (2 * k + 1) (given_slot 48) (ticks_at kernels k h)) z

  pub scalar_place : (k : ℕ) (kernel : Kernel) (q : ℕ) (s : Slot) → slice_get kernels k ≡ Some kernel → slice_get (scalar_slots k kernel) q ≡ Some s
      → slice_get port_slots (first_scalar_port project k + q) ≡ Some s
  scalar_place k kernel q s e h =
      let a = scalars_begin in
      let z : 2 + 2 * length kernels + (sum_by scalar_count (take k kernels) + q) ≡ first_scalar_port project k + q = omega (arith, a) in
      at port_slots (2 + 2 * length kernels + (sum_by scalar_count (take k kernels) + q)) (first_scalar_port project k + q) s
      (behind_controls (sum_by scalar_count (take k kernels) + q) s
      (at_left (joined scalar_slots 0 kernels) in_ports (sum_by scalar_count (take k kernels) + q) s
      (joined_at scalar_slots scalar_count scalars_sized 0 kernels k kernel q s e h))) z

  behind_scalars : (n : ℕ) (s : Slot) → slice_get in_ports n ≡ Some s → slice_get port_slots (first_input (shape_of project) + n) ≡ Some s
  behind_scalars n s e =
      let a = ins_begin in
      let z : 2 + 2 * length kernels + (sum_by scalar_count kernels + n) ≡ first_input (shape_of project) + n = omega (arith, a) in
      at port_slots (2 + 2 * length kernels + (sum_by scalar_count kernels + n)) (first_input (shape_of project) + n) s
      (behind_controls (sum_by scalar_count kernels + n) s
      (at_behind (joined scalar_slots 0 kernels) in_ports (sum_by scalar_count kernels) n s (sym length_scalars) e)) z

  three_behind_scalars : (n : ℕ) (a b c : Slot) → AreThere in_ports n a b c → AreThere port_slots (first_input (shape_of project) + n) a b c
  three_behind_scalars n a b c t =
      let f = first_input (shape_of project) in
      let y : f + (n + 1) ≡ f + n + 1 = omega arith in
      let z : f + (n + 2) ≡ f + n + 2 = omega arith in
      record {
        first = behind_scalars n a t.first;
        second = at port_slots (f + (n + 1)) (f + n + 1) b (behind_scalars (n + 1) b t.second) y;
        third = at port_slots (f + (n + 2)) (f + n + 2) c (behind_scalars (n + 2) c t.third) z;
      }

  pub in_place : (i : ℕ) (host : HostPort) → slice_get ins i ≡ Some host
      → AreThere port_slots (first_input (shape_of project) + 3 * i) (given_slot (width_of host.t)) (given_slot 1) (driven_slot 1 (ByPort i 4) 0)
  in_place i host e =
      let z : 0 + i ≡ i = omega arith in
      let t = thrice_at (λ i (host : HostPort). given_slot (width_of host.t)) (λ i (host : HostPort). given_slot 1)
      (λ i (host : HostPort). driven_slot 1 (ByPort i 4) 0) 0 ins i host e in
      three_behind_scalars (3 * i) (given_slot (width_of host.t)) (given_slot 1) (driven_slot 1 (ByPort i 4) 0)
      (there_left (in_slots 0 ins) out_ports (3 * i) (given_slot (width_of host.t)) (given_slot 1) (driven_slot 1 (ByPort i 4) 0)
      (subst (λ j. AreThere (in_slots 0 ins) (3 * i) (given_slot (width_of host.t)) (given_slot 1) (driven_slot 1 (ByPort j 4) 0)) z t))

  pub out_place : (i : ℕ) (host : HostPort) → slice_get outs i ≡ Some host
      → AreThere port_slots (first_output (shape_of project) + 3 * i) (driven_slot (width_of host.t) (ByPort (length ins + i) 5) 0)
      (driven_slot 1 (ByPort (length ins + i) 6) 0) (given_slot 1)
  out_place i host e =
      let a = driven_slot (width_of host.t) (ByPort (length ins + i) 5) 0 in
      let b = driven_slot 1 (ByPort (length ins + i) 6) 0 in
      let z : 0 + i ≡ i = omega arith in
      let o = outs_begin in
      let n : first_input (shape_of project) + (3 * length ins + 3 * i) ≡ first_output (shape_of project) + 3 * i = omega (arith, o) in
      let t = thrice_at (λ i (host : HostPort). driven_slot (width_of host.t) (ByPort (length ins + i) 5) 0)
      (λ i (host : HostPort). driven_slot 1 (ByPort (length ins + i) 6) 0) (λ i (host : HostPort). given_slot 1) 0 outs i host e in
      let own = subst (λ j. AreThere (out_slots 0 outs) (3 * i) (driven_slot (width_of host.t) (ByPort (length ins + j) 5) 0)
      (driven_slot 1 (ByPort (length ins + j) 6) 0) (given_slot 1)) z t in
      three_at port_slots (first_input (shape_of project) + (3 * length ins + 3 * i)) (first_output (shape_of project) + 3 * i) a b (given_slot 1)
      (three_behind_scalars (3 * length ins + 3 * i) a b (given_slot 1)
      (there_behind (in_slots 0 ins) out_ports (3 * length ins) (3 * i) a b (given_slot 1) (sym length_ins)
      (there_left (out_slots 0 outs) (done_slot ∷ []) (3 * i) a b (given_slot 1) own))) n

  pub done_place : slice_get port_slots (done_port (shape_of project)) ≡ Some done_slot
  done_place =
      let o = outs_begin in
      let d = done_is in
      let n : first_input (shape_of project) + (3 * length ins + (3 * length outs + 0)) ≡ done_port (shape_of project) = omega (arith, o, d) in
      at port_slots (first_input (shape_of project) + (3 * length ins + (3 * length outs + 0))) (done_port (shape_of project)) done_slot
      (behind_scalars (3 * length ins + (3 * length outs + 0)) done_slot
      (at_behind (in_slots 0 ins) out_ports (3 * length ins) (3 * length outs + 0) done_slot (sym length_ins)
      (at_behind (out_slots 0 outs) (done_slot ∷ []) (3 * length outs) 0 done_slot (sym length_outs) refl))) n

  pub block_place : (k : ℕ) (kernel : Kernel) (q : ℕ) (s : Slot) → slice_get kernels k ≡ Some kernel → slice_get (block_slots k kernel) q ≡ Some s
      → slice_get slots (first_net project k + q) ≡ Some s
  block_place k kernel q s e h =
      let z : port_count project + (sum_by block_size (take k kernels) + q) ≡ first_net project k + q = omega arith in
      at slots (port_count project + (sum_by block_size (take k kernels) + q)) (first_net project k + q) s
      (wire_place (sum_by block_size (take k kernels) + q) s
      (at_left (joined block_slots 0 kernels) (done_slots 0 (done_count project)) (sum_by block_size (take k kernels) + q) s
      (joined_at block_slots block_size block_sized 0 kernels k kernel q s e
      (let n : 0 + k ≡ k = omega arith in ap (λ j. slice_get (block_slots j kernel) q) n ∙ h)))) z

  three_in_block : (k : ℕ) (kernel : Kernel) (q : ℕ) (a b c : Slot) → slice_get kernels k ≡ Some kernel → AreThere (block_slots k kernel) q a b c
      → AreThere slots (first_net project k + q) a b c
  three_in_block k kernel q a b c e t =
      let f = first_net project k in
      let y : f + (q + 1) ≡ f + q + 1 = omega arith in
      let z : f + (q + 2) ≡ f + q + 2 = omega arith in
      record {
        first = block_place k kernel q a e t.first;
        second = at slots (f + (q + 1)) (f + q + 1) b (block_place k kernel (q + 1) b e t.second) y;
        third = at slots (f + (q + 2)) (f + q + 2) c (block_place k kernel (q + 2) c e t.third) z;
      }

  -- an input of a kernel, by its place among the inputs
  pub fed_place : (k : ℕ) (kernel : Kernel) (i n : ℕ) → slice_get kernels k ≡ Some kernel → slice_get (inputs_of kernel.nodes) i ≡ Some n
      → AreThere slots (first_net project k + 3 * i) (driven_slot (width_at kernel.nodes n) (ByPort (feeder k n) 5) 0)
      (driven_slot 1 (ByPort (feeder k n) 6) 0) (driven_slot 1 (ByPort (core k) (own.first_input kernel.nodes + 3 * i + 2)) 1)
  fed_place k kernel i n e h =
      let z : 0 + i ≡ i = omega arith in
      let a = driven_slot (width_at kernel.nodes n) (ByPort (feeder k n) 5) 0 in
      let b = driven_slot 1 (ByPort (feeder k n) 6) 0 in
      let c : ℕ → Slot = λ p. driven_slot 1 (ByPort (core k) (own.first_input kernel.nodes + 3 * p + 2)) 1 in
      let t = thrice_at (λ p n. driven_slot (width_at kernel.nodes n) (ByPort (feeder k n) 5) 0) (λ p n. driven_slot 1 (ByPort (feeder k n) 6) 0)
      (λ p n. driven_slot 1 (ByPort (core k) (own.first_input kernel.nodes + 3 * p + 2)) 1) 0 (inputs_of kernel.nodes) i n h in
      three_in_block k kernel (3 * i) a b (c i) e
      (there_left (fed_slots k kernel 0 (inputs_of kernel.nodes)) (given_slots k kernel 0 (outputs_of kernel.nodes) ++ ended_slot k kernel ∷ []) (3 * i) a b (c i)
      (subst (λ j. AreThere (fed_slots k kernel 0 (inputs_of kernel.nodes)) (3 * i) a b (c j)) z t))

  -- and an output
  pub given_place : (k : ℕ) (kernel : Kernel) (i n : ℕ) → slice_get kernels k ≡ Some kernel → slice_get (outputs_of kernel.nodes) i ≡ Some n
      → AreThere slots (first_net project k + 3 * (length (inputs_of kernel.nodes) + i))
      (driven_slot (width_at kernel.nodes n) (ByPort (core k) (own.first_output kernel.nodes + 3 * i)) 1)
      (driven_slot 1 (ByPort (core k) (own.first_output kernel.nodes + 3 * i + 1)) 1) (driven_slot 1 (ByPort (drain k n) 4) 0)
  given_place k kernel i n e h =
      let z : 0 + i ≡ i = omega arith in
      let a : ℕ → Slot = λ p. driven_slot (width_at kernel.nodes n) (ByPort (core k) (own.first_output kernel.nodes + 3 * p)) 1 in
      let b : ℕ → Slot = λ p. driven_slot 1 (ByPort (core k) (own.first_output kernel.nodes + 3 * p + 1)) 1 in
      let c = driven_slot 1 (ByPort (drain k n) 4) 0 in
      let m = length (inputs_of kernel.nodes) in
      let y : first_net project k + (3 * m + 3 * i) ≡ first_net project k + 3 * (m + i) = omega arith in
      let t = thrice_at (λ p n. driven_slot (width_at kernel.nodes n) (ByPort (core k) (own.first_output kernel.nodes + 3 * p)) 1)
      (λ p n. driven_slot 1 (ByPort (core k) (own.first_output kernel.nodes + 3 * p + 1)) 1) (λ p n. driven_slot 1 (ByPort (drain k n) 4) 0) 0
      (outputs_of kernel.nodes) i n h in
      three_at slots (first_net project k + (3 * m + 3 * i)) (first_net project k + 3 * (m + i)) (a i) (b i) c
      (three_in_block k kernel (3 * m + 3 * i) (a i) (b i) c e
      (there_behind (fed_slots k kernel 0 (inputs_of kernel.nodes)) (given_slots k kernel 0 (outputs_of kernel.nodes) ++ ended_slot k kernel ∷ [])
      (3 * m) (3 * i) (a i) (b i) c
      (sym (length_fed k kernel))
      (there_left (given_slots k kernel 0 (outputs_of kernel.nodes)) (ended_slot k kernel ∷ []) (3 * i) (a i) (b i) c
      (subst (λ j. AreThere (given_slots k kernel 0 (outputs_of kernel.nodes)) (3 * i) (a j) (b j) c) z t)))) y

  -- and whether it has ended
  pub ended_place : (k : ℕ) (kernel : Kernel) → slice_get kernels k ≡ Some kernel
      → slice_get slots (first_net project k + 3 * stream_count kernel) ≡ Some (ended_slot k kernel)
  ended_place k kernel e =
      let m = length (inputs_of kernel.nodes) in
      let o = length (outputs_of kernel.nodes) in
      let s = length-append (inputs_of kernel.nodes) (outputs_of kernel.nodes) in
      let y : first_net project k + (3 * m + (3 * o + 0)) ≡ first_net project k + 3 * stream_count kernel = omega (arith, s) in
      at slots (first_net project k + (3 * m + (3 * o + 0))) (first_net project k + 3 * stream_count kernel) (ended_slot k kernel)
      (block_place k kernel (3 * m + (3 * o + 0)) (ended_slot k kernel) e
      (at_behind (fed_slots k kernel 0 (inputs_of kernel.nodes)) (given_slots k kernel 0 (outputs_of kernel.nodes) ++ ended_slot k kernel ∷ [])
      (3 * m) (3 * o + 0) (ended_slot k kernel)
      (sym (length_fed k kernel))
      (at_behind (given_slots k kernel 0 (outputs_of kernel.nodes)) (ended_slot k kernel ∷ []) (3 * o) 0 (ended_slot k kernel) (sym (length_given k kernel)) refl))) y

  -- the wires of assignments
  pub assigned_place : (t : ℕ) → t < done_count project → slice_get slots (first_net project (length kernels) + t) ≡ Some (driven_slot 1 (ByAssign t) (2 + t))
  assigned_place t h =
      let z : 0 + t ≡ t = omega arith in
      let all = ap (λ l. sum_by block_size l) (take_all kernels) in
      let y : port_count project + (sum_by block_size kernels + t) ≡ first_net project (length kernels) + t = omega (arith, all) in
      at slots (port_count project + (sum_by block_size kernels + t)) (first_net project (length kernels) + t) (driven_slot 1 (ByAssign t) (2 + t))
      (wire_place (sum_by block_size kernels + t) (driven_slot 1 (ByAssign t) (2 + t))
      (at_behind (joined block_slots 0 kernels) (done_slots 0 (done_count project)) (sum_by block_size kernels) t (driven_slot 1 (ByAssign t) (2 + t))
      (sym (length_joined block_slots block_size block_sized 0 kernels))
      (done_at 0 (done_count project) t h ∙ ap (λ n. Some (driven_slot 1 (ByAssign n) (2 + n))) z))) y
