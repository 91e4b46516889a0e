-- The instances of the top module: their modules, nets and ports.
use Rattle.std.proofs.Common.{◌≡◌, ◌∙◌, ℕ, zero, suc, ◌+◌, ◌-◌, ◌*◌, ◌<◌, ◌≤◌, inl, inr, List, [], ◌∷◌, ◌++◌, map, Some, length, refl, sym, ap, subst, arith, length-append}
use Rattle.std.specs.Prelude.{slice_get, ◌⊎◌, Option, codes}
use Rattle.std.specs.Fmt.{decimal}
use Rattle.fix_arith.specs.Types.{width_of}
use Rattle.rtl_ir.specs.declared.design.Instance.{Instance}
use Rattle.rtl_ir.specs.declared.design.Module.{Module}
use Rattle.rtl_ir.specs.declared.design.Design.{Design}
use Rattle.rtl_ir.specs.Rules.{Connection}
use Rattle.rtl_ir.specs.Ports.{PortView, port_view, ports_of, first_input, first_output}
use Rattle.stream_graph.specs.declared.kernel.Kernel.{Kernel}
use Rattle.kernel_control.specs.Ports.{module_ports}
use Rattle.link_fifo.specs.Fifo.{IsFifoModule, fifo_ports}
use Rattle.manager_links.specs.declared.hosts.HostPort.{HostPort}
use Rattle.manager_links.specs.declared.links.LinkEnds.{LinkEnds}
use Rattle.manager_links.specs.declared.links.Links.{Links}
use Rattle.manager_links.specs.declared.project.Project.{Project}
use Rattle.manager_links.specs.Joined.{ends_of_link}
use Rattle.project_rtl.specs.Shapes.{shape_of}
use Rattle.project_rtl.specs.Blocks.{stream_net}
use Rattle.project_rtl.specs.Tops.{instance, fifo_nets, input_instances, output_instances, link_instances, kernel_nets, kernel_instances, host_count, fifo_count}
use Rattle.project_rtl.specs.Tops.{instances_of, top_module}
use Rattle.project_rtl.specs.Projects.{Queue, host_queue, link_queue, port_width, queues_of, fifo_name, AreFifos, IsProjectOf}
use Rattle.project_rules.proofs.Lists.{there, at, at_left, at_behind, map_at, map_back, length_map, below_or}

-- ---- instances with their nets, of modules with their ports

pub record IsJoint (d : Design) (top : Module) (k : ℕ) (nets : List ℕ) (views : List PortView) (inner : Module) : Type 0 where
  pub name : List ℕ
  pub at : slice_get top.instances k ≡ Some (instance k name nets)
  pub is : slice_get d.modules k ≡ Some inner
  pub ports : ports_of inner ≡ views

-- a port of an instance, as it is declared
pub record IsJoined {d : Design} {m : Module} {k j : ℕ} (e : Connection d m k j) (n : ℕ) (v : PortView) (inner : Module) : Type 0 where
  pub net : e.net ≡ n
  pub view : port_view e.inner e.port ≡ v
  pub of : e.inner ≡ inner

pub join : (d : Design) (top : Module) (k j n : ℕ) (nets : List ℕ) (views : List PortView) (v : PortView) (inner : Module) → IsJoint d top k nets views inner
    → slice_get nets j ≡ Some n → slice_get views j ≡ Some v → (e : Connection d top k j) × IsJoined e n v inner
join d top k j n nets views v inner h e f =
    let p = map_back (port_view inner) inner.ports j v (ap (λ l. slice_get l j) h.ports ∙ f) in
    (record { part = instance k h.name nets; of = h.at; inner = inner; is = h.is; port = p.0; at = p.1; net = n; joins = e }, record { net = refl; view = p.2; of = refl })

-- what is so of a connection of such an instance
pub record IsOfJoint {d : Design} {m : Module} {k j : ℕ} (e : Connection d m k j) (nets : List ℕ) (views : List PortView) (inner : Module) : Type 0 where
  pub net : slice_get nets j ≡ Some e.net
  pub view : slice_get views j ≡ Some (port_view e.inner e.port)
  pub of : e.inner ≡ inner

pub joint : (d : Design) (top : Module) (k j : ℕ) (nets : List ℕ) (views : List PortView) (inner : Module) → IsJoint d top k nets views inner
    → (e : Connection d top k j) → IsOfJoint e nets views inner
joint d top k j nets views inner h e =
    let same : e.part ≡ instance k h.name nets = let s = sym e.of ∙ h.at in cc in
    let of : e.inner ≡ inner = let s = sym e.is ∙ ap (λ (i : Instance). slice_get d.modules i.«module») same ∙ h.is in cc in
    record {
      net = ap (λ (i : Instance). slice_get i.nets j) (sym same) ∙ e.joins;
      view =
          ap (λ l. slice_get l j) (sym h.ports)
          ∙ ap (λ (x : Module). slice_get (ports_of x) j) (sym of)
          ∙ map_at (port_view e.inner) e.inner.ports j e.port e.at;
      of = of;
    }

-- ---- FIFOs by their numbers

pub record IsFifoFor (queue : Queue) (number : ℕ) (found : Option Module) : Type 0 where
  pub fifo : Module
  pub at : found ≡ Some fifo
  pub is : IsFifoModule (fifo_name number) queue.width queue.depth fifo

pub fifo_for : (number : ℕ) (queues : List Queue) (ms : List Module) (i : ℕ) (queue : Queue) → AreFifos number queues ms → slice_get queues i ≡ Some queue
    → IsFifoFor queue (number + i) (slice_get ms i)
fifo_for number [] ms i queue h e = absurd (cc)
fifo_for number (x ∷ queues) [] i queue h e = absurd h
fifo_for number (x ∷ queues) (m ∷ ms) zero queue h e =
    let same : x ≡ queue = cc in
    let z : number ≡ number + 0 = omega arith in
    let P : Queue → ℕ → Type 0 = λ q k. IsFifoModule (fifo_name k) q.width q.depth m in
    record { fifo = m; at = refl; is = subst (λ q. P q (number + 0)) same (subst (P x) z h.0) }
fifo_for number (x ∷ queues) (m ∷ ms) (suc i) queue h e =
    let z : number + 1 + i ≡ number + suc i = omega arith in
    subst (λ k. IsFifoFor queue k (slice_get ms i)) z (fifo_for (number + 1) queues ms i queue h.1 e)

pub length_fifos : (number : ℕ) (queues : List Queue) (ms : List Module) → AreFifos number queues ms → length ms ≡ length queues
length_fifos number [] [] h = refl
length_fifos number [] (m ∷ ms) h = absurd h
length_fifos number (x ∷ queues) [] h = absurd h
length_fifos number (x ∷ queues) (m ∷ ms) h = ap suc (length_fifos (number + 1) queues ms h.1)

-- ---- instances by their numbers

-- an instance of this module, with this name and these nets
pub record IsOf (found : Option Instance) (of : ℕ) (name nets : List ℕ) : Type 0 where
  pub at : found ≡ Some (instance of name nets)

module _ (project : Project) where
  pub input_at : (of port : ℕ) (hosts : List HostPort) (i : ℕ) (host : HostPort) → slice_get hosts i ≡ Some host
      → slice_get (input_instances project of port hosts) i
      ≡ Some (instance (of + i) (codes "fifo$in$" ++ host.name) (fifo_nets (port + 3 * i) (stream_net project host.port)))
  input_at of port [] i host e = absurd (cc)
  input_at of port (x ∷ hosts) zero host e =
      let same : x ≡ host = cc in
      let a : of ≡ of + 0 = omega arith in
      let b : port ≡ port + 3 * 0 = omega arith in
      ap (λ (h : HostPort). Some (instance of (codes "fifo$in$" ++ h.name) (fifo_nets port (stream_net project h.port)))) same
      ∙ ap (λ k. Some (instance k (codes "fifo$in$" ++ host.name) (fifo_nets port (stream_net project host.port)))) a
      ∙ ap (λ k. Some (instance (of + 0) (codes "fifo$in$" ++ host.name) (fifo_nets k (stream_net project host.port)))) b
  input_at of port (x ∷ hosts) (suc i) host e =
      let a : of + 1 + i ≡ of + suc i = omega arith in
      let b : port + 3 + 3 * i ≡ port + 3 * suc i = omega arith in
      input_at (of + 1) (port + 3) hosts i host e
      ∙ ap (λ k. Some (instance k (codes "fifo$in$" ++ host.name) (fifo_nets (port + 3 + 3 * i) (stream_net project host.port)))) a
      ∙ ap (λ k. Some (instance (of + suc i) (codes "fifo$in$" ++ host.name) (fifo_nets k (stream_net project host.port)))) b

  pub output_at : (of port : ℕ) (hosts : List HostPort) (i : ℕ) (host : HostPort) → slice_get hosts i ≡ Some host
      → slice_get (output_instances project of port hosts) i
      ≡ Some (instance (of + i) (codes "fifo$out$" ++ host.name) (fifo_nets (stream_net project host.port) (port + 3 * i)))
  output_at of port [] i host e = absurd (cc)
  output_at of port (x ∷ hosts) zero host e =
      let same : x ≡ host = cc in
      let a : of ≡ of + 0 = omega arith in
      let b : port ≡ port + 3 * 0 = omega arith in
      ap (λ (h : HostPort). Some (instance of (codes "fifo$out$" ++ h.name) (fifo_nets (stream_net project h.port) port))) same
      ∙ ap (λ k. Some (instance k (codes "fifo$out$" ++ host.name) (fifo_nets (stream_net project host.port) port))) a
      ∙ ap (λ k. Some (instance (of + 0) (codes "fifo$out$" ++ host.name) (fifo_nets (stream_net project host.port) k))) b
  output_at of port (x ∷ hosts) (suc i) host e =
      let a : of + 1 + i ≡ of + suc i = omega arith in
      let b : port + 3 + 3 * i ≡ port + 3 * suc i = omega arith in
      output_at (of + 1) (port + 3) hosts i host e
      ∙ ap (λ k. Some (instance k (codes "fifo$out$" ++ host.name) (fifo_nets (stream_net project host.port) (port + 3 + 3 * i)))) a
      ∙ ap (λ k. Some (instance (of + suc i) (codes "fifo$out$" ++ host.name) (fifo_nets (stream_net project host.port) k))) b

  pub link_at : (of number : ℕ) (links : List LinkEnds) (i : ℕ) (link : LinkEnds) → slice_get links i ≡ Some link
      → slice_get (link_instances project of number links) i
      ≡ Some (instance (of + i) (codes "fifo$link$" ++ decimal (number + i)) (fifo_nets (stream_net project link.from) (stream_net project link.to)))
  link_at of number [] i link e = absurd (cc)
  link_at of number (x ∷ links) zero link e =
      let same : x ≡ link = cc in
      let a : of ≡ of + 0 = omega arith in
      let b : number ≡ number + 0 = omega arith in
      ap (λ (l : LinkEnds). Some (instance of (codes "fifo$link$" ++ decimal number) (fifo_nets (stream_net project l.from) (stream_net project l.to)))) same
      ∙ ap (λ k. Some (instance k (codes "fifo$link$" ++ decimal number) (fifo_nets (stream_net project link.from) (stream_net project link.to)))) a
      ∙ ap (λ k. Some (instance (of + 0) (codes "fifo$link$" ++ decimal k) (fifo_nets (stream_net project link.from) (stream_net project link.to)))) b
  link_at of number (x ∷ links) (suc i) link e =
      let a : of + 1 + i ≡ of + suc i = omega arith in
      let b : number + 1 + i ≡ number + suc i = omega arith in
      link_at (of + 1) (number + 1) links i link e
      ∙ ap (λ k. Some (instance k (codes "fifo$link$" ++ decimal (number + 1 + i)) (fifo_nets (stream_net project link.from) (stream_net project link.to)))) a
      ∙ ap (λ k. Some (instance (of + suc i) (codes "fifo$link$" ++ decimal k) (fifo_nets (stream_net project link.from) (stream_net project link.to)))) b

  pub kernel_at : (of k : ℕ) (kernels : List Kernel) (i : ℕ) (kernel : Kernel) → slice_get kernels i ≡ Some kernel
      → slice_get (kernel_instances project of k kernels) i ≡ Some (instance (of + i) (codes "kernel$" ++ kernel.name) (kernel_nets project (k + i) kernel))
  kernel_at of k [] i kernel e = absurd (cc)
  kernel_at of k (x ∷ kernels) zero kernel e =
      let same : x ≡ kernel = cc in
      let a : of ≡ of + 0 = omega arith in
      let b : k ≡ k + 0 = omega arith in
      ap (λ (l : Kernel). Some (instance of (codes "kernel$" ++ l.name) (kernel_nets project k l))) same
      ∙ ap (λ j. Some (instance j (codes "kernel$" ++ kernel.name) (kernel_nets project k kernel))) a
      ∙ ap (λ j. Some (instance (of + 0) (codes "kernel$" ++ kernel.name) (kernel_nets project j kernel))) b
  kernel_at of k (x ∷ kernels) (suc i) kernel e =
      let a : of + 1 + i ≡ of + suc i = omega arith in
      let b : k + 1 + i ≡ k + suc i = omega arith in
      kernel_at (of + 1) (k + 1) kernels i kernel e
      ∙ ap (λ j. Some (instance j (codes "kernel$" ++ kernel.name) (kernel_nets project (k + 1 + i) kernel))) a
      ∙ ap (λ j. Some (instance (of + suc i) (codes "kernel$" ++ kernel.name) (kernel_nets project j kernel))) b

  pub length_input_parts : (of port : ℕ) (hosts : List HostPort) → length (input_instances project of port hosts) ≡ length hosts
  length_input_parts of port [] = refl
  length_input_parts of port (x ∷ hosts) = ap suc (length_input_parts (of + 1) (port + 3) hosts)

  pub length_output_parts : (of port : ℕ) (hosts : List HostPort) → length (output_instances project of port hosts) ≡ length hosts
  length_output_parts of port [] = refl
  length_output_parts of port (x ∷ hosts) = ap suc (length_output_parts (of + 1) (port + 3) hosts)

  pub length_link_parts : (of number : ℕ) (links : List LinkEnds) → length (link_instances project of number links) ≡ length links
  length_link_parts of number [] = refl
  length_link_parts of number (x ∷ links) = ap suc (length_link_parts (of + 1) (number + 1) links)

  pub length_kernel_parts : (of k : ℕ) (kernels : List Kernel) → length (kernel_instances project of k kernels) ≡ length kernels
  length_kernel_parts of k [] = refl
  length_kernel_parts of k (x ∷ kernels) = ap suc (length_kernel_parts (of + 1) (k + 1) kernels)

  abbrev pub in_parts : List Instance
  in_parts = input_instances project 0 (first_input (shape_of project)) project.joints.inputs

  abbrev pub out_parts : List Instance
  out_parts = output_instances project (length project.joints.inputs) (first_output (shape_of project)) project.joints.outputs

  abbrev pub link_parts : List Instance
  link_parts = link_instances project (host_count project) 0 project.joints.links

  abbrev pub kernel_parts : List Instance
  kernel_parts = kernel_instances project (fifo_count project) 0 project.kernels

  pub count_parts : length (instances_of project) ≡ fifo_count project + length project.kernels
  count_parts =
      let a = length-append in_parts (out_parts ++ (link_parts ++ kernel_parts)) in
      let b = length-append out_parts (link_parts ++ kernel_parts) in
      let c = length-append link_parts kernel_parts in
      let e = length_input_parts 0 (first_input (shape_of project)) project.joints.inputs in
      let f = length_output_parts (length project.joints.inputs) (first_output (shape_of project)) project.joints.outputs in
      let g = length_link_parts (host_count project) 0 project.joints.links in
      let h = length_kernel_parts (fifo_count project) 0 project.kernels in
      omega (arith, a, b, c, e, f, g, h)

  pub in_part : (i : ℕ) (host : HostPort) → slice_get project.joints.inputs i ≡ Some host
      → slice_get (instances_of project) i
      ≡ Some (instance i (codes "fifo$in$" ++ host.name) (fifo_nets (first_input (shape_of project) + 3 * i) (stream_net project host.port)))
  in_part i host e =
      let z : 0 + i ≡ i = omega arith in
      at_left in_parts (out_parts ++ (link_parts ++ kernel_parts)) i _
      (input_at 0 (first_input (shape_of project)) project.joints.inputs i host e
      ∙ ap (λ k. Some (instance k (codes "fifo$in$" ++ host.name) (fifo_nets (first_input (shape_of project) + 3 * i) (stream_net project host.port)))) z)

  pub out_part : (i : ℕ) (host : HostPort) → slice_get project.joints.outputs i ≡ Some host
      → slice_get (instances_of project) (length project.joints.inputs + i)
      ≡ Some (instance (length project.joints.inputs + i) (codes "fifo$out$" ++ host.name) (fifo_nets (stream_net project host.port) (first_output
      (shape_of project) + 3 * i)))
  out_part i host e =
      at_behind in_parts (out_parts ++ (link_parts ++ kernel_parts)) (length project.joints.inputs) i _
      (sym (length_input_parts 0 (first_input (shape_of project)) project.joints.inputs))
      (at_left out_parts (link_parts ++ kernel_parts) i _
      (output_at (length project.joints.inputs) (first_output (shape_of project)) project.joints.outputs i host e))

  pub link_part : (i : ℕ) (link : LinkEnds) → slice_get project.joints.links i ≡ Some link
      → slice_get (instances_of project) (host_count project + i)
      ≡ Some (instance (host_count project + i) (codes "fifo$link$" ++ decimal i) (fifo_nets (stream_net project link.from) (stream_net project link.to)))
  link_part i link e =
      let z : 0 + i ≡ i = omega arith in
      let n : length project.joints.inputs + (length project.joints.outputs + i) ≡ host_count project + i = omega arith in
      at (instances_of project) (length project.joints.inputs + (length project.joints.outputs + i)) (host_count project + i) _
      (at_behind in_parts (out_parts ++ (link_parts ++ kernel_parts)) (length project.joints.inputs) (length project.joints.outputs + i) _
      (sym (length_input_parts 0 (first_input (shape_of project)) project.joints.inputs))
      (at_behind out_parts (link_parts ++ kernel_parts) (length project.joints.outputs) i _
      (sym (length_output_parts (length project.joints.inputs) (first_output (shape_of project)) project.joints.outputs))
      (at_left link_parts kernel_parts i _
      (link_at (host_count project) 0 project.joints.links i link e
      ∙ ap (λ k. Some (instance (host_count project + i) (codes "fifo$link$" ++ decimal k) (fifo_nets (stream_net project link.from)
      (stream_net project link.to)))) z)))) n

  pub kernel_part : (k : ℕ) (kernel : Kernel) → slice_get project.kernels k ≡ Some kernel
      → slice_get (instances_of project) (fifo_count project + k)
      ≡ Some (instance (fifo_count project + k) (codes "kernel$" ++ kernel.name) (kernel_nets project k kernel))
  kernel_part k kernel e =
      let z : 0 + k ≡ k = omega arith in
      let i = length project.joints.inputs in
      let o = length project.joints.outputs in
      let l = length project.joints.links in
      let n : i + (o + (l + k)) ≡ fifo_count project + k = omega arith in
      at (instances_of project) (i + (o + (l + k))) (fifo_count project + k) _
      (at_behind in_parts (out_parts ++ (link_parts ++ kernel_parts)) i (o + (l + k)) _
      (sym (length_input_parts 0 (first_input (shape_of project)) project.joints.inputs))
      (at_behind out_parts (link_parts ++ kernel_parts) o (l + k) _
      (sym (length_output_parts i (first_output (shape_of project)) project.joints.outputs))
      (at_behind link_parts kernel_parts l k _ (sym (length_link_parts (host_count project) 0 project.joints.links))
      (kernel_at (fifo_count project) 0 project.kernels k kernel e
      ∙ ap (λ j. Some (instance (fifo_count project + k) (codes "kernel$" ++ kernel.name) (kernel_nets project j kernel))) z)))) n

  -- which instance one is
  pub data Which (k : ℕ) : Type 0 where
    of_input : (i : ℕ) (host : HostPort) → slice_get project.joints.inputs i ≡ Some host → i ≡ k → Which k
    of_output : (i : ℕ) (host : HostPort) → slice_get project.joints.outputs i ≡ Some host → length project.joints.inputs + i ≡ k → Which k
    of_link : (i : ℕ) (link : LinkEnds) → slice_get project.joints.links i ≡ Some link → host_count project + i ≡ k → Which k
    of_kernel : (i : ℕ) (kernel : Kernel) → slice_get project.kernels i ≡ Some kernel → fifo_count project + i ≡ k → Which k

  pub which : (k : ℕ) → k < fifo_count project + length project.kernels → Which k
  which k h = first (below_or k (length project.joints.inputs))
    where
      fourth : fifo_count project ≤ k → Which k
      fourth ge =
          let x = there project.kernels (k - fifo_count project) (omega (arith, ge, h)) in
          of_kernel (k - fifo_count project) x.0 x.1 (omega (arith, ge))

      third : host_count project ≤ k → (k < fifo_count project) ⊎ (fifo_count project ≤ k) → Which k
      third ge (inl lt) =
          let x = there project.joints.links (k - host_count project) (omega (arith, ge, lt)) in
          of_link (k - host_count project) x.0 x.1 (omega (arith, ge))
      third ge (inr le) = fourth le

      second : length project.joints.inputs ≤ k → (k < host_count project) ⊎ (host_count project ≤ k) → Which k
      second ge (inl lt) =
          let x = there project.joints.outputs (k - length project.joints.inputs) (omega (arith, ge, lt)) in
          of_output (k - length project.joints.inputs) x.0 x.1 (omega (arith, ge))
      second ge (inr le) = third le (below_or k (fifo_count project))

      first : (k < length project.joints.inputs) ⊎ (length project.joints.inputs ≤ k) → Which k
      first (inl lt) = let x = there project.joints.inputs k lt in of_input k x.0 x.1 refl
      first (inr ge) = second ge (below_or k (host_count project))

-- ---- the instances of a design

module _ (project : Project) (made : Links) (inners : List Module) (d : Design) (whole : IsProjectOf project made inners d) where
  abbrev pub top : Module
  top = top_module project

  pub count_links : length made.links ≡ length project.joints.links
  count_links = sym (length_map ends_of_link made.links) ∙ ap (λ (l : List LinkEnds). length l) whole.links

  pub many : length whole.fifos ≡ fifo_count project
  many =
      let a = length_fifos 0 (queues_of project made) whole.fifos whole.are_fifos in
      let b = length-append (map host_queue project.joints.inputs) (map host_queue project.joints.outputs ++ map (link_queue project.kernels) made.links) in
      let c = length-append (map host_queue project.joints.outputs) (map (link_queue project.kernels) made.links) in
      let e = length_map host_queue project.joints.inputs in
      let f = length_map host_queue project.joints.outputs in
      let g = length_map (link_queue project.kernels) made.links in
      let h = count_links in
      omega (arith, a, b, c, e, f, g, h)

  -- an instance of a FIFO of words of this width, with the nets of its two sides
  pub record IsFifoPart (k width taken given : ℕ) : Type 0 where
    pub depth : ℕ
    pub fifo : Module
    pub is : IsFifoModule (fifo_name k) width depth fifo
    pub joint : IsJoint d top k (fifo_nets taken given) (fifo_ports width) fifo

  fifo_part : (k taken given : ℕ) (queue : Queue) (name : List ℕ) → slice_get (queues_of project made) k ≡ Some queue
      → slice_get (instances_of project) k ≡ Some (instance k name (fifo_nets taken given)) → IsFifoPart k queue.width taken given
  fifo_part k taken given queue name e f =
      let z : 0 + k ≡ k = omega arith in
      let found = subst (λ j. IsFifoFor queue j (slice_get whole.fifos k)) z (fifo_for 0 (queues_of project made) whole.fifos k queue whole.are_fifos e) in
      record {
        depth = queue.depth;
        fifo = found.fifo;
        is = found.is;
        joint = record {
          name = name;
          at = f;
          is =
              ap (λ (l : List Module). slice_get l k) whole.modules
              ∙ at_left whole.fifos (inners ++ top ∷ []) k found.fifo found.at;
          ports = found.is.ports;
        };
      }

  pub input_joint : (i : ℕ) (host : HostPort) → slice_get project.joints.inputs i ≡ Some host
      → IsFifoPart i (width_of host.t) (first_input (shape_of project) + 3 * i) (stream_net project host.port)
  input_joint i host e =
      fifo_part i (first_input (shape_of project) + 3 * i) (stream_net project host.port) (host_queue host) (codes "fifo$in$" ++ host.name)
      (at_left (map host_queue project.joints.inputs) (map host_queue project.joints.outputs ++ map (link_queue project.kernels) made.links) i (host_queue host)
      (map_at host_queue project.joints.inputs i host e))
      (in_part project i host e)

  pub output_joint : (i : ℕ) (host : HostPort) → slice_get project.joints.outputs i ≡ Some host
      → IsFifoPart (length project.joints.inputs + i) (width_of host.t) (stream_net project host.port) (first_output (shape_of project) + 3 * i)
  output_joint i host e =
      fifo_part (length project.joints.inputs + i) (stream_net project host.port) (first_output (shape_of project) + 3 * i) (host_queue host)
      (codes "fifo$out$" ++ host.name)
      (at_behind (map host_queue project.joints.inputs) (map host_queue project.joints.outputs ++ map (link_queue project.kernels) made.links)
      (length project.joints.inputs) i (host_queue host)
      (sym (length_map host_queue project.joints.inputs))
      (at_left (map host_queue project.joints.outputs) (map (link_queue project.kernels) made.links) i (host_queue host)
      (map_at host_queue project.joints.outputs i host e)))
      (out_part project i host e)

  pub link_joint : (i : ℕ) (link : LinkEnds) → slice_get project.joints.links i ≡ Some link
      → IsFifoPart (host_count project + i) (port_width project.kernels link.from) (stream_net project link.from) (stream_net project link.to)
  link_joint i link e =
      let l = map_back ends_of_link made.links i link (ap (λ l. slice_get l i) whole.links ∙ e) in
      let n : length project.joints.inputs + (length project.joints.outputs + i) ≡ host_count project + i = omega arith in
      let wide : (link_queue project.kernels l.0).width ≡ port_width project.kernels link.from = ap (λ (x : LinkEnds). port_width project.kernels x.from) l.2 in
      subst (λ w. IsFifoPart (host_count project + i) w (stream_net project link.from) (stream_net project link.to)) wide
      (fifo_part (host_count project + i) (stream_net project link.from) (stream_net project link.to) (link_queue project.kernels l.0) (codes "fifo$link$" ++ decimal i)
      (at (queues_of project made) (length project.joints.inputs + (length project.joints.outputs + i)) (host_count project + i) (link_queue project.kernels l.0)
      (at_behind (map host_queue project.joints.inputs) (map host_queue project.joints.outputs ++ map (link_queue project.kernels) made.links)
      (length project.joints.inputs)
      (length project.joints.outputs + i) (link_queue project.kernels l.0) (sym (length_map host_queue project.joints.inputs))
      (at_behind (map host_queue project.joints.outputs) (map (link_queue project.kernels) made.links) (length project.joints.outputs) i (link_queue project.kernels l.0)
      (sym (length_map host_queue project.joints.outputs))
      (map_at (link_queue project.kernels) made.links i l.0 l.1))) n)
      (link_part project i link e))

  pub kernel_joint : (k : ℕ) (kernel : Kernel) (m : Module) → slice_get project.kernels k ≡ Some kernel → slice_get inners k ≡ Some m
      → ports_of m ≡ module_ports kernel.nodes
      → IsJoint d top (fifo_count project + k) (kernel_nets project k kernel) (module_ports kernel.nodes) m
  kernel_joint k kernel m e f ports = record {
    name = codes "kernel$" ++ kernel.name;
    at = kernel_part project k kernel e;
    is =
        ap (λ (l : List Module). slice_get l (fifo_count project + k)) whole.modules
        ∙ at_behind whole.fifos (inners ++ top ∷ []) (fifo_count project) k m (sym many) (at_left inners (top ∷ []) k m f);
    ports = ports;
  }
