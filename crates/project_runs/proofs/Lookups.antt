-- Instances, modules, ports and nets of the top module by their numbers.
use Rattle.std.proofs.Common.{◌≡◌, ℕ, zero, suc, ◌+◌, ◌*◌, ◌<◌, List, [], ◌∷◌, ◌++◌, map, Option, Some, length, refl, sym, ap, ◌∙◌, subst, arith, length-append}
use Rattle.std.specs.Prelude.{slice_get, codes}
use Rattle.std.specs.List.{AllZip}
use Rattle.std.specs.Fmt.{decimal}
use Rattle.rtl_ir.specs.declared.design.Port.{Port}
use Rattle.rtl_ir.specs.declared.design.Instance.{Instance}
use Rattle.rtl_ir.specs.declared.design.Module.{Module}
use Rattle.rtl_ir.specs.Value.{Family}
use Rattle.rtl_ir.specs.Flat.{Joined}
use Rattle.rtl_ir.specs.Ports.{Shape, PortView, port_net, net_at, channels_from, kernel_ports, scalar_ports, host_input_ports, host_output_ports, shape_ports, first_input, first_output, done_port}
use Rattle.rtl_ir.specs.Run.{Channel}
use Rattle.stream_graph.specs.declared.kernel.Kernel.{Kernel}
use Rattle.kernel_control.specs.Ports.{PortChannel, channels_of}
use Rattle.link_fifo.specs.Fifo.{IsFifoModule}
use Rattle.manager_links.specs.declared.hosts.HostPort.{HostPort}
use Rattle.manager_links.specs.declared.links.LinkEnds.{LinkEnds}
use Rattle.manager_links.specs.declared.project.Project.{Project}
use Rattle.project_rtl.specs.Shapes.{shape_of, host_shape, port_count}
use Rattle.project_rtl.specs.Blocks.{stream_net}
use Rattle.project_rtl.specs.Tops.{instance, fifo_nets, input_instances, output_instances, link_instances, kernel_nets, kernel_instances, host_count, fifo_count, instances_of, ports_from, top_module}
use Rattle.project_rtl.specs.Projects.{Queue, AreFifos}
use Rattle.project_runs.proofs.Lists.{get_left, get_behind, within}

-- ---- the instances

-- an instance of this module, with these nets
pub record IsOf (found : Option Instance) (of : ℕ) (nets : List ℕ) : Type 0 where
  pub name : List ℕ
  pub at : found ≡ Some (instance of name nets)

-- the same by equal numbers
same_of : (found : Option Instance) (j k : ℕ) (nets : ℕ → List ℕ) (m n : ℕ) → j ≡ k → m ≡ n → IsOf found j (nets m) → IsOf found k (nets n)
same_of found j k nets m n e f h =
    let P : ℕ → ℕ → Type 0 = λ a b. IsOf found a (nets b) in
    subst (λ b. P k b) f (subst (λ a. P a m) e h)

input_at : (project : Project) (hosts : List HostPort) (of port i : ℕ) (host : HostPort) → slice_get hosts i ≡ Some host
    → IsOf (slice_get (input_instances project of port hosts) i) (of + i) (fifo_nets (port + 3 * i) (stream_net project host.port))
input_at project [] of port i host h = absurd (cc)
input_at project (x ∷ hosts) of port zero host h =
    let same : x ≡ host = cc in
    same_of (Some (instance of (codes "fifo$in$" ++ x.name) (fifo_nets port (stream_net project x.port)))) of (of + 0)
    (λ k. fifo_nets k (stream_net project host.port)) port (port + 3 * 0) (omega arith) (omega arith)
    (record { name = codes "fifo$in$" ++ host.name; at = ap (λ (y : HostPort). Some (instance of (codes "fifo$in$" ++ y.name) (fifo_nets port (stream_net project y.port)))) same })
input_at project (x ∷ hosts) of port (suc i) host h =
    same_of (slice_get (input_instances project (of + 1) (port + 3) hosts) i) (of + 1 + i) (of + suc i) (λ k. fifo_nets k (stream_net project host.port)) (port + 3 + 3 * i) (port + 3 * suc i)
    (omega arith) (omega arith) (input_at project hosts (of + 1) (port + 3) i host h)

output_at : (project : Project) (hosts : List HostPort) (of port i : ℕ) (host : HostPort) → slice_get hosts i ≡ Some host
    → IsOf (slice_get (output_instances project of port hosts) i) (of + i) (fifo_nets (stream_net project host.port) (port + 3 * i))
output_at project [] of port i host h = absurd (cc)
output_at project (x ∷ hosts) of port zero host h =
    let same : x ≡ host = cc in
    same_of (Some (instance of (codes "fifo$out$" ++ x.name) (fifo_nets (stream_net project x.port) port))) of (of + 0)
    (λ k. fifo_nets (stream_net project host.port) k) port (port + 3 * 0) (omega arith) (omega arith)
    (record { name = codes "fifo$out$" ++ host.name; at = ap (λ (y : HostPort). Some (instance of (codes "fifo$out$" ++ y.name) (fifo_nets (stream_net project y.port) port))) same })
output_at project (x ∷ hosts) of port (suc i) host h =
    same_of (slice_get (output_instances project (of + 1) (port + 3) hosts) i) (of + 1 + i) (of + suc i) (λ k. fifo_nets (stream_net project host.port) k) (port + 3 + 3 * i) (port + 3 * suc i)
    (omega arith) (omega arith) (output_at project hosts (of + 1) (port + 3) i host h)

link_at : (project : Project) (links : List LinkEnds) (of number i : ℕ) (link : LinkEnds) → slice_get links i ≡ Some link
    → IsOf (slice_get (link_instances project of number links) i) (of + i) (fifo_nets (stream_net project link.from) (stream_net project link.to))
link_at project [] of number i link h = absurd (cc)
link_at project (x ∷ links) of number zero link h =
    let same : x ≡ link = cc in
    same_of (Some (instance of (codes "fifo$link$" ++ decimal number) (fifo_nets (stream_net project x.from) (stream_net project x.to)))) of (of + 0)
    (λ k. fifo_nets (stream_net project link.from) (stream_net project link.to)) 0 0 (omega arith) refl
    (record {
      name = codes "fifo$link$" ++ decimal number;
      at = ap (λ (y : LinkEnds). Some (instance of (codes "fifo$link$" ++ decimal number) (fifo_nets (stream_net project y.from) (stream_net project y.to)))) same;
    })
link_at project (x ∷ links) of number (suc i) link h =
    same_of (slice_get (link_instances project (of + 1) (number + 1) links) i) (of + 1 + i) (of + suc i) (λ k. fifo_nets (stream_net project link.from) (stream_net project link.to)) 0 0
    (omega arith) refl (link_at project links (of + 1) (number + 1) i link h)

kernel_at : (project : Project) (kernels : List Kernel) (of number k : ℕ) (kernel : Kernel) → slice_get kernels k ≡ Some kernel
    → IsOf (slice_get (kernel_instances project of number kernels) k) (of + k) (kernel_nets project (number + k) kernel)
kernel_at project [] of number k kernel h = absurd (cc)
kernel_at project (x ∷ kernels) of number zero kernel h =
    let same : x ≡ kernel = cc in
    same_of (Some (instance of (codes "kernel$" ++ x.name) (kernel_nets project number x))) of (of + 0) (λ j. kernel_nets project j kernel) number (number + 0) (omega arith) (omega arith)
    (record { name = codes "kernel$" ++ kernel.name; at = ap (λ (y : Kernel). Some (instance of (codes "kernel$" ++ y.name) (kernel_nets project number y))) same })
kernel_at project (x ∷ kernels) of number (suc k) kernel h =
    same_of (slice_get (kernel_instances project (of + 1) (number + 1) kernels) k) (of + 1 + k) (of + suc k) (λ j. kernel_nets project j kernel) (number + 1 + k) (number + suc k)
    (omega arith) (omega arith) (kernel_at project kernels (of + 1) (number + 1) k kernel h)

length_inputs : (project : Project) (hosts : List HostPort) (of port : ℕ) → length (input_instances project of port hosts) ≡ length hosts
length_inputs project [] of port = refl
length_inputs project (x ∷ hosts) of port = ap suc (length_inputs project hosts (of + 1) (port + 3))

length_outputs : (project : Project) (hosts : List HostPort) (of port : ℕ) → length (output_instances project of port hosts) ≡ length hosts
length_outputs project [] of port = refl
length_outputs project (x ∷ hosts) of port = ap suc (length_outputs project hosts (of + 1) (port + 3))

length_links : (project : Project) (links : List LinkEnds) (of number : ℕ) → length (link_instances project of number links) ≡ length links
length_links project [] of number = refl
length_links project (x ∷ links) of number = ap suc (length_links project links (of + 1) (number + 1))

module _ (project : Project) where
  abbrev ins : List Instance
  ins = input_instances project 0 (first_input (shape_of project)) project.joints.inputs

  abbrev outs : List Instance
  outs = output_instances project (length project.joints.inputs) (first_output (shape_of project)) project.joints.outputs

  abbrev links : List Instance
  links = link_instances project (host_count project) 0 project.joints.links

  abbrev kernels : List Instance
  kernels = kernel_instances project (fifo_count project) 0 project.kernels

  pub input_instance : (i : ℕ) (host : HostPort) → slice_get project.joints.inputs i ≡ Some host
      → IsOf (slice_get (instances_of project) i) i (fifo_nets (first_input (shape_of project) + 3 * i) (stream_net project host.port))
  input_instance i host h =
      let l = length_inputs project project.joints.inputs 0 (first_input (shape_of project)) in
      let w = within project.joints.inputs i host h in
      let x = input_at project project.joints.inputs 0 (first_input (shape_of project)) i host h in
      let e : 0 + i ≡ i = omega arith in
      let P : ℕ → Type 0 = λ j. IsOf (slice_get (instances_of project) i) j (fifo_nets (first_input (shape_of project) + 3 * i) (stream_net project host.port)) in
      subst P e (record { name = x.name; at = get_left ins (outs ++ (links ++ kernels)) i (omega arith) ∙ x.at })

  pub output_instance : (i : ℕ) (host : HostPort) → slice_get project.joints.outputs i ≡ Some host
      → IsOf (slice_get (instances_of project) (length project.joints.inputs + i)) (length project.joints.inputs + i)
      (fifo_nets (stream_net project host.port) (first_output (shape_of project) + 3 * i))
  output_instance i host h =
      let n = length project.joints.inputs in
      let l = length_inputs project project.joints.inputs 0 (first_input (shape_of project)) in
      let o = length_outputs project project.joints.outputs n (first_output (shape_of project)) in
      let w = within project.joints.outputs i host h in
      let x = output_at project project.joints.outputs n (first_output (shape_of project)) i host h in
      record { name = x.name; at = get_behind ins (outs ++ (links ++ kernels)) n i (sym l) ∙ get_left outs (links ++ kernels) i (omega arith) ∙ x.at }

  pub link_instance : (i : ℕ) (link : LinkEnds) → slice_get project.joints.links i ≡ Some link
      → IsOf (slice_get (instances_of project) (host_count project + i)) (host_count project + i) (fifo_nets (stream_net project link.from) (stream_net project link.to))
  link_instance i link h =
      let n = length project.joints.inputs in
      let m = length project.joints.outputs in
      let l = length_inputs project project.joints.inputs 0 (first_input (shape_of project)) in
      let o = length_outputs project project.joints.outputs n (first_output (shape_of project)) in
      let k = length_links project project.joints.links (host_count project) 0 in
      let w = within project.joints.links i link h in
      let x = link_at project project.joints.links (host_count project) 0 i link h in
      let e : host_count project + i ≡ n + (m + i) = omega arith in
      record {
        name = x.name;
        at =
            ap (λ j. slice_get (instances_of project) j) e
            ∙ get_behind ins (outs ++ (links ++ kernels)) n (m + i) (sym l)
            ∙ get_behind outs (links ++ kernels) m i (sym o)
            ∙ get_left links kernels i (omega arith)
            ∙ x.at;
      }

  pub kernel_instance : (k : ℕ) (kernel : Kernel) → slice_get project.kernels k ≡ Some kernel
      → IsOf (slice_get (instances_of project) (fifo_count project + k)) (fifo_count project + k) (kernel_nets project k kernel)
  kernel_instance k kernel h =
      let n = length project.joints.inputs in
      let m = length project.joints.outputs in
      let p = length project.joints.links in
      let l = length_inputs project project.joints.inputs 0 (first_input (shape_of project)) in
      let o = length_outputs project project.joints.outputs n (first_output (shape_of project)) in
      let q = length_links project project.joints.links (host_count project) 0 in
      let x = kernel_at project project.kernels (fifo_count project) 0 k kernel h in
      let e : fifo_count project + k ≡ n + (m + (p + k)) = omega arith in
      let z : 0 + k ≡ k = omega arith in
      let P : ℕ → Type 0 = λ j. IsOf (slice_get (instances_of project) (fifo_count project + k)) (fifo_count project + k) (kernel_nets project j kernel) in
      subst P z (record {
        name = x.name;
        at =
            ap (λ j. slice_get (instances_of project) j) e
            ∙ get_behind ins (outs ++ (links ++ kernels)) n (m + (p + k)) (sym l)
            ∙ get_behind outs (links ++ kernels) m (p + k) (sym o)
            ∙ get_behind links kernels p k (sym q)
            ∙ x.at;
      })

-- ---- the modules

-- there is a FIFO of this depth
pub record IsFifoAt (found : Option Module) (depth : ℕ) : Type 0 where
  pub fifo : Module
  pub at : found ≡ Some fifo
  pub name : List ℕ
  pub width : ℕ
  pub is : IsFifoModule name width depth fifo

pub fifo_at : (number : ℕ) (queues : List Queue) (ms : List Module) (i : ℕ) (queue : Queue) → AreFifos number queues ms → slice_get queues i ≡ Some queue → IsFifoAt (slice_get ms i) queue.depth
fifo_at number [] ms i queue h e = absurd (cc)
fifo_at number (q ∷ queues) [] i queue h e = absurd h
fifo_at number (q ∷ queues) (m ∷ ms) zero queue h e =
    let same : q ≡ queue = cc in
    subst (λ (x : Queue). IsFifoAt (Some m) x.depth) same (record { fifo = m; at = refl; name = _; width = _; is = h.0 })
fifo_at number (q ∷ queues) (m ∷ ms) (suc i) queue h e = fifo_at (number + 1) queues ms i queue h.1 e

pub length_fifos : (number : ℕ) (queues : List Queue) (ms : List Module) → AreFifos number queues ms → length ms ≡ length queues
length_fifos number [] [] h = refl
length_fifos number [] (m ∷ ms) h = absurd h
length_fifos number (q ∷ queues) [] h = absurd h
length_fifos number (q ∷ queues) (m ∷ ms) h = ap suc (length_fifos (number + 1) queues ms h.1)

-- ---- the ports

net_from : (n : ℕ) (ps : List PortView) (k : ℕ) → k < length ps → port_net (slice_get (ports_from n ps) k) ≡ n + k
net_from n [] k h = absurd (omega arith)
net_from n (p ∷ ps) zero h = omega arith
net_from n (p ∷ ps) (suc k) h = let e = net_from (n + 1) ps k (omega arith) in omega arith

length_kernels : (ks : List (List ℕ)) → length (kernel_ports ks) ≡ 2 * length ks
length_kernels [] = refl
length_kernels (k ∷ ks) = let e = length_kernels ks in omega arith

length_scalars : (ss : List (List ℕ × List ℕ × ℕ)) → length (scalar_ports ss) ≡ length ss
length_scalars [] = refl
length_scalars (s ∷ ss) = ap suc (length_scalars ss)

length_ins : (xs : List (List ℕ × ℕ)) → length (host_input_ports xs) ≡ 3 * length xs
length_ins [] = refl
length_ins (x ∷ xs) = let e = length_ins xs in omega arith

length_outs : (ys : List (List ℕ × ℕ)) → length (host_output_ports ys) ≡ 3 * length ys
length_outs [] = refl
length_outs (y ∷ ys) = let e = length_outs ys in omega arith

pub length_ports : (s : Shape) → length (shape_ports s) ≡ done_port s + 1
length_ports s =
    let k = length_kernels s.kernels in
    let a = length_scalars s.scalars in
    let i = length_ins s.inputs in
    let o = length_outs s.outputs in
    simp length-append (omega arith)

-- the net of a port of the top module has the port's number
pub top_net : (project : Project) (k : ℕ) → k < port_count project → net_at (top_module project) k ≡ k
top_net project k h =
    let l = length_ports (shape_of project) in
    let e = net_from 0 (shape_ports (shape_of project)) k (omega arith) in
    omega arith

-- ---- joined ports

-- a port and the net that it is joined to
record IsJoinedAt (v a : Family) (found : Option Port) (n : ℕ) : Type 0 where
  port : Port
  at : found ≡ Some port
  same : a port.net ≡ v n

joined_at : (v a : Family) (ps : List Port) (ns : List ℕ) (k n : ℕ) → Joined v a ps ns → slice_get ns k ≡ Some n → IsJoinedAt v a (slice_get ps k) n
joined_at v a [] [] k n h e = absurd (cc)
joined_at v a [] (x ∷ ns) k n h e = absurd h
joined_at v a (p ∷ ps) [] k n h e = absurd h
joined_at v a (p ∷ ps) (x ∷ ns) zero n h e = let same : x ≡ n = cc in record { port = p; at = refl; same = h.0 ∙ ap v same }
joined_at v a (p ∷ ps) (x ∷ ns) (suc k) n h e = joined_at v a ps ns k n h.1 e

-- the same of a module whose ports' nets have their numbers
pub numbered_at : (v a : Family) (m : Module) (ns : List ℕ) (k n : ℕ) → ((j : ℕ) (p : Port) → slice_get m.ports j ≡ Some p → p.net ≡ j) → Joined v a m.ports ns → slice_get ns k ≡ Some n → a k ≡ v n
numbered_at v a m ns k n numbered h e =
    let x = joined_at v a m.ports ns k n h e in
    ap a (sym (numbered k x.port x.at)) ∙ x.same

-- and of any module, at the nets of its ports
pub net_joined : (v a : Family) (m : Module) (ns : List ℕ) (k n : ℕ) → Joined v a m.ports ns → slice_get ns k ≡ Some n → a (net_at m k) ≡ v n
net_joined v a m ns k n h e =
    let x = joined_at v a m.ports ns k n h e in
    ap (λ (o : Option Port). a (port_net o)) x.at ∙ x.same

-- ---- channels

abbrev pub channel : Module → ℕ → Channel
channel m k = record { word = net_at m k; valid = net_at m (k + 1); ready = net_at m (k + 2) }

abbrev pub port_channel : Module → ℕ → ℕ → PortChannel
port_channel m n k = record { node = n; channel = channel m k }

-- a channel of a kernel's module
pub channel_at : (m : Module) (ns : List ℕ) (k i n : ℕ) → slice_get ns i ≡ Some n → slice_get (channels_of m k ns) i ≡ Some (port_channel m n (k + 3 * i))
channel_at m [] k i n e = absurd (cc)
channel_at m (x ∷ ns) k zero n e =
    let same : x ≡ n = cc in
    let f : k ≡ k + 3 * 0 = omega arith in
    ap (λ z. Some (port_channel m z k)) same ∙ ap (λ j. Some (port_channel m n j)) f
channel_at m (x ∷ ns) k (suc i) n e =
    let f : k + 3 + 3 * i ≡ k + 3 * suc i = omega arith in
    channel_at m ns (k + 3) i n e ∙ ap (λ j. Some (port_channel m n j)) f

-- which node's it is
pub record IsChannel (m : Module) (ns : List ℕ) (k i : ℕ) (y : PortChannel) : Type 0 where
  pub node : ℕ
  pub at : slice_get ns i ≡ Some node
  pub is : port_channel m node (k + 3 * i) ≡ y

pub of_channel : (m : Module) (ns : List ℕ) (k i : ℕ) (y : PortChannel) → slice_get (channels_of m k ns) i ≡ Some y → IsChannel m ns k i y
of_channel m [] k i y e = absurd (cc)
of_channel m (x ∷ ns) k zero y e =
    let f : k + 3 * 0 ≡ k = omega arith in
    let same : port_channel m x k ≡ y = cc in
    record { node = x; at = refl; is = ap (λ j. port_channel m x j) f ∙ same }
of_channel m (x ∷ ns) k (suc i) y e =
    let f : k + 3 * suc i ≡ k + 3 + 3 * i = omega arith in
    let c = of_channel m ns (k + 3) i y e in
    record { node = c.node; at = c.at; is = ap (λ j. port_channel m c.node j) f ∙ c.is }

-- a channel of the top module
pub outer_at : {A : Type 0} (m : Module) (xs : List A) (k i : ℕ) → i < length xs → slice_get (channels_from m k xs) i ≡ Some (channel m (k + 3 * i))
outer_at m [] k i h = absurd (omega arith)
outer_at m (x ∷ xs) k zero h = let f : k ≡ k + 3 * 0 = omega arith in ap (λ j. Some (channel m j)) f
outer_at m (x ∷ xs) k (suc i) h =
    let f : k + 3 + 3 * i ≡ k + 3 * suc i = omega arith in
    outer_at m xs (k + 3) i (omega arith) ∙ ap (λ j. Some (channel m j)) f

-- what holds of each channel of the top module and its stream
pub zip_hosts : (R : Channel → HostPort → Type 0) (top : Module) (hosts : List HostPort) (k : ℕ)
    → ((i : ℕ) (host : HostPort) → slice_get hosts i ≡ Some host → R (channel top (k + 3 * i)) host)
    → AllZip R (channels_from top k (map host_shape hosts)) hosts
zip_hosts R top [] k each = tt
zip_hosts R top (host ∷ hosts) k each = (
  let e : k + 3 * 0 ≡ k = omega arith in subst (λ j. R (channel top j) host) e (each 0 host refl),
  zip_hosts R top hosts (k + 3)
      (λ i other h. let e : k + 3 * suc i ≡ k + 3 + 3 * i = omega arith in subst (λ j. R (channel top j) other) e (each (suc i) other h)),
)
