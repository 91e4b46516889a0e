-- What the parts of a run of the design of a project are: those of each FIFO and of each kernel.
use Rattle.std.proofs.Common.{◌≡◌, ℕ, ◌+◌, ◌<◌, List, [], ◌∷◌, ◌++◌, map, Option, Some, length, refl, sym, ap, ◌∙◌, subst, arith, length-append}
use Rattle.std.specs.Prelude.{slice_get}
use Rattle.std.specs.Option.{option_map_or}
use Rattle.rtl_ir.specs.declared.design.Design.{Design}
use Rattle.rtl_ir.specs.declared.design.Module.{Module}
use Rattle.rtl_ir.specs.declared.design.Instance.{Instance}
use Rattle.rtl_ir.specs.Value.{Family}
use Rattle.rtl_ir.specs.Edge.{Edges}
use Rattle.rtl_ir.specs.Flat.{Families, AllContents, EdgesFlat, Joined, below}
use Rattle.rtl_ir.specs.Parts.{EdgesByParts, JoinedAll, own_of, below_all}
use Rattle.rtl_ir.specs.Run.{Outer, Event, Driven, left_of}
use Rattle.rtl_delays.specs.Delays.{NoReset}
use Rattle.stream_graph.specs.declared.kernel.Kernel.{Kernel}
use Rattle.stream_graph.specs.declared.node.Node.{Node}
use Rattle.link_fifo.specs.Queue.{IsQueue}
use Rattle.link_fifo.specs.Fifo.{IsFifoModule}
use Rattle.link_fifo.specs.Netlist.{input, output}
use Rattle.manager_links.specs.declared.links.Link.{Link}
use Rattle.manager_links.specs.declared.links.LinkEnds.{LinkEnds}
use Rattle.manager_links.specs.declared.links.Links.{Links}
use Rattle.manager_links.specs.declared.project.Project.{Project}
use Rattle.manager_links.specs.Joined.{ends_of_link}
use Rattle.project_streams.specs.Streams.{GivenProject, ProjectValues, nodes_at}
use Rattle.project_rtl.specs.Tops.{instance, fifo_nets, host_count, fifo_count, instances_of, top_module}
use Rattle.project_rtl.specs.Projects.{Queue, host_queue, link_queue, queues_of, IsProjectOf}
use Rattle.project_rtl.specs.Words.{outer}
use Rattle.project_runs.proofs.Lists.{get_left, get_behind, there, within, get_some, get_map, length_map}
use Rattle.project_runs.proofs.Lookups.{IsOf, input_instance, output_instance, link_instance, kernel_instance, fifo_at, length_fifos, top_net, numbered_at}
use Rattle.project_runs.proofs.Network.{Fifo}
use Rattle.project_runs.proofs.Fifos.{body, Which, FromHost, ToHost, Between, fifo_of}
use Rattle.project_runs.proofs.Wiring.{nets_for, taken_net, given_net}

-- what the law of the netlists says
abbrev pub ByLaw : Type 0
ByLaw = (d : Design) (m : Module) (c : AllContents) (vs : List Families) → EdgesFlat d m c vs → EdgesByParts d m c vs

-- the edges of an instance by themselves, and its joined ports
pub record IsPart (inner : Module) (k : ℕ) (nets : List ℕ) (c : AllContents) (Vs : List Families) : Type 0 where
  pub joint : Instance
  pub same : joint.nets ≡ nets
  pub joins : JoinedAll k joint inner Vs
  pub edges : Edges inner (c (k ∷ [])) (own_of (below_all k Vs))

part : ByLaw → (d : Design) (top inner : Module) (k : ℕ) (nets : List ℕ) (c : AllContents) (Vs : List Families)
    → IsOf (slice_get top.instances k) k nets → slice_get d.modules k ≡ Some inner → EdgesFlat d top c Vs → IsPart inner k nets c Vs
part law d top inner k nets c Vs of is h =
    let p = (law d top c Vs h).parts k (instance k of.name nets) inner of.at is in
    record { joint = instance k of.name nets; same = refl; joins = p.0; edges = (law d inner (below k c) (below_all k Vs) p.1).own }

-- no edge resets an instance whose port number 1 is joined to the reset
pub no_reset : (k : ℕ) (i : Instance) (inner : Module) (o : Outer) (steady : List ℕ) (words : List (List ℕ)) (es : List Event) (Vs : List Families)
    → ((v a : Family) → Joined v a inner.ports i.nets → a 1 ≡ v o.reset)
    → JoinedAll k i inner Vs → Driven o steady words es (own_of Vs) → NoReset 1 (own_of (below_all k Vs))
no_reset k i inner o steady words es [] at j d = tt
no_reset k i inner o steady words [] (V ∷ Vs) at j d = absurd d
no_reset k i inner o steady words (e ∷ es) (V ∷ Vs) at j d =
    (at (V []) (V (k ∷ [])) j.0 ∙ d.0.reset, no_reset k i inner o steady (left_of o.inputs words (V [])) es Vs at j.1 d.1)

module _ (law : ByLaw) (project : Project) (made : Links) (inners : List Module) (d : Design) (is : IsProjectOf project made inners d)
    (given : GivenProject) (values : ProjectValues) where
  abbrev top : Module
  top = top_module project

  abbrev fifo : Which project → Fifo
  fifo = fifo_of project made inners given values

  same_links : length made.links ≡ length project.joints.links
  same_links = sym (length_map ends_of_link made.links) ∙ ap (λ (links : List LinkEnds). length links) is.links

  many : length is.fifos ≡ fifo_count project
  many =
      let l = length_fifos 0 (queues_of project made) is.fifos is.are_fifos in
      let a = length-append (map host_queue project.joints.inputs) (map host_queue project.joints.outputs ++ map (link_queue project.kernels) made.links) in
      let b = length-append (map host_queue project.joints.outputs) (map (link_queue project.kernels) made.links) in
      let i = length_map host_queue project.joints.inputs in
      let o = length_map host_queue project.joints.outputs in
      let k = length_map (link_queue project.kernels) made.links in
      let s = same_links in
      omega (arith, l, a, b, i, o, k, s)

  -- ---- the kernels

  pub kernel_part : (k : ℕ) (c : AllContents) (Vs : List Families) → k < length project.kernels → EdgesFlat d top c Vs
      → IsPart (body project inners k) (fifo_count project + k) (nets_for project k (nodes_at project.kernels k)) c Vs
  kernel_part k c Vs lt edges =
      let n = is.kernels in
      let kernel = there project.kernels k lt in
      let inner = there inners k (omega arith) in
      let here : slice_get inners k ≡ Some (body project inners k) = get_some (slice_get inners k) top inner in
      let at : slice_get d.modules (fifo_count project + k) ≡ Some (body project inners k) =
      ap (λ (l : List Module). slice_get l (fifo_count project + k)) is.modules
      ∙ get_behind is.fifos (inners ++ top ∷ []) (fifo_count project) k (sym many)
      ∙ get_left inners (top ∷ []) k (omega arith)
      ∙ here in
      let same : kernel.one.nodes ≡ nodes_at project.kernels k = sym (ap (λ (o : Option Kernel). option_map_or (λ (x : Kernel). x.nodes) o []) kernel.at) in
      let of = kernel_instance project k kernel.one kernel.at in
      let joined : IsOf (slice_get (instances_of project) (fifo_count project + k)) (fifo_count project + k) (nets_for project k (nodes_at project.kernels k)) =
      subst (λ (ns : List Node). IsOf (slice_get (instances_of project) (fifo_count project + k)) (fifo_count project + k) (nets_for project k ns)) same of in
      part law d top (body project inners k) (fifo_count project + k) (nets_for project k (nodes_at project.kernels k)) c Vs joined at edges

  -- ---- the FIFOs

  -- which queue a FIFO is
  record IsQueueOf (x : Which project) : Type 0 where
    queue : Queue
    at : slice_get (queues_of project made) (fifo x).number ≡ Some queue
    depth : queue.depth ≡ (fifo x).depth
    within : (fifo x).number < fifo_count project
    joined : IsOf (slice_get (instances_of project) (fifo x).number) (fifo x).number (fifo_nets (taken_net project x) (given_net project x))

  abbrev ins : List Queue
  ins = map host_queue project.joints.inputs

  abbrev outs : List Queue
  outs = map host_queue project.joints.outputs

  abbrev links : List Queue
  links = map (link_queue project.kernels) made.links

  queue_of : (x : Which project) → IsQueueOf x
  queue_of (FromHost h) =
      let w = within project.joints.inputs h.number h.host h.at in
      let i = length_map host_queue project.joints.inputs in
      record {
        queue = host_queue h.host;
        at = get_left ins (outs ++ links) h.number (omega arith) ∙ get_map host_queue project.joints.inputs h.number h.host h.at;
        depth = refl;
        within = omega arith;
        joined = input_instance project h.number h.host h.at;
      }
  queue_of (ToHost h) =
      let w = within project.joints.outputs h.number h.host h.at in
      let i = length_map host_queue project.joints.inputs in
      let o = length_map host_queue project.joints.outputs in
      record {
        queue = host_queue h.host;
        at =
            get_behind ins (outs ++ links) (length project.joints.inputs) h.number (sym i)
            ∙ get_left outs links h.number (omega arith)
            ∙ get_map host_queue project.joints.outputs h.number h.host h.at;
        depth = refl;
        within = omega arith;
        joined = output_instance project h.number h.host h.at;
      }
  queue_of (Between l) =
      let w = within project.joints.links l.number l.link l.at in
      let s = same_links in
      let i = length_map host_queue project.joints.inputs in
      let o = length_map host_queue project.joints.outputs in
      let link = there made.links l.number (omega (arith, w, s)) in
      let e : host_count project + l.number ≡ length project.joints.inputs + (length project.joints.outputs + l.number) = omega arith in
      record {
        queue = link_queue project.kernels link.one;
        at =
            ap (λ j. slice_get (queues_of project made) j) e
            ∙ get_behind ins (outs ++ links) (length project.joints.inputs) (length project.joints.outputs + l.number) (sym i)
            ∙ get_behind outs links (length project.joints.outputs) l.number (sym o)
            ∙ get_map (link_queue project.kernels) made.links l.number link.one link.at;
        depth = sym (ap (λ (found : Option Link). option_map_or (λ (one : Link). one.depth) found 0) link.at);
        within = omega arith;
        joined = link_instance project l.number l.link l.at;
      }

  -- a FIFO's module and its part of the run
  pub record IsFifoPart (x : Which project) (c : AllContents) (Vs : List Families) : Type 0 where
    pub module_is : Module
    pub name : List ℕ
    pub width : ℕ
    pub is_fifo : IsFifoModule name width (fifo x).depth module_is
    pub piece : IsPart module_is (fifo x).number (fifo_nets (taken_net project x) (given_net project x)) c Vs

  pub fifo_part : (x : Which project) (c : AllContents) (Vs : List Families) → EdgesFlat d top c Vs → IsFifoPart x c Vs
  fifo_part x c Vs edges =
      let q = queue_of x in
      let f = fifo_at 0 (queues_of project made) is.fifos (fifo x).number q.queue is.are_fifos q.at in
      let w = q.within in
      let m = many in
      let at : slice_get d.modules (fifo x).number ≡ Some f.fifo =
      ap (λ (l : List Module). slice_get l (fifo x).number) is.modules
      ∙ get_left is.fifos (inners ++ top ∷ []) (fifo x).number (omega (arith, w, m))
      ∙ f.at in
      record {
        module_is = f.fifo;
        name = f.name;
        width = f.width;
        is_fifo = subst (λ (n : ℕ). IsFifoModule f.name f.width n f.fifo) q.depth f.is;
        piece = part law d top f.fifo (fifo x).number (fifo_nets (taken_net project x) (given_net project x)) c Vs q.joined at edges;
      }

  -- behind a reset edge it is a queue that begins with no words
  pub begins_empty : (x : Which project) (c : AllContents) (V : Families) (Vs : List Families) (steady : List ℕ) (words : List (List ℕ)) (es : List Event)
      → V [] (outer project top).reset ≡ 1 → Driven (outer project top) steady words es (own_of Vs)
      → IsFifoPart x c (V ∷ Vs) → IsQueue (fifo x).depth input output [] (own_of (below_all (fifo x).number Vs))
  begins_empty x c V Vs steady words es first driven p =
      let f = p.module_is in
      let j = (fifo x).number in
      let nets = fifo_nets (taken_net project x) (given_net project x) in
      let r : (outer project top).reset ≡ 1 = top_net project 1 (omega arith) in
      let at : (v a : Family) → Joined v a f.ports nets → a 1 ≡ v (outer project top).reset = λ v a h. numbered_at v a f nets 1 1 p.is_fifo.numbered h refl ∙ ap v (sym r) in
      let at_joint : (v a : Family) → Joined v a f.ports p.piece.joint.nets → a 1 ≡ v (outer project top).reset = λ v a h. at v a (subst (λ ns. Joined v a f.ports ns) p.piece.same h) in
      p.is_fifo.runs (c (j ∷ [])) (V (j ∷ [])) (own_of (below_all j Vs)) p.piece.edges (at_joint (V []) (V (j ∷ [])) p.piece.joins.0 ∙ first)
      (no_reset j p.piece.joint f (outer project top) steady words es Vs at_joint p.piece.joins.1 driven)
