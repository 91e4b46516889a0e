-- The ports of a kernel that keep one value in a run: no reset, its ticks and its scalars.
use Rattle.std.proofs.Common.{◌≡◌, ℕ, zero, suc, ◌+◌, ◌*◌, ◌<◌, List, [], ◌∷◌, ◌++◌, map, take, Option, Some, length, refl, sym, ap, ◌∙◌, subst, arith}
use Rattle.std.specs.Prelude.{slice_get, sum_by}
use Rattle.std.specs.List.{flat_map}
use Rattle.std.specs.Option.{option_map_or}
use Rattle.std.proofs.lemmas.Option.{same_Some}
use Rattle.std.proofs.lemmas.List.Sums.{sum_by-cons}
use Rattle.rtl_ir.specs.declared.design.Module.{Module}
use Rattle.rtl_ir.specs.Value.{Family}
use Rattle.rtl_ir.specs.Flat.{Families, Joined}
use Rattle.rtl_ir.specs.Parts.{own_of, below_all}
use Rattle.rtl_ir.specs.Run.{Event, Driven, left_of, Same}
use Rattle.rtl_ir.specs.Ports.{net_at, nets_from, second_nets_from, first_scalar}
use Rattle.stream_graph.specs.declared.kernel.Kernel.{Kernel}
use Rattle.stream_graph.specs.declared.node.Node.{Node}
use Rattle.kernel_control.specs.Ports.{scalars_of, nets_of}
use Rattle.kernel_control.specs.Refines.{AreSteady}
use Rattle.manager_links.specs.declared.project.Project.{Project}
use Rattle.manager_links.specs.Rules.{kernel_names}
use Rattle.manager_links.specs.declared.links.Links.{Links}
use Rattle.project_streams.specs.Streams.{GivenProject, ProjectValues, nodes_at}
use Rattle.project_rtl.specs.Shapes.{shape_of, scalar_shape, scalar_shapes}
use Rattle.project_rtl.specs.Blocks.{scalar_count, first_scalar_port}
use Rattle.project_rtl.specs.Tops.{range, fifo_count, top_module}
use Rattle.project_rtl.specs.Words.{ticks_from, scalars_from, steady_of, outer}
use Rattle.project_runs.proofs.Lists.{get_left, get_behind, there, within, length_map, get_map}
use Rattle.project_runs.proofs.Lookups.{top_net, net_joined}
use Rattle.project_runs.proofs.Fifos.{body}
use Rattle.project_runs.proofs.Wiring.{nets_for, steady_at, scalar_at, AllJoined}

-- ---- lists of nets and of values

same_at : (ns xs : List ℕ) (v : Family) (i n x : ℕ) → Same ns xs v → slice_get ns i ≡ Some n → slice_get xs i ≡ Some x → v n ≡ x
same_at [] xs v i n x h e f = absurd (cc)
same_at (m ∷ ns) [] v i n x h e f = absurd (cc)
same_at (m ∷ ns) (y ∷ xs) v zero n x h e f = ap v (sym (same_Some m n e)) ∙ h.0 ∙ same_Some y x f
same_at (m ∷ ns) (y ∷ xs) v (suc i) n x h e f = same_at ns xs v i n x h.1 e f

pub second_at : {A : Type 0} (m : Module) (xs : List A) (k i : ℕ) → i < length xs → slice_get (second_nets_from m k xs) i ≡ Some (net_at m (k + 2 * i))
second_at m [] k i h = absurd (omega arith)
second_at m (x ∷ xs) k zero h = let e : k ≡ k + 2 * 0 = omega arith in ap (λ j. Some (net_at m j)) e
second_at m (x ∷ xs) k (suc i) h =
    let e : k + 2 + 2 * i ≡ k + 2 * suc i = omega arith in
    second_at m xs (k + 2) i (omega arith) ∙ ap (λ j. Some (net_at m j)) e

length_second : {A : Type 0} (m : Module) (xs : List A) (k : ℕ) → length (second_nets_from m k xs) ≡ length xs
length_second m [] k = refl
length_second m (x ∷ xs) k = ap suc (length_second m xs (k + 2))

one_at : {A : Type 0} (m : Module) (xs : List A) (k i : ℕ) → i < length xs → slice_get (nets_from m k xs) i ≡ Some (net_at m (k + i))
one_at m [] k i h = absurd (omega arith)
one_at m (x ∷ xs) k zero h = let e : k ≡ k + 0 = omega arith in ap (λ j. Some (net_at m j)) e
one_at m (x ∷ xs) k (suc i) h =
    let e : k + 1 + i ≡ k + suc i = omega arith in
    one_at m xs (k + 1) i (omega arith) ∙ ap (λ j. Some (net_at m j)) e

ticks_at : (given : GivenProject) (b : ℕ) (kernels : List Kernel) (k : ℕ) → k < length kernels → slice_get (ticks_from given b kernels) k ≡ Some (given.ticks (b + k))
ticks_at given b [] k h = absurd (omega arith)
ticks_at given b (x ∷ kernels) zero h = let e : b ≡ b + 0 = omega arith in ap (λ j. Some (given.ticks j)) e
ticks_at given b (x ∷ kernels) (suc k) h =
    let e : b + 1 + k ≡ b + suc k = omega arith in
    ticks_at given (b + 1) kernels k (omega arith) ∙ ap (λ j. Some (given.ticks j)) e

length_ticks : (given : GivenProject) (b : ℕ) (kernels : List Kernel) → length (ticks_from given b kernels) ≡ length kernels
length_ticks given b [] = refl
length_ticks given b (x ∷ kernels) = ap suc (length_ticks given (b + 1) kernels)

-- an item of one list of a concatenation stands behind those of the lists before
flat_at : {A B : Type 0} (f : A → List B) (count : A → ℕ) → ((x : A) → length (f x) ≡ count x) → (xs : List A) (k j : ℕ) (x : A) (y : B)
    → slice_get xs k ≡ Some x → slice_get (f x) j ≡ Some y → slice_get (flat_map f xs) (sum_by count (take k xs) + j) ≡ Some y
flat_at f count counts [] k j x y e h = absurd (cc)
flat_at f count counts (z ∷ xs) zero j x y e h =
    let here : slice_get (f z) j ≡ Some y = ap (λ w. slice_get (f w) j) (same_Some z x e) ∙ h in
    let s : 0 + j ≡ j = omega arith in
    ap (λ i. slice_get (flat_map f (z ∷ xs)) i) s
    ∙ get_left (f z) (flat_map f xs) j (within (f z) j y here) ∙ here
flat_at f count counts (z ∷ xs) (suc k) j x y e h =
    let c = sum_by-cons count z (take k xs) in
    let s : sum_by count (take (suc k) (z ∷ xs)) + j ≡ count z + (sum_by count (take k xs) + j) = omega (arith, c) in
    ap (λ i. slice_get (flat_map f (z ∷ xs)) i) s
    ∙ get_behind (f z) (flat_map f xs) (count z) (sum_by count (take k xs) + j) (sym (counts z))
    ∙ flat_at f count counts xs k j x y e h

scalars_at : (given : GivenProject) (b : ℕ) (kernels : List Kernel) (k j n : ℕ) (kernel : Kernel)
    → slice_get kernels k ≡ Some kernel → slice_get (scalars_of kernel.nodes) j ≡ Some n
    → slice_get (scalars_from given b kernels) (sum_by scalar_count (take k kernels) + j) ≡ Some (given.scalar (b + k) n)
scalars_at given b [] k j n kernel e h = absurd (cc)
scalars_at given b (z ∷ kernels) zero j n kernel e h =
    let here : slice_get (scalars_of z.nodes) j ≡ Some n = ap (λ (w : Kernel). slice_get (scalars_of w.nodes) j) (same_Some z kernel e) ∙ h in
    let got = get_map (given.scalar b) (scalars_of z.nodes) j n here in
    let s : 0 + j ≡ j = omega arith in
    let t : b ≡ b + 0 = omega arith in
    ap (λ i. slice_get (scalars_from given b (z ∷ kernels)) i) s
    ∙ get_left (map (given.scalar b) (scalars_of z.nodes)) (scalars_from given (b + 1) kernels) j (within (map (given.scalar b) (scalars_of z.nodes)) j (given.scalar b n) got)
    ∙ got ∙ ap (λ i. Some (given.scalar i n)) t
scalars_at given b (z ∷ kernels) (suc k) j n kernel e h =
    let l = length_map (given.scalar b) (scalars_of z.nodes) in
    let c = sum_by-cons scalar_count z (take k kernels) in
    let s : sum_by scalar_count (take (suc k) (z ∷ kernels)) + j ≡ scalar_count z + (sum_by scalar_count (take k kernels) + j) = omega (arith, c) in
    let t : b + 1 + k ≡ b + suc k = omega arith in
    ap (λ i. slice_get (scalars_from given b (z ∷ kernels)) i) s
    ∙ get_behind (map (given.scalar b) (scalars_of z.nodes)) (scalars_from given (b + 1) kernels) (scalar_count z) (sum_by scalar_count (take k kernels) + j) (sym l)
    ∙ scalars_at given (b + 1) kernels k j n kernel e h
    ∙ ap (λ i. Some (given.scalar i n)) t

same_scalars : (m : Module) (g : ℕ → ℕ) (ns : List ℕ) (k : ℕ) (v : Family) → ((j n : ℕ) → slice_get ns j ≡ Some n → v (net_at m (k + j)) ≡ g n) → Same (nets_from m k ns) (map g ns) v
same_scalars m g [] k v h = tt
same_scalars m g (n ∷ ns) k v h = (
  let e : k ≡ k + 0 = omega arith in ap (λ i. v (net_at m i)) e ∙ h 0 n refl,
  same_scalars m g ns (k + 1) v (λ j a f. let e : k + 1 + j ≡ k + suc j = omega arith in ap (λ i. v (net_at m i)) e ∙ h (suc j) a f),
)

-- ---- an edge

module _ (project : Project) (inners : List Module) (given : GivenProject) where
  abbrev top : Module
  top = top_module project

  -- the ticks and the scalars of a kernel at the top module's ports
  ticks_here : (k : ℕ) (v : Family) → k < length project.kernels → Same (outer project top).steady (steady_of project given) v → v (2 + 2 * k + 1) ≡ given.ticks k
  ticks_here k v lt s =
      let names = kernel_names project.kernels in
      let l = length_map (λ (kernel : Kernel). kernel.name) project.kernels in
      let a = length_second top names 3 in
      let b = length_ticks given 0 project.kernels in
      let e : 3 + 2 * k ≡ 2 + 2 * k + 1 = omega arith in
      let z : 0 + k ≡ k = omega arith in
      same_at (outer project top).steady (steady_of project given) v k (2 + 2 * k + 1) (given.ticks k) s
      (get_left (second_nets_from top 3 names) (nets_from top (first_scalar (shape_of project)) (shape_of project).scalars) k (omega arith)
      ∙ second_at top names 3 k (omega arith)
      ∙ ap (λ (n : ℕ). Some n) (ap (net_at top) e ∙ top_net project (2 + 2 * k + 1) (omega arith)))
      (get_left (ticks_from given 0 project.kernels) (scalars_from given 0 project.kernels) k (omega arith)
      ∙ ticks_at given 0 project.kernels k lt ∙ ap (λ i. Some (given.ticks i)) z)

  scalar_here : (k j n : ℕ) (kernel : Kernel) (v : Family) → slice_get project.kernels k ≡ Some kernel → slice_get (scalars_of kernel.nodes) j ≡ Some n
      → Same (outer project top).steady (steady_of project given) v → v (first_scalar_port project k + j) ≡ given.scalar k n
  scalar_here k j n kernel v at h s =
      let names = kernel_names project.kernels in
      let scalars = (shape_of project).scalars in
      let count = length project.kernels in
      let l = length_map (λ (kernel : Kernel). kernel.name) project.kernels in
      let a = length_second top names 3 in
      let b = length_ticks given 0 project.kernels in
      let off = sum_by scalar_count (take k project.kernels) in
      let one = flat_at scalar_shapes scalar_count (λ (x : Kernel). length_map (scalar_shape x) (scalars_of x.nodes))
      project.kernels k j kernel (scalar_shape kernel n) at (get_map (scalar_shape kernel) (scalars_of kernel.nodes) j n h) in
      let w = within scalars (off + j) (scalar_shape kernel n) one in
      let e : first_scalar (shape_of project) + (off + j) ≡ first_scalar_port project k + j = omega arith in
      let z : 0 + k ≡ k = omega arith in
      let c : count ≡ length (second_nets_from top 3 names) = omega arith in
      same_at (outer project top).steady (steady_of project given) v (count + (off + j)) (first_scalar_port project k + j) (given.scalar k n) s
      (get_behind (second_nets_from top 3 names) (nets_from top (first_scalar (shape_of project)) scalars) count (off + j) c
      ∙ one_at top scalars (first_scalar (shape_of project)) (off + j) w
      ∙ ap (λ (i : ℕ). Some i) (ap (net_at top) e ∙ top_net project (first_scalar_port project k + j) (omega arith)))
      (get_behind (ticks_from given 0 project.kernels) (scalars_from given 0 project.kernels) count (off + j) (sym b)
      ∙ scalars_at given 0 project.kernels k j n kernel at h ∙ ap (λ i. Some (given.scalar i n)) z)

  -- one of the first nets of a kernel
  pub first_net_is : (k i n : ℕ) (v kv : Family) → i < 4 → slice_get (range 0 2 ++ range (2 + 2 * k) 2) i ≡ Some n
      → Joined v kv (body project inners k).ports (nets_for project k (nodes_at project.kernels k)) → kv (net_at (body project inners k) i) ≡ v n
  first_net_is k i n v kv lt e j =
      net_joined v kv (body project inners k) (nets_for project k (nodes_at project.kernels k)) i n j (steady_at project k (nodes_at project.kernels k) i n lt e)

  pub reset_is : (k : ℕ) (v kv : Family) → Joined v kv (body project inners k).ports (nets_for project k (nodes_at project.kernels k))
      → kv (net_at (body project inners k) 1) ≡ v (outer project top).reset
  reset_is k v kv j = first_net_is k 1 1 v kv (omega arith) refl j ∙ ap v (sym (top_net project 1 (omega arith)))

  -- the steady ports in an edge behind the reset edge
  record IsSteady (k : ℕ) (kv : Family) : Type 0 where
    ticks : kv (net_at (body project inners k) 3) ≡ given.ticks k
    scalars : Same (nets_from (body project inners k) 4 (scalars_of (nodes_at project.kernels k))) (map (given.scalar k) (scalars_of (nodes_at project.kernels k))) kv

  steady_one : (k : ℕ) (v kv : Family) → k < length project.kernels
      → Joined v kv (body project inners k).ports (nets_for project k (nodes_at project.kernels k))
      → Same (outer project top).steady (steady_of project given) v → IsSteady k kv
  steady_one k v kv lt j s =
      let nodes = nodes_at project.kernels k in
      let m = body project inners k in
      let kernel = there project.kernels k lt in
      let same : nodes ≡ kernel.one.nodes = ap (λ (o : Option Kernel). option_map_or (λ (x : Kernel). x.nodes) o []) kernel.at in
      record {
        ticks = first_net_is k 3 (2 + 2 * k + 1) v kv (omega arith) refl j ∙ ticks_here k v lt s;
        scalars =
            same_scalars m (given.scalar k) (scalars_of nodes) 4 kv
            (λ i n e.
            let w = within (scalars_of nodes) i n e in
            let at : slice_get (scalars_of kernel.one.nodes) i ≡ Some n = subst (λ (ns : List Node). slice_get (scalars_of ns) i ≡ Some n) same e in
            net_joined v kv m (nets_for project k nodes) (4 + i) (first_scalar_port project k + i) j (scalar_at project k nodes i w)
            ∙ scalar_here k i n kernel.one v kernel.at at s);
      }

module _ (project : Project) (made : Links) (inners : List Module) (times : ℕ → ℕ → ℕ) (positions : ℕ → ℕ) (given : GivenProject) (values : ProjectValues) where
  pub steady : (k : ℕ) (words : List (List ℕ)) (es : List Event) (Vs : List Families) → k < length project.kernels
      → AllJoined project made inners times positions given values Vs
      → Driven (outer project (top_module project)) (steady_of project given) words es (own_of Vs)
      → AreSteady (nets_of (nodes_at project.kernels k) (body project inners k) (positions k)) (given.ticks k)
      (map (given.scalar k) (scalars_of (nodes_at project.kernels k))) (own_of (below_all (fifo_count project + k) Vs))
  steady k words es [] lt j d = tt
  steady k words [] (V ∷ Vs) lt j d = absurd d
  steady k words (e ∷ es) (V ∷ Vs) lt j d =
      let kv : Family = V ((fifo_count project + k) ∷ []) in
      let one = steady_one project inners given k (V []) kv lt (j.0 k lt) d.0.steadily in (
        reset_is project inners given k (V []) kv (j.0 k lt) ∙ d.0.reset,
        one.ticks,
        one.scalars,
        steady k (left_of (outer project (top_module project)).inputs words (V [])) es Vs lt j.1 d.1,
      )
