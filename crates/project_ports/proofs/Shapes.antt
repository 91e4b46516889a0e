-- The ports of a project's design are those of a design that can be run.
use Rattle.std.proofs.Common.{
  ◌≡◌,
  ◌∙◌,
  ℕ,
  zero,
  suc,
  Bool,
  true,
  ◌&&◌,
  ◌||◌,
  List,
  [],
  ◌∷◌,
  ◌++◌,
  get_or,
  map,
  refl,
  ap,
  ap₂,
  sym,
  subst,
  arith,
}
use Rattle.std.specs.Prelude.{All, bytes_eq}
use Rattle.std.specs.List.{Contains, flat_map, list_all, list_any}
use Rattle.std.specs.Option.{option_map}
use Rattle.std.proofs.Math.Bool.{or-true}
use Rattle.std.proofs.lemmas.List.{length-map}
use Rattle.std.proofs.lemmas.List.Elements.{All-head, All-tail, All-weaker, All-contains_itself}
use Rattle.std.proofs.lemmas.List.Folds.{list_all-append}
use Rattle.std.proofs.lemmas.Option.{slice_get-map}
use Rattle.rtl_ir.specs.Ports.{is_plain_name}
use Rattle.stream_graph.specs.declared.kernel.Kernel.{Kernel}
use Rattle.stream_graph.specs.declared.node.Kind.{Kind}
use Rattle.stream_graph.specs.Kinds.{is_scalar}
use Rattle.stream_graph.specs.declared.node.Kind.TheVariants as K
use Rattle.kernel_calls.specs.Laws.{is_port_name}
use Rattle.kernel_control.specs.Ports.{port_shape, scalars_of}
use Rattle.kernel_ports.proofs.Kernels.{AreNamed, named, role_of}
use Rattle.kernel_ports.proofs.Named.{plain_names, all_rising}
use Rattle.kernel_ports.proofs.Spelled.{ArePlain, plain_from}
use Rattle.manager_links.specs.declared.hosts.HostPort.{HostPort}
use Rattle.manager_links.specs.declared.project.Project.{Project}
use Rattle.manager_links.specs.Rules.{kernel_names}
use Rattle.manager_links.proofs.Pieces.{place_in, stands_in}
use Rattle.project_rtl.specs.Shapes.{shape_of, scalar_shape, scalar_shapes, host_shape}
use Rattle.top_ports.specs.Shapes.{IsTopShape, AreByKernel}
use Rattle.top_ports.proofs.CutLemmas.{bytes_refl}

-- the name of a kernel is one that ports can have
abbrev HasPortName : Kernel → Type 0
HasPortName kernel = is_port_name kernel.name ≡ true

scalar_role : (kind : Kind) → is_scalar kind ≡ true → role_of kind ≡ 3
scalar_role K.Scalar e = refl
scalar_role _ e = absurd (cc)

-- ---- names

-- the kernels of a project have names that ports can have
pub all_named : (project : Project) → All HasPortName project.kernels
all_named project = λ k d h. (get_or project.kernels k d).named

names_plain : (kernels : List Kernel) → All HasPortName kernels
    → list_all is_plain_name (kernel_names kernels) ≡ true
names_plain [] plain = refl
names_plain (kernel ∷ kernels) plain =
    rw (
      plain_from kernel.name (All-head HasPortName kernel kernels plain),
      names_plain kernels (All-tail HasPortName kernel kernels plain),
    ) refl

-- a name is among names in which it stands
among : (name : List ℕ) (names : List (List ℕ)) → Contains names name
    → list_any (bytes_eq name) names ≡ true
among name [] (k, lt, is) = absurd (omega arith)
among name (other ∷ names) (zero, lt, is) =
    let own : bytes_eq name other ≡ true =
    subst (λ x. bytes_eq name x ≡ true) (sym is) (bytes_refl name) in
    rw own refl
among name (other ∷ names) (suc k, lt, is) =
    ap (λ b. bytes_eq name other || b) (among name names (k, omega arith, is))
    ∙ or-true (bytes_eq name other)

-- a kernel's name is among those of all kernels
own_name : (kernels : List Kernel) (kernel : Kernel) → Contains kernels kernel
    → list_any (bytes_eq kernel.name) (kernel_names kernels) ≡ true
own_name kernels kernel in_it =
    let at = place_in kernels kernel in_it in
    among kernel.name (kernel_names kernels)
    (stands_in (kernel_names kernels) at.0 kernel.name
    (slice_get-map (λ (k : Kernel). k.name) kernels at.0
    ∙ ap (option_map (λ (k : Kernel). k.name)) at.1))

-- ---- scalars

abbrev is_scalar_of : List (List ℕ) → List ℕ × List ℕ × ℕ → Bool
is_scalar_of names a = list_any (bytes_eq a.0) names && is_plain_name a.1

kernel_scalars : (names : List (List ℕ)) (kernel : Kernel)
    → list_any (bytes_eq kernel.name) names ≡ true → (ns : List ℕ)
    → ArePlain (map (port_shape kernel.nodes) ns)
    → list_all (is_scalar_of names) (map (scalar_shape kernel) ns) ≡ true
kernel_scalars names kernel own [] h = refl
kernel_scalars names kernel own (n ∷ ns) h =
    rw (own, h.0, kernel_scalars names kernel own ns h.1) refl

own_scalars : (names : List (List ℕ)) (kernel : Kernel)
    → list_any (bytes_eq kernel.name) names ≡ true
    → list_all (is_scalar_of names) (scalar_shapes kernel) ≡ true
own_scalars names kernel own =
    let nodes = kernel.nodes in
    let are : AreNamed nodes = named nodes kernel.made in
    kernel_scalars names kernel own (scalars_of nodes)
    (plain_names nodes is_scalar 3 (omega arith) scalar_role are 0 (scalars_of nodes)
    (all_rising nodes is_scalar))

all_scalars : (names : List (List ℕ)) (kernels : List Kernel)
    → All (λ (kernel : Kernel). list_any (bytes_eq kernel.name) names ≡ true) kernels
    → list_all (is_scalar_of names) (flat_map scalar_shapes kernels) ≡ true
all_scalars names [] own = refl
all_scalars names (kernel ∷ kernels) own =
    let law = λ (k : Kernel). list_any (bytes_eq k.name) names ≡ true in
    list_all-append (is_scalar_of names) (scalar_shapes kernel) (flat_map scalar_shapes kernels)
    ∙ ap₂ (λ one other. one && other) (own_scalars names kernel (All-head law kernel kernels own))
    (all_scalars names kernels (All-tail law kernel kernels own))

-- the scalars of a kernel stand before those of the kernels behind it
before_others : (kernel : Kernel) (kernels : List Kernel) (ns : List ℕ)
    → AreByKernel (kernel.name ∷ kernel_names kernels) (flat_map scalar_shapes kernels)
    → AreByKernel (kernel.name ∷ kernel_names kernels)
    (map (scalar_shape kernel) ns ++ flat_map scalar_shapes kernels)
before_others kernel kernels [] others = others
before_others kernel kernels (n ∷ ns) others =
    AreByKernel.own _ _ (before_others kernel kernels ns others)

-- so they stand kernel by kernel
by_kernels : (kernels : List Kernel)
    → AreByKernel (kernel_names kernels) (flat_map scalar_shapes kernels)
by_kernels [] = AreByKernel.none
by_kernels (kernel ∷ kernels) =
    before_others kernel kernels (scalars_of kernel.nodes) (AreByKernel.next (by_kernels kernels))

-- ---- streams

hosts_plain : (hosts : List HostPort)
    → All (λ (host : HostPort). is_port_name host.name ≡ true) hosts
    → list_all (λ (x : List ℕ × ℕ). is_plain_name x.0) (map host_shape hosts) ≡ true
hosts_plain [] plain = refl
hosts_plain (host ∷ hosts) plain =
    let law = λ (h : HostPort). is_port_name h.name ≡ true in
    rw (
      plain_from host.name (All-head law host hosts plain),
      hosts_plain hosts (All-tail law host hosts plain),
    ) refl

-- ---- the shape

pub project_top : (project : Project) → All HasPortName project.kernels
    → IsTopShape (shape_of project)
project_top project plain =
    let kernels = project.kernels in
    let count = length-map kernels (λ (k : Kernel). k.name) in
    let some = project.whole.few.some in
    record {
      shape = record {
        some = omega (arith, count, some);
        kernels = names_plain kernels plain;
        scalars = all_scalars (kernel_names kernels) kernels
            (All-weaker (Contains kernels)
            (λ (k : Kernel). list_any (bytes_eq k.name) (kernel_names kernels) ≡ true)
            (own_name kernels) kernels (All-contains_itself kernels));
        inputs = hosts_plain project.joints.inputs project.whole.inputs.plain;
        outputs = hosts_plain project.joints.outputs project.whole.outputs.plain;
      };
      by_kernel = by_kernels kernels;
    }
