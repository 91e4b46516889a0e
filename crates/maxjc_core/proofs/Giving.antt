-- A plan that fits the ports of a project, and what it gives to a run of it.
use Rattle.std.proofs.Common.{◌≡◌, ◌∙◌, ◌<◌, ℕ, zero, suc, List, [], ◌∷◌, length, map, arith, ap, sym, subst}
use Rattle.std.specs.Prelude.{All}
use Rattle.std.proofs.lemmas.List.{length-map}
use Rattle.std.proofs.lemmas.List.Elements.{All-head, All-tail, All-nil, All-cons}
use Rattle.std.proofs.lemmas.Option.{same_Some}
use Rattle.fix_arith.specs.Types.{width_of, HasWidth}
use Rattle.manager_links.specs.Hosts.{HasType}
use Rattle.manager_links.specs.declared.hosts.HostPort.{HostPort}
use Rattle.manager_links.specs.declared.project.Project.{Project}
use Rattle.mx_base.specs.Files.{Name}
use Rattle.stream_graph.specs.LookUps.{node_at}
use Rattle.stream_graph.proofs.NodeLemmas.{orderly}
use Rattle.project_rtl.specs.Shapes.{shape_of, host_shape}
use Rattle.project_streams.specs.Streams.{nodes_at}
use Rattle.project_words.proofs.Ports.{IsThere, host_there}
use Rattle.simulation.specs.declared.plan.Plan.{Plan}
use Rattle.stream_expect.proofs.Ports.{output_there}
use Rattle.stream_graph.specs.declared.kernel.Kernel.{Kernel}
use Rattle.maxjc_core.specs.ExpectStops.{FitsPorts, IsWordWidth}

-- ---- how many

pub counted-ticks : (project : Project) (plan : Plan) → FitsPorts project plan
    → length plan.ticks ≡ length project.kernels
counted-ticks project plan f =
    f.fits.kernels ∙ length-map project.kernels (λ (kernel : Kernel). kernel.name)

-- lists of pairs with the same second parts are equally long
same-length : (xs ys : List (Name × ℕ)) → map (λ (x : Name × ℕ). x.1) xs ≡ map (λ (y : Name × ℕ). y.1) ys
    → length xs ≡ length ys
same-length xs ys same =
    sym (length-map xs (λ (x : Name × ℕ). x.1)) ∙ ap (λ (l : List ℕ). length l) same
    ∙ length-map ys (λ (y : Name × ℕ). y.1)

pub counted-inputs : (project : Project) (plan : Plan) → FitsPorts project plan
    → length plan.inputs ≡ length project.joints.inputs
counted-inputs project plan f =
    same-length plan.inputs (shape_of project).inputs f.fits.inputs
    ∙ length-map project.joints.inputs host_shape

pub counted-outputs : (project : Project) (plan : Plan) → FitsPorts project plan
    → length plan.outputs ≡ length project.joints.outputs
counted-outputs project plan f =
    same-length plan.outputs (shape_of project).outputs f.fits.outputs
    ∙ length-map project.joints.outputs host_shape

-- ---- widths

-- the words of a node have 1 to 128 bits
wide : (kernels : List Kernel) (k n : ℕ) → n < length (nodes_at kernels k)
    → HasWidth (node_at (nodes_at kernels k) n).view.t
wide [] k n lt = absurd (omega arith)
wide (kernel ∷ kernels) zero n lt = (orderly kernel.nodes kernel.made).widths n lt
wide (kernel ∷ kernels) (suc k) n lt = wide kernels k n lt

host-wide : (kernels : List Kernel) (host : HostPort) → IsThere kernels host.port
    → HasType kernels host → IsWordWidth (width_of host.t)
host-wide kernels host there typed =
    let same : host.t ≡ (node_at (nodes_at kernels host.port.kernel) host.port.node).view.t =
    same_Some host.t (node_at (nodes_at kernels host.port.kernel) host.port.node).view.t
    (sym typed ∙ there.typed) in
    subst (λ t. IsWordWidth (width_of t)) (sym same)
    (wide kernels host.port.kernel host.port.node there.node)

-- of a stream of the CPU
abbrev IsWide : Name × ℕ → Type 0
IsWide file = IsWordWidth file.1

hosts-wide : (kernels : List Kernel) (hosts : List HostPort)
    → All (λ (host : HostPort). IsThere kernels host.port) hosts → All (HasType kernels) hosts
    → All IsWide (map host_shape hosts)
hosts-wide kernels [] there typed = All-nil IsWide
hosts-wide kernels (host ∷ hosts) there typed =
    let at = λ (h : HostPort). IsThere kernels h.port in
    All-cons IsWide (host_shape host) (map host_shape hosts)
    (host-wide kernels host (All-head at host hosts there) (All-head (HasType kernels) host hosts typed))
    (hosts-wide kernels hosts (All-tail at host hosts there) (All-tail (HasType kernels) host hosts typed))

wide-along : (xs ys : List (Name × ℕ)) → map (λ (x : Name × ℕ). x.1) xs ≡ map (λ (y : Name × ℕ). y.1) ys
    → All IsWide ys → All IsWide xs
wide-along [] ys same wide = All-nil IsWide
wide-along (x ∷ xs) [] same wide = absurd (cc)
wide-along (x ∷ xs) (y ∷ ys) same wide =
    let first : x.1 ≡ y.1 = cc in
    let rest : map (λ (z : Name × ℕ). z.1) xs ≡ map (λ (z : Name × ℕ). z.1) ys = cc in
    All-cons IsWide x xs (subst IsWordWidth (sym first) (All-head IsWide y ys wide))
    (wide-along xs ys rest (All-tail IsWide y ys wide))

-- the words of input files and of output files have 1 to 128 bits
pub inputs-wide : (project : Project) (plan : Plan) → FitsPorts project plan
    → All IsWide plan.inputs
inputs-wide project plan f =
    wide-along plan.inputs (shape_of project).inputs f.fits.inputs
    (hosts-wide project.kernels project.joints.inputs (host_there project)
    project.whole.inputs.typed)

pub outputs-wide : (project : Project) (plan : Plan) → FitsPorts project plan
    → All IsWide plan.outputs
outputs-wide project plan f =
    wide-along plan.outputs (shape_of project).outputs f.fits.outputs
    (hosts-wide project.kernels project.joints.outputs (output_there project)
    project.whole.outputs.typed)
