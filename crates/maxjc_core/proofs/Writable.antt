-- The words that the stream equations say can be written, and the place that is said is one.
use Rattle.std.proofs.Common.{◌≡◌, ◌∙◌, ◌<◌, ℕ, List, [], ◌∷◌, Option, Some, None, length, map, refl, sym, subst}
use Rattle.std.specs.Prelude.{All, IfSome, slice_get}
use Rattle.std.specs.List.{AllZip}
use Rattle.std.proofs.lemmas.List.Elements.{All-head, All-tail}
use Rattle.std.proofs.lemmas.Option.{slice_get-map}
use Rattle.std.specs.Option.{option_map}
use Rattle.fix_arith.specs.Types.{width_of}
use Rattle.manager_links.specs.declared.hosts.HostPort.{HostPort}
use Rattle.manager_links.specs.declared.project.Project.{Project}
use Rattle.mx_base.specs.Files.{Name}
use Rattle.project_rtl.specs.Shapes.{host_shape}
use Rattle.project_streams.specs.Guarded.{IsGuardedBut}
use Rattle.project_streams.specs.Streams.{GivenProject, ProjectValues}
use Rattle.rtl_ir.specs.Rules.{AllDiffer}
use Rattle.simulation.specs.Plans.{AreApart}
use Rattle.simulation.specs.declared.plan.Plan.{Plan}
use Rattle.stream_expect.specs.Expected.{place_of}
use Rattle.stream_expect.specs.Widths.{HaveHostWidths}
use Rattle.stream_expect.specs.declared.expected.Expected.{Expected}
use Rattle.stream_expect.specs.declared.expected.UnguardedPlace.{UnguardedPlace}
use Rattle.stream_graph.specs.declared.kernel.Kernel.{Kernel}
use Rattle.word_lists.specs.Written.{HaveWidth}
use Rattle.maxjc_core.specs.ExpectStops.{FitsPorts, IsWordWidth, IsOutput, IsExpectedIn, CanWrite}
use Rattle.maxjc_core.specs.declared.begin.Begun.{Begun}
use Rattle.maxjc_core.proofs.Giving.{outputs-wide}

-- ---- words

-- words of the widths of streams have those of files of the same widths
along : (files : List (Name × ℕ)) (hosts : List HostPort) (lists : List (List (Option ℕ)))
    → map (λ (f : Name × ℕ). f.1) files ≡ map (λ (s : Name × ℕ). s.1) (map host_shape hosts)
    → All (λ (f : Name × ℕ). IsWordWidth f.1) files → HaveHostWidths hosts lists
    → AllZip IsOutput files lists
along [] [] [] same wide fit = tt
along [] [] (l ∷ lists) same wide fit = absurd fit
along [] (h ∷ hosts) lists same wide fit = absurd (cc)
along (f ∷ files) [] lists same wide fit = absurd (cc)
along (f ∷ files) (h ∷ hosts) [] same wide fit = absurd fit
along (f ∷ files) (h ∷ hosts) (l ∷ lists) same wide fit =
    let law = λ (x : Name × ℕ). IsWordWidth x.1 in
    let first : f.1 ≡ width_of h.t = cc in
    let rest : map (λ (x : Name × ℕ). x.1) files ≡ map (λ (x : Name × ℕ). x.1) (map host_shape hosts) = cc in (
      (All-head law f files wide, subst (λ w. HaveWidth w l) (sym first) fit.0),
      along files hosts lists rest (All-tail law f files wide) fit.1,
    )

-- outputs that have files of their own have files of different names
names-differ : (plan : Plan) → AreApart plan
    → AllDiffer (map (λ (f : Name × ℕ). f.0) plan.outputs)
names-differ plan apart i j name here there =
    let a = at i here in
    let b = at j there in
    apart.outputs i j a.0 b.0 a.1 b.1 (a.2 ∙ sym b.2)
  where
    by : (o : Option (Name × ℕ)) → option_map (λ (f : Name × ℕ). f.0) o ≡ Some name
        → (f : Name × ℕ) × (o ≡ Some f) × (f.0 ≡ name)
    by None e = absurd (cc)
    by (Some f) e = (f, refl, cc)

    at : (k : ℕ) → slice_get (map (λ (f : Name × ℕ). f.0) plan.outputs) k ≡ Some name
        → (f : Name × ℕ) × (slice_get plan.outputs k ≡ Some f) × (f.0 ≡ name)
    at k e =
        by (slice_get plan.outputs k)
        (sym (slice_get-map (λ (f : Name × ℕ). f.0) plan.outputs k) ∙ e)

pub can-write : (project : Project) (plan : Plan) (expected : Expected) → FitsPorts project plan
    → HaveHostWidths project.joints.outputs expected.outputs → CanWrite plan.outputs expected.outputs
can-write project plan expected f widths = record {
  each = along plan.outputs project.joints.outputs expected.outputs f.fits.outputs
      (outputs-wide project plan f) widths;
  apart = names-differ plan f.apart;
}

-- ---- the place that is said

within : (project : Project) (given : GivenProject) (values : ProjectValues)
    (place : Option UnguardedPlace) → IsGuardedBut project given values (option_map place_of place)
    → IfSome place (λ (p : UnguardedPlace). p.kernel < length project.kernels)
within project given values None guarded = tt
within project given values (Some place) guarded = guarded.here.kernel

pub place-within : (begun : Begun) (lists : List (List ℕ)) (expected : Expected)
    (kernels : List Kernel) → kernels ≡ begun.linked.project.kernels
    → IsExpectedIn begun lists expected
    → IfSome expected.unguarded (λ (p : UnguardedPlace). p.kernel < length kernels)
place-within begun lists expected kernels same e =
    subst (λ ks. IfSome expected.unguarded (λ (p : UnguardedPlace). p.kernel < length ks)) (sym same)
    (within begun.linked.project e.given e.is.values expected.unguarded e.is.guarded)
