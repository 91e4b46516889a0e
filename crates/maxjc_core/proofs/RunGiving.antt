-- The run that a plan gives to a project.
use Rattle.std.proofs.Common.{
  ◌≡◌,
  ◌∙◌,
  ◌<◌,
  ◌+◌,
  ◌^◌,
  ℕ,
  zero,
  suc,
  Bool,
  true,
  false,
  cond,
  List,
  [],
  ◌∷◌,
  ◌++◌,
  length,
  map,
  Some,
  arith,
  refl,
  ap,
  ap₂,
  sym,
  subst,
}
use Rattle.std.specs.Prelude.{slice_get, slice_index, slice_index_or}
use Rattle.std.specs.List.{AllZip, flat_map}
use Rattle.std.proofs.lemmas.Bool.{false≢true}
use Rattle.std.proofs.lemmas.List.{length-map, map-append}
use Rattle.std.proofs.lemmas.Option.{same_Some}
use Rattle.fix_arith.specs.Types.{width_of}
use Rattle.kernel_control.specs.Ports.{numbers_from, scalars_of}
use Rattle.manager_links.specs.declared.hosts.HostPort.{HostPort}
use Rattle.manager_links.specs.declared.project.Project.{Project}
use Rattle.mx_base.specs.Files.{Name}
use Rattle.stream_graph.specs.LookUps.{kind_at, width_at}
use Rattle.project_rtl.specs.Shapes.{host_shape, scalar_shape, scalar_shapes}
use Rattle.project_rtl.specs.Words.{scalars_from, ticks_from}
use Rattle.project_streams.specs.Streams.{GivenProject, nodes_at}
use Rattle.project_words.proofs.Ports.{all_at}
use Rattle.project_words.specs.Given.{IsGiven, given_of}
use Rattle.project_words.specs.declared.given.ProjectRun.{ProjectRun}
use Rattle.simulation.specs.Plans.{AreBelow}
use Rattle.simulation.specs.declared.plan.Plan.{Plan}
use Rattle.stream_graph.specs.declared.kernel.Kernel.{Kernel}
use Rattle.stream_graph.specs.declared.node.Kind.TheVariants as K
use Rattle.stream_graph.specs.declared.node.Node.{Node}
use Rattle.stream_graph.specs.Kinds.{is_scalar}
use Rattle.maxjc_core.specs.Expecting.{IsGivenBy}
use Rattle.maxjc_core.specs.ExpectStops.{AreNodeLists, AreWithin, FitsPorts}
use Rattle.maxjc_core.specs.InputWords.{readings_of}
use Rattle.maxjc_core.proofs.Giving.{counted-inputs, counted-ticks}
use Rattle.maxjc_core.proofs.OneShape.{fused}

-- ---- the words that are given are those of the plan

ticks-are : (given : GivenProject) (b : ℕ) (kernels : List Kernel) (ticks : List ℕ)
    → length ticks ≡ length kernels → ((k : ℕ) → given.ticks (b + k) ≡ slice_index ticks k)
    → ticks_from given b kernels ≡ ticks
ticks-are given b [] [] each is = refl
ticks-are given b [] (t ∷ ticks) each is = absurd (omega (arith, each))
ticks-are given b (x ∷ kernels) [] each is = absurd (omega (arith, each))
ticks-are given b (x ∷ kernels) (t ∷ ticks) each is =
    let first : b ≡ b + 0 = omega arith in
    ap₂ (λ (y : ℕ) (ys : List ℕ). y ∷ ys) (ap given.ticks first ∙ is 0)
    (ticks-are given (b + 1) kernels ticks (omega (arith, each))
    (λ k. let next : b + 1 + k ≡ b + suc k = omega arith in ap given.ticks next ∙ is (suc k)))

same-words : (f g : ℕ → ℕ) (ns : List ℕ) → ((n : ℕ) → f n ≡ g n) → map f ns ≡ map g ns
same-words f g [] same = refl
same-words f g (n ∷ ns) same =
    ap₂ (λ (y : ℕ) (ys : List ℕ). y ∷ ys) (same n) (same-words f g ns same)

scalars-are : (given : GivenProject) (b : ℕ) (kernels : List Kernel) (lists : List (List ℕ))
    (all : List ℕ) → AreNodeLists kernels lists all
    → ((k n : ℕ) → given.scalar (b + k) n ≡ slice_index (slice_index_or lists k []) n)
    → scalars_from given b kernels ≡ all
scalars-are given b [] [] all are is = sym are
scalars-are given b [] (l ∷ lists) all are is = absurd are
scalars-are given b (x ∷ kernels) [] all are is = absurd are
scalars-are given b (x ∷ kernels) (l ∷ lists) all are is =
    let first : b ≡ b + 0 = omega arith in
    ap₂ (λ (ys zs : List ℕ). ys ++ zs)
    (same-words (given.scalar b) (slice_index l) (scalars_of x.nodes)
    (λ n. ap (λ j. given.scalar j n) first ∙ is 0 n)
    ∙ are.2.scalars)
    (scalars-are given (b + 1) kernels lists are.1 are.3
    (λ k n. let next : b + 1 + k ≡ b + suc k = omega arith in
    ap (λ j. given.scalar j n) next ∙ is (suc k) n))
    ∙ sym are.4

pub gives : (project : Project) (plan : Plan) (run : ProjectRun) → FitsPorts project plan
    → run.ticks ≡ plan.ticks → AreNodeLists project.kernels run.scalars plan.scalars
    → IsGivenBy project plan run.words (given_of run)
gives project plan run f ticks are = record {
  ticks = ticks-are (given_of run) 0 project.kernels plan.ticks (counted-ticks project plan f)
      (λ k. let at : 0 + k ≡ k = omega arith in
      ap (slice_index run.ticks) at ∙ ap (λ ts. slice_index ts k) ticks);
  scalars = scalars-are (given_of run) 0 project.kernels run.scalars plan.scalars are
      (λ k n. let at : 0 + k ≡ k = omega arith in
      ap (λ j. slice_index (slice_index_or run.scalars j []) n) at);
  words = refl;
}

-- ---- there is one for each

counted-lists : (kernels : List Kernel) (lists : List (List ℕ)) (all : List ℕ)
    → AreNodeLists kernels lists all → length lists ≡ length kernels
counted-lists [] [] all are = refl
counted-lists [] (l ∷ lists) all are = absurd are
counted-lists (x ∷ kernels) [] all are = absurd are
counted-lists (x ∷ kernels) (l ∷ lists) all are = ap suc (counted-lists kernels lists are.1 are.3)

counted-words : (kernels : List Kernel) (lists : List (List ℕ)) (all : List ℕ)
    → AreNodeLists kernels lists all → (k : ℕ) → k < length kernels
    → length (slice_index_or lists k []) ≡ length (nodes_at kernels k)
counted-words [] lists all are k lt = absurd (omega (arith, lt))
counted-words (x ∷ kernels) [] all are k lt = absurd are
counted-words (x ∷ kernels) (l ∷ lists) all are zero lt = are.2.each
counted-words (x ∷ kernels) (l ∷ lists) all are (suc k) lt =
    counted-words kernels lists are.1 are.3 k (omega (arith, lt))

-- ---- the words of scalars have their widths

abbrev Fits : ℕ → ℕ → Type 0
Fits value width = value < 2 ^ width

below-each : (values widths : List ℕ) → length values ≡ length widths → AreBelow values widths
    → AllZip Fits values widths
below-each [] [] each below = tt
below-each [] (w ∷ widths) each below = absurd (omega (arith, each))
below-each (v ∷ values) [] each below = absurd (omega (arith, each))
below-each (v ∷ values) (w ∷ widths) each below = (
  below 0 v w refl refl,
  below-each values widths (omega (arith, each)) (λ k value width. below (suc k) value width),
)

-- both parts of two lists
fit-parts : (xs ys ws vs : List ℕ) → length xs ≡ length ws → AllZip Fits (xs ++ ys) (ws ++ vs)
    → AllZip Fits xs ws × AllZip Fits ys vs
fit-parts [] ys [] vs each fit = (tt, fit)
fit-parts [] ys (w ∷ ws) vs each fit = absurd (omega (arith, each))
fit-parts (x ∷ xs) ys [] vs each fit = absurd (omega (arith, each))
fit-parts (x ∷ xs) ys (w ∷ ws) vs each fit =
    let rest = fit-parts xs ys ws vs (omega (arith, each)) fit.1 in
    ((fit.0, rest.0), rest.1)

-- the word of a scalar is among them
fit-scalar : (f g : ℕ → ℕ) (b : ℕ) (nodes : List Node) (i : ℕ)
    → AllZip Fits (map f (numbers_from is_scalar b nodes)) (map g (numbers_from is_scalar b nodes))
    → i < length nodes → kind_at nodes i ≡ K.Scalar → f (b + i) < 2 ^ g (b + i)
fit-scalar f g b [] i fit lt kind = absurd (omega (arith, lt))
fit-scalar f g b (x ∷ xs) zero fit lt kind =
    let first : b ≡ b + 0 = omega arith in
    subst (λ j. f j < 2 ^ g j) first (by (is_scalar x.view.kind) (ap is_scalar kind) fit)
  where
    rest : List ℕ
    rest = numbers_from is_scalar (b + 1) xs

    by : (t : Bool) → t ≡ true
        → AllZip Fits (map f (cond t (b ∷ rest) rest)) (map g (cond t (b ∷ rest) rest))
        → f b < 2 ^ g b
    by true is fit = fit.0
    by false is fit = absurd (false≢true is)
fit-scalar f g b (x ∷ xs) (suc i) fit lt kind =
    let next : b + 1 + i ≡ b + suc i = omega arith in
    subst (λ j. f j < 2 ^ g j) next
    (fit-scalar f g (b + 1) xs i (by (is_scalar x.view.kind) fit) (omega (arith, lt)) kind)
  where
    rest : List ℕ
    rest = numbers_from is_scalar (b + 1) xs

    by : (t : Bool)
        → AllZip Fits (map f (cond t (b ∷ rest) rest)) (map g (cond t (b ∷ rest) rest))
        → AllZip Fits (map f rest) (map g rest)
    by true fit = fit.1
    by false fit = fit

abbrev width-in : Name × Name × ℕ → ℕ
width-in shape = shape.2

-- those of a kernel are, and so are those of the others
fit-kernel : (kernel : Kernel) (kernels : List Kernel) (words own others : List ℕ)
    → map (slice_index words) (scalars_of kernel.nodes) ≡ own
    → AllZip Fits (own ++ others) (map width-in (flat_map scalar_shapes (kernel ∷ kernels)))
    → AllZip Fits (map (slice_index words) (scalars_of kernel.nodes))
    (map (width_at kernel.nodes) (scalars_of kernel.nodes))
    × AllZip Fits others (map width-in (flat_map scalar_shapes kernels))
fit-kernel kernel kernels words own others is fit =
    let parts = fit-parts own others widths rest each
    (subst (AllZip Fits (own ++ others))
    (map-append width-in (scalar_shapes kernel) (flat_map scalar_shapes kernels)) fit) in (
      subst (λ ws. AllZip Fits (map (slice_index words) numbers) ws)
          (sym (fused (scalar_shape kernel) width-in numbers))
          (subst (λ vs. AllZip Fits vs widths) (sym is) parts.0),
      parts.1,
    )
  where
    numbers : List ℕ
    numbers = scalars_of kernel.nodes

    widths : List ℕ
    widths = map width-in (scalar_shapes kernel)

    rest : List ℕ
    rest = map width-in (flat_map scalar_shapes kernels)

    each : length own ≡ length widths
    each =
        ap length (sym is) ∙ length-map numbers (slice_index words)
        ∙ sym (length-map numbers (scalar_shape kernel))
        ∙ sym (length-map (scalar_shapes kernel) width-in)

scalars-fit : (kernels : List Kernel) (lists : List (List ℕ)) (all : List ℕ)
    → AreNodeLists kernels lists all
    → AllZip Fits all (map width-in (flat_map scalar_shapes kernels))
    → (k n : ℕ) → n < length (nodes_at kernels k) → kind_at (nodes_at kernels k) n ≡ K.Scalar
    → slice_index (slice_index_or lists k []) n < 2 ^ width_at (nodes_at kernels k) n
scalars-fit [] lists all are fit k n lt kind = absurd (omega (arith, lt))
scalars-fit (x ∷ kernels) [] all are fit k n lt kind = absurd are
scalars-fit (x ∷ kernels) (l ∷ lists) all are fit zero n lt kind =
    let here : 0 + n ≡ n = omega arith in
    let both = fit-kernel x kernels l are.0 are.1 are.2.scalars
    (subst (λ vs. AllZip Fits vs (map width-in (flat_map scalar_shapes (x ∷ kernels)))) are.4 fit) in
    subst (λ j. slice_index l j < 2 ^ width_at x.nodes j) here
    (fit-scalar (slice_index l) (width_at x.nodes) 0 x.nodes n both.0 lt kind)
scalars-fit (x ∷ kernels) (l ∷ lists) all are fit (suc k) n lt kind =
    let both = fit-kernel x kernels l are.0 are.1 are.2.scalars
    (subst (λ vs. AllZip Fits vs (map width-in (flat_map scalar_shapes (x ∷ kernels)))) are.4 fit) in
    scalars-fit kernels lists are.1 are.3 both.1 k n lt kind

-- ---- the words of streams from the CPU have theirs

counted-inputs-read : (ticks : List ℕ) (hosts : List HostPort) (files : List (Name × ℕ))
    (words : List (List ℕ)) → length files ≡ length hosts
    → AllZip AreWithin (readings_of ticks hosts files) words → length words ≡ length hosts
counted-inputs-read ticks [] [] [] each within = refl
counted-inputs-read ticks [] [] (l ∷ words) each within = absurd within
counted-inputs-read ticks [] (f ∷ files) words each within = absurd (omega (arith, each))
counted-inputs-read ticks (h ∷ hosts) [] words each within = absurd (omega (arith, each))
counted-inputs-read ticks (h ∷ hosts) (f ∷ files) [] each within = absurd within
counted-inputs-read ticks (h ∷ hosts) (f ∷ files) (l ∷ words) each within =
    ap suc (counted-inputs-read ticks hosts files words (omega (arith, each)) within.1)

inputs-fit : (ticks : List ℕ) (hosts : List HostPort) (files : List (Name × ℕ))
    (words : List (List ℕ))
    → map (λ (i : Name × ℕ). i.1) files ≡ map (λ (x : Name × ℕ). x.1) (map host_shape hosts)
    → AllZip AreWithin (readings_of ticks hosts files) words → (m j x : ℕ) (host : HostPort)
    → slice_get hosts m ≡ Some host → slice_get (slice_index_or words m []) j ≡ Some x
    → x < 2 ^ width_of host.t
inputs-fit ticks [] files words same within m j x host at is = absurd (cc)
inputs-fit ticks (h ∷ hosts) [] words same within m j x host at is = absurd (cc)
inputs-fit ticks (h ∷ hosts) (f ∷ files) [] same within m j x host at is = absurd within
inputs-fit ticks (h ∷ hosts) (f ∷ files) (l ∷ words) same within zero j x host at is =
    let first : f.1 ≡ width_of h.t = cc in
    let here : h ≡ host = same_Some h host at in
    subst (λ w. x < 2 ^ w) (first ∙ ap (λ (y : HostPort). width_of y.t) here)
    (all_at (λ w. w < 2 ^ f.1) l j x within.0 is)
inputs-fit ticks (h ∷ hosts) (f ∷ files) (l ∷ words) same within (suc m) j x host at is =
    let rest : map (λ (i : Name × ℕ). i.1) files ≡ map (λ (y : Name × ℕ). y.1) (map host_shape hosts)
    = cc in
    inputs-fit ticks hosts files words rest within.1 m j x host at is

-- ---- all of it

pub is-given : (project : Project) (plan : Plan) (run : ProjectRun) → FitsPorts project plan
    → AllZip AreWithin (readings_of plan.ticks project.joints.inputs plan.inputs) run.words
    → run.ticks ≡ plan.ticks → AreNodeLists project.kernels run.scalars plan.scalars
    → IsGiven project run
is-given project plan run f within ticks are = record {
  ticks = ap length ticks ∙ counted-ticks project plan f;
  scalars = counted-lists project.kernels run.scalars plan.scalars are;
  nodes = counted-words project.kernels run.scalars plan.scalars are;
  scalar = λ k n lt. scalars-fit project.kernels run.scalars plan.scalars are
      (below-each plan.scalars (map width-in (flat_map scalar_shapes project.kernels))
      (f.fits.scalars ∙ sym (length-map (flat_map scalar_shapes project.kernels) width-in))
      f.fits.values)
      k n;
  words = counted-inputs-read plan.ticks project.joints.inputs plan.inputs run.words
      (counted-inputs project plan f) within;
  word = inputs-fit plan.ticks project.joints.inputs plan.inputs run.words f.fits.inputs within;
}
