-- A simulation of a text that `compile` wrote gives the words of its project.
use Rattle.std.proofs.Common.{
  ◌≡◌,
  ◌∙◌,
  ℕ,
  suc,
  List,
  [],
  ◌∷◌,
  map,
  length,
  Ok,
  refl,
  sym,
  subst,
  ap,
  arith,
}
use Rattle.std.specs.Prelude.{ℤ}
use Rattle.std.specs.List.{AllZip}
use Rattle.mx_base.specs.Files.{Name, Held}
use Rattle.rtl_ir.specs.declared.design.Design.{Design}
use Rattle.rtl_ir.specs.declared.design.Module.{Module}
use Rattle.rtl_ir.specs.Value.{Family}
use Rattle.rtl_ir.specs.Flat.{Families}
use Rattle.rtl_ir.specs.Parts.{own_of}
use Rattle.rtl_ir.specs.Ports.{Shape, HasShape, outer_of}
use Rattle.rtl_ir.specs.Run.{Channel, Event, moved, IsDriven}
use Rattle.rtl_ir.specs.Interfaces.{stream_shape}
use Rattle.rtl_reading.specs.Reads.{ReadsAs}
use Rattle.manager_links.specs.declared.hosts.HostPort.{HostPort}
use Rattle.manager_links.specs.declared.links.Links.{Links}
use Rattle.manager_links.specs.declared.project.Project.{Project}
use Rattle.project_rtl.specs.Shapes.{shape_of, host_shape}
use Rattle.project_rtl.specs.Words.{steady_of, outer, AgreesWith, RunsAsEquations}
use Rattle.project_rtl.specs.Times.{RunsOnTime}
use Rattle.project_streams.specs.Streams.{GivenProject, ProjectValues}
use Rattle.project_ports.proofs.Shapes.{project_top}
use Rattle.stall_source.specs.Stalls.{Answers}
use Rattle.simulation.specs.declared.plan.Plan.{Plan}
use Rattle.simulation.specs.Inputs.{words_of, input_files}
use Rattle.simulation.specs.Outputs.{AreWritten}
use Rattle.simulation.specs.Runs.{IsRun}
use Rattle.simulation.specs.Ends.{End, Ends}
use Rattle.simulation.specs.Answers.{Finishes, end_of}
use Rattle.simulation.specs.declared.stop.Outcome.{Outcome}
use Rattle.top_ports.proofs.ShapeLists.{one_alone}
use Rattle.maxjc_core.specs.Command.{RunNames}
use Rattle.maxjc_core.specs.Compiling.{Compiles}
use Rattle.maxjc_core.specs.Finishing.{times_in}
use Rattle.maxjc_core.specs.Loading.{IsLoaded, setup}
use Rattle.maxjc_core.specs.LoadStops.{IsOnlyDesign}
use Rattle.maxjc_core.specs.Writing.{HoldsWords, IsRunOver, WritesWords, WritesAllWords}
use Rattle.maxjc_core.proofs.Building.{names_plain}
use Rattle.maxjc_core.proofs.OneShape.{fused}
use Rattle.maxjc_core.proofs.RunExclusion.{same_file}
use Rattle.maxjc_core.proofs.RunEnding.{IsMade, IsSimulated, told_loaded, of_loaded}

-- ---- the output files

-- as many files as streams to the host hold what moved over as many channels
all_written : (project : Project) (given : GivenProject) (values : ProjectValues)
    (vs : List Family) (now : Held) (chs : List Channel) (files : List (Name × ℕ))
    (hosts : List HostPort) → AllZip (AgreesWith project given values vs) chs hosts
    → AreWritten now vs chs files → length files ≡ length hosts
    → AllZip (HoldsWords project given values now) files hosts
all_written project given values vs now [] [] [] agree written count = tt
all_written project given values vs now (ch ∷ chs) (file ∷ files) (host ∷ hosts) agree written count = (
  record {
    left = moved ch vs;
    agrees = agree.0;
    written = written 0 ch file refl refl;
  },
  all_written project given values vs now chs files hosts agree.1
      (λ k c o at here. written (suc k) c o at here) (omega (arith, count)),
)
all_written project given values vs now [] (file ∷ files) [] agree written count =
    absurd (omega (arith, count))
all_written project given values vs now [] files (host ∷ hosts) agree written count = absurd agree
all_written project given values vs now (ch ∷ chs) files [] agree written count = absurd agree
all_written project given values vs now (ch ∷ chs) [] (host ∷ hosts) agree written count =
    absurd (omega (arith, count))

same_length : {A B C : Type 0} (f : A → C) (g : B → C) (xs : List A) (ys : List B)
    → map f xs ≡ map g ys → length xs ≡ length ys
same_length f g [] [] e = refl
same_length f g (x ∷ xs) (y ∷ ys) e =
    let rest : map f xs ≡ map g ys = cc in
    ap suc (same_length f g xs ys rest)
same_length f g [] (y ∷ ys) e = absurd (cc)
same_length f g (x ∷ xs) [] e = absurd (cc)

-- what a run that ends was
run_of : (stalls : Answers) {names : RunNames} {before : Held} (l : IsLoaded names before)
    (restart : Families) (vs : List Families) (end : End) → Ends stalls (setup l) restart vs end
    → IsRun stalls (setup l) restart vs
run_of stalls l restart vs end (Ends.done run few is) = run
run_of stalls l restart vs end (Ends.limit run all is) = run
run_of stalls l restart vs end (Ends.stopped fault run few is stops) = run

-- ---- the design that is run

-- what is run is the design that was written, with the ports of its project, at these times and with
-- these links
pub record IsRunOf (project : Project) (times : List (List ℤ)) (made : Links) {names : RunNames}
    {before : Held} (l : IsLoaded names before) : Type 0
  where
    pub shape : l.fit.is.shape ≡ shape_of project
    pub runs : RunsAsEquations project l.fit.design l.fit.is.top
    pub on_time : RunsOnTime project l.fit.design l.fit.is.top times made

pub run_is : (source table report line : List ℕ) {names : RunNames} {before : Held}
    (l : IsLoaded names before) (d : Design) → IsOnlyDesign l.files.text d
    → (c : Compiles source table l.files.text report line)
    → IsRunOf c.project (times_in c) c.made.links l
run_is source table report line l d only c =
    let t = c.text_of in
    let project = c.project in
    let times = times_in c in
    let links = c.made.links in
    let same : t.design ≡ l.fit.design =
    only t.design (subst (λ (text : List ℕ). ReadsAs text t.design) (sym c.text_is) t.printed.reads)
    ∙ sym (only l.fit.design l.fit.is.reads) in
    let top = t.is.is_top in
    let read = l.fit.is.is_top in
    let tops : t.is.top ≡ l.fit.is.top = cc in
    let shapes : shape_of project ≡ l.fit.is.shape =
    one_alone l.fit.is.top (shape_of project) l.fit.is.shape
    (record {
      is = project_top project (names_plain source table project c.latencies c.is);
      has = subst (λ (m : Module). HasShape m (shape_of project)) tops t.is.shape;
    }) l.fit.is.is_run in
    record {
      shape = sym shapes;
      runs =
          subst (λ (m : Module). RunsAsEquations project l.fit.design m) tops
          (subst (λ (x : Design). RunsAsEquations project x t.is.top) same t.is.runs);
      on_time =
          subst (λ (m : Module). RunsOnTime project l.fit.design m times links) tops
          (subst (λ (x : Design). RunsOnTime project x t.is.top times links) same t.is.on_time);
    }

-- a run that is driven by what was loaded is driven by what is given to the project's run
pub driven_over : (project : Project) {names : RunNames} {before : Held} (l : IsLoaded names before)
    (given : GivenProject) (values : ProjectValues) → l.fit.is.shape ≡ shape_of project
    → IsRunOver project l given values → (events : List Event) (vs : List Family)
    → IsDriven (setup l).outer (setup l).steady
    (map words_of (input_files before l.fit.plan.inputs)) events vs
    → IsDriven (outer project l.fit.is.top) (steady_of project given) given.words events vs
driven_over project {before = before} l given values shape over events vs driven =
    let top = l.fit.is.top in
    let words = map words_of (input_files before l.fit.plan.inputs) in
    subst (λ (ws : List (List ℕ)). IsDriven (outer project top) (steady_of project given) ws events vs)
    (sym over.words)
    (subst (λ (xs : List ℕ). IsDriven (outer project top) xs words events vs) over.steady
    (subst (λ (s : Shape). IsDriven (outer_of s top) (setup l).steady words events vs) shape driven))

output_count : (project : Project) {names : RunNames} {before : Held} (l : IsLoaded names before)
    → l.fit.is.shape ≡ shape_of project
    → length l.fit.plan.outputs ≡ length project.joints.outputs
output_count project l shape =
    let widths = l.fit.planned.output_widths
    ∙ fused stream_shape (λ (y : Name × ℕ). y.1) l.fit.ports.outputs
    ∙ ap (λ (s : Shape). map (λ (y : Name × ℕ). y.1) s.outputs) (l.fit.are ∙ shape)
    ∙ sym (fused host_shape (λ (y : Name × ℕ). y.1) project.joints.outputs) in
    same_length (λ (o : Name × ℕ). o.1) (λ (host : HostPort). (host_shape host).1) l.fit.plan.outputs
    project.joints.outputs widths

pub words_written :
    (stalls : Answers) (source table report line : List ℕ) {names : RunNames} {before : Held}
    (l : IsLoaded names before) (d : Design) → IsOnlyDesign l.files.text d
    → (c : Compiles source table l.files.text report line) (now : Held) (end : End)
    → Finishes stalls (setup l) l.fit.plan.outputs now end
    → WritesWords c.project l now
words_written stalls source table report line {names} {before} l d only c now end finishes = λ given values over.
    let project = c.project in
    let of = run_is source table report line l d only c in
    let made = run_of stalls l finishes.restart finishes.vs end finishes.ends in
    let top = l.fit.is.top in
    let vs = finishes.restart ∷ finishes.vs in
    let agree = of.runs given values made.events (setup l).contents vs over.short over.equations
    over.guarded made.edges
    (driven_over project l given values of.shape over made.events (own_of vs) made.driven) in
    let written = subst (λ (s : Shape). AreWritten now (own_of vs) (outer_of s top).outputs l.fit.plan.outputs) of.shape finishes.written in
    all_written project given values (own_of vs) now (outer project top).outputs l.fit.plan.outputs
    project.joints.outputs agree written (output_count project l of.shape)

-- what the run that was made wrote
pub words_so : {names : RunNames} {stalls : Answers} {held now : Held} {d : Design} {p : Plan}
    (o : Outcome) → IsMade names held d p → IsSimulated stalls d p held now (Ok o)
    → WritesAllWords names held now
words_so {names} {stalls} {held} {now} {d} {p} o made sim l source table report line c =
    let is = told_loaded l in
    let made_as = made.loaded is in
    let only = subst (λ (t : List ℕ). IsOnlyDesign t d) (same_file held names.text
    made_as.files.text l.files.text made_as.files.text_is l.files.text_is) made_as.is.only in
    let finishes = of_loaded l made (λ s outputs. Finishes stalls s outputs now (end_of o))
    (sim.tells made.can.is.top made.can.is.shape made.can.is.is_top made.can.is.is_run.has is) in
    words_written stalls source table report line l d only c now (end_of o) finishes
