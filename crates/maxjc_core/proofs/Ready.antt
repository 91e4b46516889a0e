-- What was loaded, in a run in which nothing waits.
use Rattle.std.proofs.Common.{
  ◌≡◌,
  ℕ,
  ◌-◌,
  ◌≤◌,
  ◌^◌,
  Bool,
  true,
  false,
  List,
  ◌∷◌,
  length,
  map,
  take,
  Option,
  Some,
  None,
  option_and_then,
  Ok,
  refl,
  sym,
  ◌∙◌,
  subst,
  arith,
}
use Rattle.std.specs.Prelude.{ℤ, nat_le, if◌then◌else◌, codes, slice_index}
use Rattle.std.proofs.lemmas.Bool.Decides.{nat_tests}
use Rattle.std.proofs.lemmas.List.{length-map}
use Rattle.mx_base.specs.Files.{Held}
use Rattle.manager_links.proofs.Pieces.{zip_length}
use Rattle.serde_json.specs.Data.{Data}
use Rattle.serde_json.specs.Find.{get, as_number, as_u64}
use Rattle.word_files.specs.RunFiles.{Reads, up_to, most_count}
use Rattle.word_files.specs.declared.run_file.RunFile.{RunFile}
use Rattle.rtl_ir.specs.declared.design.Module.{Module}
use Rattle.rtl_ir.specs.Parts.{own_of}
use Rattle.rtl_ir.specs.Ports.{Shape, outer_of, first_input, first_output}
use Rattle.verilog_sim.proofs.Shapes.{length_channels, length_seconds}
use Rattle.manager_links.specs.declared.links.Links.{Links}
use Rattle.manager_links.specs.declared.project.Project.{Project}
use Rattle.project_rtl.specs.Shapes.{shape_of, host_shape}
use Rattle.project_rtl.specs.Times.{reads_of, all_reads, done_count, IsDoneBy}
use Rattle.project_rtl.specs.Words.{outer}
use Rattle.project_streams.specs.Streams.{GivenProject, ProjectValues}
use Rattle.simulation.specs.Inputs.{words_of, input_files}
use Rattle.simulation.proofs.Making.{own_cells, formed_top}
use Rattle.simulation.proofs.Shaping.{few_ports}
use Rattle.maxjc_core.specs.Command.{RunNames}
use Rattle.maxjc_core.specs.Finishing.{HasAllWords, RunsFreely}
use Rattle.maxjc_core.specs.Loading.{IsLoaded, setup}
use Rattle.maxjc_core.proofs.Moments.{IsDoneIn}
use Rattle.maxjc_core.proofs.Writing.{IsRunOf, driven_over}
use Rattle.maxjc_core.proofs.Timely.{IsReady, none-behind, all-wait}

-- ---- the edges that a run file allows are few

within : (limit k n : ℕ) (b : Bool) → nat_le k limit ≡ b → (if b then Some k else None) ≡ Some n
    → n ≤ limit
within limit k n true e same =
    let is : k ≡ n = cc in
    grind (arith, nat_tests, e, is)
within limit k n false e same = absurd (cc)

number-within : (limit n : ℕ) (o : Option ℕ)
    → option_and_then (λ k. if nat_le k limit then Some k else None) o ≡ Some n → n ≤ limit
number-within limit n None e = absurd (cc)
number-within limit n (Some k) e = within limit k n (nat_le k limit) refl e

told-within : (limit n : ℕ) (o : Option Data) → option_and_then (up_to limit) o ≡ Some n → n ≤ limit
told-within limit n None e = absurd (cc)
told-within limit n (Some d) e = number-within limit n (option_and_then as_u64 (as_number d)) e

few-edges : (bytes : List ℕ) (run : RunFile) → Reads bytes (Ok run) → run.edges ≤ 2 ^ 40
few-edges bytes run reads = told-within most_count run.edges (get (codes "edges") reads.0) reads.2.edges

-- ---- the ports

input-count : (project : Project) (m : Module) (s : Shape) → s ≡ shape_of project
    → length (outer_of s m).inputs ≡ length project.joints.inputs
input-count project m s same =
    let is : length (outer project m).inputs ≡ length project.joints.inputs =
    length_channels m (first_input (shape_of project)) (shape_of project).inputs
    ∙ length-map project.joints.inputs host_shape in
    subst (λ (x : Shape). length (outer_of x m).inputs ≡ length project.joints.inputs) (sym same) is

-- ---- what is run

pub ready-run : (project : Project) (times : List (List ℤ)) (made : Links) {names : RunNames}
    {before : Held} (l : IsLoaded names before) → IsRunOf project times made l
    → (given : GivenProject) (values : ProjectValues)
    → RunsFreely project times made l given values
    → done_count times (slice_index made.starts) given 0 project.kernels ≤ (setup l).edges
    → IsReady (setup l) (done_count times (slice_index made.starts) given 0 project.kernels)
    (all_reads project given values)
ready-run project times made {names} {before} l of given values freely enough =
    let top = l.fit.is.top in
    let s = l.fit.is.shape in
    let d = l.fit.design in
    let over = freely.over in
    let reads = all_reads project given values in
    let most = done_count times (slice_index made.starts) given 0 project.kernels in
    let files = input_files before l.fit.plan.inputs in
    let hosts = project.joints.inputs in
    let inputs = input-count project top s of.shape in
    let ports = few_ports (take (length d.modules - 1) d.modules) top s
    (formed_top d top l.fit.is.accepted l.fit.is.is_top) l.fit.is.is_run.has
    (own_cells d top l.fit.is.accepted l.fit.is.is_top freely.small) in
    let done : IsDoneIn (setup l) most reads = λ restart vs events edges driven.
    subst (λ (x : Shape). IsDoneBy (outer_of x top) most reads (map words_of files) 0 events (own_of vs))
    (sym of.shape)
    (subst (λ (ws : List (List ℕ)). IsDoneBy (outer project top) most reads ws 0 events (own_of vs))
    over.words
    (of.on_time given values events (setup l).contents restart vs over.short over.equations
    over.guarded freely.balanced edges
    (driven_over project l given values of.shape over events (own_of (restart ∷ vs)) driven)).done) in
    record {
      pick = freely.picked;
      enough = enough;
      edges = omega (arith, few-edges l.files.run l.fit.run_file l.fit.says, l.fit.planned.edges);
      few = omega (
        arith,
        ports,
        length_channels top (first_input s) s.inputs,
        length_channels top (first_output s) s.outputs,
        length_seconds top 2 s.kernels,
      );
      done = done;
      counted = omega (arith, length-map hosts (reads_of project given values), inputs);
      same = omega (
        arith,
        inputs,
        length-map files words_of,
        zip_length (HasAllWords project given values) files hosts freely.words,
      );
      wait = all-wait project given values files hosts freely.words;
      readable = none-behind project given values files hosts freely.words;
    }
