-- When a simulation of a text that `compile` wrote is done.
use Rattle.std.specs.Prelude.{
  ◌≡◌,
  ◌⊎◌,
  ℕ,
  ◌≤◌,
  ℤ,
  List,
  length,
  Option,
  None,
  IsSome,
  slice_index,
}
use Rattle.std.specs.List.{AllZip}
use Rattle.mx_base.specs.Files.{Held}
use Rattle.manager_links.specs.declared.hosts.HostPort.{HostPort}
use Rattle.manager_links.specs.declared.links.Links.{Links}
use Rattle.manager_links.specs.declared.project.Project.{Project}
use Rattle.project_netlists.specs.Scheduled.{all_times}
use Rattle.project_rtl.specs.Times.{reads_of, done_count}
use Rattle.project_streams.specs.Balanced.{IsBalanced}
use Rattle.project_streams.specs.Streams.{GivenProject, ProjectValues}
use Rattle.simulation.specs.Inputs.{InputFile, words_of, fault_behind, input_files}
use Rattle.maxjc_core.specs.Command.{RunNames, said_more}
use Rattle.maxjc_core.specs.Compiling.{Compiles}
use Rattle.maxjc_core.specs.CommandEnds.{IsCutOff}
use Rattle.maxjc_core.specs.Loading.{IsLoaded, setup}
use Rattle.maxjc_core.specs.SimulateCauses.{IsSmall}
use Rattle.maxjc_core.specs.SimulateRuns.{done_line}
use Rattle.maxjc_core.specs.Writing.{IsRunOver}
use Rattle.maxjc_core.specs.declared.status.Status.{Status}
use Rattle.maxjc_core.specs.declared.status.Status.TheVariants.{Done}

-- the file of a stream from the host is held, each of its lines is a word, and it has all words that
-- a run reads
pub record HasAllWords (project : Project) (given : GivenProject) (values : ProjectValues)
    (file : InputFile) (host : HostPort) : Type 0
  where
    pub held : IsSome file.lines
    pub readable : fault_behind file ≡ None
    pub enough : reads_of project given values host ≤ length (words_of file)

-- the files of all streams from the host, in order, have all words
abbrev pub AllHaveWords :
    Project → GivenProject → ProjectValues → List InputFile → Type 0
AllHaveWords project given values files =
    AllZip (HasAllWords project given values) files project.joints.inputs

-- A run of the project over what was loaded that is balanced too, at these times of the kernels and
-- with these links and starts. No port stalls, and the files have all words that it reads.
pub record RunsFreely (project : Project) (times : List (List ℤ)) (made : Links) {names : RunNames}
    {before : Held} (l : IsLoaded names before) (given : GivenProject) (values : ProjectValues)
    : Type 0
  where
    pub small : IsSmall l
    pub over : IsRunOver project l given values
    pub balanced : IsBalanced project times made given values
    pub picked : (setup l).pick ≡ 0
    pub words : AllHaveWords project given values (input_files before l.fit.plan.inputs)

-- the times of the kernels whose text was made, which the report says
abbrev pub times_in : {source table text report line : List ℕ}
    → Compiles source table text report line → List (List ℤ)
times_in c = all_times c.text_of.netlists.schedules

-- in how many edges such a run is done at the latest: of each kernel its start, its ticks, the
-- greatest time of its ports and one more, and of these the most
abbrev pub most_edges : {source table text report line : List ℕ}
    → Compiles source table text report line → GivenProject → ℕ
most_edges c given =
    done_count (times_in c) (slice_index c.made.links.starts) given 0 c.project.kernels

-- the call ended with `Done` after at most so many edges, unless a call failed or memory was short
abbrev pub IsDoneWithin : ℕ → Option (List ℕ) → Option (List ℕ) → Status → Type 0
IsDoneWithin most said_before said_now status =
    ((status ≡ Done)
    × ((edges : ℕ)
    × (edges ≤ most)
    × (said_now ≡ said_more said_before (done_line edges))))
    ⊎ IsCutOff status

-- So ends every such run of every source and table that were compiled to the text that was run, if
-- the run file lets it make so many edges.
abbrev pub AllFinish :
    RunNames → Held → Option (List ℕ) → Option (List ℕ) → Status → Type 0
AllFinish names before said_before said_now status =
    (l : IsLoaded names before) (source table report line : List ℕ)
    (c : Compiles source table l.files.text report line) (given : GivenProject)
    (values : ProjectValues)
    → RunsFreely c.project (times_in c) c.made.links l given values
    → most_edges c given ≤ (setup l).edges
    → IsDoneWithin (most_edges c given) said_before said_now status
