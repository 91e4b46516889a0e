-- What a simulation of a text that `compile` wrote gives: the words of its project.
use Rattle.std.specs.Prelude.{◌≡◌, ℕ, List, map}
use Rattle.std.specs.List.{AllZip}
use Rattle.mx_base.specs.Files.{Name, Held, Holds}
use Rattle.rtl_ir.specs.Run.{Agrees}
use Rattle.manager_links.specs.declared.hosts.HostPort.{HostPort}
use Rattle.manager_links.specs.declared.project.Project.{Project}
use Rattle.project_streams.specs.Guarded.{IsGuarded}
use Rattle.project_streams.specs.Streams.{GivenProject, ProjectValues, ProjectEquations, words_of as words_at}
use Rattle.project_rtl.specs.Words.{AreShort, steady_of}
use Rattle.simulation.specs.Inputs.{words_of, input_files}
use Rattle.simulation.specs.Outputs.{lines_of_words}
use Rattle.maxjc_core.specs.Command.{RunNames}
use Rattle.maxjc_core.specs.Compiling.{Compiles}
use Rattle.maxjc_core.specs.Loading.{IsLoaded, setup}

-- a file holds the lines of words of a width that agree with a beginning of those of a stream to the
-- host
pub record HoldsWords (project : Project) (given : GivenProject) (values : ProjectValues)
    (now : Held) (file : Name × ℕ) (host : HostPort) : Type 0
  where
    pub left : List ℕ
    pub agrees : Agrees left (words_at project.kernels given values host.port)
    pub written : Holds now file.0 (lines_of_words file.1 left)

-- The project's run over what was loaded: over the ticks and scalars of the run file and the words of
-- the input files, of at most 2^40 ticks for each kernel, guarded, with words that the stream
-- equations say.
pub record IsRunOver (project : Project) {names : RunNames} {before : Held}
    (l : IsLoaded names before) (given : GivenProject) (values : ProjectValues) : Type 0
  where
    pub short : AreShort project given
    pub steady : (setup l).steady ≡ steady_of project given
    pub words : given.words ≡ map words_of (input_files before l.fit.plan.inputs)
    pub equations : ProjectEquations project given values
    pub guarded : IsGuarded project given values

-- in every such run each output file holds words that agree with a beginning of those of its stream
abbrev pub WritesWords :
    Project → {names : RunNames} {before : Held} → IsLoaded names before → Held → Type 0
WritesWords project l now =
    (given : GivenProject) (values : ProjectValues)
    → IsRunOver project l given values
    → AllZip (HoldsWords project given values now) l.fit.plan.outputs project.joints.outputs

-- so it is of every source and table that were compiled to the text that was run
abbrev pub WritesAllWords : RunNames → Held → Held → Type 0
WritesAllWords names before now =
    (l : IsLoaded names before) (source table report line : List ℕ)
    (c : Compiles source table l.files.text report line)
    → WritesWords c.project l now
