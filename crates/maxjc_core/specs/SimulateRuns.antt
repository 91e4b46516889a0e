-- What holds where `simulate` ends.
use Rattle.std.specs.Prelude.{ℕ, ◌≡◌, ◌⊎◌, ◌-◌, ◌^◌, min, List, ◌++◌, codes, Option, IsSome}
use Rattle.std.specs.Fmt.{decimal}
use Rattle.mx_base.specs.Counts.{Rose}
use Rattle.mx_base.specs.Files.{Held}
use Rattle.stall_source.specs.Stalls.{Answers}
use Rattle.verilog_sim.specs.Start.{all_cells}
use Rattle.simulation.specs.Inputs as lines
use Rattle.simulation.specs.Ends.{End, Done, Limit, Stopped}
use Rattle.simulation.specs.Outputs.{ChangesOnlyOutputs, Leaves}
use Rattle.simulation.specs.Answers.{Finishes, Breaks, IsInterrupted, IsMissing}
use Rattle.maxjc_core.specs.Command.{RunNames, said_more}
use Rattle.maxjc_core.specs.CauseLines.{Cause, TooManyCells, BadLine, WordRange, line_of}
use Rattle.maxjc_core.specs.Loading.{IsLoaded, setup}
use Rattle.maxjc_core.specs.SimulateCauses.{IsFaulty, IsVast, IsSmall, LacksFile}

abbrev pub done_line : ℕ → List ℕ
done_line edges = codes "done after " ++ decimal edges ++ codes " edges\n"

abbrev pub limit_line : ℕ → List ℕ
limit_line edges = codes "not done after " ++ decimal edges ++ codes " edges\n"

-- the run of what was loaded ends so, the output files hold all words that left, and this line was said
pub record IsRunTo (stalls : Answers) (names : RunNames) (before now : Held) (said_before said_now : Option (List ℕ)) (end : End) (line : List ℕ) : Type 0 where
  pub loaded : IsLoaded names before
  pub small : IsSmall loaded
  pub finishes : Finishes stalls (setup loaded) loaded.fit.plan.outputs now end
  pub said : said_now ≡ said_more said_before line

-- done is 1 after so many edges
abbrev pub IsRunDone : Answers → RunNames → Held → Held → Option (List ℕ) → Option (List ℕ) → Type 0
IsRunDone stalls names before now said_before said_now = (edges : ℕ) × IsRunTo stalls names before now said_before said_now (Done edges) (done_line edges)

-- all edges that may be made were made, and done was never 1
abbrev pub IsRunLimited : Answers → RunNames → Held → Held → Option (List ℕ) → Option (List ℕ) → Type 0
IsRunLimited stalls names before now said_before said_now = (edges : ℕ) × IsRunTo stalls names before now said_before said_now (Limit edges) (limit_line edges)

-- The cause of a refusal stands, and what it leaves in the files. Before a run begins they are as before; in a run that met
-- a line that is no word each output file was created and holds the lines of the first words that left it in that run.
pub data RefusesRun (stalls : Answers) (names : RunNames) (before now : Held) : Cause → Type 0 where
  unbegun : (cause : Cause) → IsFaulty names before cause → now ≡ before → RefusesRun stalls names before now cause
  vast :
      (l : IsLoaded names before)
      → IsVast l
      → now ≡ before
      → RefusesRun stalls names before now (TooManyCells (min (all_cells l.fit.design) (2 ^ 64 - 1)))
  bad_line :
      (l : IsLoaded names before) (file : List ℕ) (line : ℕ)
      → IsSmall l
      → Breaks stalls (setup l) l.fit.plan.outputs now (Stopped (lines.BadLine file line))
      → RefusesRun stalls names before now (BadLine file line)
  word_range :
      (l : IsLoaded names before) (file : List ℕ) (line : ℕ)
      → IsSmall l
      → Breaks stalls (setup l) l.fit.plan.outputs now (Stopped (lines.WordRange file line))
      → RefusesRun stalls names before now (WordRange file line)

-- a refusal that was said, and stands where the files are told
pub record IsRunRefused (stalls : Answers) (names : RunNames) (before now : Held) (said_before said_now : Option (List ℕ)) : Type 0 where
  pub cause : Cause
  pub stands : IsSome before → RefusesRun stalls names before now cause
  pub said : said_now ≡ said_more said_before (line_of cause)

-- What a read fault leaves in the files, with the count of read faults before and now. Before a run begins they are as before;
-- in a run each output file was created and holds the lines of the first words that left it up to the edge of the fault.
pub data ReadFails (stalls : Answers) (names : RunNames) (before now : Held) (count_before count_now : ℕ) : Type 0 where
  unbegun : now ≡ before → Rose count_before count_now ⊎ LacksFile names before → ReadFails stalls names before now count_before count_now
  in_run :
      (l : IsLoaded names before)
      → IsSmall l
      → IsInterrupted stalls (setup l) l.fit.plan.outputs now
      → Rose count_before count_now ⊎ IsMissing stalls (setup l)
      → ReadFails stalls names before now count_before count_now

-- the files are as before; or a run was begun, and no file but its outputs has changed
abbrev pub ChangesOutputs : RunNames → Held → Held → Type 0
ChangesOutputs names before now = (now ≡ before) ⊎ ((l : IsLoaded names before) × IsSmall l × ChangesOnlyOutputs l.fit.plan.outputs before now)

-- The files are as before; or a run was begun. Where it ended, the output files hold all words that left. Where it was stopped,
-- that was when one of them was to be created, and then those before it, in the order of their ports, are empty and those behind
-- it as before; or when all were there, and then each but at most one holds the lines of some words.
abbrev pub LeavesOutputs : Answers → RunNames → Held → Held → Type 0
LeavesOutputs stalls names before now =
    (now ≡ before)
    ⊎ ((l : IsLoaded names before) × IsSmall l
    × (Leaves l.fit.plan.outputs before now ⊎ ((end : End) × Finishes stalls (setup l) l.fit.plan.outputs now end)))
