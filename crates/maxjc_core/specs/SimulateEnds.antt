-- How `simulate` may end.
use Rattle.std.specs.Prelude.{ℕ, ◌≡◌, ◌⊎◌, List, IsSome}
use Rattle.mx_base.specs.Counts.{Rose}
use Rattle.mx_base.specs.Files.{Lacks}
use Rattle.rtl_ir.specs.Flat.{Families}
use Rattle.stall_source.specs.Stalls.{Answers}
use Rattle.simulation.specs.Ends as ends
use Rattle.simulation.specs.Ends.{Ends}
use Rattle.maxjc_core.specs.Command.{RunNames}
use Rattle.maxjc_core.specs.CommandEnds.{IsCutOff}
use Rattle.maxjc_core.specs.CauseLines.{Cause}
use Rattle.maxjc_core.specs.Loading.{IsLoaded, setup}
use Rattle.maxjc_core.specs.Outside.{Outside}
use Rattle.maxjc_core.specs.SimulateCauses.{IsSmall, StandsIn, LacksFile, LacksInput}
use Rattle.maxjc_core.specs.SimulateRuns.{IsRunDone, IsRunLimited, IsRunRefused, ReadFails, ChangesOutputs, LeavesOutputs}
use Rattle.maxjc_core.specs.Writing.{WritesAllWords}
use Rattle.maxjc_core.specs.Finishing.{AllFinish}
use Rattle.maxjc_core.specs.declared.status.Status.{Status}
use Rattle.maxjc_core.specs.declared.status.Status.TheVariants.{Done, Refused, ReadFault, NoMemory, EdgeLimit}

-- The outside before and after `simulate` with these files under this pattern of stalls, and the status that it answers.
pub record EndsSimulate (stalls : Answers) (names : RunNames) (before after : Outside) (status : Status) : Type 0 where
  -- `Done` and `EdgeLimit`: the run, the words that the output files hold, and the line said
  pub done : status ≡ Done → IsSome before.held → IsRunDone stalls names before.held after.held before.said after.said
  pub limited : status ≡ EdgeLimit → IsSome before.held → IsRunLimited stalls names before.held after.held before.said after.said
  -- a run that ends so gives no other status, unless a call fails or memory is short
  pub ends_done :
      (l : IsLoaded names before.held) (restart : Families) (vs : List Families) (edges : ℕ)
      → IsSmall l
      → Ends stalls (setup l) restart vs (ends.Done edges)
      → (status ≡ Done) ⊎ IsCutOff status
  pub ends_limited :
      (l : IsLoaded names before.held) (restart : Families) (vs : List Families) (edges : ℕ)
      → IsSmall l
      → Ends stalls (setup l) restart vs (ends.Limit edges)
      → (status ≡ EdgeLimit) ⊎ IsCutOff status
  -- of a text that `compile` wrote each output file holds words that agree with a beginning of those that the stream
  -- equations of the project say
  pub words_done : status ≡ Done → IsSome before.held → WritesAllWords names before.held after.held
  pub words_limited : status ≡ EdgeLimit → IsSome before.held → WritesAllWords names before.held after.held
  -- of a text that `compile` wrote a balanced run in which no port stalls and the input files hold all words is done in time
  pub finishes : IsSome before.held → AllFinish names before.held before.said after.said status
  -- `Refused` comes exactly where a cause stands, unless a call fails or memory is short. Before a run begins no file has
  -- changed; in a run the output files hold the lines of the first words that left
  pub refused : status ≡ Refused → IsRunRefused stalls names before.held after.held before.said after.said
  pub stands : (cause : Cause) → StandsIn stalls names before.held cause → (status ≡ Refused) ⊎ IsCutOff status
  -- `ReadFault` comes only where the count of read faults rose or a file that is to be read isn't held; and what it leaves
  pub read_fault : status ≡ ReadFault → Rose before.read_faults after.read_faults ⊎ LacksInput stalls names before.held
  pub cut_off :
      status ≡ ReadFault
      → IsSome before.held
      → ReadFails stalls names before.held after.held before.read_faults after.read_faults
  -- it always comes where the text or the run file isn't held, unless memory is short, and reading a text that isn't held is
  -- no fault; where an input isn't held at the edge at which its line is to be read, a call has failed or memory was short
  pub missing : LacksFile names before.held → (status ≡ ReadFault) ⊎ (status ≡ NoMemory)
  pub missing_quiet : Lacks before.held names.text → after.read_faults ≡ before.read_faults
  pub missing_input : LacksInput stalls names before.held → IsCutOff status
  -- no file changes but where a run begins, and there its outputs alone
  pub others : IsSome before.held → ChangesOutputs names before.held after.held
  -- whatever stopped a run, its outputs were created in the order of their ports
  pub leaves : IsSome before.held → LeavesOutputs stalls names before.held after.held
