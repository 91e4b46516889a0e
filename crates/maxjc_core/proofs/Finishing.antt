-- What `simulate` ends with where nothing waits: the run is done in time.
use Rattle.std.proofs.Common.{
  ◌≡◌,
  ◌≤◌,
  ◌^◌,
  ℕ,
  List,
  Bool,
  true,
  false,
  Option,
  Ok,
  Err,
  inl,
  inr,
  refl,
  subst,
  arith,
}
use Rattle.mx_base.specs.Files.{Held, Name}
use Rattle.rtl_ir.specs.declared.design.Design.{Design}
use Rattle.rtl_ir.specs.Flat.{Families}
use Rattle.project_rtl.specs.Times.{all_reads}
use Rattle.project_streams.specs.Streams.{GivenProject, ProjectValues}
use Rattle.stall_source.specs.Stalls.{Answers, IsFreeAtZero}
use Rattle.verilog_sim.specs.Start.{all_cells}
use Rattle.simulation.specs.Answers.{Finishes, Breaks, end_of}
use Rattle.simulation.specs.Ends.{End, Ends, Stopped}
use Rattle.simulation.specs.Inputs as lines
use Rattle.simulation.specs.Runs.{Setup}
use Rattle.simulation.specs.declared.plan.Plan.{Plan}
use Rattle.simulation.specs.declared.stop.Outcome.{Outcome}
use Rattle.simulation.specs.declared.stop.Stop.{Stop}
use Rattle.simulation.specs.declared.stop.Stop.TheVariants as stops
use Rattle.maxjc_core.specs.Command.{RunNames, said_more}
use Rattle.maxjc_core.specs.Compiling.{Compiles}
use Rattle.maxjc_core.specs.Finishing.{RunsFreely, times_in, most_edges, IsDoneWithin, AllFinish}
use Rattle.maxjc_core.specs.Loading.{IsLoaded, setup}
use Rattle.maxjc_core.specs.LoadStops.{IsOnlyDesign}
use Rattle.maxjc_core.specs.RunStops.{end_status, end_line}
use Rattle.maxjc_core.specs.declared.status.Status.{Status}
use Rattle.maxjc_core.proofs.RunClauses.{IsEnded, IsStopped, outcome, cut_off, stopped_cut_off}
use Rattle.maxjc_core.proofs.RunEnding.{IsMade, IsSimulated, told_loaded, same_run, of_loaded}
use Rattle.maxjc_core.proofs.RunExclusion.{same_file}
use Rattle.maxjc_core.proofs.Ready.{ready-run}
use Rattle.maxjc_core.proofs.Timely.{IsTimely, timely}
use Rattle.maxjc_core.proofs.Writing.{run_is}

-- all runs of what was loaded end in time
abbrev EndsTimely : Answers → Setup → ℕ → Type 0
EndsTimely stalls s most =
    (restart : Families) (vs : List Families) (end : End) → Ends stalls s restart vs end → IsTimely most end

ends-timely : {names : RunNames} {stalls : Answers} {held : Held} {d : Design} {p : Plan}
    → IsFreeAtZero stalls → IsMade names held d p → (l : IsLoaded names held)
    (source table report line : List ℕ) (c : Compiles source table l.files.text report line)
    (given : GivenProject) (values : ProjectValues)
    → RunsFreely c.project (times_in c) c.made.links l given values
    → most_edges c given ≤ (setup l).edges → EndsTimely stalls (setup l) (most_edges c given)
ends-timely {names} {stalls} {held} {d} {p} free made l source table report line c given values freely
    enough =
    let made_as = made.loaded (told_loaded l) in
    let only = subst (λ (t : List ℕ). IsOnlyDesign t d) (same_file held names.text made_as.files.text
    l.files.text made_as.files.text_is l.files.text_is) made_as.is.only in
    let of = run_is source table report line l d only c in
    timely stalls free (setup l) (most_edges c given) (all_reads c.project given values)
    (ready-run c.project (times_in c) c.made.links l of given values freely enough)

done-within : (done : Bool) (edges most : ℕ) (r : Status) (before after : Option (List ℕ))
    → IsTimely most (end_of (outcome done edges)) → IsEnded (outcome done edges) r
    → (r ≡ end_status (outcome done edges) → after ≡ said_more before (end_line (outcome done edges)))
    → IsDoneWithin most before after r
done-within true edges most r before after within (inl e) said = inl (e, (edges, within, said e))
done-within true edges most r before after within (inr e) said = inr (cut_off r e)
done-within false edges most r before after within ended said = absurd within

-- a run that ended is done
pub finishes-ended : {names : RunNames} {stalls : Answers} {held now : Held} {d : Design} {p : Plan}
    (o : Outcome) (r : Status) (before after : Option (List ℕ)) → IsFreeAtZero stalls
    → IsMade names held d p → IsSimulated stalls d p held now (Ok o) → IsEnded o r
    → (r ≡ end_status o → after ≡ said_more before (end_line o)) → AllFinish names held before after r
finishes-ended {stalls = stalls} {now = now} o r before after free made sim ended said l source table
    report line c given values freely enough =
    let finishes = of_loaded l made (λ (s : Setup) (outputs : List (Name × ℕ)).
    Finishes stalls s outputs now (end_of o))
    (sim.tells made.can.is.top made.can.is.shape made.can.is.is_top made.can.is.is_run.has (told_loaded l)) in
    done-within o.done o.edges (most_edges c given) r before after
    (ends-timely free made l source table report line c given values freely enough finishes.restart
    finishes.vs (end_of o) finishes.ends) ended said

-- and a run isn't stopped but by a failure of a call
breaks-not : {stalls : Answers} {s : Setup} {most : ℕ} {outputs : List (Name × ℕ)} {now : Held}
    (fault : lines.LineFault) → EndsTimely stalls s most
    → Breaks stalls s outputs now (Stopped fault) → ⊥
breaks-not fault ends b = ends b.restart b.vs (Stopped fault) b.ends

pub finishes-stopped : {names : RunNames} {stalls : Answers} {held now : Held} {d : Design} {p : Plan}
    (stop : Stop) (r : Status) (before after : Option (List ℕ)) → IsFreeAtZero stalls
    → IsMade names held d p → IsSimulated stalls d p held now (Err stop) → IsStopped stop r
    → AllFinish names held before after r
finishes-stopped {d = d} (stops.TooManyCells n) r before after free made sim stopped l source table
    report line c given values freely enough =
    let many = (sim.cells n refl).0 in
    let small = subst (λ (e : Design). all_cells e ≤ 2 ^ 26) (same_run l made).designs freely.small in
    absurd (omega (arith, many, small))
finishes-stopped {stalls = stalls} {now = now} (stops.BadLine file line) r before after free made sim
    stopped l source table report said c given values freely enough =
    absurd (breaks-not (lines.BadLine file line)
    (ends-timely free made l source table report said c given values freely enough)
    (of_loaded l made (λ (s : Setup) (outputs : List (Name × ℕ)).
    Breaks stalls s outputs now (Stopped (lines.BadLine file line)))
    (sim.tells made.can.is.top made.can.is.shape made.can.is.is_top made.can.is.is_run.has (told_loaded l))))
finishes-stopped {stalls = stalls} {now = now} (stops.WordRange file line) r before after free made sim
    stopped l source table report said c given values freely enough =
    absurd (breaks-not (lines.WordRange file line)
    (ends-timely free made l source table report said c given values freely enough)
    (of_loaded l made (λ (s : Setup) (outputs : List (Name × ℕ)).
    Breaks stalls s outputs now (Stopped (lines.WordRange file line)))
    (sim.tells made.can.is.top made.can.is.shape made.can.is.is_top made.can.is.is_run.has (told_loaded l))))
finishes-stopped stops.ReadFault r before after free made sim stopped l source table report line c
    given values freely enough = inr (stopped_cut_off stops.ReadFault r tt stopped)
finishes-stopped stops.WriteFault r before after free made sim stopped l source table report line c
    given values freely enough = inr (stopped_cut_off stops.WriteFault r tt stopped)
finishes-stopped stops.NoMemory r before after free made sim stopped l source table report line c
    given values freely enough = inr (stopped_cut_off stops.NoMemory r tt stopped)
