-- What `simulate` ends with, where a run was made of what was loaded: a lemma for each clause.
use Rattle.std.proofs.Common.{◌≡◌, ◌⊎◌, ◌<◌, ◌-◌, ◌^◌, min, ℕ, List, Bool, true, false, Option, Result, Ok, Err, inl, inr, ⊎_elim, refl, sym, ap, subst, ◌∙◌}
use Rattle.std.specs.Prelude.{IsSome}
use Rattle.std.proofs.lemmas.Bool.{cases_lt}
use Rattle.mx_base.specs.Counts.{Rose}
use Rattle.mx_base.specs.Files.{Held, Name}
use Rattle.rtl_ir.specs.declared.design.Design.{Design}
use Rattle.stall_source.specs.Stalls.{Answers}
use Rattle.verilog_sim.specs.Start.{all_cells}
use Rattle.simulation.specs.Answers as answers
use Rattle.simulation.specs.Answers.{IsMissing, IsOrFails, Finishes, Breaks, end_of}
use Rattle.simulation.specs.Ends as ends
use Rattle.simulation.specs.Ends.{End, Stopped}
use Rattle.simulation.specs.Inputs as lines
use Rattle.simulation.specs.Outputs.{ChangesOnlyOutputs, Leaves}
use Rattle.simulation.specs.Plans.{setup_of}
use Rattle.simulation.specs.Runs.{Setup}
use Rattle.simulation.specs.declared.plan.Plan.{Plan}
use Rattle.simulation.specs.declared.stop.Outcome.{Outcome}
use Rattle.simulation.specs.declared.stop.Stop.{Stop}
use Rattle.simulation.specs.declared.stop.Stop.TheVariants as stops
use Rattle.maxjc_core.specs.Command.{RunNames, said_more}
use Rattle.maxjc_core.specs.CommandEnds.{IsCutOff, IsQuiet}
use Rattle.maxjc_core.specs.CauseLines.{Cause, TooManyCells}
use Rattle.maxjc_core.specs.ErrorCauses.{IfCause, stop_cause}
use Rattle.maxjc_core.specs.SimulateCauses.{IsFaulty, StandsIn, LacksFile, LacksInput}
use Rattle.maxjc_core.specs.SimulateRuns.{IsRunTo, IsRunDone, IsRunLimited, RefusesRun, ReadFails, ChangesOutputs, LeavesOutputs}
use Rattle.maxjc_core.specs.RunStops.{end_status, end_line, stop_status}
use Rattle.maxjc_core.specs.declared.status.Status.{Status}
use Rattle.maxjc_core.specs.declared.status.Status.TheVariants.{Done, Refused, ReadFault, WriteFault, NoMemory, EdgeLimit}
use Rattle.maxjc_core.proofs.RunEnding.{IsMade, IsSimulated, loaded_of, same_run, of_loaded, small_of, small_ok, small_err, ends_so}

-- the statuses where a run ended, and where it was stopped
abbrev pub IsEnded : Outcome → Status → Type 0
IsEnded o r = (r ≡ end_status o) ⊎ ((r ≡ WriteFault) ⊎ (r ≡ NoMemory))

abbrev pub IsStopped : Stop → Status → Type 0
IsStopped stop r = (r ≡ stop_status stop) ⊎ ((stop_status stop ≡ Refused) × ((r ≡ WriteFault) ⊎ (r ≡ NoMemory)))

pub cut_off : (r : Status) → (r ≡ WriteFault) ⊎ (r ≡ NoMemory) → IsCutOff r
cut_off r (inl e) = subst IsCutOff (sym e) tt
cut_off r (inr e) = subst IsCutOff (sym e) tt

abbrev pub outcome : Bool → ℕ → Outcome
outcome done edges = record { done = done; edges = edges }

-- the run that ended, in the words of the files
run_to : {names : RunNames} {stalls : Answers} {held now : Held} {d : Design} {p : Plan}
    (o : Outcome) (said_before said_now : Option (List ℕ)) (line : List ℕ)
    → IsMade names held d p → IsSimulated stalls d p held now (Ok o) → IsSome held
    → said_now ≡ said_more said_before line
    → IsRunTo stalls names held now said_before said_now (end_of o) line
run_to {stalls = stalls} {now = now} o before after line made sim told said =
    let l = loaded_of (made.loaded told) in
    record {
      loaded = l;
      small = small_ok l made sim;
      finishes = of_loaded l made (λ (s : Setup) (outputs : List (Name
          × ℕ)). Finishes stalls s outputs now (end_of o))
          (sim.tells made.can.is.top made.can.is.shape made.can.is.is_top made.can.is.is_run.has
          told);
      said = said;
    }

done_so : {names : RunNames} {stalls : Answers} {held now : Held} {d : Design} {p : Plan}
    (done : Bool) (edges : ℕ) (r : Status) (before after : Option (List ℕ))
    → IsMade names held d p → IsSimulated stalls d p held now (Ok (outcome done edges))
    → IsEnded (outcome done edges) r → (r ≡ end_status (outcome done edges)
    → after ≡ said_more before (end_line (outcome done edges))) → r ≡ Done → IsSome held
    → IsRunDone stalls names held now before after
done_so true edges r before after made sim ended said e told = (edges, run_to (outcome true edges) before after _ made sim told (said e))
done_so false edges r before after made sim (inl x) said e told = absurd (cc)
done_so false edges r before after made sim (inr (inl x)) said e told = absurd (cc)
done_so false edges r before after made sim (inr (inr x)) said e told = absurd (cc)

pub run_done : {names : RunNames} {stalls : Answers} {held now : Held} {d : Design} {p : Plan}
    (o : Outcome) (r : Status) (before after : Option (List ℕ)) → IsMade names held d p
    → IsSimulated stalls d p held now (Ok o) → IsEnded o r
    → (r ≡ end_status o → after ≡ said_more before (end_line o)) → r ≡ Done → IsSome held
    → IsRunDone stalls names held now before after
run_done o r before after made sim ended said e told = done_so o.done o.edges r before after made sim ended said e told

limited_so : {names : RunNames} {stalls : Answers} {held now : Held} {d : Design} {p : Plan}
    (done : Bool) (edges : ℕ) (r : Status) (before after : Option (List ℕ))
    → IsMade names held d p → IsSimulated stalls d p held now (Ok (outcome done edges))
    → IsEnded (outcome done edges) r → (r ≡ end_status (outcome done edges)
    → after ≡ said_more before (end_line (outcome done edges))) → r ≡ EdgeLimit → IsSome held
    → IsRunLimited stalls names held now before after
limited_so false edges r before after made sim ended said e told = (edges, run_to (outcome false edges) before after _ made sim told (said e))
limited_so true edges r before after made sim (inl x) said e told = absurd (cc)
limited_so true edges r before after made sim (inr (inl x)) said e told = absurd (cc)
limited_so true edges r before after made sim (inr (inr x)) said e told = absurd (cc)

pub run_limited : {names : RunNames} {stalls : Answers} {held now : Held} {d : Design}
    {p : Plan} (o : Outcome) (r : Status) (before after : Option (List ℕ))
    → IsMade names held d p → IsSimulated stalls d p held now (Ok o) → IsEnded o r
    → (r ≡ end_status o → after ≡ said_more before (end_line o)) → r ≡ EdgeLimit → IsSome held
    → IsRunLimited stalls names held now before after
run_limited o r before after made sim ended said e told = limited_so o.done o.edges r before after made sim ended said e told

-- a run that ends at an edge answers so
ended_done : (done : Bool) (edges n : ℕ) (r : Status) → IsOrFails (ends.Done n) (Ok (outcome done edges)) → IsEnded (outcome done edges) r → (r ≡ Done) ⊎ IsCutOff r
ended_done true edges n r e (inl x) = inl x
ended_done false edges n r e (inl x) = absurd (cc)
ended_done done edges n r e (inr x) = inr (cut_off r x)

pub answers_done : (o : Outcome) (n : ℕ) (r : Status) → IsOrFails (ends.Done n) (Ok o) → IsEnded o r → (r ≡ Done) ⊎ IsCutOff r
answers_done o n r e ended = ended_done o.done o.edges n r e ended

ended_limited : (done : Bool) (edges n : ℕ) (r : Status) → IsOrFails (ends.Limit n) (Ok (outcome done edges)) → IsEnded (outcome done edges) r → (r ≡ EdgeLimit) ⊎ IsCutOff r
ended_limited true edges n r e (inl x) = absurd (cc)
ended_limited false edges n r e (inl x) = inl x
ended_limited done edges n r e (inr x) = inr (cut_off r x)

pub answers_limited : (o : Outcome) (n : ℕ) (r : Status) → IsOrFails (ends.Limit n) (Ok o) → IsEnded o r → (r ≡ EdgeLimit) ⊎ IsCutOff r
answers_limited o n r e ended = ended_limited o.done o.edges n r e ended

unlike_end : (done : Bool) (edges : ℕ) (fault : lines.LineFault) → Stopped fault ≡ end_of (outcome done edges) → ⊥
unlike_end true edges fault e = absurd (cc)
unlike_end false edges fault e = absurd (cc)

-- a run that ends where no line is met answers so, or the call failed
abbrev HasNoLine : End → Type 0
HasNoLine end = (file : List ℕ) (line : ℕ) → (end ≡ Stopped (lines.BadLine file line) → ⊥) × (end ≡ Stopped (lines.WordRange file line) → ⊥)

pub stopped_cut_off : (stop : Stop) (r : Status) → IsCutOff (stop_status stop) → IsStopped stop r → IsCutOff r
stopped_cut_off stop r cut (inl e) = subst IsCutOff (sym e) cut
stopped_cut_off stop r cut (inr x) = cut_off r x.1

fails_so : (end : End) (stop : Stop) (r : Status) → HasNoLine end → IsOrFails end (Err stop) → IsStopped stop r → IsCutOff r
fails_so end (stops.TooManyCells n) r none h stopped = absurd h
fails_so end (stops.BadLine file line) r none h stopped = absurd ((none file line).0 h)
fails_so end (stops.WordRange file line) r none h stopped = absurd ((none file line).1 h)
fails_so end stops.ReadFault r none h stopped = stopped_cut_off stops.ReadFault r tt stopped
fails_so end stops.WriteFault r none h stopped = stopped_cut_off stops.WriteFault r tt stopped
fails_so end stops.NoMemory r none h stopped = stopped_cut_off stops.NoMemory r tt stopped

pub fails_done : (n : ℕ) (stop : Stop) (r : Status) → IsOrFails (ends.Done n) (Err stop) → IsStopped stop r → IsCutOff r
fails_done n stop r = fails_so (ends.Done n) stop r (λ file line. (λ e. cc, λ e. cc))

pub fails_limited : (n : ℕ) (stop : Stop) (r : Status) → IsOrFails (ends.Limit n) (Err stop) → IsStopped stop r → IsCutOff r
fails_limited n stop r = fails_so (ends.Limit n) stop r (λ file line. (λ e. cc, λ e. cc))

missing_unlike : (fault : lines.LineFault) → ((fault ≡ lines.Missing) → ⊥) → Stopped lines.Missing ≡ Stopped fault → ⊥
missing_unlike fault never e = never (cc)

fails_missing : (stop : Stop) (r : Status) → IsOrFails (Stopped lines.Missing) (Err stop) → IsStopped stop r → IsCutOff r
fails_missing stop r = fails_so (Stopped lines.Missing) stop r (λ file line. (missing_unlike _ (λ e. cc), missing_unlike _ (λ e. cc)))

-- no cause stands where the run ended
pub stands_not : {names : RunNames} {stalls : Answers} {held now : Held} {d : Design} {p : Plan}
    {o : Outcome} → IsMade names held d p → IsSimulated stalls d p held now (Ok o)
    → ((cause : Cause) → IsFaulty names held cause → ⊥) → (cause : Cause)
    → StandsIn stalls names held cause → ⊥
stands_not made sim faulty cause (StandsIn.before c f) = faulty c f
stands_not made sim faulty cause (StandsIn.vast l vast) =
    (sim.too_many (subst (λ (e : Design). 2 ^ 26 < all_cells e) (same_run l made).designs vast)).2
stands_not {o = o} made sim faulty cause (StandsIn.bad_line l restart vs file line small run) = unlike_end o.done o.edges _ (ends_so l made sim small restart vs _ run)
stands_not {o = o} made sim faulty cause (StandsIn.word_range l restart vs file line small run) = unlike_end o.done o.edges _ (ends_so l made sim small restart vs _ run)

-- nor lacks an input
pub lacks_not : {names : RunNames} {stalls : Answers} {held now : Held} {d : Design} {p : Plan}
    {o : Outcome} → IsMade names held d p → IsSimulated stalls d p held now (Ok o)
    → (LacksFile names held → ⊥) → LacksInput stalls names held → ⊥
lacks_not made sim never (inl file) = never file
lacks_not {o = o} made sim never (inr (l, small, missing)) = unlike_end o.done o.edges _ (ends_so l made sim small missing.restart missing.vs _ missing.ends)

-- where a run was stopped, an input that is lacking is a failure
pub lacks_cut_off : {names : RunNames} {stalls : Answers} {held now : Held} {d : Design}
    {p : Plan} {stop : Stop} (r : Status) → IsMade names held d p
    → IsSimulated stalls d p held now (Err stop) → IsStopped stop r → (LacksFile names held → ⊥)
    → LacksInput stalls names held → IsCutOff r
lacks_cut_off r made sim stopped never (inl file) = absurd (never file)
lacks_cut_off {stop = stop} r made sim stopped never (inr (l, small, missing)) = fails_missing stop r (ends_so l made sim small missing.restart missing.vs _ missing.ends) stopped

-- the outputs alone change, and these where the design is small
pub others_so : {names : RunNames} {stalls : Answers} {held now : Held} {d : Design} {p : Plan}
    {result : Result Outcome Stop} → IsMade names held d p
    → IsSimulated stalls d p held now result → ChangesOnlyOutputs p.outputs held now
    → IsSome held → ChangesOutputs names held now
others_so {held = held} {now = now} {d = d} made sim changes told =
    let l = loaded_of (made.loaded told) in
    ⊎_elim (λ large. inl (sim.too_many large).1)
    (λ small. inr (l, small_of l made small, of_loaded l made (λ (s : Setup) (outputs : List (Name × ℕ)). ChangesOnlyOutputs outputs held now) changes))
    (cases_lt (2 ^ 26) (all_cells d))

-- what a run leaves, that ended or that was stopped
pub leaves_ended : {names : RunNames} {stalls : Answers} {held now : Held} {d : Design}
    {p : Plan} (o : Outcome) → IsMade names held d p → IsSimulated stalls d p held now (Ok o)
    → IsSome held → LeavesOutputs stalls names held now
leaves_ended {stalls = stalls} {now = now} o made sim told =
    let l = loaded_of (made.loaded told) in
    inr (
      l,
      small_ok l made sim,
      inr (
        end_of o,
        of_loaded l made (λ (s : Setup) (outputs : List (Name
            × ℕ)). Finishes stalls s outputs now (end_of o))
            (sim.tells made.can.is.top made.can.is.shape made.can.is.is_top made.can.is.is_run.has
            told),
      ),
    )

pub leaves_stopped : {names : RunNames} {stalls : Answers} {held now : Held} {d : Design}
    {p : Plan} {result : Result Outcome Stop} → IsMade names held d p
    → IsSimulated stalls d p held now result → (IsSome held → Leaves p.outputs held now)
    → IsSome held → LeavesOutputs stalls names held now
leaves_stopped {held = held} {now = now} {d = d} made sim leaves told =
    let l = loaded_of (made.loaded told) in
    ⊎_elim (λ large. inl (sim.too_many large).1)
    (λ small. inr (l, small_of l made small, inl (of_loaded l made (λ (s : Setup) (outputs : List (Name × ℕ)). Leaves outputs held now) (leaves told))))
    (cases_lt (2 ^ 26) (all_cells d))

-- a refusal of a run has a cause that stands, and what it leaves in the files
refused_so : {names : RunNames} {stalls : Answers} {held now : Held} {d : Design} {p : Plan}
    (stop : Stop) → IsMade names held d p → IsSimulated stalls d p held now (Err stop)
    → stop_status stop ≡ Refused → IfCause (stop_cause stop) (λ cause. IsSome held
    → RefusesRun stalls names held now cause)
refused_so {names} {stalls} {held} {now} (stops.TooManyCells n) made sim e = λ told.
    let l = loaded_of (made.loaded told) in
    let many = sim.cells n refl in
    let designs = sym (same_run l made).designs in
    subst (λ (k : ℕ). RefusesRun stalls names held now (TooManyCells k)) (sym (subst (λ (e : Design). n ≡ min (all_cells e) (2 ^ 64 - 1)) designs many.1))
    (RefusesRun.vast l (subst (λ (e : Design). 2 ^ 26 < all_cells e) designs many.0) (sim.too_many many.0).1)
refused_so {stalls = stalls} {now = now} (stops.BadLine file line) made sim e = λ told.
    let l = loaded_of (made.loaded told) in
    RefusesRun.bad_line l file line (small_err l made sim (λ n x. cc) (λ x. cc))
    (of_loaded l made (λ (s : Setup) (outputs : List (Name
    × ℕ)). Breaks stalls s outputs now (Stopped (lines.BadLine file line)))
    (sim.tells made.can.is.top made.can.is.shape made.can.is.is_top made.can.is.is_run.has
    told))
refused_so {stalls = stalls} {now = now} (stops.WordRange file line) made sim e = λ told.
    let l = loaded_of (made.loaded told) in
    RefusesRun.word_range l file line (small_err l made sim (λ n x. cc) (λ x. cc))
    (of_loaded l made (λ (s : Setup) (outputs : List (Name
    × ℕ)). Breaks stalls s outputs now (Stopped (lines.WordRange file line)))
    (sim.tells made.can.is.top made.can.is.shape made.can.is.is_top made.can.is.is_run.has
    told))
refused_so stops.ReadFault made sim e = absurd (cc)
refused_so stops.WriteFault made sim e = absurd (cc)
refused_so stops.NoMemory made sim e = absurd (cc)

status_refused : (stop : Stop) (r : Status) → IsStopped stop r → r ≡ Refused → stop_status stop ≡ Refused
status_refused stop r (inl e) x = sym e ∙ x
status_refused stop r (inr e) x = e.0

pub refused_stands : {names : RunNames} {stalls : Answers} {held now : Held} {d : Design}
    {p : Plan} (stop : Stop) (r : Status) → IsMade names held d p
    → IsSimulated stalls d p held now (Err stop) → IsStopped stop r → r ≡ Refused
    → IfCause (stop_cause stop) (λ cause. IsSome held → RefusesRun stalls names held now cause)
refused_stands stop r made sim stopped e = refused_so stop made sim (status_refused stop r stopped e)

-- a read fault is the run's own
status_reads : (stop : Stop) → stop_status stop ≡ ReadFault → stop ≡ stops.ReadFault
status_reads (stops.TooManyCells n) e = absurd (cc)
status_reads (stops.BadLine file line) e = absurd (cc)
status_reads (stops.WordRange file line) e = absurd (cc)
status_reads stops.ReadFault e = refl
status_reads stops.WriteFault e = absurd (cc)
status_reads stops.NoMemory e = absurd (cc)

pub stop_reads : (stop : Stop) (r : Status) → IsStopped stop r → r ≡ ReadFault → stop ≡ stops.ReadFault
stop_reads stop r (inl e) x = status_reads stop (sym e ∙ x)
stop_reads stop r (inr (e, inl y)) x = absurd (cc)
stop_reads stop r (inr (e, inr y)) x = absurd (cc)

abbrev failed : Stop → Result Outcome Stop
failed stop = Err stop

-- a run that is stopped by a read fault ends with one, and one that is stopped by a write fault likewise
pub reads_no_other : (stop : Stop) (r : Status) → IsStopped stop r → (r ≡ ReadFault → ⊥) → failed stop ≡ Err stops.ReadFault → ⊥
reads_no_other stop r (inl e) never x = (let same : stop ≡ stops.ReadFault = cc in never (subst (λ (z : Stop). r ≡ stop_status z) same e))
reads_no_other stop r (inr e) never x = (let same : stop ≡ stops.ReadFault = cc in let f = subst (λ (z : Stop). stop_status z ≡ Refused) same e.0 in absurd (cc))

pub writes_no_other : (stop : Stop) (r : Status) → IsStopped stop r → (r ≡ WriteFault → ⊥) → failed stop ≡ Err stops.WriteFault → ⊥
writes_no_other stop r (inl e) never x = (let same : stop ≡ stops.WriteFault = cc in never (subst (λ (z : Stop). r ≡ stop_status z) same e))
writes_no_other stop r (inr e) never x = (let same : stop ≡ stops.WriteFault = cc in let f = subst (λ (z : Stop). stop_status z ≡ Refused) same e.0 in absurd (cc))

-- a read fault comes where a count rose, or an input is lacking
missing_so : {names : RunNames} {stalls : Answers} {held now : Held} {d : Design} {p : Plan}
    (made : IsMade names held d p) → IsSimulated stalls d p held now (Err stops.ReadFault)
    → IsSome held → IsMissing stalls (setup_of d made.can.is.top made.can.is.shape p held)
    → LacksInput stalls names held
missing_so {stalls = stalls} made sim told missing =
    let l = loaded_of (made.loaded told) in
    inr (l, small_err l made sim (λ n x. cc) (λ x. cc), of_loaded l made (λ (s : Setup) (outputs : List (Name × ℕ)). IsMissing stalls s) missing)

pub read_fault_so : {names : RunNames} {stalls : Answers} {held now : Held} {d : Design}
    {p : Plan} {Rises : Type 0} (stop : Stop) (r : Status) (made : IsMade names held d p)
    → IsSimulated stalls d p held now (Err stop) → IsStopped stop r
    → (stop ≡ stops.ReadFault → Rises ⊎ (IsSome held
    × IsMissing stalls (setup_of d made.can.is.top made.can.is.shape p held))) → r ≡ ReadFault
    → Rises ⊎ LacksInput stalls names held
read_fault_so {stalls = stalls} {held = held} {now = now} {d = d} {p = p} stop r made sim stopped fault e =
    let same = stop_reads stop r stopped e in
    ⊎_elim (λ rose. inl rose) (λ missing. inr (missing_so made (subst (λ (z : Stop). IsSimulated stalls d p held now (Err z)) same sim) missing.0 missing.1)) (fault same)

-- what a read fault in a run leaves in the files
pub cut_off_so : {names : RunNames} {stalls : Answers} {held now : Held} {d : Design} {p : Plan}
    {count_before count_now : ℕ} (stop : Stop) (r : Status) (made : IsMade names held d p)
    → IsSimulated stalls d p held now (Err stop) → IsStopped stop r
    → (stop ≡ stops.ReadFault → Rose count_before count_now
    ⊎ (IsSome held × IsMissing stalls (setup_of d made.can.is.top made.can.is.shape p held)))
    → r ≡ ReadFault → IsSome held → ReadFails stalls names held now count_before count_now
cut_off_so {stalls = stalls} {held = held} {now = now} {d = d} {p = p} stop r made sim stopped fault e told =
    let same = stop_reads stop r stopped e in
    let reads = subst (λ (z : Stop). IsSimulated stalls d p held now (Err z)) same sim in
    let l = loaded_of (made.loaded told) in
    ReadFails.in_run l (small_err l made reads (λ n x. cc) (λ x. cc))
    (of_loaded l made (λ (s : Setup) (outputs : List (Name
    × ℕ)). answers.IsInterrupted stalls s outputs now)
    (reads.tells made.can.is.top made.can.is.shape made.can.is.is_top made.can.is.is_run.has
    told))
    (⊎_elim (λ rose. inl rose) (λ missing. inr (of_loaded l made (λ (s : Setup) (outputs : List (Name × ℕ)). IsMissing stalls s) missing.1)) (fault same))

-- no call of the outside failed
pub quiet_reads : (r : Status) → IsQuiet r → r ≡ ReadFault → ⊥
quiet_reads r quiet e = subst IsQuiet e quiet

pub quiet_writes : (r : Status) → IsQuiet r → r ≡ WriteFault → ⊥
quiet_writes r quiet e = subst IsQuiet e quiet

-- a fault where no count rose is of files that are told
pub fault_told : {Rises Told Missing : Type 0} → Rises ⊎ Missing → Rises ⊎ Told → Rises ⊎ (Told × Missing)
fault_told (inl rises) t = inl rises
fault_told (inr missing) (inl rises) = inl rises
fault_told (inr missing) (inr told) = inr (told, missing)

pub failed_so : {stop other : Stop} → stop ≡ other → failed stop ≡ failed other
failed_so e = ap failed e

-- a run that was stopped has not ended
pub stopped_not_done : (stop : Stop) (r : Status) → IsStopped stop r → r ≡ Done → ⊥
stopped_not_done (stops.TooManyCells n) r (inl e) f = absurd (cc)
stopped_not_done (stops.BadLine file line) r (inl e) f = absurd (cc)
stopped_not_done (stops.WordRange file line) r (inl e) f = absurd (cc)
stopped_not_done stops.ReadFault r (inl e) f = absurd (cc)
stopped_not_done stops.WriteFault r (inl e) f = absurd (cc)
stopped_not_done stops.NoMemory r (inl e) f = absurd (cc)
stopped_not_done stop r (inr (p, inl e)) f = absurd (cc)
stopped_not_done stop r (inr (p, inr e)) f = absurd (cc)

pub stopped_not_limited : (stop : Stop) (r : Status) → IsStopped stop r → r ≡ EdgeLimit → ⊥
stopped_not_limited (stops.TooManyCells n) r (inl e) f = absurd (cc)
stopped_not_limited (stops.BadLine file line) r (inl e) f = absurd (cc)
stopped_not_limited (stops.WordRange file line) r (inl e) f = absurd (cc)
stopped_not_limited stops.ReadFault r (inl e) f = absurd (cc)
stopped_not_limited stops.WriteFault r (inl e) f = absurd (cc)
stopped_not_limited stops.NoMemory r (inl e) f = absurd (cc)
stopped_not_limited stop r (inr (p, inl e)) f = absurd (cc)
stopped_not_limited stop r (inr (p, inr e)) f = absurd (cc)
