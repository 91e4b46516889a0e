-- A run in which no port stalls and the input files hold all words is done in time.
use Rattle.std.proofs.Common.{
  ◌≡◌,
  ℕ,
  zero,
  suc,
  ◌+◌,
  ◌≤◌,
  ◌^◌,
  false,
  List,
  [],
  ◌∷◌,
  length,
  map,
  Some,
  None,
  option_and_then,
  ⊎_elim,
  refl,
  subst,
  arith,
}
use Rattle.std.specs.Prelude.{slice_get}
use Rattle.std.specs.List.{AllZip}
use Rattle.std.proofs.lemmas.Bool.{cases_lt}
use Rattle.rtl_ir.specs.Flat.{Families, after_flat}
use Rattle.rtl_ir.specs.Parts.{own_of}
use Rattle.stall_source.specs.Stalls.{Answers, IsFreeAtZero}
use Rattle.simulation.specs.Inputs.{InputFile, words_of, fault_behind}
use Rattle.simulation.specs.Asked.{AreAsked}
use Rattle.simulation.specs.Runs.{Setup, fault_at, IsRun, IsDoneAt, contents_after}
use Rattle.simulation.specs.Ends.{End, Done, Limit, Stopped, Ends}
use Rattle.simulation.specs.Ends as ends
use Rattle.manager_links.specs.declared.hosts.HostPort.{HostPort}
use Rattle.manager_links.specs.declared.project.Project.{Project}
use Rattle.project_rtl.specs.Times.{reads_of}
use Rattle.project_streams.specs.Streams.{GivenProject, ProjectValues}
use Rattle.maxjc_core.specs.Finishing.{HasAllWords}
use Rattle.maxjc_core.proofs.Freely.{AllFree, AllWait}
use Rattle.maxjc_core.proofs.Moments.{
  IsUndoneAfter,
  IsDoneIn,
  asked-free,
  first-edges,
  never-undone,
  event-count,
  own-count,
}

-- ---- the files

pub none-behind : (project : Project) (given : GivenProject) (values : ProjectValues)
    (files : List InputFile) (hosts : List HostPort)
    → AllZip (HasAllWords project given values) files hosts → (k : ℕ)
    → option_and_then fault_behind (slice_get files k) ≡ None
none-behind project given values [] [] h k = refl
none-behind project given values [] (host ∷ hosts) h k = absurd h
none-behind project given values (file ∷ files) [] h k = absurd h
none-behind project given values (file ∷ files) (host ∷ hosts) h zero = h.0.readable
none-behind project given values (file ∷ files) (host ∷ hosts) h (suc k) =
    none-behind project given values files hosts h.1 k

pub all-wait : (project : Project) (given : GivenProject) (values : ProjectValues)
    (files : List InputFile) (hosts : List HostPort)
    → AllZip (HasAllWords project given values) files hosts
    → AllWait (map (reads_of project given values) hosts) (map words_of files)
all-wait project given values [] [] h = tt
all-wait project given values [] (host ∷ hosts) h = absurd h
all-wait project given values (file ∷ files) [] h = absurd h
all-wait project given values (file ∷ files) (host ∷ hosts) h =
    (h.0.enough, all-wait project given values files hosts h.1)

-- ---- how a run ends

-- a setup in which nothing waits: no port stalls, the files have all words, and then the design is
-- done after so many edges, which may be made
pub record IsReady (s : Setup) (most : ℕ) (reads : List ℕ) : Type 0 where
  pub pick : s.pick ≡ 0
  pub enough : most ≤ s.edges
  pub edges : s.edges ≤ 2 ^ 40
  pub few : length s.outer.inputs + length s.outer.outputs + length s.outer.holds ≤ 2 ^ 32
  pub done : IsDoneIn s most reads
  pub counted : length reads ≤ length s.outer.inputs
  pub same : length s.outer.inputs ≡ length (map words_of s.inputs)
  pub wait : AllWait reads (map words_of s.inputs)
  pub readable : (k : ℕ) → fault_at s k ≡ None

-- done is 1 after at most so many edges
abbrev pub IsTimely : ℕ → End → Type 0
IsTimely most (Done n) = n ≤ most
IsTimely most (Limit n) = ⊥
IsTimely most (Stopped fault) = ⊥

module _ (stalls : Answers) (free : IsFreeAtZero stalls) (s : Setup) (most : ℕ) (reads : List ℕ)
    (ready : IsReady s most reads) where
  run-free : {restart : Families} {vs : List Families} → (run : IsRun stalls s restart vs)
      → length vs ≤ s.edges → AllFree s.outer run.events
  run-free {vs = vs} run within =
      let events = event-count s.outer s.steady (map words_of s.inputs) run.events (own_of vs) run.driven.1 in
      asked-free stalls free 0 s.outer run.events
      (omega (arith, events, own-count vs, within, ready.edges)) ready.few
      (subst (λ (pick : ℕ). AreAsked stalls pick 0 s.outer run.events) ready.pick run.asked)

  not-undone : {restart : Families} {vs : List Families} → IsRun stalls s restart vs → (n : ℕ) → most ≤ n
      → IsUndoneAfter s (after_flat s.design s.top s.contents restart) (map words_of s.inputs) n → ⊥
  not-undone {restart = restart} run n enough undone =
      never-undone s most n reads restart ready.done ready.counted ready.same ready.wait run.edges.0
      run.driven.0 enough undone

  -- done is 1 at the latest after so many edges
  in-time : {restart : Families} {vs : List Families} → IsRun stalls s restart vs → length vs ≤ s.edges
      → length vs ≤ most
  in-time {restart} {vs} run within =
      ⊎_elim (λ late. absurd (not-undone run most (omega arith)
      (first-edges s (after_flat s.design s.top s.contents restart) (map words_of s.inputs) most
      run.events vs run.edges.1 run.driven.1 (run-free run within) run.undone late)))
      (λ early. early) (cases_lt most (length vs))

  -- and no run makes all edges without
  not-all : {restart : Families} {vs : List Families} → IsRun stalls s restart vs → length vs ≡ s.edges
      → IsDoneAt s (contents_after s s.contents (restart ∷ vs)) false → ⊥
  not-all {restart} {vs} run all undone =
      not-undone run s.edges ready.enough (record {
        vs = vs;
        events = run.events;
        edges = run.edges.1;
        driven = run.driven.1;
        free = run-free run (omega (arith, all));
        many = all;
        undone = undone;
      })

  pub timely : (restart : Families) (vs : List Families) (end : End) → Ends stalls s restart vs end
      → IsTimely most end
  timely restart vs _ (ends.done run within is) = in-time run within
  timely restart vs _ (ends.limit run all is) = not-all run all is
  timely restart vs _ (ends.stopped fault run few undone stops) =
      let some : fault_at s stops.input ≡ Some fault = stops.is in
      let none : fault_at s stops.input ≡ None = ready.readable stops.input in
      absurd (cc)
