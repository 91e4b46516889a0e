-- A run of what was loaded, in the words of the files that were loaded.
use Rattle.std.proofs.Common.{◌≡◌, ◌⊎◌, ◌<◌, ◌≤◌, ◌-◌, ◌^◌, min, ℕ, List, Some, Result, Ok, Err, ⊎_elim, refl, sym, subst, ◌∙◌}
use Rattle.std.specs.Prelude.{IsSome, IfErr, OnOk}
use Rattle.std.proofs.lemmas.Bool.{cases_lt}
use Rattle.mx_base.specs.Files.{Held, Name}
use Rattle.rtl_ir.specs.declared.design.Design.{Design}
use Rattle.rtl_ir.specs.declared.design.Module.{Module}
use Rattle.rtl_ir.specs.Flat.{Families, top_of}
use Rattle.rtl_ir.specs.Ports.{Shape, HasShape}
use Rattle.top_ports.specs.Shapes.{IsTop}
use Rattle.stall_source.specs.Stalls.{Answers}
use Rattle.verilog_sim.specs.Start.{all_cells}
use Rattle.simulation.specs.Answers.{Tells, IsOrFails}
use Rattle.simulation.specs.Ends.{End, Ends}
use Rattle.simulation.specs.Plans.{setup_of}
use Rattle.simulation.specs.Runs.{Setup}
use Rattle.simulation.specs.declared.plan.Plan.{Plan}
use Rattle.simulation.specs.declared.stop.Outcome.{Outcome}
use Rattle.simulation.specs.declared.stop.Stop.{Stop}
use Rattle.simulation.specs.declared.stop.Stop.TheVariants as stops
use Rattle.maxjc_core.specs.Command.{RunNames}
use Rattle.maxjc_core.specs.Loading.{IsLoaded, setup}
use Rattle.maxjc_core.specs.LoadStops.{CanRun, IsLoadedAs}
use Rattle.maxjc_core.specs.SimulateCauses.{IsSmall}
use Rattle.maxjc_core.proofs.Exclusion.{told}
use Rattle.top_ports.proofs.ShapeLists.{one_alone}
use Rattle.maxjc_core.proofs.RunExclusion.{top_once, loaded_once}

-- what was loaded, and can be run
pub record IsMade (names : RunNames) (held : Held) (d : Design) (p : Plan) : Type 0 where
  pub can : CanRun d p
  pub loaded : IsSome held → IsLoadedAs names held d p

-- what `simulate` says of its answer
pub record IsSimulated (stalls : Answers) (d : Design) (p : Plan) (held now : Held) (result : Result Outcome Stop) : Type 0 where
  pub tells : (m : Module) (s : Shape) → top_of d ≡ Some m → HasShape m s → IsSome held → Tells stalls (setup_of d m s p held) p.outputs now result
  pub exact :
      (m : Module) (s : Shape)
      → top_of d ≡ Some m
      → HasShape m s
      → IsSome held
      → all_cells d ≤ 2 ^ 26
      → (restart : Families) (vs : List Families) (end : End)
      → Ends stalls (setup_of d m s p held) restart vs end
      → IsOrFails end result
  pub cells : (n : ℕ) → result ≡ Err (stops.TooManyCells n) → (2 ^ 26 < all_cells d) × (n ≡ min (all_cells d) (2 ^ 64 - 1))
  pub too_many :
      2 ^ 26 < all_cells d
      → IfErr result (λ e. (e ≡ stops.TooManyCells (min (all_cells d) (2 ^ 64 - 1))) ⊎ (e ≡ stops.NoMemory)) × (now ≡ held) × OnOk result ⊥

-- where files are loaded they are told
pub told_loaded : {names : RunNames} {held : Held} → IsLoaded names held → IsSome held
told_loaded {names} {held} l = told held names.text l.files.text l.files.text_is.holds

abbrev pub loaded_of : {names : RunNames} {held : Held} {d : Design} {p : Plan} → IsLoadedAs names held d p → IsLoaded names held
loaded_of a = record { files = a.files; fit = a.is.fit }

-- the run of files that are loaded is the one that was made
pub record IsSameRun {names : RunNames} {held : Held} (l : IsLoaded names held) {d : Design} {p : Plan} (can : CanRun d p) : Type 0 where
  pub designs : l.fit.design ≡ d
  pub tops : l.fit.is.top ≡ can.is.top
  pub setups : setup l ≡ setup_of d can.is.top can.is.shape p held
  pub plans : l.fit.plan ≡ p

setups : (d e : Design) (m n : Module) (s t : Shape) (p q : Plan) (held : Held) → d ≡ e → m ≡ n → s ≡ t → p ≡ q → setup_of d m s p held ≡ setup_of e n t q held
setups d e m n s t p q held a b c f = rw (a, b, c, f) refl

pub same_run : {names : RunNames} {held : Held} {d : Design} {p : Plan} (l : IsLoaded names held) (made : IsMade names held d p) → IsSameRun l made.can
same_run {names} {held} {d} {p} l made =
    let made_as = made.loaded (told_loaded l) in
    let can = made.can in
    let same = loaded_once names held l (loaded_of made_as) d made_as.is.only in
    let designs : l.fit.design ≡ d = same.designs ∙ made_as.is.design_is in
    let tops = top_once l.files.text can.bytes l.fit.design d l.fit.is can.is designs in
    let shapes = one_alone can.is.top l.fit.is.shape can.is.shape (subst (λ (m : Module). IsTop m l.fit.is.shape) tops l.fit.is.is_run) can.is.is_run in
    let plans : l.fit.plan ≡ p = same.plans ∙ made_as.is.plan_is in
    record { designs = designs; tops = tops; setups = setups _ _ _ _ _ _ _ _ held designs tops shapes plans; plans = plans }

-- what is known of the run that was made holds of the run of what is loaded
pub of_loaded : {names : RunNames} {held : Held} {d : Design} {p : Plan}
    (l : IsLoaded names held) (made : IsMade names held d p) (P : Setup → List (Name × ℕ)
    → Type 0) → P (setup_of d made.can.is.top made.can.is.shape p held) p.outputs
    → P (setup l) l.fit.plan.outputs
of_loaded {names} {held} {d} {p} l made P h =
    let same = same_run l made in
    subst (λ (q : Plan). P (setup l) q.outputs) (sym same.plans) (subst (λ (s : Setup). P s p.outputs) (sym same.setups) h)

-- a design that isn't too large is small
pub small_of : {names : RunNames} {held : Held} {d : Design} {p : Plan} (l : IsLoaded names held) (made : IsMade names held d p) → all_cells d ≤ 2 ^ 26 → IsSmall l
small_of l made small = subst (λ (e : Design). all_cells e ≤ 2 ^ 26) (sym (same_run l made).designs) small

-- where the answer isn't that of a large design, the design is small
fits : (d : Design) → (2 ^ 26 < all_cells d → ⊥) → all_cells d ≤ 2 ^ 26
fits d never = ⊎_elim (λ large. absurd (never large)) (λ small. small) (cases_lt (2 ^ 26) (all_cells d))

pub small_ok : {names : RunNames} {stalls : Answers} {held now : Held} {d : Design} {p : Plan}
    {o : Outcome} (l : IsLoaded names held) (made : IsMade names held d p)
    → IsSimulated stalls d p held now (Ok o) → IsSmall l
small_ok {d = d} l made sim = small_of l made (fits d (λ large. (sim.too_many large).2))

pub small_err : {names : RunNames} {stalls : Answers} {held now : Held} {d : Design} {p : Plan}
    {stop : Stop} (l : IsLoaded names held) (made : IsMade names held d p)
    → IsSimulated stalls d p held now (Err stop) → ((n : ℕ) → stop ≡ stops.TooManyCells n → ⊥)
    → (stop ≡ stops.NoMemory → ⊥) → IsSmall l
small_err {d = d} l made sim many memory =
    small_of l made (fits d (λ large. ⊎_elim (λ e. many _ e) (λ e. memory e) (sim.too_many large).0))

-- how a run of what is loaded ends is the answer, or the call failed
pub ends_so : {names : RunNames} {stalls : Answers} {held now : Held} {d : Design} {p : Plan}
    {result : Result Outcome Stop} (l : IsLoaded names held) (made : IsMade names held d p)
    → IsSimulated stalls d p held now result → IsSmall l
    → (restart : Families) (vs : List Families) (end : End)
    → Ends stalls (setup l) restart vs end → IsOrFails end result
ends_so {stalls = stalls} l made sim small restart vs end ends =
    let same = same_run l made in
    sim.exact made.can.is.top made.can.is.shape made.can.is.is_top made.can.is.is_run.has (told_loaded l)
    (subst (λ (e : Design). all_cells e ≤ 2 ^ 26) same.designs small) restart vs end
    (subst (λ (s : Setup). Ends stalls s restart vs end) same.setups ends)

-- the contract of `simulate`, where loading changed no file
pub simulated : {stalls : Answers} {d : Design} {p : Plan} {other held now : Held} {result : Result Outcome Stop}
    → other ≡ held
    → ((m : Module) (s : Shape) → top_of d ≡ Some m → HasShape m s → IsSome other → Tells stalls (setup_of d m s p other) p.outputs now result)
    → ((m : Module) (s : Shape) → top_of d ≡ Some m → HasShape m s → IsSome other
    → all_cells d ≤ 2 ^ 26 → (restart : Families) (vs : List Families) (end : End)
    → Ends stalls (setup_of d m s p other) restart vs end → IsOrFails end result)
    → ((n : ℕ) → result ≡ Err (stops.TooManyCells n) → (2 ^ 26 < all_cells d) × (n ≡ min (all_cells d) (2 ^ 64 - 1)))
    → (2 ^ 26 < all_cells d → IfErr result (λ e. (e ≡ stops.TooManyCells (min (all_cells d) (2 ^ 64 - 1))) ⊎ (e ≡ stops.NoMemory)) × (now ≡ other) × OnOk result ⊥)
    → IsSimulated stalls d p held now result
simulated {stalls} {d} {p} {other} {held} {now} {result} same tells exact cells too_many =
    subst (λ (h : Held). IsSimulated stalls d p h now result) same (record { tells = tells; exact = exact; cells = cells; too_many = too_many })
