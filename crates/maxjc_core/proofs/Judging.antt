-- Why the bytes of a source and of a table aren't compiled, by the errors of the code.
use Rattle.std.proofs.Common.{◌≡◌, ◌∙◌, ⊎_elim, ℕ, List, Ok, Err, refl, sym, subst}
use Rattle.std.specs.Prelude.{Option, Some, None}
use Rattle.latency_table.specs.declared.error.TableError.{TableError}
use Rattle.latency_table.specs.declared.error.TableError.TheVariants as table_errors
use Rattle.latency_table.specs.declared.table.Table.{Table}
use Rattle.latency_table.specs.Tables.{Reads}
use Rattle.manager_links.specs.declared.project.Project.{Project}
use Rattle.maxj_syntax.specs.Source.{IsSourceOf}
use Rattle.maxj_syntax.specs.Tree.{ClassTree}
use Rattle.project_build.specs.Causes.{LacksProject, MayLackProject}
use Rattle.project_build.specs.declared.error.ProjectError.{ProjectError}
use Rattle.project_build.specs.declared.error.ProjectError.TheVariants as project_errors
use Rattle.project_check.specs.Refused.{IsNotChecked, IsRefused as IsCheckRefused}
use Rattle.project_check.specs.declared.error.CheckError.{CheckError}
use Rattle.project_check.specs.declared.error.CheckError.TheVariants as check_errors
use Rattle.project_netlists.specs.Refused.{IsRefused}
use Rattle.project_netlists.specs.declared.error.NetlistsError.{NetlistsError}
use Rattle.project_netlists.specs.declared.error.NetlistsError.TheVariants as netlists_errors
use Rattle.stream_graph.specs.declared.kernel.Kernel.{Kernel}
use Rattle.maxjc_core.specs.CompileCauses.{IsOfFiles, netlists_cause}
use Rattle.maxjc_core.specs.CheckCauses.{IsOfCheck}
use Rattle.maxjc_core.specs.CauseLines.{Cause}
use Rattle.maxjc_core.specs.Projects.{IsProjectOf, MakesNoProject}
use Rattle.maxjc_core.specs.ErrorCauses.{IfCause, table_cause, project_cause, report_cause}
use Rattle.maxjc_core.specs.CompileStops.{IfRefused}
use Rattle.maxjc_core.specs.declared.stop.Stop.{Stop}
use Rattle.maxjc_core.proofs.Refusing.{refused-so, some-same}

-- ---- the causes that errors are

some-table : (error : TableError) → (error ≡ table_errors.NoMemory → ⊥)
    → table_cause error ≡ Some (Cause.TableFault error)
some-table table_errors.NoMemory memory = absurd (memory refl)
some-table table_errors.NotJson memory = refl
some-table (table_errors.Shape key) memory = refl
some-table (table_errors.Range op) memory = refl

some-project : (error : ProjectError) → (error ≡ project_errors.NoMemory → ⊥)
    → project_cause error ≡ Some (Cause.NoProject error)
some-project project_errors.NoMemory memory = absurd (memory refl)
some-project (project_errors.Plan error) memory = refl
some-project (project_errors.Kernel error) memory = refl
some-project (project_errors.Graph name error) memory = refl
some-project (project_errors.Links error) memory = refl

some-report : (error : CheckError) → (error ≡ check_errors.NoMemory → ⊥)
    → report_cause error ≡ Some (Cause.NotChecked error)
some-report check_errors.NoMemory memory = absurd (memory refl)
some-report (check_errors.Problem kernel error) memory = refl
some-report (check_errors.NoReport line) memory = refl
some-report (check_errors.Other line) memory = refl
some-report (check_errors.BrokenArc kernel arc) memory = refl
some-report (check_errors.Unbalanced kernel node) memory = refl
some-report (check_errors.CostsDiffer kernel cost value) memory = refl

pub own-table : (error : TableError) → (error ≡ table_errors.NoMemory → ⊥)
    → IfCause (table_cause error) (λ cause. table_cause error ≡ Some cause)
own-table error memory = rw (some-table error memory) refl

pub own-project : (error : ProjectError) → (error ≡ project_errors.NoMemory → ⊥)
    → IfCause (project_cause error) (λ cause. project_cause error ≡ Some cause)
own-project error memory = rw (some-project error memory) refl

pub own-report : (error : CheckError) → (error ≡ check_errors.NoMemory → ⊥)
    → IfCause (report_cause error) (λ cause. report_cause error ≡ Some cause)
own-report error memory = rw (some-report error memory) refl

not-table-memory : (error : TableError) (cause : Cause) → table_cause error ≡ Some cause
    → error ≡ table_errors.NoMemory → ⊥
not-table-memory error cause is e = let none = rw e at is in absurd (cc)

not-project-memory : (error : ProjectError) (cause : Cause) → project_cause error ≡ Some cause
    → error ≡ project_errors.NoMemory → ⊥
not-project-memory error cause is e = let none = rw e at is in absurd (cc)

not-report-memory : (error : CheckError) (cause : Cause) → report_cause error ≡ Some cause
    → error ≡ check_errors.NoMemory → ⊥
not-report-memory error cause is e = let none = rw e at is in absurd (cc)

-- ---- what stops the bytes of a source and of a table

pub of-table : (source table : List ℕ) (stop : Stop) (error : TableError)
    (classes : List ClassTree) → IsSourceOf source classes → Reads table (Err error)
    → IfRefused stop (λ cause. table_cause error ≡ Some cause)
    → IfRefused stop (MakesNoProject source table)
of-table source table stop error classes is reads told =
    refused-so stop (λ cause. table_cause error ≡ Some cause) (MakesNoProject source table)
    (λ cause e.
    let fault = not-table-memory error cause e in
    subst (MakesNoProject source table) (some-same (sym (some-table error fault) ∙ e))
    (MakesNoProject.table_fault error
    (record { classes = classes; is = is; fault = fault; reads = reads }))) told

pub of-build : (source table : List ℕ) (stop : Stop) (error : ProjectError)
    (classes : List ClassTree) (latencies : Table) → IsSourceOf source classes
    → Reads table (Ok latencies) → MayLackProject classes error
    → IfRefused stop (λ cause. project_cause error ≡ Some cause)
    → IfRefused stop (MakesNoProject source table)
of-build source table stop error classes latencies is reads may told =
    refused-so stop (λ cause. project_cause error ≡ Some cause) (MakesNoProject source table)
    (λ cause e.
    let fault = not-project-memory error cause e in
    let lacks : LacksProject classes error = ⊎_elim (λ memory. absurd (fault memory)) (λ l. l) may in
    subst (MakesNoProject source table) (some-same (sym (some-project error fault) ∙ e))
    (MakesNoProject.builds_none error
    (record { classes = classes; is = is; latencies = latencies; reads = reads; lacks = lacks }))) told

-- ---- what stops a project

none-of-memory : (kernels : List Kernel) (error : NetlistsError) (cause : Cause)
    → netlists_cause kernels error ≡ Some cause → error ≡ netlists_errors.NoMemory → ⊥
none-of-memory kernels error cause is e = let none = rw e at is in absurd (cc)

pub of-netlists : (source table : List ℕ) (project : Project) (latencies : Table) (told : Option Cause)
    (error : NetlistsError) → IsProjectOf source table project latencies
    → IsRefused latencies project error
    → IfCause told (λ cause. netlists_cause project.kernels error ≡ Some cause)
    → IfCause told (IsOfFiles source table)
of-netlists source table project latencies (Some cause) error is refused e =
    IsOfFiles.lacks_text project latencies cause is (record {
      error = error;
      has = record { fault = none-of-memory project.kernels error cause e; refused = refused };
      is = e;
    })
of-netlists source table project latencies None error is refused e = e

-- what stops a project before its text stops it
pub of-files : (source table : List ℕ) (stop : Stop)
    → IfRefused stop (MakesNoProject source table) → IfRefused stop (IsOfFiles source table)
of-files source table stop h =
    refused-so stop (MakesNoProject source table) (IsOfFiles source table) IsOfFiles.makes_none h

-- ---- what stops a report

pub of-report : (source table report : List ℕ) (project : Project) (latencies : Table) (stop : Stop)
    (error : CheckError) → IsProjectOf source table project latencies
    → IsCheckRefused latencies project.kernels report error
    → IfRefused stop (λ cause. report_cause error ≡ Some cause)
    → IfRefused stop (IsOfCheck source table report)
of-report source table report project latencies stop error is refused told =
    refused-so stop (λ cause. report_cause error ≡ Some cause) (IsOfCheck source table report)
    (λ cause e.
    let fault = not-report-memory error cause e in
    let not : IsNotChecked latencies project.kernels report error =
    ⊎_elim (λ memory. absurd (fault memory)) (λ l. l) refused in
    subst (IsOfCheck source table report) (some-same (sym (some-report error fault) ∙ e))
    (IsOfCheck.not_checked project latencies error is not)) told
