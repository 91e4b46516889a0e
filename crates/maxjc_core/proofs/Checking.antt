-- What checking a report answers, from what is made of the bytes of a project and of a report.
use Rattle.std.proofs.Common.{ℕ, List}
use Rattle.std.specs.Prelude.{IsSome}
use Rattle.manager_links.specs.declared.project.Project.{Project}
use Rattle.mx_base.specs.Files.{Held}
use Rattle.schedule_report.specs.declared.report.Report.{Report}
use Rattle.maxjc_core.specs.Command.{CheckNames}
use Rattle.maxjc_core.specs.CheckCauses.{IsOfCheck, IsCheckable, CheckStands}
use Rattle.maxjc_core.specs.Checking.{IsShowing, Checks, IsChecked}
use Rattle.maxjc_core.specs.CheckStops.{AreInputs, ShowsAs}
use Rattle.maxjc_core.specs.Projects.{MakesNoProject}
use Rattle.maxjc_core.specs.CompileStops.{IfRefused}
use Rattle.maxjc_core.specs.declared.stop.Stop.{Stop}
use Rattle.maxjc_core.proofs.Answering.{readable}
use Rattle.maxjc_core.proofs.Refusing.{refused-so}

-- what stops a project stops a report on it
pub of-project : (source table report : List ℕ) (stop : Stop)
    → IfRefused stop (MakesNoProject source table) → IfRefused stop (IsOfCheck source table report)
of-project source table report stop h =
    refused-so stop (MakesNoProject source table) (IsOfCheck source table report) IsOfCheck.makes_none h

-- a report that is shown, on the project that was built
abbrev pub showing : (source table bytes : List ℕ) (project : Project) (report : Report)
    → ShowsAs source table bytes project report → IsShowing source table bytes
showing source table bytes project report s = record {
  project = project;
  latencies = s.latencies;
  is = s.is;
  report = report;
  checked = s.checked;
}

-- the bytes that were read are those of the files
abbrev pub checkable : (names : CheckNames) (held : Held) (source table report : List ℕ)
    → AreInputs names held source table report → IsCheckable names held
checkable names held source table report are = record {
  project = readable names.source names.table held source table are.project;
  report = report;
  report_is = are.report_is;
}

-- what is said of the bytes is said of the files
pub checked-of : (names : CheckNames) (held : Held) (source table report line : List ℕ)
    → (IsSome held → AreInputs names held source table report)
    → Checks source table report line → IsSome held → IsChecked names held line
checked-of names held source table report line are checks told = record {
  files = checkable names held source table report (are told);
  checks = checks;
}

-- and what they are refused for
pub stands-of : (names : CheckNames) (held : Held) (source table report : List ℕ) (stop : Stop)
    → (IsSome held → AreInputs names held source table report)
    → IfRefused stop (IsOfCheck source table report)
    → IfRefused stop (λ cause. IsSome held → CheckStands names held cause)
stands-of names held source table report stop are refused =
    refused-so stop (IsOfCheck source table report) (λ cause. IsSome held → CheckStands names held cause)
    (λ cause is told. CheckStands.of_files (checkable names held source table report (are told)) cause is)
    refused
