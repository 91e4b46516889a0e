-- A text says one report.
use Rattle.std.proofs.Common.{◌≡◌, ◌∙◌, ℕ, List, [], ◌∷◌, ◌++◌, refl, sym, ap, subst}
use Rattle.std.proofs.lemmas.List.{append-nil}
use Rattle.schedule_report.specs.declared.report.Report.{Report}
use Rattle.schedule_report.specs.declared.report.ReportKernel.{ReportKernel}
use Rattle.schedule_report.specs.declared.stage.Stage.TheVariants.{Start, Done}
use Rattle.schedule_report.specs.Law.{TextsDiffer}
use Rattle.schedule_report.specs.Reports.{report_lines, text_of}
use Rattle.schedule_report.specs.Stages.{Runs}
use Rattle.schedule_report.proofs.Feeds.{plain_report, text_splits}
use Rattle.schedule_report.proofs.Runs.{runs_same, report_runs}

-- the empty text has no line
no_lines : (lines : List (List ℕ)) → text_of lines ≡ [] → lines ≡ []
no_lines [] e = refl
no_lines ([] ∷ lines) e = absurd (cc)
no_lines ((b ∷ bs) ∷ lines) e = absurd (cc)

-- the report of these kernels
abbrev of_kernels : List ReportKernel → Report
of_kernels ks = record { kernels = ks }

-- one end is of one report
kernels_same : (r s : Report) → Done r.kernels ≡ Done s.kernels → r ≡ s
kernels_same r s e = let same : r.kernels ≡ s.kernels = cc in ap of_kernels same

-- reports with one text have one list of lines, which leads to one end
pub texts_differ : TextsDiffer
texts_differ r s p q e =
    let (more, f, g) =
    text_splits (report_lines s) (report_lines r) [] (plain_report s q) (plain_report r p) (e ∙ sym (append-nil (text_of (report_lines s)))) in
    let same : report_lines r ≡ report_lines s = f ∙ ap (λ l. report_lines s ++ l) (no_lines more g) ∙ append-nil (report_lines s) in
    let run : Runs Start (report_lines s) (Done r.kernels) = subst (λ l. Runs Start l (Done r.kernels)) same (report_runs r p) in
    kernels_same r s (runs_same Start (report_lines s) (Done r.kernels) (Done s.kernels) run (report_runs s q))
