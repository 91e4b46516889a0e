-- Which bytes are a report, and the first line of others that no report has.
use Rattle.std.specs.Prelude.{◌≡◌, ℕ, ◌+◌, List, [], ◌∷◌, ◌++◌, length, Contains}
use Rattle.schedule_report.specs.declared.report.Report.{Report}
use Rattle.schedule_report.specs.declared.error.ReportError.{ReportError}
use Rattle.schedule_report.specs.declared.error.ReportError.TheVariants as E
use Rattle.schedule_report.specs.Reports.{IsReport, report_lines, report_text, text_of}

-- the bytes are the text of this report
pub record Says (bytes : List ℕ) (r : Report) : Type 0 where
  pub is : IsReport r
  pub text : bytes ≡ report_text r

-- some report has these lines first
pub record Begins (lines : List (List ℕ)) : Type 0 where
  pub report : Report
  pub is : IsReport report
  pub rest : List (List ℕ)
  pub lines_are : report_lines report ≡ lines ++ rest

-- The line with this number, from 1, is the first that no report has after the lines before it. A
-- line without its end is none; where the bytes end too early, it is the line after the last one.
pub record IsFirstWrong (bytes : List ℕ) (number : ℕ) : Type 0 where
  pub before : List (List ℕ)
  pub here : List ℕ
  pub bytes_are : bytes ≡ text_of before ++ here
  pub counted : number ≡ length before + 1
  pub right : Begins before
  pub none : (r : Report) → Says bytes r → ⊥
  pub wrong :
      (line after : List ℕ)
      → here ≡ line ++ 10 ∷ after
      → (Contains line 10 → ⊥)
      → Begins (before ++ line ∷ [])
      → ⊥

-- why bytes are no report: want of memory says nothing
abbrev pub IsRefused : List ℕ → ReportError → Type 0
IsRefused bytes (E.Shape number) = IsFirstWrong bytes number
IsRefused bytes E.NoMemory = Unit {0}
