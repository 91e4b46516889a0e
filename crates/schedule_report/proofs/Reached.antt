-- A stage that the lines of a text lead to, and what the text is where it goes on no further.
use Rattle.std.proofs.Common.{◌≡◌, ◌∙◌, ℕ, ◌+◌, ◌≤◌, List, [], ◌∷◌, ◌++◌, length, refl, sym, ap, subst, arith, append_assoc, length-append}
use Rattle.std.specs.Prelude.{Contains}
use Rattle.std.proofs.lemmas.List.{append-nil}
use Rattle.schedule_report.specs.declared.report.Report.{Report}
use Rattle.schedule_report.specs.declared.stage.Stage.{Stage}
use Rattle.schedule_report.specs.declared.stage.Stage.TheVariants.{Start, Done}
use Rattle.schedule_report.specs.Reading.{Says, Begins, IsFirstWrong}
use Rattle.schedule_report.specs.Reports.{report_lines, text_of}
use Rattle.schedule_report.specs.Stages.{IsStage, lines_of, Next, Runs}
use Rattle.schedule_report.proofs.Feeds.{IsPlain, ArePlain, plain_lines, plain_report, plain_from, plain_no_line, line_same, text_more, text_splits}
use Rattle.schedule_report.proofs.Runs.{runs_same, runs_split, runs_append, report_runs}
use Rattle.schedule_report.proofs.Stages.{next_grows}
use Rattle.schedule_report.proofs.Completing.{completed}

-- the lines of the stage stand before the rest of the text, which begins with the line of this number
pub record IsReached (bytes : List ℕ) (stage : Stage) (rest : List ℕ) (number : ℕ) : Type 0 where
  pub legal : IsStage stage
  pub runs : Runs Start (lines_of stage) stage
  pub plain : ArePlain (lines_of stage)
  pub bytes_are : bytes ≡ text_of (lines_of stage) ++ rest
  pub counted : number ≡ length (lines_of stage) + 1
  pub within : number + length rest ≤ length bytes + 1

-- before the first line
pub reached_first : (bytes : List ℕ) → IsReached bytes Start bytes 1
reached_first bytes = record { legal = tt; runs = refl; plain = tt; bytes_are = refl; counted = refl; within = omega arith }

-- a line that leads on
pub reached_next : (bytes : List ℕ) (s t : Stage) (rest line back : List ℕ) (number : ℕ) → IsReached bytes s rest number → rest ≡ line ++ 10 ∷ back
    → IsPlain line → Next s line t → IsReached bytes t back (number + 1)
reached_next bytes s t rest line back number r e p n =
    let g = next_grows s line t r.legal n in
    let c = r.counted in
    let w = r.within in
    let longer = ap length e in
    let sum = length-append line (10 ∷ back) in
    let more = ap length g.lines in
    let sum2 = length-append (lines_of s) (line ∷ []) in
    record {
      legal = g.legal;
      runs = subst (λ l. Runs Start l t) (sym g.lines) (runs_append Start (lines_of s) (line ∷ []) s t r.runs (t, n, refl));
      plain = subst ArePlain (sym g.lines) (plain_lines (lines_of s) (line ∷ []) r.plain (p, tt));
      bytes_are = r.bytes_are ∙ ap (λ l. text_of (lines_of s) ++ l) e ∙ sym (text_more (lines_of s) line back) ∙ ap (λ l. text_of l ++ back) (sym g.lines);
      counted = omega arith;
      within = omega arith;
    }

-- where some report goes on with a line, it leads on
leads : (s : Stage) (line : List ℕ) → Runs Start (lines_of s) s → Begins (lines_of s ++ line ∷ []) → (t : Stage) × Next s line t
leads s line runs b =
    let whole : Runs Start ((lines_of s ++ line ∷ []) ++ b.rest) (Done b.report.kernels) =
    subst (λ l. Runs Start l (Done b.report.kernels)) b.lines_are (report_runs b.report b.is) in
    let (m, front, _) = runs_split Start (lines_of s ++ line ∷ []) b.rest (Done b.report.kernels) whole in
    let (u, before, next) = runs_split Start (lines_of s) (line ∷ []) m front in
    let same : u ≡ s = runs_same Start (lines_of s) u s before runs in
    (next.0, subst (λ v. Next v line next.0) same next.1)

-- a line that leads nowhere is the first wrong one
pub wrong_line : (bytes : List ℕ) (s : Stage) (rest line back : List ℕ) (number : ℕ) → IsReached bytes s rest number → rest ≡ line ++ 10 ∷ back → IsPlain line
    → ((t : Stage) → Next s line t → ⊥) → IsFirstWrong bytes number
wrong_line bytes s rest line back number r e p nowhere = record {
  before = lines_of s;
  here = rest;
  bytes_are = r.bytes_are;
  counted = r.counted;
  right = completed s r.legal;
  none = none;
  wrong = wrong;
}
  where
    stops : (line2 : List ℕ) → line2 ≡ line → Begins (lines_of s ++ line2 ∷ []) → ⊥
    stops line2 same b =
        let (t, n) = leads s line2 r.runs b in
        nowhere t (subst (λ l. Next s l t) same n)

    none : (q : Report) → Says bytes q → ⊥
    none q says =
        let text : text_of (report_lines q) ≡ text_of (lines_of s ++ line ∷ []) ++ back =
        sym says.text ∙ r.bytes_are ∙ ap (λ l. text_of (lines_of s) ++ l) e ∙ sym (text_more (lines_of s) line back) in
        let (more, f, _) =
        text_splits (lines_of s ++ line ∷ []) (report_lines q) back (plain_lines (lines_of s) (line ∷ []) r.plain (p, tt)) (plain_report q says.is) text in
        stops line refl (record { report = q; is = says.is; rest = more; lines_are = f })

    wrong : (line2 after : List ℕ) → rest ≡ line2 ++ 10 ∷ after → (Contains line2 10 → ⊥) → Begins (lines_of s ++ line2 ∷ []) → ⊥
    wrong line2 after f plain b = stops line2 (line_same line2 line after back (plain_from line2 plain) p (sym f ∙ e)).0 b

-- a text that ends too early, or goes on without an end of its line
pub wrong_end : (bytes : List ℕ) (s : Stage) (rest : List ℕ) (number : ℕ) → IsReached bytes s rest number → IsPlain rest
    → ((q : Report) → rest ≡ [] → s ≡ Done q.kernels → ⊥) → IsFirstWrong bytes number
wrong_end bytes s rest number r p unended = record {
  before = lines_of s;
  here = rest;
  bytes_are = r.bytes_are;
  counted = r.counted;
  right = completed s r.legal;
  none = none;
  wrong = λ line after e plain b. plain_no_line rest line after p e;
}
  where
    no_more : (more : List (List ℕ)) → text_of more ≡ rest → more ≡ []
    no_more [] e = refl
    no_more (m ∷ more) e = absurd (plain_no_line rest m (text_of more) p (sym e ∙ append_assoc m (10 ∷ []) (text_of more)))

    none : (q : Report) → Says bytes q → ⊥
    none q says =
        let (more, f, g) = text_splits (lines_of s) (report_lines q) rest r.plain (plain_report q says.is) (sym says.text ∙ r.bytes_are) in
        let nil = no_more more g in
        let same : report_lines q ≡ lines_of s = f ∙ ap (λ l. lines_of s ++ l) nil ∙ append-nil (lines_of s) in
        let run : Runs Start (lines_of s) (Done q.kernels) = subst (λ l. Runs Start l (Done q.kernels)) same (report_runs q says.is) in
        unended q (sym g ∙ ap text_of nil) (runs_same Start (lines_of s) s (Done q.kernels) r.runs run)

-- a text that ends behind its last line
pub right_end : (bytes : List ℕ) (s : Stage) (number : ℕ) (q : Report) → IsReached bytes s [] number → s ≡ Done q.kernels → Says bytes q
right_end bytes s number q r e = record {
  is = subst IsStage e r.legal;
  text = r.bytes_are ∙ append-nil (text_of (lines_of s)) ∙ ap (λ t. text_of (lines_of t)) e;
}
