use Rattle.std.proofs.Common.{◌∙◌, sym}
use Rattle.std.proofs.lemmas.Result.{err_from_is_err_and}
use Rattle.verilog_syntax.proofs.Exits.{err_is, failed, then}
use Rattle.verilog_syntax.proofs.Opened
use Rattle.verilog_syntax.proofs.Plans.{finish}
use Rattle.verilog_syntax.proofs.cursor.Parser.expr.Goals as goal

pub returns-in_err-word-clause-exact : goal.returns-in_err-word-clause-exact
returns-in_err-word-clause-exact c =
    rw (err_is (err_from_is_err_and c.from_residual.result c.from_residual.ensures.1))
    (failed (λ t g. g) (Opened.literal_left _ (sym c.begins.ensures ∙ c.if-begins.false)
    (sym c.begins-2.ensures ∙ c.if-begins-2.false)
    (sym c.starts_name.ensures ∙ c.if-starts_name.false)) c.in_err-word.ensures.exact)

pub returns-clause-exact : goal.returns-clause-exact
returns-clause-exact c =
    finish (then (λ t g. g) (Opened.literal_left _ (sym c.begins.ensures ∙ c.if-begins.false)
    (sym c.begins-2.ensures ∙ c.if-begins-2.false)
    (sym c.starts_name.ensures ∙ c.if-starts_name.false)) c.in_ok-word.ensures.exact)
