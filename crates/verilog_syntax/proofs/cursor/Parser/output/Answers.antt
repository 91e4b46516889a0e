use Rattle.std.proofs.lemmas.Result.{err_from_is_err_and}
use Rattle.verilog_syntax.proofs.Exits.{err_is, failed_fixed, failed, then}
use Rattle.verilog_syntax.proofs.Opened
use Rattle.verilog_syntax.proofs.Plans.{pass, finish}
use Rattle.verilog_syntax.proofs.cursor.Parser.output.Goals as goal

pub returns-in_err-expect-clause-exact : goal.returns-in_err-expect-clause-exact
returns-in_err-expect-clause-exact c =
    rw (err_is (err_from_is_err_and c.from_residual.result c.from_residual.ensures.1)) (failed_fixed (Opened.output_left _ c.requires) c.in_err-expect.ensures.exact)

pub returns-in_err-width-clause-exact : goal.returns-in_err-width-clause-exact
returns-in_err-width-clause-exact c =
    rw (err_is (err_from_is_err_and c.from_residual-in_err-width.result
    c.from_residual-in_err-width.ensures.1)) (failed (λ t g. g)
    (pass (Opened.output_left _ c.requires) c.in_ok-expect.ensures.exact)
    c.in_err-width.ensures.exact)

pub returns-in_err-name-clause-exact : goal.returns-in_err-name-clause-exact
returns-in_err-name-clause-exact c =
    rw (err_is (err_from_is_err_and c.from_residual-in_err-name.result
    c.from_residual-in_err-name.ensures.1)) (failed (λ t g. g)
    (then (λ t g. g) (pass
    (Opened.output_left _ c.requires) c.in_ok-expect.ensures.exact)
    c.in_ok-width.ensures.exact) c.in_err-name.ensures.exact)

pub returns-clause-exact : goal.returns-clause-exact
returns-clause-exact c =
    finish (then (λ t g. g) (then (λ t g. g) (pass (Opened.output_left _ c.requires) c.in_ok-expect.ensures.exact) c.in_ok-width.ensures.exact) c.in_ok-name.ensures.exact)
