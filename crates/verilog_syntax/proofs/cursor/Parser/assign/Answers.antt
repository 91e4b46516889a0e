use Rattle.std.proofs.lemmas.Result.{err_from_is_err_and}
use Rattle.verilog_syntax.proofs.Exits.{err_is, failed_fixed, failed, failed_read, then}
use Rattle.verilog_syntax.proofs.Opened
use Rattle.verilog_syntax.proofs.Plans.{pass, next, finish}
use Rattle.verilog_syntax.proofs.Refusals
use Rattle.verilog_syntax.proofs.cursor.Parser.assign.Goals as goal

pub returns-in_err-expect-clause-exact : goal.returns-in_err-expect-clause-exact
returns-in_err-expect-clause-exact c =
    rw (err_is (err_from_is_err_and c.from_residual.result c.from_residual.ensures.1)) (failed_fixed (Opened.assign_left _ c.requires) c.in_err-expect.ensures.exact)

pub returns-in_err-name-clause-exact : goal.returns-in_err-name-clause-exact
returns-in_err-name-clause-exact c =
    rw (err_is (err_from_is_err_and c.from_residual-in_err-name.result
    c.from_residual-in_err-name.ensures.1)) (failed (λ t g. g)
    (pass (Opened.assign_left _ c.requires) c.in_ok-expect.ensures.exact)
    c.in_err-name.ensures.exact)

pub returns-in_err-expect-2-clause-exact : goal.returns-in_err-expect-2-clause-exact
returns-in_err-expect-2-clause-exact c =
    rw (err_is (err_from_is_err_and c.from_residual-in_err-expect-2.result
    c.from_residual-in_err-expect-2.ensures.1)) (failed_fixed
    (then (λ t g. g) (pass
    (Opened.assign_left _ c.requires) c.in_ok-expect.ensures.exact)
    c.in_ok-name.ensures.exact) c.in_err-expect-2.ensures.exact)

pub returns-in_err-expr-clause-exact : goal.returns-in_err-expr-clause-exact
returns-in_err-expr-clause-exact c =
    rw (err_is (err_from_is_err_and c.from_residual-in_err-expr.result
    c.from_residual-in_err-expr.ensures.1)) (failed_read (λ b x below e. Refusals.expr_ends)
    (pass (then (λ t g. g) (pass
    (Opened.assign_left _ c.requires) c.in_ok-expect.ensures.exact)
    c.in_ok-name.ensures.exact) c.in_ok-expect-2.ensures.exact) c.in_err-expr.ensures.exact)

pub returns-in_err-expect-3-clause-exact : goal.returns-in_err-expect-3-clause-exact
returns-in_err-expect-3-clause-exact c =
    rw (err_is (err_from_is_err_and c.from_residual-in_err-expect-3.result
    c.from_residual-in_err-expect-3.ensures.1)) (failed_fixed
    (next (λ b x below e. Refusals.expr_ends) (pass
    (then (λ t g. g) (pass
    (Opened.assign_left _ c.requires) c.in_ok-expect.ensures.exact)
    c.in_ok-name.ensures.exact) c.in_ok-expect-2.ensures.exact) c.in_ok-expr.ensures.exact)
    c.in_err-expect-3.ensures.exact)

pub returns-clause-exact : goal.returns-clause-exact
returns-clause-exact c =
    finish (pass (next (λ b x below e. Refusals.expr_ends)
    (pass (then (λ t g. g) (pass
    (Opened.assign_left _ c.requires) c.in_ok-expect.ensures.exact)
    c.in_ok-name.ensures.exact) c.in_ok-expect-2.ensures.exact) c.in_ok-expr.ensures.exact)
    c.in_ok-expect-3.ensures.exact)
