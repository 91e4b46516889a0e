use Rattle.std.proofs.lemmas.Result.{err_from_is_err_and}
use Rattle.verilog_syntax.proofs.Exits.{err_is, failed_fixed, failed, then}
use Rattle.verilog_syntax.proofs.Plans.{begin, pass, finish}
use Rattle.verilog_syntax.proofs.Productions.{range_plans}
use Rattle.verilog_syntax.proofs.cursor.Parser.range.Goals as goal

pub returns-in_err-expect-clause-exact : goal.returns-in_err-expect-clause-exact
returns-in_err-expect-clause-exact c =
    rw (err_is (err_from_is_err_and c.from_residual.result c.from_residual.ensures.1)) (failed_fixed (begin range_plans _) c.in_err-expect.ensures.exact)

pub returns-in_err-high-clause-exact : goal.returns-in_err-high-clause-exact
returns-in_err-high-clause-exact c =
    rw (err_is (err_from_is_err_and c.from_residual-in_err-high.result
    c.from_residual-in_err-high.ensures.1)) (failed (λ t g. g)
    (pass (begin range_plans _) c.in_ok-expect.ensures.exact) c.in_err-high.ensures.exact)

pub returns-in_err-expect-2-clause-exact : goal.returns-in_err-expect-2-clause-exact
returns-in_err-expect-2-clause-exact c =
    rw (err_is (err_from_is_err_and c.from_residual-in_err-expect-2.result
    c.from_residual-in_err-expect-2.ensures.1)) (failed_fixed
    (then (λ t g. g) (pass
    (begin range_plans _) c.in_ok-expect.ensures.exact) c.in_ok-high.ensures.exact)
    c.in_err-expect-2.ensures.exact)

pub returns-clause-exact : goal.returns-clause-exact
returns-clause-exact c =
    finish (pass (then (λ t g. g) (pass (begin range_plans _) c.in_ok-expect.ensures.exact) c.in_ok-high.ensures.exact) c.in_ok-expect-2.ensures.exact)
