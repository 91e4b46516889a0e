use Rattle.std.proofs.lemmas.Result.{err_from_is_err_and}
use Rattle.verilog_syntax.proofs.Exits.{err_is, failed_fixed, failed_read}
use Rattle.verilog_syntax.proofs.Opened
use Rattle.verilog_syntax.proofs.Plans.{pass, next, finish}
use Rattle.verilog_syntax.proofs.Loops
use Rattle.verilog_syntax.proofs.cursor.Parser.always.Goals as goal

pub returns-in_err-expect-clause-exact : goal.returns-in_err-expect-clause-exact
returns-in_err-expect-clause-exact c =
    rw (err_is (err_from_is_err_and c.from_residual.result c.from_residual.ensures.1)) (failed_fixed (Opened.always_left _ c.requires) c.in_err-expect.ensures.exact)

pub returns-in_err-updates-clause-exact : goal.returns-in_err-updates-clause-exact
returns-in_err-updates-clause-exact c =
    rw (err_is (err_from_is_err_and c.from_residual-in_err-updates.result
    c.from_residual-in_err-updates.ensures.1)) (failed_read
    (λ b x below e. Loops.updates_end) (pass
    (Opened.always_left _ c.requires) c.in_ok-expect.ensures.exact)
    c.in_err-updates.ensures.exact)

pub returns-in_err-expect-2-clause-exact : goal.returns-in_err-expect-2-clause-exact
returns-in_err-expect-2-clause-exact c =
    rw (err_is (err_from_is_err_and c.from_residual-in_err-expect-2.result
    c.from_residual-in_err-expect-2.ensures.1)) (failed_fixed
    (next (λ b x below e. Loops.updates_end) (pass
    (Opened.always_left _ c.requires) c.in_ok-expect.ensures.exact)
    c.in_ok-updates.ensures.exact) c.in_err-expect-2.ensures.exact)

pub returns-clause-exact : goal.returns-clause-exact
returns-clause-exact c =
    finish (pass (next (λ b x below e. Loops.updates_end) (pass (Opened.always_left _ c.requires) c.in_ok-expect.ensures.exact) c.in_ok-updates.ensures.exact) c.in_ok-expect-2.ensures.exact)
