use Rattle.std.proofs.lemmas.Result.{err_from_is_err_and}
use Rattle.verilog_syntax.proofs.Exits.{err_is, failed_fixed, failed, failed_read, then}
use Rattle.verilog_syntax.proofs.Plans.{begin, pass, next, finish}
use Rattle.verilog_syntax.proofs.Productions
use Rattle.verilog_syntax.proofs.Loops
use Rattle.verilog_syntax.proofs.cursor.Parser.module.Goals as goal

pub returns-in_err-expect-clause-exact : goal.returns-in_err-expect-clause-exact
returns-in_err-expect-clause-exact c =
    rw (err_is (err_from_is_err_and c.from_residual.result c.from_residual.ensures.1)) (failed_fixed (begin Productions.module_plans _) c.in_err-expect.ensures.exact)

pub returns-in_err-name-clause-exact : goal.returns-in_err-name-clause-exact
returns-in_err-name-clause-exact c =
    rw (err_is (err_from_is_err_and c.from_residual-in_err-name.result
    c.from_residual-in_err-name.ensures.1)) (failed (λ t g. g)
    (pass (begin Productions.module_plans _) c.in_ok-expect.ensures.exact)
    c.in_err-name.ensures.exact)

pub returns-in_err-expect-2-clause-exact : goal.returns-in_err-expect-2-clause-exact
returns-in_err-expect-2-clause-exact c =
    rw (err_is (err_from_is_err_and c.from_residual-in_err-expect-2.result
    c.from_residual-in_err-expect-2.ensures.1)) (failed_fixed
    (then (λ t g. g) (pass
    (begin Productions.module_plans _) c.in_ok-expect.ensures.exact)
    c.in_ok-name.ensures.exact) c.in_err-expect-2.ensures.exact)

pub returns-in_err-ports-clause-exact : goal.returns-in_err-ports-clause-exact
returns-in_err-ports-clause-exact c =
    rw (err_is (err_from_is_err_and c.from_residual-in_err-ports.result
    c.from_residual-in_err-ports.ensures.1)) (failed_read (λ b x below e. Loops.comma_ends)
    (pass (then (λ t g. g) (pass
    (begin Productions.module_plans _) c.in_ok-expect.ensures.exact)
    c.in_ok-name.ensures.exact) c.in_ok-expect-2.ensures.exact) c.in_err-ports.ensures.exact)

pub returns-in_err-expect-3-clause-exact : goal.returns-in_err-expect-3-clause-exact
returns-in_err-expect-3-clause-exact c =
    rw (err_is (err_from_is_err_and c.from_residual-in_err-expect-3.result
    c.from_residual-in_err-expect-3.ensures.1)) (failed_fixed
    (next (λ b x below e. Loops.comma_ends) (pass (then (λ t g. g)
    (pass (begin Productions.module_plans _) c.in_ok-expect.ensures.exact)
    c.in_ok-name.ensures.exact) c.in_ok-expect-2.ensures.exact) c.in_ok-ports.ensures.exact)
    c.in_err-expect-3.ensures.exact)

pub returns-in_err-items-clause-exact : goal.returns-in_err-items-clause-exact
returns-in_err-items-clause-exact c =
    rw (err_is (err_from_is_err_and c.from_residual-in_err-items.result
    c.from_residual-in_err-items.ensures.1)) (failed_read (λ b x below e. Loops.items_end)
    (pass (next (λ b x below e. Loops.comma_ends) (pass
    (then (λ t g. g) (pass
    (begin Productions.module_plans _) c.in_ok-expect.ensures.exact)
    c.in_ok-name.ensures.exact) c.in_ok-expect-2.ensures.exact) c.in_ok-ports.ensures.exact)
    c.in_ok-expect-3.ensures.exact) c.in_err-items.ensures.exact)

pub returns-in_err-expect-4-clause-exact : goal.returns-in_err-expect-4-clause-exact
returns-in_err-expect-4-clause-exact c =
    rw (err_is (err_from_is_err_and c.from_residual-in_err-expect-4.result
    c.from_residual-in_err-expect-4.ensures.1)) (failed_fixed
    (next (λ b x below e. Loops.items_end) (pass (next (λ b x below e. Loops.comma_ends)
    (pass (then (λ t g. g) (pass
    (begin Productions.module_plans _) c.in_ok-expect.ensures.exact)
    c.in_ok-name.ensures.exact) c.in_ok-expect-2.ensures.exact) c.in_ok-ports.ensures.exact)
    c.in_ok-expect-3.ensures.exact) c.in_ok-items.ensures.exact)
    c.in_err-expect-4.ensures.exact)

pub returns-clause-exact : goal.returns-clause-exact
returns-clause-exact c =
    finish (pass (next (λ b x below e. Loops.items_end)
    (pass (next (λ b x below e. Loops.comma_ends) (pass
    (then (λ t g. g) (pass
    (begin Productions.module_plans _) c.in_ok-expect.ensures.exact)
    c.in_ok-name.ensures.exact) c.in_ok-expect-2.ensures.exact) c.in_ok-ports.ensures.exact)
    c.in_ok-expect-3.ensures.exact) c.in_ok-items.ensures.exact) c.in_ok-expect-4.ensures.exact)
