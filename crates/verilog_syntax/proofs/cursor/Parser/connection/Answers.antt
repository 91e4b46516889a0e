use Rattle.std.proofs.lemmas.Result.{err_from_is_err_and}
use Rattle.verilog_syntax.proofs.Exits.{err_is, failed_fixed, failed, then}
use Rattle.verilog_syntax.proofs.Plans.{begin, pass, finish}
use Rattle.verilog_syntax.proofs.Productions
use Rattle.verilog_syntax.proofs.cursor.Parser.connection.Goals as goal

pub returns-in_err-expect-clause-exact : goal.returns-in_err-expect-clause-exact
returns-in_err-expect-clause-exact c =
    rw (err_is (err_from_is_err_and c.from_residual.result c.from_residual.ensures.1)) (failed_fixed (begin Productions.connection_plans _) c.in_err-expect.ensures.exact)

pub returns-in_err-port-clause-exact : goal.returns-in_err-port-clause-exact
returns-in_err-port-clause-exact c =
    rw (err_is (err_from_is_err_and c.from_residual-in_err-port.result
    c.from_residual-in_err-port.ensures.1)) (failed (λ t g. g)
    (pass (begin Productions.connection_plans _) c.in_ok-expect.ensures.exact)
    c.in_err-port.ensures.exact)

pub returns-in_err-expect-2-clause-exact : goal.returns-in_err-expect-2-clause-exact
returns-in_err-expect-2-clause-exact c =
    rw (err_is (err_from_is_err_and c.from_residual-in_err-expect-2.result
    c.from_residual-in_err-expect-2.ensures.1)) (failed_fixed
    (then (λ t g. g) (pass
    (begin Productions.connection_plans _) c.in_ok-expect.ensures.exact)
    c.in_ok-port.ensures.exact) c.in_err-expect-2.ensures.exact)

pub returns-in_err-net-clause-exact : goal.returns-in_err-net-clause-exact
returns-in_err-net-clause-exact c =
    rw (err_is (err_from_is_err_and c.from_residual-in_err-net.result
    c.from_residual-in_err-net.ensures.1)) (failed (λ t g. g)
    (pass (then (λ t g. g) (pass
    (begin Productions.connection_plans _) c.in_ok-expect.ensures.exact)
    c.in_ok-port.ensures.exact) c.in_ok-expect-2.ensures.exact) c.in_err-net.ensures.exact)

pub returns-in_err-expect-3-clause-exact : goal.returns-in_err-expect-3-clause-exact
returns-in_err-expect-3-clause-exact c =
    rw (err_is (err_from_is_err_and c.from_residual-in_err-expect-3.result
    c.from_residual-in_err-expect-3.ensures.1)) (failed_fixed
    (then (λ t g. g) (pass (then (λ t g. g) (pass
    (begin Productions.connection_plans _) c.in_ok-expect.ensures.exact)
    c.in_ok-port.ensures.exact) c.in_ok-expect-2.ensures.exact) c.in_ok-net.ensures.exact)
    c.in_err-expect-3.ensures.exact)

pub returns-clause-exact : goal.returns-clause-exact
returns-clause-exact c =
    finish (pass (then (λ t g. g) (pass (then (λ t g. g)
    (pass (begin Productions.connection_plans _) c.in_ok-expect.ensures.exact)
    c.in_ok-port.ensures.exact) c.in_ok-expect-2.ensures.exact) c.in_ok-net.ensures.exact)
    c.in_ok-expect-3.ensures.exact)
