use Rattle.std.proofs.Common.{◌∙◌, sym}
use Rattle.std.proofs.lemmas.Result.{err_from_is_err_and}
use Rattle.verilog_syntax.proofs.Exits.{err_is, failed_fixed, failed, then}
use Rattle.verilog_syntax.proofs.Opened
use Rattle.verilog_syntax.proofs.Plans.{pass, finish, take_left, take_right}
use Rattle.verilog_syntax.proofs.Refusals
use Rattle.verilog_syntax.proofs.cursor.Parser.braces.Goals as goal

pub returns-in_err-expect-clause-exact : goal.returns-in_err-expect-clause-exact
returns-in_err-expect-clause-exact c =
    rw (err_is (err_from_is_err_and c.from_residual.result c.from_residual.ensures.1)) (failed_fixed (Opened.braces_left _ c.requires) c.in_err-expect.ensures.exact)

pub returns-in_err-high-clause-exact : goal.returns-in_err-high-clause-exact
returns-in_err-high-clause-exact c =
    rw (err_is (err_from_is_err_and c.from_residual-in_err-high.result
    c.from_residual-in_err-high.ensures.1)) (failed (λ t g. g)
    (take_left (pass (Opened.braces_left _ c.requires) c.in_ok-expect.ensures.exact)
    (Refusals.name_not_number
    (sym c.starts_name.ensures ∙ c.if-starts_name.true))) c.in_err-high.ensures.exact)

pub returns-in_err-expect-2-clause-exact : goal.returns-in_err-expect-2-clause-exact
returns-in_err-expect-2-clause-exact c =
    rw (err_is (err_from_is_err_and c.from_residual-in_err-expect-2.result
    c.from_residual-in_err-expect-2.ensures.1)) (failed_fixed
    (then (λ t g. g) (take_left (pass
    (Opened.braces_left _ c.requires) c.in_ok-expect.ensures.exact)
    (Refusals.name_not_number
    (sym c.starts_name.ensures ∙ c.if-starts_name.true))) c.in_ok-high.ensures.exact)
    c.in_err-expect-2.ensures.exact)

pub returns-in_err-low-clause-exact : goal.returns-in_err-low-clause-exact
returns-in_err-low-clause-exact c =
    rw (err_is (err_from_is_err_and c.from_residual-in_err-low.result
    c.from_residual-in_err-low.ensures.1)) (failed (λ t g. g)
    (pass (then (λ t g. g) (take_left (pass
    (Opened.braces_left _ c.requires) c.in_ok-expect.ensures.exact)
    (Refusals.name_not_number
    (sym c.starts_name.ensures ∙ c.if-starts_name.true))) c.in_ok-high.ensures.exact)
    c.in_ok-expect-2.ensures.exact) c.in_err-low.ensures.exact)

pub returns-in_err-expect-3-clause-exact : goal.returns-in_err-expect-3-clause-exact
returns-in_err-expect-3-clause-exact c =
    rw (err_is (err_from_is_err_and c.from_residual-in_err-expect-3.result
    c.from_residual-in_err-expect-3.ensures.1)) (failed_fixed
    (then (λ t g. g) (pass (then (λ t g. g) (take_left
    (pass (Opened.braces_left _ c.requires) c.in_ok-expect.ensures.exact)
    (Refusals.name_not_number
    (sym c.starts_name.ensures ∙ c.if-starts_name.true))) c.in_ok-high.ensures.exact)
    c.in_ok-expect-2.ensures.exact) c.in_ok-low.ensures.exact) c.in_err-expect-3.ensures.exact)

pub returns-then-starts_name-clause-exact : goal.returns-then-starts_name-clause-exact
returns-then-starts_name-clause-exact c =
    finish (pass (then (λ t g. g) (pass (then (λ t g. g)
    (take_left (pass (Opened.braces_left _ c.requires) c.in_ok-expect.ensures.exact)
    (Refusals.name_not_number
    (sym c.starts_name.ensures ∙ c.if-starts_name.true))) c.in_ok-high.ensures.exact)
    c.in_ok-expect-2.ensures.exact) c.in_ok-low.ensures.exact) c.in_ok-expect-3.ensures.exact)

pub returns-in_err-times-clause-exact : goal.returns-in_err-times-clause-exact
returns-in_err-times-clause-exact c =
    rw (err_is (err_from_is_err_and c.from_residual-in_err-times.result
    c.from_residual-in_err-times.ensures.1)) (failed (λ t g. g)
    (take_right (pass (Opened.braces_left _ c.requires) c.in_ok-expect.ensures.exact)
    (Refusals.not_name (sym c.starts_name.ensures ∙ c.if-starts_name.false)))
    c.in_err-times.ensures.exact)

pub returns-in_err-expect-4-clause-exact : goal.returns-in_err-expect-4-clause-exact
returns-in_err-expect-4-clause-exact c =
    rw (err_is (err_from_is_err_and c.from_residual-in_err-expect-4.result
    c.from_residual-in_err-expect-4.ensures.1)) (failed_fixed
    (then (λ t g. g) (take_right (pass
    (Opened.braces_left _ c.requires) c.in_ok-expect.ensures.exact)
    (Refusals.not_name (sym c.starts_name.ensures ∙ c.if-starts_name.false)))
    c.in_ok-times.ensures.exact) c.in_err-expect-4.ensures.exact)

pub returns-in_err-name-clause-exact : goal.returns-in_err-name-clause-exact
returns-in_err-name-clause-exact c =
    rw (err_is (err_from_is_err_and c.from_residual-in_err-name.result
    c.from_residual-in_err-name.ensures.1)) (failed (λ t g. g)
    (pass (then (λ t g. g) (take_right (pass
    (Opened.braces_left _ c.requires) c.in_ok-expect.ensures.exact)
    (Refusals.not_name (sym c.starts_name.ensures ∙ c.if-starts_name.false)))
    c.in_ok-times.ensures.exact) c.in_ok-expect-4.ensures.exact) c.in_err-name.ensures.exact)

pub returns-in_err-expect-5-clause-exact : goal.returns-in_err-expect-5-clause-exact
returns-in_err-expect-5-clause-exact c =
    rw (err_is (err_from_is_err_and c.from_residual-in_err-expect-5.result
    c.from_residual-in_err-expect-5.ensures.1)) (failed_fixed
    (then (λ t g. g) (pass (then (λ t g. g) (take_right
    (pass (Opened.braces_left _ c.requires) c.in_ok-expect.ensures.exact)
    (Refusals.not_name (sym c.starts_name.ensures ∙ c.if-starts_name.false)))
    c.in_ok-times.ensures.exact) c.in_ok-expect-4.ensures.exact) c.in_ok-name.ensures.exact)
    c.in_err-expect-5.ensures.exact)

pub returns-clause-exact : goal.returns-clause-exact
returns-clause-exact c =
    finish (pass (then (λ t g. g) (pass (then (λ t g. g)
    (take_right (pass (Opened.braces_left _ c.requires) c.in_ok-expect.ensures.exact)
    (Refusals.not_name (sym c.starts_name.ensures ∙ c.if-starts_name.false)))
    c.in_ok-times.ensures.exact) c.in_ok-expect-4.ensures.exact) c.in_ok-name.ensures.exact)
    c.in_ok-expect-5.ensures.exact)
