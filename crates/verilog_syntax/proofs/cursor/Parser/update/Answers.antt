use Rattle.std.proofs.Common.{◌∙◌, sym, refl}
use Rattle.std.proofs.lemmas.Result.{err_from_is_err_and}
use Rattle.verilog_syntax.specs.Trees.{left}
use Rattle.verilog_syntax.specs.declared.keyword.Piece.TheVariants.{Sign}
use Rattle.verilog_syntax.specs.declared.mark.Mark.TheVariants as marks
use Rattle.verilog_syntax.proofs.Exits.{err_is, failed_fixed, failed, then}
use Rattle.verilog_syntax.proofs.Plans.{begin, pass, finish, take_left, take_right}
use Rattle.verilog_syntax.proofs.Productions
use Rattle.verilog_syntax.proofs.Refusals
use Rattle.verilog_syntax.proofs.cursor.Parser.update.Goals as goal

pub returns-in_err-expect-clause-exact : goal.returns-in_err-expect-clause-exact
returns-in_err-expect-clause-exact c =
    rw (err_is (err_from_is_err_and c.from_residual.result c.from_residual.ensures.1)) (failed_fixed (begin Productions.update_plans _) c.in_err-expect.ensures.exact)

pub returns-in_err-enable-clause-exact : goal.returns-in_err-enable-clause-exact
returns-in_err-enable-clause-exact c =
    rw (err_is (err_from_is_err_and c.from_residual-in_err-enable.result
    c.from_residual-in_err-enable.ensures.1)) (failed (λ t g. g)
    (pass (begin Productions.update_plans _) c.in_ok-expect.ensures.exact)
    c.in_err-enable.ensures.exact)

pub returns-in_err-expect-2-clause-exact : goal.returns-in_err-expect-2-clause-exact
returns-in_err-expect-2-clause-exact c =
    rw (err_is (err_from_is_err_and c.from_residual-in_err-expect-2.result
    c.from_residual-in_err-expect-2.ensures.1)) (failed_fixed
    (then (λ t g. g) (pass
    (begin Productions.update_plans _) c.in_ok-expect.ensures.exact)
    c.in_ok-enable.ensures.exact) c.in_err-expect-2.ensures.exact)

pub returns-in_err-target-clause-exact : goal.returns-in_err-target-clause-exact
returns-in_err-target-clause-exact c =
    rw (err_is (err_from_is_err_and c.from_residual-in_err-target.result
    c.from_residual-in_err-target.ensures.1)) (failed (λ t g. g)
    (pass (then (λ t g. g) (pass
    (begin Productions.update_plans _) c.in_ok-expect.ensures.exact)
    c.in_ok-enable.ensures.exact) c.in_ok-expect-2.ensures.exact) c.in_err-target.ensures.exact)

pub returns-in_err-expect-3-clause-exact : goal.returns-in_err-expect-3-clause-exact
returns-in_err-expect-3-clause-exact c =
    rw (err_is (err_from_is_err_and c.from_residual-in_err-expect-3.result
    c.from_residual-in_err-expect-3.ensures.1)) (failed_fixed
    (take_right (then (λ t g. g) (pass (then (λ t g. g)
    (pass (begin Productions.update_plans _) c.in_ok-expect.ensures.exact)
    c.in_ok-enable.ensures.exact) c.in_ok-expect-2.ensures.exact)
    c.in_ok-target.ensures.exact) (Refusals.no_piece (Sign marks.LessEqual)
    (Refusals.other (Sign marks.OpenBracket) (Sign marks.LessEqual) (left c.name-2.new.self)
    (sym c.begins.ensures ∙ c.if-begins.true) refl))) c.in_err-expect-3.ensures.exact)

pub returns-in_err-address-clause-exact : goal.returns-in_err-address-clause-exact
returns-in_err-address-clause-exact c =
    rw (err_is (err_from_is_err_and c.from_residual-in_err-address.result
    c.from_residual-in_err-address.ensures.1)) (failed (λ t g. g)
    (pass (take_right (then (λ t g. g) (pass (then (λ t g. g)
    (pass (begin Productions.update_plans _) c.in_ok-expect.ensures.exact)
    c.in_ok-enable.ensures.exact) c.in_ok-expect-2.ensures.exact)
    c.in_ok-target.ensures.exact) (Refusals.no_piece (Sign marks.LessEqual)
    (Refusals.other (Sign marks.OpenBracket) (Sign marks.LessEqual) (left c.name-2.new.self)
    (sym c.begins.ensures ∙ c.if-begins.true) refl))) c.in_ok-expect-3.ensures.exact)
    c.in_err-address.ensures.exact)

pub returns-in_err-expect-4-clause-exact : goal.returns-in_err-expect-4-clause-exact
returns-in_err-expect-4-clause-exact c =
    rw (err_is (err_from_is_err_and c.from_residual-in_err-expect-4.result
    c.from_residual-in_err-expect-4.ensures.1)) (failed_fixed
    (then (λ t g. g) (pass (take_right (then (λ t g. g)
    (pass (then (λ t g. g) (pass
    (begin Productions.update_plans _) c.in_ok-expect.ensures.exact)
    c.in_ok-enable.ensures.exact) c.in_ok-expect-2.ensures.exact)
    c.in_ok-target.ensures.exact) (Refusals.no_piece (Sign marks.LessEqual)
    (Refusals.other (Sign marks.OpenBracket) (Sign marks.LessEqual) (left c.name-2.new.self)
    (sym c.begins.ensures ∙ c.if-begins.true) refl))) c.in_ok-expect-3.ensures.exact)
    c.in_ok-address.ensures.exact) c.in_err-expect-4.ensures.exact)

pub returns-in_err-value-clause-exact : goal.returns-in_err-value-clause-exact
returns-in_err-value-clause-exact c =
    rw (err_is (err_from_is_err_and c.from_residual-in_err-value.result
    c.from_residual-in_err-value.ensures.1)) (failed (λ t g. g)
    (pass (then (λ t g. g) (pass (take_right (then (λ t g. g)
    (pass (then (λ t g. g) (pass
    (begin Productions.update_plans _) c.in_ok-expect.ensures.exact)
    c.in_ok-enable.ensures.exact) c.in_ok-expect-2.ensures.exact)
    c.in_ok-target.ensures.exact) (Refusals.no_piece (Sign marks.LessEqual)
    (Refusals.other (Sign marks.OpenBracket) (Sign marks.LessEqual) (left c.name-2.new.self)
    (sym c.begins.ensures ∙ c.if-begins.true) refl))) c.in_ok-expect-3.ensures.exact)
    c.in_ok-address.ensures.exact) c.in_ok-expect-4.ensures.exact) c.in_err-value.ensures.exact)

pub returns-in_err-expect-5-clause-exact : goal.returns-in_err-expect-5-clause-exact
returns-in_err-expect-5-clause-exact c =
    rw (err_is (err_from_is_err_and c.from_residual-in_err-expect-5.result
    c.from_residual-in_err-expect-5.ensures.1)) (failed_fixed
    (then (λ t g. g) (pass (then (λ t g. g) (pass (take_right
    (then (λ t g. g) (pass (then (λ t g. g) (pass
    (begin Productions.update_plans _) c.in_ok-expect.ensures.exact)
    c.in_ok-enable.ensures.exact) c.in_ok-expect-2.ensures.exact)
    c.in_ok-target.ensures.exact) (Refusals.no_piece (Sign marks.LessEqual)
    (Refusals.other (Sign marks.OpenBracket) (Sign marks.LessEqual) (left c.name-2.new.self)
    (sym c.begins.ensures ∙ c.if-begins.true) refl))) c.in_ok-expect-3.ensures.exact)
    c.in_ok-address.ensures.exact) c.in_ok-expect-4.ensures.exact)
    c.in_ok-value.ensures.exact) c.in_err-expect-5.ensures.exact)

pub returns-then-begins-clause-exact : goal.returns-then-begins-clause-exact
returns-then-begins-clause-exact c =
    finish (pass (then (λ t g. g) (pass (then (λ t g. g)
    (pass (take_right (then (λ t g. g) (pass (then (λ t g. g)
    (pass (begin Productions.update_plans _) c.in_ok-expect.ensures.exact)
    c.in_ok-enable.ensures.exact) c.in_ok-expect-2.ensures.exact)
    c.in_ok-target.ensures.exact) (Refusals.no_piece (Sign marks.LessEqual)
    (Refusals.other (Sign marks.OpenBracket) (Sign marks.LessEqual) (left c.name-2.new.self)
    (sym c.begins.ensures ∙ c.if-begins.true) refl))) c.in_ok-expect-3.ensures.exact)
    c.in_ok-address.ensures.exact) c.in_ok-expect-4.ensures.exact)
    c.in_ok-value.ensures.exact) c.in_ok-expect-5.ensures.exact)

pub returns-in_err-expect-6-clause-exact : goal.returns-in_err-expect-6-clause-exact
returns-in_err-expect-6-clause-exact c =
    rw (err_is (err_from_is_err_and c.from_residual-in_err-expect-6.result
    c.from_residual-in_err-expect-6.ensures.1)) (failed_fixed
    (take_left (then (λ t g. g) (pass (then (λ t g. g)
    (pass (begin Productions.update_plans _) c.in_ok-expect.ensures.exact)
    c.in_ok-enable.ensures.exact) c.in_ok-expect-2.ensures.exact)
    c.in_ok-target.ensures.exact) (Refusals.no_piece (Sign marks.OpenBracket)
    (sym c.begins.ensures ∙ c.if-begins.false))) c.in_err-expect-6.ensures.exact)

pub returns-in_err-value-2-clause-exact : goal.returns-in_err-value-2-clause-exact
returns-in_err-value-2-clause-exact c =
    rw (err_is (err_from_is_err_and c.from_residual-in_err-value-2.result
    c.from_residual-in_err-value-2.ensures.1)) (failed (λ t g. g)
    (pass (take_left (then (λ t g. g) (pass (then (λ t g. g)
    (pass (begin Productions.update_plans _) c.in_ok-expect.ensures.exact)
    c.in_ok-enable.ensures.exact) c.in_ok-expect-2.ensures.exact)
    c.in_ok-target.ensures.exact) (Refusals.no_piece (Sign marks.OpenBracket)
    (sym c.begins.ensures ∙ c.if-begins.false))) c.in_ok-expect-6.ensures.exact)
    c.in_err-value-2.ensures.exact)

pub returns-in_err-expect-7-clause-exact : goal.returns-in_err-expect-7-clause-exact
returns-in_err-expect-7-clause-exact c =
    rw (err_is (err_from_is_err_and c.from_residual-in_err-expect-7.result
    c.from_residual-in_err-expect-7.ensures.1)) (failed_fixed
    (then (λ t g. g) (pass (take_left (then (λ t g. g)
    (pass (then (λ t g. g) (pass
    (begin Productions.update_plans _) c.in_ok-expect.ensures.exact)
    c.in_ok-enable.ensures.exact) c.in_ok-expect-2.ensures.exact)
    c.in_ok-target.ensures.exact) (Refusals.no_piece (Sign marks.OpenBracket)
    (sym c.begins.ensures ∙ c.if-begins.false))) c.in_ok-expect-6.ensures.exact)
    c.in_ok-value-2.ensures.exact) c.in_err-expect-7.ensures.exact)

pub returns-clause-exact : goal.returns-clause-exact
returns-clause-exact c =
    finish (pass (then (λ t g. g) (pass (take_left (then (λ t g. g)
    (pass (then (λ t g. g) (pass
    (begin Productions.update_plans _) c.in_ok-expect.ensures.exact)
    c.in_ok-enable.ensures.exact) c.in_ok-expect-2.ensures.exact)
    c.in_ok-target.ensures.exact) (Refusals.no_piece (Sign marks.OpenBracket)
    (sym c.begins.ensures ∙ c.if-begins.false))) c.in_ok-expect-6.ensures.exact)
    c.in_ok-value-2.ensures.exact) c.in_ok-expect-7.ensures.exact)
