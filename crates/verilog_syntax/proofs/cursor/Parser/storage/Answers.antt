use Rattle.std.proofs.Common.{◌∙◌, sym, refl}
use Rattle.std.proofs.lemmas.Result.{err_from_is_err_and}
use Rattle.verilog_syntax.specs.Trees.{left}
use Rattle.verilog_syntax.specs.declared.keyword.Piece.TheVariants.{Sign}
use Rattle.verilog_syntax.specs.declared.mark.Mark.TheVariants as marks
use Rattle.verilog_syntax.proofs.Exits.{err_is, failed_fixed, failed, then}
use Rattle.verilog_syntax.proofs.Opened
use Rattle.verilog_syntax.proofs.Plans.{pass, finish, take_left, take_right}
use Rattle.verilog_syntax.proofs.Refusals
use Rattle.verilog_syntax.proofs.cursor.Parser.storage.Goals as goal

pub returns-in_err-expect-clause-exact : goal.returns-in_err-expect-clause-exact
returns-in_err-expect-clause-exact c =
    rw (err_is (err_from_is_err_and c.from_residual.result c.from_residual.ensures.1)) (failed_fixed (Opened.storage_left _ c.requires) c.in_err-expect.ensures.exact)

pub returns-in_err-width-clause-exact : goal.returns-in_err-width-clause-exact
returns-in_err-width-clause-exact c =
    rw (err_is (err_from_is_err_and c.from_residual-in_err-width.result
    c.from_residual-in_err-width.ensures.1)) (failed (λ t g. g)
    (pass (Opened.storage_left _ c.requires) c.in_ok-expect.ensures.exact)
    c.in_err-width.ensures.exact)

pub returns-in_err-name-clause-exact : goal.returns-in_err-name-clause-exact
returns-in_err-name-clause-exact c =
    rw (err_is (err_from_is_err_and c.from_residual-in_err-name.result
    c.from_residual-in_err-name.ensures.1)) (failed (λ t g. g)
    (then (λ t g. g) (pass
    (Opened.storage_left _ c.requires) c.in_ok-expect.ensures.exact)
    c.in_ok-width.ensures.exact) c.in_err-name.ensures.exact)

pub returns-in_err-expect-2-clause-exact : goal.returns-in_err-expect-2-clause-exact
returns-in_err-expect-2-clause-exact c =
    rw (err_is (err_from_is_err_and c.from_residual-in_err-expect-2.result
    c.from_residual-in_err-expect-2.ensures.1)) (failed_fixed
    (take_left (then (λ t g. g) (then (λ t g. g) (pass
    (Opened.storage_left _ c.requires) c.in_ok-expect.ensures.exact)
    c.in_ok-width.ensures.exact) c.in_ok-name.ensures.exact)
    (Refusals.no_piece (Sign marks.Semicolon) (Refusals.other (Sign marks.OpenBracket)
    (Sign marks.Semicolon) (left c.name.new.self)
    (sym c.begins.ensures ∙ c.if-begins.true) refl))) c.in_err-expect-2.ensures.exact)

pub returns-in_err-last-clause-exact : goal.returns-in_err-last-clause-exact
returns-in_err-last-clause-exact c =
    rw (err_is (err_from_is_err_and c.from_residual-in_err-last.result
    c.from_residual-in_err-last.ensures.1)) (failed (λ t g. g)
    (pass (take_left (then (λ t g. g) (then (λ t g. g)
    (pass (Opened.storage_left _ c.requires) c.in_ok-expect.ensures.exact)
    c.in_ok-width.ensures.exact) c.in_ok-name.ensures.exact)
    (Refusals.no_piece (Sign marks.Semicolon) (Refusals.other (Sign marks.OpenBracket)
    (Sign marks.Semicolon) (left c.name.new.self)
    (sym c.begins.ensures ∙ c.if-begins.true) refl))) c.in_ok-expect-2.ensures.exact)
    c.in_err-last.ensures.exact)

pub returns-in_err-expect-3-clause-exact : goal.returns-in_err-expect-3-clause-exact
returns-in_err-expect-3-clause-exact c =
    rw (err_is (err_from_is_err_and c.from_residual-in_err-expect-3.result
    c.from_residual-in_err-expect-3.ensures.1)) (failed_fixed
    (then (λ t g. g) (pass (take_left (then (λ t g. g)
    (then (λ t g. g) (pass
    (Opened.storage_left _ c.requires) c.in_ok-expect.ensures.exact)
    c.in_ok-width.ensures.exact) c.in_ok-name.ensures.exact)
    (Refusals.no_piece (Sign marks.Semicolon) (Refusals.other (Sign marks.OpenBracket)
    (Sign marks.Semicolon) (left c.name.new.self)
    (sym c.begins.ensures ∙ c.if-begins.true) refl))) c.in_ok-expect-2.ensures.exact)
    c.in_ok-last.ensures.exact) c.in_err-expect-3.ensures.exact)

pub returns-then-begins-clause-exact : goal.returns-then-begins-clause-exact
returns-then-begins-clause-exact c =
    finish (pass (then (λ t g. g) (pass (take_left (then (λ t g. g)
    (then (λ t g. g) (pass
    (Opened.storage_left _ c.requires) c.in_ok-expect.ensures.exact)
    c.in_ok-width.ensures.exact) c.in_ok-name.ensures.exact)
    (Refusals.no_piece (Sign marks.Semicolon) (Refusals.other (Sign marks.OpenBracket)
    (Sign marks.Semicolon) (left c.name.new.self)
    (sym c.begins.ensures ∙ c.if-begins.true) refl))) c.in_ok-expect-2.ensures.exact)
    c.in_ok-last.ensures.exact) c.in_ok-expect-3.ensures.exact)

pub returns-in_err-expect-4-clause-exact : goal.returns-in_err-expect-4-clause-exact
returns-in_err-expect-4-clause-exact c =
    rw (err_is (err_from_is_err_and c.from_residual-in_err-expect-4.result
    c.from_residual-in_err-expect-4.ensures.1)) (failed_fixed
    (take_right (then (λ t g. g) (then (λ t g. g) (pass
    (Opened.storage_left _ c.requires) c.in_ok-expect.ensures.exact)
    c.in_ok-width.ensures.exact) c.in_ok-name.ensures.exact)
    (Refusals.no_piece (Sign marks.OpenBracket)
    (sym c.begins.ensures ∙ c.if-begins.false))) c.in_err-expect-4.ensures.exact)

pub returns-clause-exact : goal.returns-clause-exact
returns-clause-exact c =
    finish (pass (take_right (then (λ t g. g) (then (λ t g. g)
    (pass (Opened.storage_left _ c.requires) c.in_ok-expect.ensures.exact)
    c.in_ok-width.ensures.exact) c.in_ok-name.ensures.exact)
    (Refusals.no_piece (Sign marks.OpenBracket)
    (sym c.begins.ensures ∙ c.if-begins.false))) c.in_ok-expect-4.ensures.exact)
