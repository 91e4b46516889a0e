use Rattle.std.proofs.Common.{◌∙◌, sym}
use Rattle.std.proofs.lemmas.Result.{err_from_is_err_and}
use Rattle.verilog_syntax.specs.declared.keyword.Piece.TheVariants.{Sign}
use Rattle.verilog_syntax.specs.declared.mark.Mark.TheVariants as marks
use Rattle.verilog_syntax.proofs.Exits.{err_is, failed_fixed, failed, then}
use Rattle.verilog_syntax.proofs.Opened
use Rattle.verilog_syntax.proofs.Plans.{pass, finish, take_left, take_right}
use Rattle.verilog_syntax.proofs.Refusals
use Rattle.verilog_syntax.proofs.cursor.Parser.named.Goals as goal

pub returns-in_err-first-clause-exact : goal.returns-in_err-first-clause-exact
returns-in_err-first-clause-exact c =
    rw (err_is (err_from_is_err_and c.from_residual.result c.from_residual.ensures.1)) (failed (λ t g. g) (Opened.named_left _ c.requires) c.in_err-first.ensures.exact)

pub returns-in_err-sign-clause-exact : goal.returns-in_err-sign-clause-exact
returns-in_err-sign-clause-exact c =
    rw (err_is (err_from_is_err_and c.from_residual-in_err-sign.result
    c.from_residual-in_err-sign.ensures.1)) (failed (λ t g. g)
    (take_left (then (λ t g. g)
    (Opened.named_left _ c.requires) c.in_ok-first.ensures.exact)
    (Opened.operator_alone _
    (sym c.begins_operator.ensures ∙ c.if-begins_operator.true))) c.in_err-sign.ensures.exact)

pub returns-in_err-second-clause-exact : goal.returns-in_err-second-clause-exact
returns-in_err-second-clause-exact c =
    rw (err_is (err_from_is_err_and c.from_residual-in_err-second.result
    c.from_residual-in_err-second.ensures.1)) (failed (λ t g. g)
    (then (λ t g. g) (take_left (then (λ t g. g)
    (Opened.named_left _ c.requires) c.in_ok-first.ensures.exact)
    (Opened.operator_alone _
    (sym c.begins_operator.ensures ∙ c.if-begins_operator.true)))
    c.in_ok-sign.ensures.exact) c.in_err-second.ensures.exact)

pub returns-then-begins_operator-clause-exact : goal.returns-then-begins_operator-clause-exact
returns-then-begins_operator-clause-exact c =
    finish (then (λ t g. g) (then (λ t g. g) (take_left
    (then (λ t g. g) (Opened.named_left _ c.requires) c.in_ok-first.ensures.exact)
    (Opened.operator_alone _
    (sym c.begins_operator.ensures ∙ c.if-begins_operator.true)))
    c.in_ok-sign.ensures.exact) c.in_ok-second.ensures.exact)

pub returns-in_err-expect-clause-exact : goal.returns-in_err-expect-clause-exact
returns-in_err-expect-clause-exact c =
    rw (err_is (err_from_is_err_and c.from_residual-in_err-expect.result
    c.from_residual-in_err-expect.ensures.1)) (failed_fixed
    (take_left (take_right (then (λ t g. g)
    (Opened.named_left _ c.requires) c.in_ok-first.ensures.exact)
    (Refusals.not_operator (sym c.begins_operator.ensures ∙ c.if-begins_operator.false)))
    (Opened.question_alone _
    (sym c.begins.ensures ∙ c.if-begins.true))) c.in_err-expect.ensures.exact)

pub returns-in_err-high-clause-exact : goal.returns-in_err-high-clause-exact
returns-in_err-high-clause-exact c =
    rw (err_is (err_from_is_err_and c.from_residual-in_err-high.result
    c.from_residual-in_err-high.ensures.1)) (failed (λ t g. g)
    (pass (take_left (take_right (then (λ t g. g)
    (Opened.named_left _ c.requires) c.in_ok-first.ensures.exact)
    (Refusals.not_operator (sym c.begins_operator.ensures ∙ c.if-begins_operator.false)))
    (Opened.question_alone _
    (sym c.begins.ensures ∙ c.if-begins.true))) c.in_ok-expect.ensures.exact)
    c.in_err-high.ensures.exact)

pub returns-in_err-expect-2-clause-exact : goal.returns-in_err-expect-2-clause-exact
returns-in_err-expect-2-clause-exact c =
    rw (err_is (err_from_is_err_and c.from_residual-in_err-expect-2.result
    c.from_residual-in_err-expect-2.ensures.1)) (failed_fixed
    (then (λ t g. g) (pass (take_left (take_right (then (λ t g. g)
    (Opened.named_left _ c.requires) c.in_ok-first.ensures.exact)
    (Refusals.not_operator (sym c.begins_operator.ensures ∙ c.if-begins_operator.false)))
    (Opened.question_alone _
    (sym c.begins.ensures ∙ c.if-begins.true))) c.in_ok-expect.ensures.exact)
    c.in_ok-high.ensures.exact) c.in_err-expect-2.ensures.exact)

pub returns-in_err-low-clause-exact : goal.returns-in_err-low-clause-exact
returns-in_err-low-clause-exact c =
    rw (err_is (err_from_is_err_and c.from_residual-in_err-low.result
    c.from_residual-in_err-low.ensures.1)) (failed (λ t g. g)
    (pass (then (λ t g. g) (pass (take_left (take_right
    (then (λ t g. g) (Opened.named_left _ c.requires) c.in_ok-first.ensures.exact)
    (Refusals.not_operator (sym c.begins_operator.ensures ∙ c.if-begins_operator.false)))
    (Opened.question_alone _
    (sym c.begins.ensures ∙ c.if-begins.true))) c.in_ok-expect.ensures.exact)
    c.in_ok-high.ensures.exact) c.in_ok-expect-2.ensures.exact) c.in_err-low.ensures.exact)

pub returns-then-begins-clause-exact : goal.returns-then-begins-clause-exact
returns-then-begins-clause-exact c =
    finish (then (λ t g. g) (pass (then (λ t g. g) (pass
    (take_left (take_right (then (λ t g. g)
    (Opened.named_left _ c.requires) c.in_ok-first.ensures.exact)
    (Refusals.not_operator (sym c.begins_operator.ensures ∙ c.if-begins_operator.false)))
    (Opened.question_alone _
    (sym c.begins.ensures ∙ c.if-begins.true))) c.in_ok-expect.ensures.exact)
    c.in_ok-high.ensures.exact) c.in_ok-expect-2.ensures.exact) c.in_ok-low.ensures.exact)

pub returns-then-not-begins-clause-exact : goal.returns-then-not-begins-clause-exact
returns-then-not-begins-clause-exact c =
    finish (take_right (take_right (take_right (then (λ t g. g)
    (Opened.named_left _ c.requires) c.in_ok-first.ensures.exact)
    (Refusals.not_operator (sym c.begins_operator.ensures ∙ c.if-begins_operator.false)))
    (Refusals.no_piece (Sign marks.Question) (sym c.begins.ensures ∙ c.if-begins.false)))
    (Refusals.no_piece (Sign marks.OpenBracket)
    (sym c.begins-2.ensures ∙ c.if-not-begins.true)))

pub returns-in_err-expect-3-clause-exact : goal.returns-in_err-expect-3-clause-exact
returns-in_err-expect-3-clause-exact c =
    rw (err_is (err_from_is_err_and c.from_residual-in_err-expect-3.result
    c.from_residual-in_err-expect-3.ensures.1)) (failed_fixed
    (take_left (take_right (take_right (then (λ t g. g)
    (Opened.named_left _ c.requires) c.in_ok-first.ensures.exact)
    (Refusals.not_operator (sym c.begins_operator.ensures ∙ c.if-begins_operator.false)))
    (Refusals.no_piece (Sign marks.Question) (sym c.begins.ensures ∙ c.if-begins.false)))
    (Opened.bracket_alone _
    (sym c.begins-2.ensures ∙ c.if-not-begins.false))) c.in_err-expect-3.ensures.exact)

pub returns-in_err-address-clause-exact : goal.returns-in_err-address-clause-exact
returns-in_err-address-clause-exact c =
    rw (err_is (err_from_is_err_and c.from_residual-in_err-address.result
    c.from_residual-in_err-address.ensures.1)) (failed (λ t g. g)
    (take_left (pass (take_left (take_right (take_right
    (then (λ t g. g) (Opened.named_left _ c.requires) c.in_ok-first.ensures.exact)
    (Refusals.not_operator (sym c.begins_operator.ensures ∙ c.if-begins_operator.false)))
    (Refusals.no_piece (Sign marks.Question) (sym c.begins.ensures ∙ c.if-begins.false)))
    (Opened.bracket_alone _
    (sym c.begins-2.ensures ∙ c.if-not-begins.false))) c.in_ok-expect-3.ensures.exact)
    (Refusals.name_not_number
    (sym c.starts_name.ensures ∙ c.if-starts_name.true))) c.in_err-address.ensures.exact)

pub returns-in_err-expect-4-clause-exact : goal.returns-in_err-expect-4-clause-exact
returns-in_err-expect-4-clause-exact c =
    rw (err_is (err_from_is_err_and c.from_residual-in_err-expect-4.result
    c.from_residual-in_err-expect-4.ensures.1)) (failed_fixed
    (then (λ t g. g) (take_left (pass (take_left (take_right
    (take_right (then (λ t g. g)
    (Opened.named_left _ c.requires) c.in_ok-first.ensures.exact)
    (Refusals.not_operator (sym c.begins_operator.ensures ∙ c.if-begins_operator.false)))
    (Refusals.no_piece (Sign marks.Question) (sym c.begins.ensures ∙ c.if-begins.false)))
    (Opened.bracket_alone _
    (sym c.begins-2.ensures ∙ c.if-not-begins.false))) c.in_ok-expect-3.ensures.exact)
    (Refusals.name_not_number
    (sym c.starts_name.ensures ∙ c.if-starts_name.true))) c.in_ok-address.ensures.exact)
    c.in_err-expect-4.ensures.exact)

pub returns-then-starts_name-clause-exact : goal.returns-then-starts_name-clause-exact
returns-then-starts_name-clause-exact c =
    finish (pass (then (λ t g. g) (take_left (pass (take_left
    (take_right (take_right (then (λ t g. g)
    (Opened.named_left _ c.requires) c.in_ok-first.ensures.exact)
    (Refusals.not_operator (sym c.begins_operator.ensures ∙ c.if-begins_operator.false)))
    (Refusals.no_piece (Sign marks.Question) (sym c.begins.ensures ∙ c.if-begins.false)))
    (Opened.bracket_alone _
    (sym c.begins-2.ensures ∙ c.if-not-begins.false))) c.in_ok-expect-3.ensures.exact)
    (Refusals.name_not_number
    (sym c.starts_name.ensures ∙ c.if-starts_name.true))) c.in_ok-address.ensures.exact)
    c.in_ok-expect-4.ensures.exact)

pub returns-in_err-highest-clause-exact : goal.returns-in_err-highest-clause-exact
returns-in_err-highest-clause-exact c =
    rw (err_is (err_from_is_err_and c.from_residual-in_err-highest.result
    c.from_residual-in_err-highest.ensures.1)) (failed (λ t g. g)
    (take_right (pass (take_left (take_right (take_right
    (then (λ t g. g) (Opened.named_left _ c.requires) c.in_ok-first.ensures.exact)
    (Refusals.not_operator (sym c.begins_operator.ensures ∙ c.if-begins_operator.false)))
    (Refusals.no_piece (Sign marks.Question) (sym c.begins.ensures ∙ c.if-begins.false)))
    (Opened.bracket_alone _
    (sym c.begins-2.ensures ∙ c.if-not-begins.false))) c.in_ok-expect-3.ensures.exact)
    (Refusals.not_name (sym c.starts_name.ensures ∙ c.if-starts_name.false)))
    c.in_err-highest.ensures.exact)

pub returns-in_err-expect-5-clause-exact : goal.returns-in_err-expect-5-clause-exact
returns-in_err-expect-5-clause-exact c =
    rw (err_is (err_from_is_err_and c.from_residual-in_err-expect-5.result
    c.from_residual-in_err-expect-5.ensures.1)) (failed_fixed
    (then (λ t g. g) (take_right (pass (take_left (take_right
    (take_right (then (λ t g. g)
    (Opened.named_left _ c.requires) c.in_ok-first.ensures.exact)
    (Refusals.not_operator (sym c.begins_operator.ensures ∙ c.if-begins_operator.false)))
    (Refusals.no_piece (Sign marks.Question) (sym c.begins.ensures ∙ c.if-begins.false)))
    (Opened.bracket_alone _
    (sym c.begins-2.ensures ∙ c.if-not-begins.false))) c.in_ok-expect-3.ensures.exact)
    (Refusals.not_name (sym c.starts_name.ensures ∙ c.if-starts_name.false)))
    c.in_ok-highest.ensures.exact) c.in_err-expect-5.ensures.exact)

pub returns-in_err-lowest-clause-exact : goal.returns-in_err-lowest-clause-exact
returns-in_err-lowest-clause-exact c =
    rw (err_is (err_from_is_err_and c.from_residual-in_err-lowest.result
    c.from_residual-in_err-lowest.ensures.1)) (failed (λ t g. g)
    (pass (then (λ t g. g) (take_right (pass (take_left
    (take_right (take_right (then (λ t g. g)
    (Opened.named_left _ c.requires) c.in_ok-first.ensures.exact)
    (Refusals.not_operator (sym c.begins_operator.ensures ∙ c.if-begins_operator.false)))
    (Refusals.no_piece (Sign marks.Question) (sym c.begins.ensures ∙ c.if-begins.false)))
    (Opened.bracket_alone _
    (sym c.begins-2.ensures ∙ c.if-not-begins.false))) c.in_ok-expect-3.ensures.exact)
    (Refusals.not_name (sym c.starts_name.ensures ∙ c.if-starts_name.false)))
    c.in_ok-highest.ensures.exact) c.in_ok-expect-5.ensures.exact)
    c.in_err-lowest.ensures.exact)

pub returns-in_err-expect-6-clause-exact : goal.returns-in_err-expect-6-clause-exact
returns-in_err-expect-6-clause-exact c =
    rw (err_is (err_from_is_err_and c.from_residual-in_err-expect-6.result
    c.from_residual-in_err-expect-6.ensures.1)) (failed_fixed
    (then (λ t g. g) (pass (then (λ t g. g) (take_right
    (pass (take_left (take_right (take_right (then (λ t g. g)
    (Opened.named_left _ c.requires) c.in_ok-first.ensures.exact)
    (Refusals.not_operator (sym c.begins_operator.ensures ∙ c.if-begins_operator.false)))
    (Refusals.no_piece (Sign marks.Question) (sym c.begins.ensures ∙ c.if-begins.false)))
    (Opened.bracket_alone _
    (sym c.begins-2.ensures ∙ c.if-not-begins.false))) c.in_ok-expect-3.ensures.exact)
    (Refusals.not_name (sym c.starts_name.ensures ∙ c.if-starts_name.false)))
    c.in_ok-highest.ensures.exact) c.in_ok-expect-5.ensures.exact)
    c.in_ok-lowest.ensures.exact) c.in_err-expect-6.ensures.exact)

pub returns-clause-exact : goal.returns-clause-exact
returns-clause-exact c =
    finish (pass (then (λ t g. g) (pass (then (λ t g. g)
    (take_right (pass (take_left (take_right (take_right
    (then (λ t g. g) (Opened.named_left _ c.requires) c.in_ok-first.ensures.exact)
    (Refusals.not_operator (sym c.begins_operator.ensures ∙ c.if-begins_operator.false)))
    (Refusals.no_piece (Sign marks.Question) (sym c.begins.ensures ∙ c.if-begins.false)))
    (Opened.bracket_alone _
    (sym c.begins-2.ensures ∙ c.if-not-begins.false))) c.in_ok-expect-3.ensures.exact)
    (Refusals.not_name (sym c.starts_name.ensures ∙ c.if-starts_name.false)))
    c.in_ok-highest.ensures.exact) c.in_ok-expect-5.ensures.exact)
    c.in_ok-lowest.ensures.exact) c.in_ok-expect-6.ensures.exact)
