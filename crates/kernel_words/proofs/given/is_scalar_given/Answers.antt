use Rattle.std.proofs.Common.{◌∙◌, ◌<◌, ◌≤◌, ◌^◌, sym, subst, arith}
use Rattle.std.proofs.lemmas.Bool.{false≢true}
use Rattle.kernel_words.proofs.given.is_scalar_given.Goals as goal

pub returns-in-Scalar-clause-yes : goal.returns-in-Scalar-clause-yes
returns-in-Scalar-clause-yes c = λ e k. subst (λ x. x < 2 ^ c.args.width) c.scalar_word.ensures (c.is_word.ensures.yes e)

pub returns-in-Scalar-clause-no : goal.returns-in-Scalar-clause-no
returns-in-Scalar-clause-no c = λ e k l.
    let most = subst (λ x. 2 ^ c.args.width ≤ x) c.scalar_word.ensures (c.is_word.ensures.no e) in
    omega (arith, most, l)

pub returns-in-Scalar-clause-kind : goal.returns-in-Scalar-clause-kind
returns-in-Scalar-clause-kind c = λ e. sym c.kind_of.ensures ∙ c.in-Scalar.is

pub returns-in_default-clause-yes : goal.returns-in_default-clause-yes
returns-in_default-clause-yes c = λ e k. absurd (c.in_default.not-Scalar (c.kind_of.ensures ∙ k))

pub returns-in_default-clause-no : goal.returns-in_default-clause-no
returns-in_default-clause-no c = λ e k l. false≢true (sym e)

pub returns-in_default-clause-kind : goal.returns-in_default-clause-kind
returns-in_default-clause-kind c = λ e. absurd (false≢true (sym e))
