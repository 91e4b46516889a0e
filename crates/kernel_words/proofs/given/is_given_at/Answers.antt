use Rattle.std.proofs.Common.{◌≡◌, ◌∙◌, ◌<◌, ◌^◌, [], get_or, sym, ap, subst}
use Rattle.std.proofs.lemmas.Bool.{false≢true}
use Rattle.stream_equations.specs.Equations.{chosen}
use Rattle.kernel_words.proofs.Taking.{got}
use Rattle.kernel_words.proofs.given.is_given_at.Goals as goal

pub returns-then-not-is_scalar_given-clause-yes : goal.returns-then-not-is_scalar_given-clause-yes
returns-then-not-is_scalar_given-clause-yes c = λ e. absurd (false≢true e)

pub returns-then-not-is_scalar_given-clause-no : goal.returns-then-not-is_scalar_given-clause-no
returns-then-not-is_scalar_given-clause-no c = λ e g.
    let kind = c.is_scalar_given.ensures.kind c.if-not-is_scalar_given.true in
    c.is_scalar_given.ensures.no c.if-not-is_scalar_given.true kind
    (subst (λ w. get_or c.args.run.now.scalars c.args.node 0 < 2 ^ w) (sym c.width_of-width.ensures.is) (g.scalar kind))

pub returns-clause-yes : goal.returns-clause-yes
returns-clause-yes c = λ e.
    let words : get_or c.args.run.now.sources c.args.node [] ≡ c.as_slice.result.now =
    ap (λ n. get_or c.args.run.now.sources n []) (sym c.index.ensures.number)
    ∙ got c.args.run.now.sources c.index.result c.at.result.now [] c.at.ensures ∙ sym c.as_slice.ensures in
    record {
      scalar = λ k. subst (λ w. get_or c.args.run.now.scalars c.args.node 0 < 2 ^ w) c.width_of-width.ensures.is
          (c.is_scalar_given.ensures.yes c.if-not-is_scalar_given.false k);
      word = λ k x q. subst (λ w. x < 2 ^ w) c.width_of-width.ensures.is
          (c.are_words.ensures.yes e k x (ap (λ ws. chosen ws k) (sym words) ∙ q));
    }

pub returns-clause-no : goal.returns-clause-no
returns-clause-no c = λ e g.
    let words : get_or c.args.run.now.sources c.args.node [] ≡ c.as_slice.result.now =
    ap (λ n. get_or c.args.run.now.sources n []) (sym c.index.ensures.number)
    ∙ got c.args.run.now.sources c.index.result c.at.result.now [] c.at.ensures ∙ sym c.as_slice.ensures in
    c.are_words.ensures.no e (λ k x q.
    subst (λ w. x < 2 ^ w) (sym c.width_of-width.ensures.is) (g.word k x (ap (λ ws. chosen ws k) words ∙ q)))
