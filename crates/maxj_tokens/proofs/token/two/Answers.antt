use Rattle.std.proofs.Common.{◌∙◌, ◌∷◌, ap}
use Rattle.maxj_tokens.proofs.Fronts.{two_taken}
use Rattle.maxj_tokens.proofs.token.two.Goals as goal

pub returns-clause-some : goal.returns-clause-some
returns-clause-some c =
    let first = c.in_ok-first.first.now in
    two_taken c.args.text.now c.in_ok-second.rest.now first c.in_ok-second.second.now
    c.in_ok-sign.sign c.requires.gap c.requires.longer
    (c.in_ok-first.ensures.cases.0 ∙ ap (λ l. first
    ∷ l) c.in_ok-second.ensures.cases.0) c.in_ok-sign.ensures
