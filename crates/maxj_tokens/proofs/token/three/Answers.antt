use Rattle.std.proofs.Common.{◌∙◌, ◌∷◌, ap}
use Rattle.maxj_tokens.proofs.Fronts.{three_taken}
use Rattle.maxj_tokens.proofs.token.three.Goals as goal

pub returns-clause-some : goal.returns-clause-some
returns-clause-some c =
    let first = c.in_ok-first.first.now in
    three_taken c.args.text.now c.in_ok-rest.rest.now first c.in_ok-sign.sign c.requires.gap (c.in_ok-first.ensures.cases.0 ∙ ap (λ l. first ∷ l) c.in_ok-rest.ensures.some) c.in_ok-sign.ensures
