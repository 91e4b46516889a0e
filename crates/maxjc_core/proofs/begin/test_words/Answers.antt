use Rattle.std.proofs.Common.{◌∙◌, ◌≤◌, length, ap, sym, subst}
use Rattle.stream_expect.specs.Refused.{IsTooLarge}
use Rattle.maxjc_core.specs.ExpectCauses.{HaveTooMany}
use Rattle.maxjc_core.proofs.begin.test_words.Goals as goal

pub excess_words-requires-clause-few : goal.excess_words-requires-clause-few
excess_words-requires-clause-few c =
    subst (λ ks. length ks ≤ 64) (sym c.kernels.ensures) c.args.project.now.whole.few.most

pub excess_words-requires-clause-each : goal.excess_words-requires-clause-each
excess_words-requires-clause-each c = c.requires ∙ ap length (sym c.kernels.ensures)

pub returns-in-Some-clause-refused : goal.returns-in-Some-clause-refused
returns-in-Some-clause-refused c =
    let words = c.in-Some.words in
    HaveTooMany.counted words
    (subst (λ ks. IsTooLarge ks c.args.ticks.now words) c.kernels.ensures c.in-Some.ensures.many)
