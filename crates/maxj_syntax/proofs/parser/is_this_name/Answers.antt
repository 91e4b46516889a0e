use Rattle.std.proofs.Common.{ap, ◌∙◌}
use Rattle.maxj_syntax.specs.declared.symbol.TokenClass.TheVariants as C
use Rattle.maxj_tokens.specs.Reading.{token_view}
use Rattle.maxj_syntax.specs.TokenClasses.{class_has}
use Rattle.maxj_syntax.proofs.Exits.{name_yes, name_no}
use Rattle.maxj_syntax.proofs.parser.is_this_name.Goals as goal

pub returns-then-is_word-clause-yes : goal.returns-then-is_word-clause-yes
returns-then-is_word-clause-yes c = name_yes
    (token_view c.args.token.now) c.args.name.now c.class_has.result
    (c.is_word.ensures.yes c.if-is_word.true) (c.class_has.ensures ∙ ap
    (λ k. class_has C.Name k) c.requires)

pub returns-then-is_word-clause-no : goal.returns-then-is_word-clause-no
returns-then-is_word-clause-no c = name_no (token_view c.args.token.now) c.args.name.now c.class_has.result (c.class_has.ensures ∙ ap (λ k. class_has C.Name k) c.requires)
