use Rattle.maxj_tokens.specs.Reading.{token_view}
use Rattle.maxj_syntax.proofs.Exits.{taken_token, refused_token}
use Rattle.maxj_syntax.proofs.parser.taken.Goals as goal

pub returns-then-class_has-clause-some : goal.returns-then-class_has-clause-some
returns-then-class_has-clause-some c = taken_token c.args.settled c.in-Token.class
    c.in-Token.effect (token_view c.args.token.now) c.args.kind c.class_has.result
    c.in-Token.is c.class_has.ensures c.requires c.if-class_has.true

pub returns-else-class_has-clause-none : goal.returns-else-class_has-clause-none
returns-else-class_has-clause-none c = refused_token c.args.settled c.in-Token.class
    c.in-Token.effect (token_view c.args.token.now) c.args.kind c.class_has.result
    c.in-Token.is c.class_has.ensures c.requires c.if-class_has.false
