use Rattle.std.proofs.Common.{◌∙◌, sym}
use Rattle.maxj_syntax.proofs.Exits.{head_at}
use Rattle.maxj_syntax.proofs.parser.token_at.Goals as goal

pub returns : goal.returns
returns c = head_at c.args.tokens.now c.args.at ∙ sym c.get.ensures
