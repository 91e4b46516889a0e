use Rattle.std.proofs.Common.{◌∙◌, sym, ap, option_map}
use Rattle.maxj_tokens.specs.Reading.{placed_view}
use Rattle.maxj_syntax.proofs.SpanLemmas.{head_at, head_past}
use Rattle.maxj_syntax.proofs.build.place_at.Goals as goal

pub returns-in-Some : goal.returns-in-Some
returns-in-Some c = sym (head_at c.args.tokens.now c.args.at _ (sym (ap (option_map placed_view) c.in-Some.is) ∙ c.get.ensures))

pub returns-in-None : goal.returns-in-None
returns-in-None c = sym (head_past c.args.tokens.now c.args.at (sym (ap (option_map placed_view) c.in-None.is) ∙ c.get.ensures))
