use Rattle.std.specs.Option.{option_map}
use Rattle.maxj_tokens.specs.Reading.{placed_view}
use Rattle.std.proofs.Common.{◌∙◌}
use Rattle.maxj_syntax.specs.Symbols as Y
use Rattle.maxj_syntax.proofs.Expansions.{name_taken, same_param}
use Rattle.maxj_syntax.proofs.heads.push_first_param.Goals as goal

pub returns : goal.returns
returns c = name_taken (Y.FirstParam c.args.kind)
    (option_map placed_view c.args.next) c.in-Some.name.now _ _
    (same_param c.args.kind
    (option_map placed_view c.args.next) ∙ c.in-Some.ensures.0) c.in-Some.ensures.1
    c.in_ok-put_first_param.ensures
