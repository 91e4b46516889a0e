use Rattle.std.specs.Option.{option_map}
use Rattle.maxj_tokens.specs.Reading.{placed_view}
use Rattle.maxj_syntax.specs.Symbols as Y
use Rattle.maxj_syntax.proofs.Expansions.{name_taken}
use Rattle.maxj_syntax.proofs.heads.push_class_name.Goals as goal

pub returns : goal.returns
returns c = name_taken Y.ClassName (option_map placed_view c.args.next) c.in-Some.name.now _ _ c.in-Some.ensures.0 c.in-Some.ensures.1 c.in_ok-put_class_name.ensures
