use Rattle.maxj_syntax.specs.Choosing.{begins_member}
use Rattle.std.specs.Option.{option_map}
use Rattle.maxj_tokens.specs.Reading.{placed_view}
use Rattle.maxj_syntax.specs.Symbols.{inside_view}
use Rattle.maxj_syntax.proofs.Expansions.{member_taken, asked}
use Rattle.maxj_syntax.proofs.members.push_member.Goals as goal

pub returns-then-admits : goal.returns-then-admits
returns-then-admits c = member_taken (inside_view c.args.inside)
    (option_map placed_view c.args.next) _ _
    (asked begins_member c.admits.ensures c.next_kind.ensures c.if-admits.true)
    c.in_ok-put_member.ensures
