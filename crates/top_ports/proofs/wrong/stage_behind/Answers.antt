use Rattle.std.proofs.Common.{sym}
use Rattle.top_ports.specs.Roles.{role_view}
use Rattle.top_ports.proofs.PlaceLemmas.{none_more, some_more, stop_more, if_none_is}
use Rattle.top_ports.proofs.wrong.stage_behind.Goals as goal

pub returns-in_err-role-clause-none : goal.returns-in_err-role-clause-none
returns-in_err-role-clause-none c =
    if_none_is c.from_residual.result (none_more c.args.top.now c.args.place c.args.stage c.at.result.now c.at.ensures c.requires.stands (sym c.in_err-role.ensures))

pub returns-clause-some : goal.returns-clause-some
returns-clause-some c =
    let q = c.requires.stands.0 in
    some_more c.args.top.now c.args.place c.at.result.now q
    (role_view c.in_ok-role.role) c.next_stage.result c.at.ensures
    c.requires.stands.1.reached (sym c.in_ok-role.ensures)
    (c.next_stage.ensures.some q c.requires.stands.1)

pub returns-clause-none : goal.returns-clause-none
returns-clause-none c =
    let q = c.requires.stands.0 in
    stop_more c.args.top.now c.args.place c.at.result.now q
    (role_view c.in_ok-role.role) c.next_stage.result c.at.ensures
    c.requires.stands.1.reached (sym c.in_ok-role.ensures)
    (c.next_stage.ensures.none q c.requires.stands.1)
