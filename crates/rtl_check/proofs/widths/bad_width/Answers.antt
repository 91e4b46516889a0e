use Rattle.std.proofs.Common.{sym, subst}
use Rattle.rtl_check.specs.FirstFault.{IsWidth, of_assign, of_update, of_port}
use Rattle.rtl_check.proofs.WidthTests.{no_bad_assign, no_bad_update}
use Rattle.rtl_check.proofs.widths.bad_width.Goals as goal

pub net_name-requires : goal.net_name-requires
net_name-requires c = (c.requires.assigns c.in-Some.place c.at.result.now c.at.ensures).target

pub returns-in-Some-clause-some : goal.returns-in-Some-clause-some
returns-in-Some-clause-some c =
    let d = c.args.design.now in let m = c.args.module.now in
    subst (IsWidth d m) (sym c.net_name.ensures) (of_assign c.in-Some.place c.at.result.now c.in-Some.ensures.some c.at.ensures)

pub target_name-requires-clause-net : goal.target_name-requires-clause-net
target_name-requires-clause-net c = (c.requires.updates c.in-Some-bad_update.place c.at-in-Some-bad_update.result.now c.at-in-Some-bad_update.ensures).net

pub target_name-requires-clause-mem : goal.target_name-requires-clause-mem
target_name-requires-clause-mem c = (c.requires.updates c.in-Some-bad_update.place c.at-in-Some-bad_update.result.now c.at-in-Some-bad_update.ensures).mem

pub returns-in-Some-bad_update-clause-some : goal.returns-in-Some-bad_update-clause-some
returns-in-Some-bad_update-clause-some c =
    let d = c.args.design.now in let m = c.args.module.now in
    subst (IsWidth d m) (sym c.target_name.ensures)
    (of_update c.in-Some-bad_update.place c.at-in-Some-bad_update.result.now
    (no_bad_assign m c.in_default.ensures.none) c.in-Some-bad_update.ensures.some
    c.at-in-Some-bad_update.ensures)

pub returns-in-Some-bad_port-clause-some : goal.returns-in-Some-bad_port-clause-some
returns-in-Some-bad_port-clause-some c =
    let d = c.args.design.now in let m = c.args.module.now in let w = c.in-Some-bad_port.ensures.some in
    subst (IsWidth d m) (sym w.5) (of_port w.0 w.1 w.2 (no_bad_assign m c.in_default.ensures.none) (no_bad_update m c.in_default-bad_update.ensures.none) w.3 w.4)
