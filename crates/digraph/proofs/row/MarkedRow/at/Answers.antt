use Rattle.std.proofs.Common.{◌∙◌, ap, sym, Some, None}
use Rattle.std.specs.Prelude.{slice_get}
use Rattle.digraph.specs.Rows.{is_marked}
use Rattle.digraph.proofs.Marking.{picked_other, picked_one}
use Rattle.digraph.proofs.row.MarkedRow.at.Goals as goal

pub returns-then-not-has : goal.returns-then-not-has
returns-then-not-has g c =
    let row = c.args.self.now in let place = c.args.place in
    let clear = ap (λ words. is_marked words place) (sym c.as_ref.ensures) ∙ sym c.has.ensures ∙ c.if-not-has.true in
    picked_other row.marks.value row.items.value row.other row.len place c.requires clear

pub returns-in-Some : goal.returns-in-Some
returns-in-Some g c =
    let row = c.args.self.now in let place = c.args.place in
    let marked = ap (λ words. is_marked words place) (sym c.as_ref.ensures) ∙ sym c.has.ensures ∙ c.if-not-has.false in
    picked_one row.marks.value row.items.value row.other row.len place c.requires marked (Some c.in-Some.item.now) (c.in-Some.ensures ∙ ap (λ items. slice_get items place) c.as_ref-2.ensures)

pub returns-in-None : goal.returns-in-None
returns-in-None g c =
    let row = c.args.self.now in let place = c.args.place in
    let marked = ap (λ words. is_marked words place) (sym c.as_ref.ensures) ∙ sym c.has.ensures ∙ c.if-not-has.false in
    picked_one row.marks.value row.items.value row.other row.len place c.requires marked None (c.in-None.ensures ∙ ap (λ items. slice_get items place) c.as_ref-2.ensures)
