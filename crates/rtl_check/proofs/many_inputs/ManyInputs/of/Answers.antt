use Rattle.std.proofs.Common.{get_or, sym, subst}
use Rattle.std.proofs.lemmas.Option.{slice_get-get_or}
use Rattle.digraph.specs.Rows.{AreMarked}
use Rattle.rtl_check.proofs.Picked.{same_places}
use Rattle.rtl_check.proofs.many_inputs.ManyInputs.of.Goals as goal

pub returns : goal.returns
returns c =
    let places = c.args.places.now in let words = c.in_ok-shared.field-0.value in
    same_places places words (get_or places 0 0) c.args.end
    (subst (AreMarked places) (sym c.in_ok-shared.ensures) c.in_ok-marks.ensures)
    (slice_get-get_or places 0 0 c.requires.some) c.requires.within
