use Rattle.std.proofs.Common.{subst}
use Rattle.rtl_check.specs.Picked.{picked_places, HasSame}
use Rattle.rtl_check.proofs.inputs.Inputs.of.Goals as goal

pub returns : goal.returns
returns c =
    let inputs = c.in_ok-inputs.inputs in
    subst (λ l. HasSame l (picked_places inputs.marks.value inputs.one inputs.end)) c.as_slice-2.ensures c.in_ok-inputs.ensures
