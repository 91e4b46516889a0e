-- The row of the operator.
use Rattle.std.proofs.Common.{◌≡◌, sym, Some}
use Rattle.kernel_meaning.specs.Signs.{sign_of}
use Rattle.kernel_meaning.specs.Ways.{first_byte}
use Rattle.kernel_rows.proofs.CompoundSigns.{combined_done}
use Rattle.kernel_rows.proofs.assigning.combined.Goals as goal

pub returns-in-Some-clause-done : goal.returns-in-Some-clause-done
returns-in-Some-clause-done c =
    let a = c.args in
    let operator : sign_of (first_byte a.sign.now) ≡ Some c.in-Some.operator =
    sym c.in-Some.ensures in
    combined_done a.sign.now a.at a.values.now a.state.now c.row_of.new.state c.in-Some.operator
    c.row_of.result operator c.row_of.ensures.done
