-- The state is kept after the first row.
use Rattle.kernel_rows_tests.proofs.KeptAfter.{kept-after}
use Rattle.kernel_rows_tests.proofs.tests.arrays_of_too_many_elements_change_nothing.Goals as goal

pub row_of-requires-2-clause-kept : goal.row_of-requires-2-clause-kept
row_of-requires-2-clause-kept g c =
    kept-after c.state-state.result c.row_of.new.state c.row_of.result c.row_of.ensures.keeps
    c.row_of.ensures.err c.state-state.ensures
