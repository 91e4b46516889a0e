-- The inputs from which there is a way to a port, however their places are kept.
use Rattle.std.specs.Prelude.{ℕ, List}
use Rattle.rtl_check.specs.declared.inputs.Kept.{Kept}
use Rattle.rtl_check.specs.declared.inputs.Kept.TheVariants.{Few, Many}
use Rattle.rtl_check.specs.Picked.{picked_places}

abbrev pub inputs_of : Kept → List ℕ
inputs_of (Few places) = places
inputs_of (Many inputs) = picked_places inputs.marks.value inputs.one inputs.end
