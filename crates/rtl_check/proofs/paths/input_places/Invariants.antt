use Rattle.std.proofs.Common.{◌≡◌, vec_len}
use Rattle.rtl_check.specs.Paths.{ArePlaces}
use Rattle.rtl_check.proofs.paths.input_places.Given as goal

abbrev pub invariant-loop-input : goal.invariant-loop-input
invariant-loop-input l = record {
  size : vec_len l.places ≡ l.nets;
  places : ArePlaces l.module l.input l.places.items;
}
