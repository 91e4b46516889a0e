use Rattle.std.proofs.Common.{◌≡◌, ◌<◌}
use Rattle.kernel_family.specs.declared.place.Place.{Place}
use Rattle.kernel_words.specs.Guarded.{IsUnguarded}
use Rattle.kernel_words.specs.Streams.{values_of}
use Rattle.kernel_words.proofs.guarded.first_unguarded.Given as goal

-- no place of an earlier tick is unguarded
abbrev pub invariant-loop-tick : goal.invariant-loop-tick
invariant-loop-tick l = (place : Place) → place.tick < l.tick
    → IsUnguarded l.kernel.nodes l.streams.ticks (values_of l.streams) place → ⊥

-- nor one of an earlier node of this tick
abbrev pub invariant-loop-number : goal.invariant-loop-number
invariant-loop-number l = record {
  earlier : (place : Place) → place.tick < l.tick → IsUnguarded l.kernel.nodes l.streams.ticks (values_of l.streams) place → ⊥;
  below : (place : Place) → place.tick ≡ l.tick → place.node < l.number
      → IsUnguarded l.kernel.nodes l.streams.ticks (values_of l.streams) place → ⊥;
}
