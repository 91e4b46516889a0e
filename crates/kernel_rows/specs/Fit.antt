-- Values as a building run has them.
use Rattle.std.specs.Prelude.{◌≤◌, List, [], ◌∷◌}
use Rattle.fix_arith.specs.Types.{HasWidth}
use Rattle.kernel_meaning.specs.declared.value.Value.{Value}
use Rattle.kernel_meaning.specs.declared.value.Value.TheVariants as V

-- types have 1 to 128 bits, and a literal at most 30 digits behind the point
abbrev pub IsFit : Value → Type 0
IsFit (V.Stream node of feed) = HasWidth of
IsFit (V.«Type» of) = HasWidth of
IsFit (V.Literal negative digits tens) = tens ≤ 30
IsFit _ = Unit {0}

abbrev pub AreFit : List Value → Type 0
AreFit [] = Unit {0}
AreFit (value ∷ values) = IsFit value × AreFit values
