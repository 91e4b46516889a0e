-- Values that speak only of nodes that were made, by calls of which the newest is first, and whose
-- strings have at most 64 bytes.
use Rattle.std.specs.Prelude.{◌≡◌, ◌≤◌, List, [], ◌∷◌, length, true}
use Rattle.fix_arith.specs.Types.{HasWidth}
use Rattle.kernel_calls.specs.Laws.{IsStream}
use Rattle.kernel_calls.specs.declared.call.Call.{Call}
use Rattle.kernel_calls.specs.Calls.{Makes}
use Rattle.kernel_calls.specs.declared.call.Call.TheVariants as C
use Rattle.kernel_meaning.specs.declared.value.Value.{Value}
use Rattle.kernel_meaning.specs.declared.value.Value.TheVariants as V

abbrev pub IsSound : List Call → Value → Type 0
IsSound so_far (V.Stream n t feed) =
    HasWidth t × IsStream so_far n t × (feed ≡ true → Makes so_far n (C.Feed t))
IsSound so_far (V.«Type» t) = HasWidth t
IsSound so_far (V.Chain n) = Makes so_far n C.Chain
IsSound so_far (V.Str text) = length text ≤ 64
IsSound so_far _ = Unit {0}

abbrev pub AreSound : List Call → List Value → Type 0
AreSound so_far [] = Unit {0}
AreSound so_far (value ∷ values) = IsSound so_far value × AreSound so_far values
