-- No port has the name of an earlier one of its kind.
use Rattle.std.proofs.Common.{◌≡◌, Bool, true, false, ◌||◌, List, [], ◌∷◌, refl}
use Rattle.kernel_calls.specs.declared.call.Call.{Call}
use Rattle.stream_graph.specs.Nodes.{later}
use Rattle.stream_graph.specs.Ports.{is_again, AllDiffer}

abbrev pub DidDiffer : List Call → Type 0
DidDiffer [] = Unit {0}
DidDiffer (call ∷ older) = (is_again older call ≡ false) × DidDiffer older

pub did_later : (so_far calls : List Call) → DidDiffer so_far → AllDiffer so_far calls → DidDiffer (later so_far calls)
did_later so_far [] w a = w
did_later so_far (call ∷ calls) w a = did_later (call ∷ so_far) calls (a.0, w) a.1

pub or_first : (a b : Bool) → a || b ≡ false → a ≡ false
or_first true b h = h
or_first false b h = refl

pub or_second : (a b : Bool) → a || b ≡ false → b ≡ false
or_second true b h = absurd (cc)
or_second false b h = h
