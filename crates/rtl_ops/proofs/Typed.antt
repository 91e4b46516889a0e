-- Signals that carry words of a type.
use Rattle.std.proofs.Common.{◌≡◌, ℕ, ◌<◌, ◌≤◌, ◌^◌, subst, arith}
use Rattle.rtl_ir.specs.declared.design.Module.{Module}
use Rattle.rtl_ir.specs.Value.{Family, Contents}
use Rattle.rtl_ir.specs.Grow.{Holds}
use Rattle.fix_arith.specs.declared.types.StreamType.{StreamType}
use Rattle.fix_arith.specs.Types.{width_of as type_width}
use Rattle.rtl_build.specs.declared.signal.Signal.{Signal}
use Rattle.rtl_build.specs.Signals.{HasSignal}
use Rattle.rtl_build.proofs.Growing.{word_fits}

-- a signal of a type has words of the type
pub type_fits : {m : Module} {c : Contents} {v : Family} (t : StreamType) (s : Signal) → HasSignal m s → s.width ≡ type_width t → Holds m c v → v s.net < 2 ^ type_width t
type_fits {v = v} t s has e h = subst (λ w. v s.net < 2 ^ w) e (word_fits s has h)

pub type_some : {m : Module} (t : StreamType) (s : Signal) → HasSignal m s → s.width ≡ type_width t → 1 ≤ type_width t
type_some t s has e = omega (arith, has.some)
