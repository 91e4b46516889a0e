-- Where ports are due.
use Rattle.std.specs.Prelude.{
  ◌≡◌,
  ℕ,
  ◌+◌,
  ◌*◌,
  ◌%◌,
  ◌^◌,
  max,
  Bool,
  true,
  ◌&&◌,
  nat_eq,
  nat_le,
  nat_lt,
  List,
  [],
  ◌∷◌,
  length,
  Option,
  Some,
  None,
}
use Rattle.rtl_ir.specs.declared.design.Module.{Module}
use Rattle.rtl_ir.specs.Value.{Family, Contents, bit}
use Rattle.rtl_ir.specs.Grow.{Holds}
use Rattle.rtl_build.specs.declared.signal.Signal.{Signal}
use Rattle.rtl_build.specs.Signals.{HasSignal}
use Rattle.rtl_build.specs.Wires.{AddsWires}
use Rattle.kernel_control.specs.declared.handshakes.Handshake.{Handshake}
use Rattle.kernel_control.specs.declared.serving.DuePort.{DuePort}
use Rattle.kernel_control.specs.Nets.{HasWidth, net_of}

-- a position is that of a tick of a run of so many, for a node of this time, in words of 48 bits
abbrev pub is_in_ticks : ℕ → ℕ → ℕ → Bool
is_in_ticks p ticks time = nat_le time p && nat_lt p ((time + ticks) % 2 ^ 48)

-- there is no net of a control, or it is 1
abbrev pub is_let : Option ℕ → Family → Bool
is_let None f = true
is_let (Some net) f = nat_eq (f net) 1

-- a port is due in an edge at a position: this is that of one of its ticks, and it is let
abbrev pub is_due : Family → ℕ → ℕ → Handshake → Bool
is_due v p ticks h = is_in_ticks p ticks h.time && is_let (net_of h.enable) v

-- the greatest time of these ports, and 0 where there are none
abbrev pub latest_time : List Handshake → ℕ
latest_time [] = 0
latest_time (h ∷ hs) = max h.time (latest_time hs)

-- a port with its nets and the bit that says whether it is due
pub record IsDuePortOf (m : Module) (position ticks : ℕ) (h : Handshake) (s : DuePort) : Type 0
  where
    pub due : HasWidth m 1 s.due
    pub waits_for : s.waits_for ≡ h.waits_for
    pub answer : s.answer ≡ h.answer
    pub value :
        (c : Contents) (v : Family)
        → Holds m c v
        → v s.due.net ≡ bit (is_due v (v position) (v ticks) h)

-- so it is with each of these ports
abbrev pub AreDuePorts : Module → ℕ → ℕ → List Handshake → List DuePort → Type 0
AreDuePorts m position ticks [] [] = Unit {0}
AreDuePorts m position ticks [] (s ∷ ss) = ⊥
AreDuePorts m position ticks (h ∷ hs) [] = ⊥
AreDuePorts m position ticks (h ∷ hs) (s ∷ ss) =
    IsDuePortOf m position ticks h s × AreDuePorts m position ticks hs ss

-- wires were added that say of each of these ports whether it is due
pub record AddsDuePorts (old new : Module) (position ticks : ℕ) (ports : List Handshake)
    (made : List DuePort) : Type 0
  where
    pub adds : AddsWires old new (7 * length ports)
    pub due : AreDuePorts new position ticks ports made
    pub keeps : (t : Signal) → HasSignal old t → HasSignal new t
    pub before : (c : Contents) (v : Family) → Holds new c v → Holds old c v
