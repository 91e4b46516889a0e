-- What the ports of a kernel's module are told.
use Rattle.std.specs.Prelude.{
  ◌≡◌,
  ℕ,
  ◌+◌,
  ◌*◌,
  ◌≤◌,
  ◌%◌,
  ◌^◌,
  Bool,
  true,
  not,
  ◌&&◌,
  ◌||◌,
  nat_lt,
  nat_eq,
  bit_and,
  List,
  [],
  ◌∷◌,
  length,
}
use Rattle.rtl_ir.specs.declared.design.Module.{Module}
use Rattle.rtl_ir.specs.Value.{Family, Contents, bit}
use Rattle.rtl_ir.specs.Grow.{Holds}
use Rattle.rtl_build.specs.declared.signal.Signal.{Signal}
use Rattle.rtl_delays.specs.Extends.{Extends}
use Rattle.rtl_delays.specs.Driven.{is_driven, LeavesUndriven}
use Rattle.rtl_delays.specs.Stored.{stored_bits}
use Rattle.kernel_control.specs.declared.handshakes.Handshake.{Handshake}
use Rattle.kernel_control.specs.declared.handshakes.ControlNets.{ControlNets}
use Rattle.kernel_control.specs.declared.serving.DuePort.{DuePort}
use Rattle.kernel_control.specs.Nets.{HasWidth, told_nets}
use Rattle.kernel_control.specs.Outputs.{AreDriven, DrivesAtMost}
use Rattle.kernel_control.specs.Due.{is_due, latest_time}

-- ---- netlists

-- the outputs that tell these ports
abbrev pub answers_of : List DuePort → List ℕ
answers_of [] = []
answers_of (s ∷ ss) = s.answer.net ∷ answers_of ss

-- a port is told that the kernel advances, where it is due
abbrev pub IsTold : Module → ℕ → DuePort → Type 0
IsTold m run s =
    (c : Contents) (v : Family) → Holds m c v → v s.answer.net ≡ bit_and (v run) (v s.due.net)

-- each of these ports is
abbrev pub AreTold : Module → ℕ → List DuePort → Type 0
AreTold m run [] = Unit {0}
AreTold m run (s ∷ ss) = IsTold m run s × AreTold m run ss

-- a port's output was given its value, and no register or memory
pub record AnswersOne (old new : Module) (run : ℕ) (port : DuePort) : Type 0 where
  pub extends : Extends old new
  pub updates : new.updates ≡ old.updates
  pub stored : stored_bits new ≡ stored_bits old
  pub leaves : LeavesUndriven old new port.answer.net
  pub driven : is_driven port.answer.net new.assigns ≡ true
  pub told : IsTold new run port
  pub nets : length new.nets ≤ length old.nets + 1

-- the outputs of these ports were given their values, and no register or memory
pub record AnswersAll (old new : Module) (run : ℕ) (ports : List DuePort) : Type 0 where
  pub extends : Extends old new
  pub updates : new.updates ≡ old.updates
  pub stored : stored_bits new ≡ stored_bits old
  pub leaves : DrivesAtMost old new (answers_of ports)
  pub driven : AreDriven new (answers_of ports)
  pub told : AreTold new run ports
  pub nets : length new.nets ≤ length old.nets + length ports

-- ---- edges

-- each port that is due has what it waits for
abbrev pub are_served : Family → ℕ → ℕ → List Handshake → Bool
are_served v p ticks [] = true
are_served v p ticks (h ∷ hs) =
    (not (is_due v p ticks h) || nat_eq (v h.waits_for.net) 1) && are_served v p ticks hs

-- each port is told that the kernel advances, where it is due
abbrev pub Told : Family → ℕ → ℕ → Bool → List Handshake → Type 0
Told v p ticks go [] = Unit {0}
Told v p ticks go (h ∷ hs) =
    (v h.answer.net ≡ bit (go && is_due v p ticks h)) × Told v p ticks go hs

-- the position is past the last tick of all ports
abbrev pub is_over : ℕ → ℕ → List Handshake → Bool
is_over p ticks hs = not (nat_lt p ((latest_time hs + ticks) % 2 ^ 48))

-- it advances where it isn't held, hasn't ended, and each port that is due is served
abbrev pub goes : Family → ℕ → ℕ → ℕ → List Handshake → Bool
goes v p ticks hold hs =
    not (nat_eq (v hold) 1) && (not (is_over p ticks hs) && are_served v p ticks hs)

-- the nets of the control in an edge
pub record Controls (v : Family) (p ticks hold over go : ℕ) (hs : List Handshake) : Type 0 where
  pub runs : v go ≡ bit (goes v p ticks hold hs)
  pub ended : v over ≡ bit (is_over p ticks hs)
  pub told : Told v p ticks (goes v p ticks hold hs) hs

-- The control was added but for the position's update: the bit of its advances, and the values of
-- its outputs.
pub record HasControl (old new : Module) (nets : ControlNets) (hs : List Handshake) (go : Signal)
    : Type 0
  where
    pub extends : Extends old new
    pub run : HasWidth new 1 go
    pub updates : new.updates ≡ old.updates
    pub stored : stored_bits new ≡ stored_bits old
    pub leaves : DrivesAtMost old new (told_nets nets hs)
    pub driven : AreDriven new (told_nets nets hs)
    pub added : length new.nets ≤ length old.nets + 11 * length hs + 7
    pub shows :
        (c : Contents) (v : Family)
        → Holds new c v
        → Controls v (v nets.position.net) (v nets.ticks.net) nets.hold.net nets.ended.net go.net hs
