-- Ports that are due, and the words or the room that they wait for.
use Rattle.std.specs.Prelude.{ℕ, Bool, not, ◌&&◌, ◌||◌, nat_eq, List, [], ◌∷◌}
use Rattle.rtl_ir.specs.declared.design.Module.{Module}
use Rattle.rtl_ir.specs.Value.{Family}
use Rattle.kernel_control.specs.declared.serving.DuePort.{DuePort}
use Rattle.kernel_control.specs.Nets.{HasWidth, HasBitOutput}

-- a port that is due has what it waits for
abbrev pub serves : Family → DuePort → Bool
serves v s = not (nat_eq (v s.due.net) 1) || nat_eq (v s.waits_for.net) 1

-- by the words of two nets, the kernel isn't held and hasn't ended
abbrev pub may_go : ℕ → ℕ → Bool
may_go hold ended = not (nat_eq hold 1) && not (nat_eq ended 1)

-- a test holds, and so it is with each of these ports
abbrev pub all_serve : Bool → List DuePort → Family → Bool
all_serve b [] v = b
all_serve b (s ∷ ss) v = all_serve (b && serves v s) ss v

-- the nets of a port are bits of the module, the last one an output
pub record IsDuePort (m : Module) (s : DuePort) : Type 0 where
  pub due : HasWidth m 1 s.due
  pub waits_for : HasWidth m 1 s.waits_for
  pub answer : HasBitOutput m s.answer
