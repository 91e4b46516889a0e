-- Modules that grow by ports.
use Rattle.std.specs.Prelude.{◌≡◌, ℕ, ◌<◌, ◌≤◌, List, [], ◌∷◌, ◌++◌, length, Bool, true, false}
use Rattle.rtl_ir.specs.declared.design.Module.{Module}
use Rattle.rtl_ir.specs.declared.design.Assign.{Assign}
use Rattle.rtl_ir.specs.declared.design.Expr.TheVariants as exprs
use Rattle.rtl_ir.specs.Value.{Family, Contents, width_of}
use Rattle.rtl_ir.specs.Grow.{Holds}
use Rattle.rtl_build.specs.declared.signal.Signal.{Signal}
use Rattle.rtl_build.specs.Wires.{is_output}
use Rattle.rtl_build.specs.Signals.{HasSignal}

-- the module with one port more, the last one, whose net is the last one
abbrev pub with_port : Module → List ℕ → ℕ → Bool → Module
with_port m name w output = record m {
  ports = m.ports ++ record { net = length m.nets; output = output } ∷ [];
  nets = m.nets ++ record { name = name; width = w; reg = false } ∷ [];
}

-- the signal is the net of an output of the module, with its width
pub record HasOutput (m : Module) (s : Signal) : Type 0 where
  pub net : s.net < length m.nets
  pub output : is_output m.ports s.net ≡ true
  pub width : width_of m s.net ≡ s.width

-- A port was added, and the signal is its net. What the module had it still has.
pub record AddsPort (old new : Module) (name : List ℕ) (w : ℕ) (output : Bool) (s : Signal) : Type 0 where
  pub is : new ≡ with_port old name w output
  pub net : s.net ≡ length old.nets
  pub width : s.width ≡ w
  pub within : s.net < length new.nets
  pub direction : is_output new.ports s.net ≡ output
  pub wide : width_of new s.net ≡ w
  pub keeps : (t : Signal) → HasSignal old t → HasSignal new t
  pub outputs : (t : Signal) → HasOutput old t → HasOutput new t
  pub before : (c : Contents) (v : Family) → Holds new c v → Holds old c v

-- the module with this assignment beside its own
abbrev pub with_assign : Module → Assign → Module
with_assign m a = record m { assigns = m.assigns ++ a ∷ [] }

-- An output has the value of a signal, by an assignment, and nothing else was added.
pub record Drives (old new : Module) (output source : Signal) : Type 0 where
  pub is : new ≡ with_assign old (record { target = output.net; expr = exprs.Net source.net })
  pub value : (c : Contents) (v : Family) → Holds new c v → v output.net ≡ v source.net
  pub keeps : (t : Signal) → HasSignal old t → HasSignal new t
  pub outputs : (t : Signal) → HasOutput old t → HasOutput new t
  pub before : (c : Contents) (v : Family) → Holds new c v → Holds old c v
