-- Nets that carry words of an operation.
use Rattle.std.specs.Prelude.{◌≡◌, ℕ, ◌≤◌, ◌<◌, false, length, Option, IfSome}
use Rattle.rtl_ir.specs.declared.design.Module.{Module}
use Rattle.rtl_ir.specs.declared.design.Sign.{Sign}
use Rattle.rtl_ir.specs.declared.design.Sign.TheVariants.{Eq, Lt}
use Rattle.rtl_ir.specs.Value.{Family, Contents, width_of}
use Rattle.rtl_ir.specs.Grow.{Holds}
use Rattle.rtl_build.specs.declared.signal.Signal.{Signal}
use Rattle.rtl_build.specs.Wires.{is_output, AddsWires}

-- the signal is a net of the module that is not that of an output, with its width
pub record HasSignal (m : Module) (s : Signal) : Type 0 where
  pub net : s.net < length m.nets
  pub inner : is_output m.ports s.net ≡ false
  pub width : width_of m s.net ≡ s.width
  pub some : 1 ≤ s.width
  pub at_most : s.width ≤ 128

-- the width of an operator's result, by that of its operands
abbrev pub sign_width : Sign → ℕ → ℕ
sign_width Eq w = 1
sign_width Lt w = 1
sign_width _ w = w

-- Contents for expressions that read no memory, whose value hangs on the nets alone.
abbrev pub no_contents : Contents
no_contents = record { regs = λ n. 0; cells = λ k a. 0 }

-- At most so many wires were added, and the signal has w bits and this value in every family that
-- satisfies the new module.
pub record Makes (old new : Module) (most w : ℕ) (f : Family → ℕ) (s : Signal) : Type 0 where
  pub adds : AddsWires old new most
  pub signal : HasSignal new s
  pub width : s.width ≡ w
  pub value : (c : Contents) (v : Family) → Holds new c v → v s.net ≡ f v
  pub keeps : (t : Signal) → HasSignal old t → HasSignal new t
  pub before : (c : Contents) (v : Family) → Holds new c v → Holds old c v

-- As `Makes`, for a value that may be undefined: where it is, the signal may have any.
pub record MakesWhere (old new : Module) (most w : ℕ) (f : Family → Option ℕ) (s : Signal) : Type 0 where
  pub adds : AddsWires old new most
  pub signal : HasSignal new s
  pub width : s.width ≡ w
  pub value : (c : Contents) (v : Family) → Holds new c v → IfSome (f v) (λ x. v s.net ≡ x)
  pub keeps : (t : Signal) → HasSignal old t → HasSignal new t
  pub before : (c : Contents) (v : Family) → Holds new c v → Holds old c v
