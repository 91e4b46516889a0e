-- What the control of a kernel's module shows in each edge, and how its position moves.
use Rattle.std.specs.Prelude.{
  ◌≡◌,
  ℕ,
  ◌+◌,
  ◌%◌,
  ◌^◌,
  ◌≤◌,
  Bool,
  true,
  ◌&&◌,
  if◌then◌else◌,
  nat_eq,
  nat_le,
  List,
  [],
  ◌∷◌,
  Option,
}
use Rattle.rtl_ir.specs.declared.design.Module.{Module}
use Rattle.rtl_ir.specs.Value.{Family, Contents, is_reg, bit}
use Rattle.rtl_ir.specs.Grow.{Holds}
use Rattle.rtl_delays.specs.Steps.{Step}
use Rattle.stream_graph.specs.declared.node.Node.{Node}
use Rattle.kernel_control.specs.Ports.{PortChannel, ModuleNets}
use Rattle.kernel_control.specs.Due.{is_let}
use Rattle.kernel_control.specs.Refines.{TimedRun, is_active, last_time, advances, Takes}

-- each output is valid where the kernel advances and it is due
abbrev pub AreValid : TimedRun → ℕ → Bool → List PortChannel → Family → Type 0
AreValid k p go [] v = Unit {0}
AreValid k p go (x ∷ xs) v =
    (v x.channel.valid ≡ bit (go && k.due x.node p)) × AreValid k p go xs v

-- What the control shows at a position: whether the kernel advances, whether it has ended, and what
-- its ports are told.
pub record ControlAt (q : ModuleNets) (run : ℕ) (k : TimedRun) (p : ℕ) (f : Family) : Type 0 where
  pub runs : f run ≡ bit (advances k q p f)
  pub ended : f q.ended ≡ bit (k.ends p)
  pub takes : Takes k p (advances k q p f) q.inputs f
  pub valid : AreValid k p (advances k q p f) q.outputs f

-- The position, which a reset edge clears and each advance counts up; and what the control shows at
-- each position up to the end, in every run whose ports are due where they are active and the nets
-- of their controls let them.
pub record IsControl (m : Module) (nodes : List Node) (times : ℕ → ℕ) (controls : ℕ → Option ℕ)
    (q : ModuleNets) (run : ℕ) : Type 0
  where
    pub position : is_reg m q.position ≡ true
    pub cleared :
        (c : Contents) (f : Family) (d : Contents)
        → Step m c f d
        → f q.reset ≡ 1
        → d.regs q.position ≡ 0
    pub steps :
        (c : Contents) (f : Family) (d : Contents)
        → Step m c f d
        → f q.reset ≡ 0
        → d.regs q.position
        ≡ if nat_eq (f run) 1 then (f q.position + 1) % 2 ^ 48 else c.regs q.position
    pub shows :
        (k : TimedRun) (c : Contents) (f : Family) (count : ℕ)
        → Holds m c f
        → f q.ticks ≡ count
        → count ≤ 2 ^ 40
        → f q.position ≤ count + last_time nodes times
        → ((n : ℕ)
        → k.due n (f q.position)
        ≡ is_active (times n) count (f q.position) && is_let (controls n) f)
        → k.ends (f q.position) ≡ nat_le (count + last_time nodes times) (f q.position)
        → ControlAt q run k (f q.position) f
