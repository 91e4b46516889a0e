-- The one run that a stimulus drives.
use Rattle.std.specs.Prelude.{◌≡◌, ℕ, ◌+◌, List, [], ◌∷◌, ◌++◌}
use Rattle.rtl_ir.specs.declared.design.Design.{Design}
use Rattle.rtl_ir.specs.declared.design.Module.{Module}
use Rattle.rtl_ir.specs.Value.{Family}
use Rattle.rtl_ir.specs.Flat.{AllContents, Families, EdgesFlat}
use Rattle.rtl_ir.specs.Parts.{own_of}
use Rattle.rtl_ir.specs.Run.{Channel, Outer, IsDriven}
use Rattle.rtl_ir.specs.OneRun.{AllSame}
use Rattle.rtl_runs.specs.Stimuli.{Stimulus}

-- the inputs from number k on have these words where they aren't valid
abbrev pub HasIdleWords : (ℕ → ℕ) → ℕ → List Channel → Family → Type 0
HasIdleWords idle k [] v = Unit {0}
HasIdleWords idle k (ch ∷ chs) v = (v ch.valid ≡ 0 → v ch.word ≡ idle k) × HasIdleWords idle (k + 1) chs v

-- the same of the edges from this one on
abbrev pub AllHaveIdleWords : (ℕ → ℕ → ℕ) → ℕ → List Channel → List Family → Type 0
AllHaveIdleWords idle edge chs [] = Unit {0}
AllHaveIdleWords idle edge chs (v ∷ vs) = HasIdleWords (idle edge) 0 chs v × AllHaveIdleWords idle (edge + 1) chs vs

-- edge after edge these are families of the design, from these contents, and the outer ports are driven so
pub record IsDrivenBy (d : Design) (m : Module) (o : Outer) (c : AllContents) (x : Stimulus) (vs : List Families) : Type 0 where
  pub edges : EdgesFlat d m c vs
  pub driven : IsDriven o (x.ticks ++ x.scalars) x.words x.events (own_of vs)
  pub idle : AllHaveIdleWords x.idle 0 o.inputs (own_of vs)

-- there is one such run, on all parts that there are
pub record HasOneDrivenRun (d : Design) (m : Module) (o : Outer) (c : AllContents) (x : Stimulus) : Type 0 where
  pub run : List Families
  pub is : IsDrivenBy d m o c x run
  pub only : (vs : List Families) → IsDrivenBy d m o c x vs → AllSame d m vs run
