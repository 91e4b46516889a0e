-- How many wires, registers and memory words a module has with all its instances, by its instances.
use Rattle.std.specs.Prelude.{◌≡◌, ℕ, ◌+◌, List, [], ◌∷◌, Some, slice_get}
use Rattle.rtl_ir.specs.declared.design.Design.{Design}
use Rattle.rtl_ir.specs.declared.design.Module.{Module}
use Rattle.rtl_ir.specs.declared.design.Instance.{Instance}
use Rattle.verilog_sim.specs.Start.{cells_of}

mutual
  -- a module has so many with all its instances: its own, and what its instances have
  pub data HasCells (d : Design) : Module → ℕ → Type 0 where
    counted : {m : Module} {parts : ℕ} → PartsHave d m.instances parts → HasCells d m (cells_of m + parts)

  -- instances have so many together: each what its module has with all its instances
  pub data PartsHave (d : Design) : List Instance → ℕ → Type 0 where
    none : PartsHave d [] 0
    more :
        {i : Instance} {is : List Instance} {n parts : ℕ} (inner : Module)
        → slice_get d.modules i.«module» ≡ Some inner
        → HasCells d inner n
        → PartsHave d is parts
        → PartsHave d (i ∷ is) (n + parts)
