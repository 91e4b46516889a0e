-- The position of a kernel's module.
use Rattle.std.specs.Prelude.{◌≡◌, ℕ, ◌+◌, ◌%◌, ◌^◌, true, if◌then◌else◌, nat_eq}
use Rattle.rtl_ir.specs.declared.design.Module.{Module}
use Rattle.rtl_ir.specs.Value.{Family, Contents, is_reg}
use Rattle.rtl_delays.specs.Steps.{Step}

-- a register that a reset edge clears, and that counts the advances from then on
pub record IsPosition (m : Module) (position run reset : ℕ) : Type 0 where
  pub register : is_reg m position ≡ true
  pub cleared :
      (c : Contents) (v : Family) (d : Contents)
      → Step m c v d
      → v reset ≡ 1
      → d.regs position ≡ 0
  pub steps :
      (c : Contents) (v : Family) (d : Contents)
      → Step m c v d
      → v reset ≡ 0
      → d.regs position ≡ if nat_eq (v run) 1 then (v position + 1) % 2 ^ 48 else c.regs position
