-- Registers that are closed after further wires.
use Rattle.std.proofs.Common.{◌≡◌, ℕ, ◌+◌, ◌≤◌, Bool, cond, ◌&&◌, eqb, leb, sym, ap, ◌∙◌, subst, arith}
use Rattle.rtl_ir.specs.declared.design.Module.{Module}
use Rattle.rtl_ir.specs.Value.{Family, Contents, bit}
use Rattle.rtl_ir.specs.Grow.{Holds}
use Rattle.rtl_build.specs.Wires.{AddsWires}
use Rattle.rtl_delays.specs.Steps.{IsSound, writes_reg, writes_mem}
use Rattle.rtl_delays.specs.Extends.{AllOff}
use Rattle.rtl_delays.proofs.Extends.{wires_extends, extends_on}
use Rattle.rtl_delays.proofs.Undriven.{wires_undriven, undriven_on}
use Rattle.rtl_delays.proofs.Stored.{wires_stored}
use Rattle.rtl_delays.proofs.Kept.{wires_no_register, no_register_on}
use Rattle.kernel_control.proofs.Bits.{test_bit}
use Rattle.kernel_states.specs.Closing.{ClosesRegister}

-- wires, and then the closing of a register that steps nowhere but where `run` is 1
pub closes_after :
    {l m n : Module} {j k : ℕ} (run reset enable register i : ℕ) → IsSound l → AddsWires l m j → ClosesRegister m n enable reset register k
    → ((c : Contents) (f : Family) → Holds n c f → f run ≡ 0 → f enable ≡ 0) → j + k ≤ i → ClosesRegister l n run reset register i
closes_after {l} {m} {n} run reset enable register i sound adds closes none le = record {
  extends = extends_on (wires_extends sound adds) closes.extends;
  still = λ c f h r s off. closes.still c f h (none c f h r) s (subst (AllOff f) (sym adds.updates) off);
  others = record {
    regs = λ k w e. closes.others.regs k (ap (writes_reg k) adds.updates ∙ w) e;
    mems = λ k w e. closes.others.mems k (ap (writes_mem k) adds.updates ∙ w) e;
  };
  written = closes.written;
  registers = no_register_on l m n (wires_no_register adds) closes.registers;
  undriven = undriven_on l m n adds.grows (wires_undriven adds) closes.undriven;
  stored = closes.stored ∙ wires_stored adds;
  nets = let a = adds.count in let b = closes.nets in omega (arith, a, b);
  mems = closes.mems ∙ adds.mems;
}

-- where `run` is 0 a test of it fails
pub idle : (enable run : ℕ) (b : Bool) → enable ≡ bit (eqb run 1 && b) → run ≡ 0 → enable ≡ 0
idle enable run b e z = e ∙ ap (λ x. bit (eqb x 1 && b)) z

-- where it takes its next word
pub is_stepped :
    (new enable value old run position time : ℕ) (next : ℕ) → new ≡ cond (eqb enable 1) value old
    → enable ≡ bit (eqb run 1 && leb time position) → value ≡ next → new ≡ cond (eqb run 1 && leb time position) next old
is_stepped new enable value old run position time next e t v =
    e ∙ ap (λ x. cond (eqb x 1) value old) t ∙ ap (λ b. cond b value old) (test_bit (eqb run 1 && leb time position))
    ∙ ap (λ x. cond (eqb run 1 && leb time position) x old) v
