-- The marks of the nets that are ports'.
use Rattle.std.proofs.Common.{◌≡◌, ◌<◌, ◌≤◌, ◌+◌, ℕ, Bool, true, false, List, length, take, get_or, arith}
use Rattle.std.proofs.Math.ListN.{set}
use Rattle.std.proofs.lemmas.Grind.{common_steps}
use Rattle.rtl_ir.specs.declared.design.Port.{Port}
use Rattle.rtl_text.specs.Text.{is_port}
use Rattle.verilog_print.proofs.Steps.{is_port_step}

pub marked : (items : List Bool) (ports : List Port) (i n : ℕ) (d : Port) → i < length ports → (get_or ports i d).net < length items → get_or items n false ≡ is_port (take i ports) n
    → get_or (set items (get_or ports i d).net true) n false ≡ is_port (take (i + 1) ports) n
marked items ports i n d h k old = let s = is_port_step ports i n d h in grind (arith, common_steps, s)

pub unmarked : (items : List Bool) (ports : List Port) (i n : ℕ) (d : Port) → i < length ports
    → n < length items → length items ≤ (get_or ports i d).net
    → get_or items n false ≡ is_port (take i ports) n
    → get_or items n false ≡ is_port (take (i + 1) ports) n
unmarked items ports i n d h k q old = let s = is_port_step ports i n d h in grind (arith, common_steps, s)
