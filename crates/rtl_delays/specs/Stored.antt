-- The bits that a module stores: those of its registers and memories.
use Rattle.std.specs.Prelude.{ℕ, ◌+◌, ◌*◌, if◌then◌else◌, List, [], ◌∷◌}
use Rattle.rtl_ir.specs.declared.design.Net.{Net}
use Rattle.rtl_ir.specs.declared.design.Mem.{Mem}
use Rattle.rtl_ir.specs.declared.design.Module.{Module}

-- the bits of the registers among these nets
abbrev pub net_bits : List Net → ℕ
net_bits [] = 0
net_bits (n ∷ nets) = (if n.reg then n.width else 0) + net_bits nets

-- the bits of these memories, the width of each times its depth
abbrev pub mem_bits : List Mem → ℕ
mem_bits [] = 0
mem_bits (k ∷ mems) = k.width * k.depth + mem_bits mems

-- the bits that the registers and memories of a module hold
abbrev pub stored_bits : Module → ℕ
stored_bits m = net_bits m.nets + mem_bits m.mems
