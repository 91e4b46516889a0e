-- What a simulator holds before its first call, and how much there is of it.
use Rattle.std.specs.Prelude.{Option, Some, None, nat_lt, ◌≡◌, ℕ, ◌+◌, ◌-◌, ◌^◌, ◌%◌, ◌<◌, min}
use Rattle.std.specs.Prelude.{true, if◌then◌else◌, List, [], ◌∷◌, ◌++◌, length, map, slice_index}
use Rattle.std.specs.Prelude.{replicate, sum_by}
use Rattle.rtl_ir.specs.declared.design.Net.{Net}
use Rattle.rtl_ir.specs.declared.design.Mem.{Mem}
use Rattle.rtl_ir.specs.declared.design.Instance.{Instance}
use Rattle.rtl_ir.specs.declared.design.Module.{Module}
use Rattle.rtl_ir.specs.declared.design.Design.{Design}
use Rattle.rtl_ir.specs.Flat.{AllContents, module_at}
use Rattle.rtl_ir.specs.Value.{Contents, width_of, is_reg, depth_of}
use Rattle.rtl_ir.specs.Typed.{word_width}
use Rattle.verilog_sim.specs.declared.error.SimError.{SimError}
use Rattle.verilog_sim.specs.declared.error.SimError.TheVariants.{TooManyCells, NoMemory}

-- the wires, registers and memory words of a module itself
abbrev pub cells_of : Module → ℕ
cells_of m = length m.nets + sum_by (λ (x : Mem). x.depth) m.mems

-- those of a module with all its instances, where these are the numbers of the modules before it
abbrev pub cells_with : List ℕ → Module → ℕ
cells_with cells m = cells_of m + sum_by (λ (i : Instance). slice_index cells i.«module») m.instances

-- the numbers of these modules behind those of the modules before them
abbrev pub cells_after : List ℕ → List Module → List ℕ
cells_after cells [] = cells
cells_after cells (m ∷ ms) = cells_after (cells ++ cells_with cells m ∷ []) ms

-- the wires, registers and memory words of the top module of a design and of all its instances. A module stands after those
-- that it has instances of
abbrev pub all_cells : Design → ℕ
all_cells d = slice_index (cells_after [] d.modules) (length d.modules - 1)

abbrev pub held_at_start : ℕ → Net → ℕ
held_at_start fill n = if n.reg then fill % 2 ^ n.width else 0

-- each of these nets holds what it holds at the start
abbrev pub AreFilled : ℕ → List Net → List ℕ → Type 0
AreFilled fill nets held = (n : ℕ) → slice_index held n ≡ slice_index (map (held_at_start fill) nets) n

abbrev pub words_at_start : ℕ → Mem → List ℕ
words_at_start fill x = replicate x.depth (fill % 2 ^ x.width)

-- every register and memory word holds the low bits of a word
pub record IsFilled (m : Module) (fill : ℕ) (c : Contents) : Type 0 where
  pub regs : (n : ℕ) → is_reg m n ≡ true → c.regs n ≡ fill % 2 ^ width_of m n
  pub cells : (k a : ℕ) → a < depth_of m k → c.cells k a ≡ fill % 2 ^ word_width m k

-- the same as a function, which is 0 where there is no register and no word of a memory
abbrev pub filled_part : Option Module → ℕ → Contents
filled_part None fill = record { regs = λ n. 0; cells = λ k a. 0 }
filled_part (Some m) fill = record {
  regs = λ n. if is_reg m n then fill % 2 ^ width_of m n else 0;
  cells = λ k a. if nat_lt a (depth_of m k) then fill % 2 ^ word_width m k else 0;
}

-- what the registers and memories of a module and of all its instances hold at first
abbrev pub filled : Design → Module → ℕ → AllContents
filled d m fill = λ p. filled_part (module_at d m p) fill

-- which answer there is for so many cells. Memory may be short before they are counted
abbrev pub IsRefusal : ℕ → SimError → Type 0
IsRefusal cells (TooManyCells n) = (2 ^ 26 < cells) × (n ≡ min cells (2 ^ 64 - 1))
IsRefusal cells NoMemory = Unit {0}
