-- How far nets stand from registers and inputs.
use Rattle.std.specs.Prelude.{◌≡◌, ℕ, ◌+◌, ◌-◌, ◌^◌, ◌<◌, ◌≤◌, List, map, Some, slice_get, slice_index}
use Rattle.rtl_ir.specs.declared.design.Assign.{Assign}
use Rattle.rtl_ir.specs.declared.design.Expr.{Expr}
use Rattle.rtl_ir.specs.Operands.{IsRead}
use Rattle.verilog_sim.specs.declared.level.Ranked.{Ranked}

-- a level above those of all nets that an expression reads, and at most one above the greatest of all
pub record IsAbove (e : Expr) (levels : List ℕ) (level : ℕ) : Type 0 where
  pub above : (bound n : ℕ) → bound < 2 ^ 64 - 1 → ((k : ℕ) → slice_index levels k ≤ bound) → IsRead e n → slice_index levels n < level
  pub at_most : (bound : ℕ) → ((k : ℕ) → slice_index levels k ≤ bound) → level ≤ bound + 1

-- the target of each assignment has a level above those of all nets that it reads
abbrev pub AreLevels : List Assign → List ℕ → Type 0
AreLevels order levels = (i n : ℕ) (a : Assign) → slice_get order i ≡ Some a → IsRead a.expr n → slice_index levels n < slice_index levels a.target

abbrev pub assign_of : Ranked → Assign
assign_of r = r.assign

-- these assignments, each with the level of its target
pub record AreRanked (levels : List ℕ) (order : List Assign) (items : List Ranked) : Type 0 where
  pub assigns : map assign_of items ≡ order
  pub levels_are : (i : ℕ) (r : Ranked) → slice_get items i ≡ Some r → r.level ≡ slice_index levels r.assign.target
