-- Assignments in an order in which each of them can be evaluated once, and the values that this gives.
use Rattle.std.specs.Prelude.{◌≡◌, ◌≢◌, ℕ, ◌^◌, ◌<◌, ◌≤◌, List, [], length, Some, slice_get, slice_index, slice_index_or}
use Rattle.rtl_ir.specs.declared.design.Module.{Module}
use Rattle.rtl_ir.specs.declared.design.Assign.{Assign}
use Rattle.rtl_ir.specs.Value.{width_of, value}
use Rattle.rtl_ir.specs.Operands.{IsRead}
use Rattle.rtl_ir.specs.Typed.{IsTyped, word_width}
use Rattle.verilog_sim.specs.Contents.{family_of, contents_of, HasDepths}

-- no assignment writes what itself or an earlier one reads, nor what an earlier one writes
pub record IsInOrder (m : Module) (assigns : List Assign) : Type 0 where
  pub typed : (i : ℕ) (a : Assign) → slice_get assigns i ≡ Some a → IsTyped m (width_of m a.target) a.expr
  pub unread : (i j : ℕ) (a b : Assign) → i ≤ j → slice_get assigns i ≡ Some a → slice_get assigns j ≡ Some b → IsRead a.expr b.target → ⊥
  pub once : (i j : ℕ) (a b : Assign) → i < j → slice_get assigns i ≡ Some a → slice_get assigns j ≡ Some b → a.target ≢ b.target

-- a value of its width for each net, and words of their widths in each memory
pub record AreWords (m : Module) (values : List ℕ) (memories : List (List ℕ)) : Type 0 where
  pub nets : length values ≡ length m.nets
  pub words : (n : ℕ) → slice_index values n < 2 ^ width_of m n
  pub depths : HasDepths m memories
  pub cells : (k a : ℕ) → slice_index (slice_index_or memories k []) a < 2 ^ word_width m k

-- the assignments hold, and all nets but their targets have their old values
pub record Settles (m : Module) (assigns : List Assign) (memories : List (List ℕ)) (old new : List ℕ) : Type 0 where
  pub nets : length new ≡ length m.nets
  pub words : (n : ℕ) → slice_index new n < 2 ^ width_of m n
  pub assigned :
      (i : ℕ) (a : Assign)
      → slice_get assigns i ≡ Some a
      → slice_index new a.target ≡ value m (contents_of [] memories) (family_of new) (width_of m a.target) a.expr
  pub others : (n : ℕ) → ((i : ℕ) (a : Assign) → slice_get assigns i ≡ Some a → a.target ≢ n) → slice_index new n ≡ slice_index old n

-- the first so many assignments hold, and all nets but their targets have their old values
pub record Progress (m : Module) (assigns : List Assign) (memories : List (List ℕ)) (old new : List ℕ) (i : ℕ) : Type 0 where
  pub nets : length new ≡ length m.nets
  pub words : (n : ℕ) → slice_index new n < 2 ^ width_of m n
  pub assigned :
      (j : ℕ) (a : Assign)
      → j < i
      → slice_get assigns j ≡ Some a
      → slice_index new a.target ≡ value m (contents_of [] memories) (family_of new) (width_of m a.target) a.expr
  pub others : (n : ℕ) → ((j : ℕ) (a : Assign) → j < i → slice_get assigns j ≡ Some a → a.target ≢ n) → slice_index new n ≡ slice_index old n
