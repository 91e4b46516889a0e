-- Modules without instances that can be simulated, and orders in which their assignments are evaluated.
use Rattle.std.specs.Prelude.{◌≡◌, ℕ, ◌≤◌, true, false, List, Some, slice_get}
use Rattle.rtl_ir.specs.declared.design.Module.{Module}
use Rattle.rtl_ir.specs.declared.design.Mem.{Mem}
use Rattle.rtl_ir.specs.declared.design.Net.{Net}
use Rattle.rtl_ir.specs.declared.design.Assign.{Assign}
use Rattle.rtl_ir.specs.declared.design.Update.{Update}
use Rattle.rtl_ir.specs.declared.design.Target.TheVariants.{Reg}
use Rattle.rtl_ir.specs.Value.{width_of, is_reg}
use Rattle.rtl_ir.specs.Operands.{IsRead}
use Rattle.rtl_ir.specs.Typed.{is_given, IsTyped, IsUpdateTyped}
use Rattle.rtl_ir.specs.Formed.{IsFormedAssign, IsFormedUpdate}
use Rattle.verilog_sim.specs.Settled.{IsInOrder}

-- a net is read for the value of another one
pub data Follows (m : Module) : ℕ → ℕ → Type 0 where
  by : (j n : ℕ) (a : Assign) → slice_get m.assigns j ≡ Some a → IsRead a.expr n → Follows m n a.target

-- a way on which each net is read for the next one
pub data Chain (m : Module) : ℕ → ℕ → Type 0 where
  stay : {a : ℕ} → Chain m a a
  on : {a b z : ℕ} → Chain m a b → Follows m b z → Chain m a z

-- a net and a memory that have a size, whatever their names are
pub record IsSizedNet (n : Net) : Type 0 where
  pub some : 1 ≤ n.width
  pub at_most : n.width ≤ 128

pub record IsSizedMem (k : Mem) : Type 0 where
  pub some : 1 ≤ k.width
  pub at_most : k.width ≤ 128
  pub words : 1 ≤ k.depth

-- numbers are in range and widths agree, each net has at most one assignment and each register an update, and no net is
-- read for its own value
pub record IsRunnable (m : Module) : Type 0 where
  pub nets : (k : ℕ) (n : Net) → slice_get m.nets k ≡ Some n → IsSizedNet n
  pub mems : (k : ℕ) (x : Mem) → slice_get m.mems k ≡ Some x → IsSizedMem x
  pub assigns : (k : ℕ) (a : Assign) → slice_get m.assigns k ≡ Some a → IsFormedAssign m a
  pub typed : (k : ℕ) (a : Assign) → slice_get m.assigns k ≡ Some a → IsTyped m (width_of m a.target) a.expr
  pub given : (k : ℕ) (a : Assign) → slice_get m.assigns k ≡ Some a → is_given m a.target ≡ false
  pub one : (j k : ℕ) (a b : Assign) → slice_get m.assigns j ≡ Some a → slice_get m.assigns k ≡ Some b → a.target ≡ b.target → j ≡ k
  pub free : (a b : ℕ) → Chain m a b → Follows m b a → ⊥
  pub updates : (k : ℕ) (u : Update) → slice_get m.updates k ≡ Some u → IsFormedUpdate m u
  pub update_widths : (k : ℕ) (u : Update) → slice_get m.updates k ≡ Some u → IsUpdateTyped m u
  pub regs : (k n : ℕ) (u : Update) → slice_get m.updates k ≡ Some u → u.target ≡ Reg n → is_reg m n ≡ true
  pub updated : (n : ℕ) → is_reg m n ≡ true → (k : ℕ) × (u : Update) × (slice_get m.updates k ≡ Some u) × (u.target ≡ Reg n)

-- assignments of the module, in an order in which they can be evaluated
pub record IsPartOf (m : Module) (assigns : List Assign) : Type 0 where
  pub in_order : IsInOrder m assigns
  pub from : (i : ℕ) (a : Assign) → slice_get assigns i ≡ Some a → (k : ℕ) × (slice_get m.assigns k ≡ Some a)

-- the assignments of the module, in an order in which they can be evaluated
pub record IsOrderOf (m : Module) (order : List Assign) : Type 0 where
  pub in_order : IsInOrder m order
  pub all : (k : ℕ) (a : Assign) → slice_get m.assigns k ≡ Some a → (i : ℕ) × (slice_get order i ≡ Some a)
  pub from : (i : ℕ) (a : Assign) → slice_get order i ≡ Some a → (k : ℕ) × (slice_get m.assigns k ≡ Some a)
