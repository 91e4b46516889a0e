-- Which assignments feed nets.
use Rattle.std.specs.Prelude.{◌≡◌, ◌⊎◌, ℕ, ◌<◌, ◌≤◌, List, Bool, true, false, not, ◌&&◌, length, Some, slice_get, slice_index, slice_index_or}
use Rattle.std.specs.List.{filter}
use Rattle.rtl_ir.specs.declared.design.Assign.{Assign}
use Rattle.rtl_ir.specs.declared.design.Expr.{Expr}
use Rattle.rtl_ir.specs.declared.design.Expr.TheVariants.{Net as Plain, Literal, Not, Binary, Concat, Repeat, Part, Choose, Cell}
use Rattle.rtl_ir.specs.declared.design.Module.{Module}
use Rattle.rtl_ir.specs.declared.design.Port.{Port}
use Rattle.rtl_ir.specs.declared.design.Update.{Update}
use Rattle.rtl_ir.specs.Operands.{IsRead, target_net}
use Rattle.verilog_sim.specs.Runnable.{IsOrderOf}

-- a net is marked
abbrev pub is_marked : List Bool → ℕ → Bool
is_marked marks n = slice_index_or marks n false

-- what each assignment from a number on reads whose target is marked
pub record AreMarkedFrom (order : List Assign) (marks : List Bool) (from : ℕ) : Type 0 where
  pub closed :
      (i n : ℕ) (a : Assign)
      → from ≤ i
      → slice_get order i ≡ Some a
      → is_marked marks a.target ≡ true
      → IsRead a.expr n
      → is_marked marks n ≡ true

-- the marks of some more nets, which are those that an expression reads
pub record AreReadsMarked (e : Expr) (old new : List Bool) : Type 0 where
  pub kept : (n : ℕ) → is_marked old n ≡ true → is_marked new n ≡ true
  pub reads : (n : ℕ) → IsRead e n → is_marked new n ≡ true
  pub only : (n : ℕ) → is_marked new n ≡ true → (is_marked old n ≡ true) ⊎ IsRead e n

-- an expression that has one value whatever happens
abbrev pub is_literal : Expr → Bool
is_literal (Literal x) = true
is_literal (Plain n) = false
is_literal (Not n) = false
is_literal (Binary s n o) = false
is_literal (Concat n o) = false
is_literal (Repeat k n) = false
is_literal (Part n hi lo) = false
is_literal (Choose n o p) = false
is_literal (Cell k n) = false

-- the assignments to marked nets, but literals, in their order
abbrev pub marked_of : List Bool → List Assign → List Assign
marked_of marks = filter (λ (a : Assign). is_marked marks a.target && not (is_literal a.expr))

-- the assignments, but literals, on which the values of these nets depend, in their order
pub record IsFeeding (order feeding : List Assign) (IsWanted : ℕ → Type 0) : Type 0 where
  pub marks : List Bool
  pub wanted : (n : ℕ) → IsWanted n → is_marked marks n ≡ true
  pub marked : AreMarkedFrom order marks 0
  pub are : feeding ≡ marked_of marks order

-- a net is seen in an edge: at a port, by an update, or where other nets may come from
pub data IsSeen (m : Module) (os : List ℕ) : ℕ → Type 0 where
  at_port : (i : ℕ) (p : Port) → slice_get m.ports i ≡ Some p → IsSeen m os p.net
  by_enable : (j : ℕ) (u : Update) → slice_get m.updates j ≡ Some u → IsSeen m os u.enable
  by_value : (j : ℕ) (u : Update) → slice_get m.updates j ≡ Some u → IsSeen m os u.value
  by_target : (j : ℕ) (u : Update) → slice_get m.updates j ≡ Some u → IsSeen m os (target_net u.target)
  as_origin : (n : ℕ) → n < length os → slice_index os n ≡ n → IsSeen m os n

-- the ports of a module are nets of it
abbrev pub ArePortsIn : Module → Type 0
ArePortsIn m = (i : ℕ) (p : Port) → slice_get m.ports i ≡ Some p → p.net < length m.nets

-- the nets of an update are among so many
pub record AreNetsBelow (nets : ℕ) (u : Update) : Type 0 where
  pub enable : u.enable < nets
  pub value : u.value < nets
  pub net : target_net u.target < nets

-- the nets of an update are marked
pub record AreNetsMarked (marks : List Bool) (u : Update) : Type 0 where
  pub enable : is_marked marks u.enable ≡ true
  pub value : is_marked marks u.value ≡ true
  pub net : is_marked marks (target_net u.target) ≡ true

-- in one order of its assignments, those of a module that feed the nets seen in an edge, and those that feed one net
pub record AreOrders (m : Module) (os : List ℕ) (net : ℕ) (edge feeding : List Assign) : Type 0 where
  pub order : List Assign
  pub ordered : IsOrderOf m order
  pub sees : IsFeeding order edge (IsSeen m os)
  pub feeds : IsFeeding order feeding (λ n. n ≡ net)
