-- Nets that are copies of others, and assignments and updates that read them where they come from.
use Rattle.std.specs.Prelude.{◌≡◌, ℕ, ◌<◌, ◌≤◌, List, length, map, Some, slice_get, slice_index, slice_set}
use Rattle.rtl_ir.specs.declared.design.Module.{Module}
use Rattle.rtl_ir.specs.declared.design.Assign.{Assign}
use Rattle.rtl_ir.specs.declared.design.Update.{Update}
use Rattle.rtl_ir.specs.declared.design.Target.{Target}
use Rattle.rtl_ir.specs.declared.design.Target.TheVariants.{Reg, Cell as Place}
use Rattle.rtl_ir.specs.declared.design.Expr.{Expr}
use Rattle.rtl_ir.specs.declared.design.Expr.TheVariants.{Net as Plain, Literal, Not, Binary, Concat, Repeat, Part, Choose, Cell}
use Rattle.rtl_ir.specs.Value.{Family, Contents, value, width_of}
use Rattle.rtl_ir.specs.Edge.{Fits, after_edge}
use Rattle.rtl_ir.specs.Operands.{IsRead}
use Rattle.rtl_ir.specs.Typed.{IsTyped}
use Rattle.rtl_ir.specs.Formed.{IsFormedAssign}
use Rattle.verilog_sim.specs.Runnable.{IsRunnable, IsOrderOf}

-- with each net that is read in place of it its origin, by the number of the net
abbrev pub expr_at : List ℕ → Expr → Expr
expr_at os (Plain n) = Plain (slice_index os n)
expr_at os (Literal x) = Literal x
expr_at os (Not n) = Not (slice_index os n)
expr_at os (Binary s n o) = Binary s (slice_index os n) (slice_index os o)
expr_at os (Concat n o) = Concat (slice_index os n) (slice_index os o)
expr_at os (Repeat k n) = Repeat k (slice_index os n)
expr_at os (Part n hi lo) = Part (slice_index os n) hi lo
expr_at os (Choose n o p) = Choose (slice_index os n) (slice_index os o) (slice_index os p)
expr_at os (Cell k n) = Cell k (slice_index os n)

abbrev pub assign_at : List ℕ → Assign → Assign
assign_at os a = record { target = a.target; expr = expr_at os a.expr }

abbrev pub target_at : List ℕ → Target → Target
target_at os (Reg n) = Reg n
target_at os (Place k a) = Place k (slice_index os a)

abbrev pub update_at : List ℕ → Update → Update
update_at os u = record { enable = slice_index os u.enable; target = target_at os u.target; value = slice_index os u.value }

-- the origins where a net is given this expression
abbrev pub with_origin : Expr → ℕ → List ℕ → List ℕ
with_origin (Plain o) n os = slice_set os n o
with_origin (Literal x) n os = os
with_origin (Not a) n os = os
with_origin (Binary s a b) n os = os
with_origin (Concat a b) n os = os
with_origin (Repeat k a) n os = os
with_origin (Part a hi lo) n os = os
with_origin (Choose a b c) n os = os
with_origin (Cell k a) n os = os

-- the values of all nets, where those of origins stand
abbrev pub at_origins : List ℕ → List ℕ → List ℕ
at_origins os values = map (λ o. slice_index values o) os

-- each of these assignments holds
abbrev pub Hold : Module → Contents → Family → List Assign → Type 0
Hold m c v as' = (i : ℕ) (a : Assign) → slice_get as' i ≡ Some a → v a.target ≡ value m c v (width_of m a.target) a.expr

-- origins have the values of their nets, and the first so many assignments hold
pub record AreTold (m : Module) (c : Contents) (v : Family) (order : List Assign) (os : List ℕ) (count : ℕ) : Type 0 where
  pub origins : (n : ℕ) → n < length m.nets → v (slice_index os n) ≡ v n
  pub assigned : (i : ℕ) (a : Assign) → i < count → slice_get order i ≡ Some a → v a.target ≡ value m c v (width_of m a.target) a.expr

-- assignments to the targets of the first so many of an order, which say the same where all of them hold, and read no copy
-- of which the origin is known
pub record AreAtOrigins (m : Module) (order : List Assign) (os : List ℕ) (new : List Assign) (count : ℕ) : Type 0 where
  pub nets : length os ≡ length m.nets
  pub inside : (n : ℕ) → n < length m.nets → slice_index os n < length m.nets
  pub own : (n : ℕ) → n < length m.nets → slice_index os (slice_index os n) ≡ slice_index os n
  pub widths : (n : ℕ) → n < length m.nets → width_of m (slice_index os n) ≡ width_of m n
  pub size : length new ≡ count
  pub targets : (i : ℕ) (a b : Assign) → slice_get order i ≡ Some a → slice_get new i ≡ Some b → b.target ≡ a.target
  pub formed : (i : ℕ) (b : Assign) → slice_get new i ≡ Some b → IsFormedAssign m b
  pub typed : (i : ℕ) (b : Assign) → slice_get new i ≡ Some b → IsTyped m (width_of m b.target) b.expr
  pub unread : (i j : ℕ) (b a : Assign) → i ≤ j → slice_get new i ≡ Some b → slice_get order j ≡ Some a → IsRead b.expr a.target → ⊥
  pub free : (n j : ℕ) (a : Assign) → n < length m.nets → count ≤ j → slice_get order j ≡ Some a → a.target ≡ slice_index os n → slice_index os n ≡ n
  pub told : (c : Contents) (v : Family) → Hold m c v new → AreTold m c v order os count

-- a module with other assignments and updates
abbrev pub with_lists : Module → List Assign → List Update → Module
with_lists m as' us = record { name = m.name; ports = m.ports; nets = m.nets; mems = m.mems; assigns = as'; updates = us; instances = m.instances }

-- the origins of nets, which are nets that are their own origins and have the same values where these assignments hold
pub record AreOrigins (m : Module) (os : List ℕ) (as' : List Assign) (us : List Update) : Type 0 where
  pub size : length os ≡ length m.nets
  pub inside : (n : ℕ) → n < length m.nets → slice_index os n < length m.nets
  pub own : (n : ℕ) → n < length m.nets → slice_index os (slice_index os n) ≡ slice_index os n
  pub same : (c : Contents) (v : Family) (n : ℕ) → Fits (with_lists m as' us) c v → n < length m.nets → v (slice_index os n) ≡ v n

-- origins, and other assignments and updates, by which a module without instances does the same. They stand in an order in which
-- they can be evaluated
pub record StandFor (m : Module) (os : List ℕ) (as' : List Assign) (us : List Update) : Type 0 where
  pub runnable : IsRunnable (with_lists m as' us)
  pub ordered : IsOrderOf (with_lists m as' us) as'
  pub fits : (c : Contents) (v : Family) → Fits (with_lists m as' us) c v → Fits m c v
  pub after : (c : Contents) (v : Family) → Fits (with_lists m as' us) c v → after_edge (with_lists m as' us) c v ≡ after_edge m c v
  pub origins : AreOrigins m os as' us

-- a module that does the same as another one, with the same nets, memories and ports, and the origins of its nets
pub record DoesSame (m n : Module) (os : List ℕ) : Type 0 where
  pub lists : n ≡ with_lists m n.assigns n.updates
  pub stand : StandFor m os n.assigns n.updates
