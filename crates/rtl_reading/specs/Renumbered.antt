-- Designs that are the same up to the numbers of their nets.
use Rattle.std.specs.Prelude.{◌≡◌, ℕ, ◌<◌, map, length, slice_get}
use Rattle.rtl_ir.specs.declared.design.Port.{Port}
use Rattle.rtl_ir.specs.declared.design.Expr.{Expr}
use Rattle.rtl_ir.specs.declared.design.Expr.TheVariants.{Net as Plain, Literal, Not, Binary, Concat, Repeat, Part, Choose, Cell}
use Rattle.rtl_ir.specs.declared.design.Assign.{Assign}
use Rattle.rtl_ir.specs.declared.design.Target.{Target}
use Rattle.rtl_ir.specs.declared.design.Target.TheVariants.{Reg, Cell as Place}
use Rattle.rtl_ir.specs.declared.design.Update.{Update}
use Rattle.rtl_ir.specs.declared.design.Instance.{Instance}
use Rattle.rtl_ir.specs.declared.design.Module.{Module}
use Rattle.rtl_ir.specs.declared.design.Design.{Design}
use Rattle.rtl_text.specs.Text.{Pairwise}

-- a part of a module, where net n has the number f n
abbrev pub port_as : (ℕ → ℕ) → Port → Port
port_as f p = record { net = f p.net; output = p.output }

abbrev pub expr_as : (ℕ → ℕ) → Expr → Expr
expr_as f (Plain n) = Plain (f n)
expr_as f (Literal word) = Literal word
expr_as f (Not n) = Not (f n)
expr_as f (Binary s a b) = Binary s (f a) (f b)
expr_as f (Concat a b) = Concat (f a) (f b)
expr_as f (Repeat k n) = Repeat k (f n)
expr_as f (Part n hi lo) = Part (f n) hi lo
expr_as f (Choose c a b) = Choose (f c) (f a) (f b)
expr_as f (Cell k n) = Cell k (f n)

abbrev pub assign_as : (ℕ → ℕ) → Assign → Assign
assign_as f a = record { target = f a.target; expr = expr_as f a.expr }

abbrev pub target_as : (ℕ → ℕ) → Target → Target
target_as f (Reg n) = Reg (f n)
target_as f (Place k n) = Place k (f n)

abbrev pub update_as : (ℕ → ℕ) → Update → Update
update_as f u = record { enable = f u.enable; target = target_as f u.target; value = f u.value }

abbrev pub instance_as : (ℕ → ℕ) → Instance → Instance
instance_as f i = record { «module» = i.«module»; name = i.name; nets = map f i.nets }

-- the second module is the first one with its nets under other numbers, and nothing else differs
pub record IsRenumbered (m x : Module) : Type 0 where
  -- the number of each net of the first one, and back
  pub number : ℕ → ℕ
  pub back : ℕ → ℕ
  pub there : (n : ℕ) → n < length m.nets → (number n < length x.nets) × (back (number n) ≡ n)
  pub again : (n : ℕ) → n < length x.nets → (back n < length m.nets) × (number (back n) ≡ n)
  -- the net itself is the same
  pub nets : (n : ℕ) → n < length m.nets → slice_get x.nets (number n) ≡ slice_get m.nets n
  pub name : x.name ≡ m.name
  pub ports : x.ports ≡ map (port_as number) m.ports
  pub mems : x.mems ≡ m.mems
  pub assigns : x.assigns ≡ map (assign_as number) m.assigns
  pub updates : x.updates ≡ map (update_as number) m.updates
  pub instances : x.instances ≡ map (instance_as number) m.instances

-- the same designs up to the numbers of the nets in each module
abbrev pub AreRenumbered : Design → Design → Type 0
AreRenumbered d e = Pairwise IsRenumbered d.modules e.modules
