-- The parts of a module under the numbers that they get in a flat module: nets and memories are counted from a first one on,
-- and names are left out.
use Rattle.std.specs.Prelude.{ℕ, ◌+◌, ◌^◌, ◌<◌, List, [], ◌∷◌, map, if◌then◌else◌}
use Rattle.rtl_ir.specs.declared.design.Net.{Net}
use Rattle.rtl_ir.specs.declared.design.Mem.{Mem}
use Rattle.rtl_ir.specs.declared.design.Port.{Port}
use Rattle.rtl_ir.specs.declared.design.Expr.{Expr}
use Rattle.rtl_ir.specs.declared.design.Expr.TheVariants.{Net as Plain, Literal, Not, Binary, Concat, Repeat, Part, Choose, Cell}
use Rattle.rtl_ir.specs.declared.design.Assign.{Assign}
use Rattle.rtl_ir.specs.declared.design.Target.{Target}
use Rattle.rtl_ir.specs.declared.design.Target.TheVariants.{Reg, Cell as Place}
use Rattle.rtl_ir.specs.declared.design.Update.{Update}
use Rattle.rtl_ir.specs.declared.design.Instance.{Instance}

abbrev pub bare_net : Net → Net
bare_net n = record { name = []; width = n.width; reg = n.reg }

abbrev pub bare_mem : Mem → Mem
bare_mem k = record { name = []; width = k.width; depth = k.depth }

-- with the nets counted from b and the memories from c on
abbrev pub relocated_expr : ℕ → ℕ → Expr → Expr
relocated_expr b c (Plain n) = Plain (b + n)
relocated_expr b c (Literal x) = Literal x
relocated_expr b c (Not n) = Not (b + n)
relocated_expr b c (Binary s n o) = Binary s (b + n) (b + o)
relocated_expr b c (Concat n o) = Concat (b + n) (b + o)
relocated_expr b c (Repeat k n) = Repeat k (b + n)
relocated_expr b c (Part n hi lo) = Part (b + n) hi lo
relocated_expr b c (Choose n o p) = Choose (b + n) (b + o) (b + p)
relocated_expr b c (Cell k n) = Cell (c + k) (b + n)

abbrev pub relocated_assign : ℕ → ℕ → Assign → Assign
relocated_assign b c a = record { target = b + a.target; expr = relocated_expr b c a.expr }

abbrev pub relocated_target : ℕ → ℕ → Target → Target
relocated_target b c (Reg n) = Reg (b + n)
relocated_target b c (Place k a) = Place (c + k) (b + a)

abbrev pub relocated_update : ℕ → ℕ → Update → Update
relocated_update b c u = record { enable = b + u.enable; target = relocated_target b c u.target; value = b + u.value }

abbrev pub relocated_instance : ℕ → Instance → Instance
relocated_instance b i = record { «module» = i.«module»; name = []; nets = map (λ n. b + n) i.nets }

-- the assignment that joins a port to a net, in the direction of the port
abbrev pub join_of : ℕ → Port → ℕ → Assign
join_of b p n = if p.output then record { target = n; expr = Plain (b + p.net) } else record { target = b + p.net; expr = Plain n }

-- of each port
abbrev pub joins_of : ℕ → List Port → List ℕ → List Assign
joins_of b [] ns = []
joins_of b (p ∷ ps) [] = []
joins_of b (p ∷ ps) (n ∷ ns) = join_of b p n ∷ joins_of b ps ns

-- the moved numbers have 32 bits
abbrev pub IsExprMovable : ℕ → ℕ → Expr → Type 0
IsExprMovable b c (Plain n) = b + n < 2 ^ 32
IsExprMovable b c (Literal x) = Unit {0}
IsExprMovable b c (Not n) = b + n < 2 ^ 32
IsExprMovable b c (Binary s n o) = (b + n < 2 ^ 32) × (b + o < 2 ^ 32)
IsExprMovable b c (Concat n o) = (b + n < 2 ^ 32) × (b + o < 2 ^ 32)
IsExprMovable b c (Repeat k n) = b + n < 2 ^ 32
IsExprMovable b c (Part n hi lo) = b + n < 2 ^ 32
IsExprMovable b c (Choose n o p) = (b + n < 2 ^ 32) × (b + o < 2 ^ 32) × (b + p < 2 ^ 32)
IsExprMovable b c (Cell k n) = (c + k < 2 ^ 32) × (b + n < 2 ^ 32)

pub record IsAssignMovable (b c : ℕ) (a : Assign) : Type 0 where
  pub target : b + a.target < 2 ^ 32
  pub expr : IsExprMovable b c a.expr

abbrev pub IsTargetMovable : ℕ → ℕ → Target → Type 0
IsTargetMovable b c (Reg n) = b + n < 2 ^ 32
IsTargetMovable b c (Place k a) = (c + k < 2 ^ 32) × (b + a < 2 ^ 32)

pub record IsUpdateMovable (b c : ℕ) (u : Update) : Type 0 where
  pub enable : b + u.enable < 2 ^ 32
  pub value : b + u.value < 2 ^ 32
  pub target : IsTargetMovable b c u.target
