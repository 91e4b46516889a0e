-- The form of a design, whatever its drivers and widths: names are names, and sizes and numbers are in range.
use Rattle.std.specs.Prelude.{◌≡◌, ℕ, ◌^◌, ◌<◌, ◌≤◌, Bool, false, not, ◌&&◌, nat_eq, List, []}
use Rattle.std.specs.Prelude.{length, take, Option, Some, None, slice_get, IsTrue, codes, bytes_eq}
use Rattle.std.specs.List.{list_any}
use Rattle.rtl_ir.specs.declared.design.Net.{Net}
use Rattle.rtl_ir.specs.declared.design.Mem.{Mem}
use Rattle.rtl_ir.specs.declared.design.Port.{Port}
use Rattle.rtl_ir.specs.declared.design.Expr.{Expr}
use Rattle.rtl_ir.specs.declared.design.Assign.{Assign}
use Rattle.rtl_ir.specs.declared.design.Update.{Update}
use Rattle.rtl_ir.specs.declared.design.Instance.{Instance}
use Rattle.rtl_ir.specs.declared.design.Module.{Module}
use Rattle.rtl_ir.specs.Value.{width_of, is_reg}
use Rattle.rtl_ir.specs.Names.{is_name}
use Rattle.rtl_ir.specs.Operands.{IsRead, mem_read, bit_numbers, target_net, target_mem}

-- the name of a net, and none for a number of no net
abbrev pub net_name : Option Net → List ℕ
net_name None = []
net_name (Some n) = n.name

abbrev pub name_of : Module → ℕ → List ℕ
name_of m n = net_name (slice_get m.nets n)

-- whether a port is an input of 1 bit with this name
abbrev pub is_bit_input : Module → List ℕ → Port → Bool
is_bit_input m name p = not p.output && nat_eq (width_of m p.net) 1 && bytes_eq (name_of m p.net) name

abbrev pub has_bit_input : Module → List ℕ → Bool
has_bit_input m name = list_any (is_bit_input m name) m.ports

pub record IsFormedNet (n : Net) : Type 0 where
  pub name : IsTrue (is_name n.name)
  pub some : 1 ≤ n.width
  pub at_most : n.width ≤ 128

pub record IsFormedMem (k : Mem) : Type 0 where
  pub name : IsTrue (is_name k.name)
  pub some : 1 ≤ k.width
  pub at_most : k.width ≤ 128
  pub words : 1 ≤ k.depth
  pub words_at_most : k.depth ≤ 2 ^ 28

-- a port is a wire
pub record IsFormedPort (m : Module) (p : Port) : Type 0 where
  pub net : p.net < length m.nets
  pub wire : is_reg m p.net ≡ false

-- nets and memories are those of the module, and the numbers of a replication or part are at most 128.
-- The width of a literal is in range by its type
pub record IsFormedExpr (m : Module) (e : Expr) : Type 0 where
  pub nets : (n : ℕ) → IsRead e n → n < length m.nets
  pub mem : (k : ℕ) → mem_read e ≡ Some k → k < length m.mems
  pub numbers : (i x : ℕ) → slice_get (bit_numbers e) i ≡ Some x → x ≤ 128

pub record IsFormedAssign (m : Module) (a : Assign) : Type 0 where
  pub target : a.target < length m.nets
  pub expr : IsFormedExpr m a.expr

pub record IsFormedUpdate (m : Module) (u : Update) : Type 0 where
  pub enable : u.enable < length m.nets
  pub value : u.value < length m.nets
  pub net : target_net u.target < length m.nets
  pub mem : (k : ℕ) → target_mem u.target ≡ Some k → k < length m.mems

-- an instance is of an earlier module and has a net of this module for each of its ports
pub record IsFormedInstance (earlier : List Module) (m : Module) (i : Instance) : Type 0 where
  pub name : IsTrue (is_name i.name)
  pub is_earlier : i.module < length earlier
  pub nets : (j n : ℕ) → slice_get i.nets j ≡ Some n → n < length m.nets
  pub ports : (inner : Module) → slice_get earlier i.module ≡ Some inner → length i.nets ≡ length inner.ports

-- a module after these earlier ones
pub record IsFormedModule (earlier : List Module) (m : Module) : Type 0 where
  pub name : IsTrue (is_name m.name)
  pub nets : (k : ℕ) (n : Net) → slice_get m.nets k ≡ Some n → IsFormedNet n
  pub mems : (k : ℕ) (x : Mem) → slice_get m.mems k ≡ Some x → IsFormedMem x
  pub ports : (k : ℕ) (p : Port) → slice_get m.ports k ≡ Some p → IsFormedPort m p
  pub apart : (j k : ℕ) (p q : Port) → slice_get m.ports j ≡ Some p → slice_get m.ports k ≡ Some q → p.net ≡ q.net → j ≡ k
  pub assigns : (k : ℕ) (a : Assign) → slice_get m.assigns k ≡ Some a → IsFormedAssign m a
  pub updates : (k : ℕ) (u : Update) → slice_get m.updates k ≡ Some u → IsFormedUpdate m u
  pub instances : (k : ℕ) (i : Instance) → slice_get m.instances k ≡ Some i → IsFormedInstance earlier m i
  pub clock : IsTrue (has_bit_input m (codes "clk"))
  pub reset : IsTrue (has_bit_input m (codes "reset"))

-- the modules of a design: there is one, and each is formed after those before it
pub record IsFormed (modules : List Module) : Type 0 where
  pub some : 0 < length modules
  pub each : (k : ℕ) (m : Module) → slice_get modules k ≡ Some m → IsFormedModule (take k modules) m
