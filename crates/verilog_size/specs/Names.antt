-- How many bytes the names in a text have at most: each is counted as often as it stands there, and
-- that of a port once more, as its net's.
use Rattle.std.specs.Prelude.{ℕ, ◌+◌, ◌≤◌, List, length, Option, Some, None, slice_get}
use Rattle.std.specs.List.{All, sum_by}
use Rattle.rtl_ir.specs.declared.design.Net.{Net}
use Rattle.rtl_ir.specs.declared.design.Mem.{Mem}
use Rattle.rtl_ir.specs.declared.design.Assign.{Assign}
use Rattle.rtl_ir.specs.declared.design.Update.{Update}
use Rattle.rtl_ir.specs.declared.design.Instance.{Instance}
use Rattle.rtl_ir.specs.declared.design.Module.{Module}
use Rattle.rtl_ir.specs.declared.design.Design.{Design}
use Rattle.rtl_ir.specs.Formed.{name_of}
use Rattle.rtl_ir.specs.Operands.{reads, mem_read, target_net, target_mem}
use Rattle.rtl_ir.specs.Ports.{PortView, ports_of}
use Rattle.verilog_print.specs.Printed.{mem_name}

-- the name of a net
abbrev pub net_bytes : Module → ℕ → ℕ
net_bytes m n = length (name_of m n)

-- the name of a memory, where one is named
abbrev pub mem_bytes : Module → Option ℕ → ℕ
mem_bytes m None = 0
mem_bytes m (Some k) = length (mem_name (slice_get m.mems k))

-- the names that an assignment has
abbrev pub assign_names : Module → Assign → ℕ
assign_names m a =
    net_bytes m a.target + sum_by (net_bytes m) (reads a.expr) + mem_bytes m (mem_read a.expr)

-- the names that an update has
abbrev pub update_names : Module → Update → ℕ
update_names m u =
    net_bytes m u.enable + net_bytes m (target_net u.target) + mem_bytes m (target_mem u.target)
    + net_bytes m u.value

-- the names of the ports of a module
abbrev pub port_names : Module → ℕ
port_names m = sum_by (λ (p : PortView). length p.name) (ports_of m)

-- the names that an instance has: its module's, its own, that module's ports', and those of the
-- nets that are joined to them
abbrev pub instance_names : Module → Instance → Option Module → ℕ
instance_names m i None = 0
instance_names m i (Some inner) =
    length inner.name + length i.name + port_names inner + sum_by (net_bytes m) i.nets

-- the names that a module has beside its own and those of its instances
abbrev pub inner_names : Module → ℕ
inner_names m =
    port_names m
    + sum_by (λ (n : Net). length n.name) m.nets
    + sum_by (λ (k : Mem). length k.name) m.mems
    + sum_by (assign_names m) m.assigns
    + sum_by (update_names m) m.updates

-- all names that a module has, whose instances are of these modules
abbrev pub module_names : List Module → Module → ℕ
module_names modules m =
    length m.name + inner_names m
    + sum_by (λ (i : Instance). instance_names m i (slice_get modules i.«module»)) m.instances

-- all names that a design has
abbrev pub design_names : Design → ℕ
design_names d = sum_by (module_names d.modules) d.modules

-- the names of the nets and memories of a module have at most so many bytes each
pub record HasShortNames (most : ℕ) (m : Module) : Type 0 where
  pub nets : All (λ (n : Net). length n.name ≤ most) m.nets
  pub mems : All (λ (k : Mem). length k.name ≤ most) m.mems

-- the names of the nets of a module have at most so many bytes each, and those of nets that are no
-- ports, where the ports are the first nets, and of memories so many, which are no more
pub record HasOwnNames (most own : ℕ) (m : Module) : Type 0 where
  pub fewer : own ≤ most
  pub nets : All (λ (n : Net). length n.name ≤ most) m.nets
  pub inner : (n : ℕ) → length m.ports ≤ n → net_bytes m n ≤ own
  pub mems : All (λ (k : Mem). length k.name ≤ own) m.mems
