-- What a port of a top module is, which its name, direction and width say.
use Rattle.std.specs.Prelude.{◌≡◌, ◌++◌, Bool, true, ◌&&◌, codes}
use Rattle.rtl_ir.specs.Ports.{PortView, is_plain_name}
use Rattle.top_ports.specs.Shapes.{Name}
use Rattle.top_ports.specs.declared.role.Side.{Side}
use Rattle.top_ports.specs.declared.role.Side.TheVariants.{Input, Output}
use Rattle.top_ports.specs.declared.role.Part.{Part}
use Rattle.top_ports.specs.declared.role.Part.TheVariants.{Data, Valid, Ready}
use Rattle.top_ports.specs.Roles.{RoleView, clock, reset, hold, ticks, scalar, stream, done, is_output, is_width}

abbrev pub side_front : Side → Name
side_front Input = codes "in$"
side_front Output = codes "out$"

abbrev pub part_back : Part → Name
part_back Data = codes "$data"
part_back Valid = codes "$valid"
part_back Ready = codes "$ready"

-- the name of a port with this role
abbrev pub role_name : RoleView → Name
role_name clock = codes "clk"
role_name reset = codes "reset"
role_name (hold k) = codes "hold$" ++ k
role_name (ticks k) = codes "ticks$" ++ k
role_name (scalar k a) = codes "scalar$" ++ k ++ codes "$" ++ a
role_name (stream side part x) = side_front side ++ x ++ part_back part
role_name done = codes "done"

-- whether the names within a role are plain
abbrev pub is_plain_role : RoleView → Bool
is_plain_role clock = true
is_plain_role reset = true
is_plain_role (hold k) = is_plain_name k
is_plain_role (ticks k) = is_plain_name k
is_plain_role (scalar k a) = is_plain_name k && is_plain_name a
is_plain_role (stream side part x) = is_plain_name x
is_plain_role done = true

-- a port has this role
pub record HasRole (p : PortView) (r : RoleView) : Type 0 where
  pub plain : is_plain_role r ≡ true
  pub name : p.name ≡ role_name r
  pub width : is_width r p.width ≡ true
  pub output : p.output ≡ is_output r
