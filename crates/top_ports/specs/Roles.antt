-- What a port of a top module is, which its name, direction and width say.
use Rattle.std.specs.Prelude.{ℕ, [], ◌∷◌, Option, Some, None, Bool, true, false, not, ◌&&◌, if◌then◌else◌, nat_eq, codes, bytes_eq}
use Rattle.std.specs.Option.{option_copied}
use Rattle.rtl_ir.specs.Ports.{PortView, is_plain_name}
use Rattle.top_ports.specs.Shapes.{Name}
use Rattle.top_ports.specs.declared.role.Side.{Side}
use Rattle.top_ports.specs.declared.role.Side.TheVariants.{Input, Output}
use Rattle.top_ports.specs.declared.role.Part.{Part}
use Rattle.top_ports.specs.declared.role.Part.TheVariants.{Data, Valid, Ready}
use Rattle.top_ports.specs.declared.role.Role.{Role}
use Rattle.top_ports.specs.declared.role.Role.TheVariants.{Clock, Reset, Hold, Ticks, Scalar, Stream, Done}
use Rattle.top_ports.specs.declared.cut.Cut.{Cut}

pub data RoleView : Type 0 where
  clock : RoleView
  reset : RoleView
  hold : Name → RoleView
  ticks : Name → RoleView
  scalar : Name → Name → RoleView
  stream : Side → Part → Name → RoleView
  done : RoleView

abbrev pub role_view : Role → RoleView
role_view Clock = clock
role_view Reset = reset
role_view (Hold k) = hold k.now
role_view (Ticks k) = ticks k.now
role_view (Scalar k a) = scalar k.now a.now
role_view (Stream side part x) = stream side part x.now
role_view Done = done

abbrev pub is_output_side : Side → Bool
is_output_side Input = false
is_output_side Output = true

-- whether a stream's port is an output
abbrev pub goes_out : Part → Side → Bool
goes_out Data side = is_output_side side
goes_out Valid side = is_output_side side
goes_out Ready side = not (is_output_side side)

abbrev pub is_output : RoleView → Bool
is_output clock = false
is_output reset = false
is_output (hold k) = false
is_output (ticks k) = false
is_output (scalar k a) = false
is_output (stream side part x) = goes_out part side
is_output done = true

abbrev pub is_part_width : Part → ℕ → Bool
is_part_width Data width = true
is_part_width Valid width = nat_eq width 1
is_part_width Ready width = nat_eq width 1

-- whether a port with this role may have this width
abbrev pub is_width : RoleView → ℕ → Bool
is_width clock width = nat_eq width 1
is_width reset width = nat_eq width 1
is_width (hold k) width = nat_eq width 1
is_width (ticks k) width = nat_eq width 48
is_width (scalar k a) width = true
is_width (stream side part x) width = is_part_width part width
is_width done width = nat_eq width 1

-- a name up to its first '$', and what follows that
pub record CutView : Type 0 where
  pub head : Name
  pub rest : Option Name

abbrev pub add_head : ℕ → CutView → CutView
add_head b c = record { head = b ∷ c.head; rest = c.rest }

abbrev pub cut : Name → CutView
cut [] = record { head = []; rest = None }
cut (b ∷ bs) = if nat_eq b 36 then record { head = []; rest = Some bs } else add_head b (cut bs)

abbrev pub cut_view : Cut → CutView
cut_view c = record { head = c.head.now; rest = option_copied c.rest }

-- the role of a port with a name of one word
abbrev pub lone_role : Name → Option RoleView
lone_role word =
    if bytes_eq word (codes "clk") then Some clock
    else if bytes_eq word (codes "reset") then Some reset
    else if bytes_eq word (codes "done") then Some done
    else None

-- the role of a port with a name of a word and a kernel's name
abbrev pub kernel_role : Name → Name → Option RoleView
kernel_role word k =
    if bytes_eq word (codes "hold") then Some (hold k)
    else if bytes_eq word (codes "ticks") then Some (ticks k)
    else None

abbrev pub side_of : Name → Option Side
side_of word =
    if bytes_eq word (codes "in") then Some Input
    else if bytes_eq word (codes "out") then Some Output
    else None

abbrev pub part_of : Name → Option Part
part_of word =
    if bytes_eq word (codes "data") then Some Data
    else if bytes_eq word (codes "valid") then Some Valid
    else if bytes_eq word (codes "ready") then Some Ready
    else None

abbrev pub of_side_and_part : Option Side → Option Part → Name → Option RoleView
of_side_and_part None part x = None
of_side_and_part (Some side) None x = None
of_side_and_part (Some side) (Some part) x = Some (stream side part x)

-- the role of a port with a name of a word, a plain name and what follows
abbrev pub inner_role : Name → Name → Name → Option RoleView
inner_role word x back =
    if bytes_eq word (codes "scalar") then (if is_plain_name back then Some (scalar x back) else None)
    else of_side_and_part (side_of word) (part_of back) x

abbrev pub behind : Name → Name → Option Name → Option RoleView
behind word x None = kernel_role word x
behind word x (Some back) = inner_role word x back

abbrev pub plain_behind : Name → CutView → Option RoleView
plain_behind word c = if is_plain_name c.head then behind word c.head c.rest else None

abbrev pub cut_role : Name → Option Name → Option RoleView
cut_role word None = lone_role word
cut_role word (Some rest) = plain_behind word (cut rest)

-- the role of a port with this name
abbrev pub name_role : Name → Option RoleView
name_role name = cut_role (cut name).head (cut name).rest

abbrev pub same_bit : Bool → Bool → Bool
same_bit true b = b
same_bit false b = not b

abbrev pub fits : RoleView → ℕ → Bool → Bool
fits r width output = is_width r width && same_bit output (is_output r)

abbrev pub fitting : PortView → Option RoleView → Option RoleView
fitting p None = None
fitting p (Some r) = if fits r p.width p.output then Some r else None

-- the role of a port, which it has alone
abbrev pub port_role : PortView → Option RoleView
port_role p = fitting p (name_role p.name)
