-- The bytes that are printed for each part of a design.
use Rattle.std.specs.Prelude.{ℕ, zero, suc, ◌+◌, ◌-◌, ◌/◌, ◌%◌, Bool, List, [], ◌∷◌, ◌++◌, Option, Some, None, nat_lt, if◌then◌else◌, codes, slice_get}
use Rattle.std.specs.List.{flat_map, join_by, zip}
use Rattle.rtl_ir.specs.declared.design.Net.{Net}
use Rattle.rtl_ir.specs.declared.design.Mem.{Mem}
use Rattle.rtl_ir.specs.declared.design.Port.{Port}
use Rattle.rtl_ir.specs.declared.design.Expr.{Expr}
use Rattle.rtl_ir.specs.declared.design.Expr.TheVariants.{Net as Plain, Literal, Not, Binary, Concat, Repeat, Part, Choose, Cell}
use Rattle.rtl_ir.specs.declared.design.Assign.{Assign}
use Rattle.rtl_ir.specs.declared.design.Target.{Target}
use Rattle.rtl_ir.specs.declared.design.Target.TheVariants.{Reg, Cell as Word}
use Rattle.rtl_ir.specs.declared.design.Update.{Update}
use Rattle.rtl_ir.specs.declared.design.Instance.{Instance}
use Rattle.rtl_ir.specs.declared.design.Module.{Module}
use Rattle.rtl_ir.specs.Formed.{net_name}
use Rattle.rtl_ir.specs.Spelling.{sign_bytes}
use Rattle.rtl_text.specs.Text.{Declared, is_port}

-- a text, and what stands before it
pub record Sheet : Type 0 where
  pub before : List ℕ
  pub text : List ℕ

-- a digit below 16, in lower case
abbrev pub digit_byte : ℕ → ℕ
digit_byte d = if nat_lt d 10 then 48 + d else 87 + d

-- the last f + 1 digits of a number at most, without leading zeros
abbrev pub digits_from : ℕ → ℕ → ℕ → List ℕ
digits_from base zero n = digit_byte n ∷ []
digits_from base (suc f) n = if nat_lt n base then digit_byte n ∷ [] else digits_from base f (n / base) ++ digit_byte (n % base) ∷ []

-- the digits of a number
unfoldable pub digits : ℕ → ℕ → List ℕ
digits base n = digits_from base n n

-- `[7:0] name` for the name of a net of 8 bits
abbrev pub net_text : Declared → List ℕ
net_text net = codes "[" ++ digits 10 (net.width - 1) ++ codes ":0] " ++ net.name

abbrev pub declared : Net → Declared
declared net = record { name = net.name; width = net.width }

abbrev pub net_range : Option Net → List ℕ
net_range None = []
net_range (Some net) = net_text (declared net)

abbrev pub mem_name : Option Mem → List ℕ
mem_name None = []
mem_name (Some mem) = mem.name

abbrev pub name_of : List Net → ℕ → List ℕ
name_of nets n = net_name (slice_get nets n)

abbrev pub direction_text : Bool → List ℕ
direction_text output = if output then codes "output wire " else codes "input wire "

abbrev pub port_text : List Net → Port → List ℕ
port_text nets p = direction_text p.output ++ net_range (slice_get nets p.net)

abbrev pub ports_text : List Net → List Port → List ℕ
ports_text nets ports = join_by (port_text nets) (codes ",\n") ports

-- a wire that is no port's, or a register
unfoldable pub declaration_text : Bool → Net → List ℕ
declaration_text joined net =
    if net.reg then codes "reg " ++ net_text (declared net) ++ codes ";\n"
    else (if joined then [] else codes "wire " ++ net_text (declared net) ++ codes ";\n")

-- the nets from number k on
abbrev pub nets_text : List Port → ℕ → List Net → List ℕ
nets_text ports k [] = []
nets_text ports k (n ∷ ns) = declaration_text (is_port ports k) n ++ nets_text ports (k + 1) ns

abbrev pub expr_text : Module → Expr → List ℕ
expr_text m (Plain n) = name_of m.nets n
expr_text m (Literal word) = digits 10 word.width ++ codes "'h" ++ digits 16 word.bits
expr_text m (Not n) = codes "~" ++ name_of m.nets n
expr_text m (Binary s a b) = name_of m.nets a ++ codes " " ++ sign_bytes s ++ codes " " ++ name_of m.nets b
expr_text m (Concat a b) = codes "{" ++ name_of m.nets a ++ codes ", " ++ name_of m.nets b ++ codes "}"
expr_text m (Repeat k n) = codes "{" ++ digits 10 k ++ codes "{" ++ name_of m.nets n ++ codes "}}"
expr_text m (Part n hi lo) = name_of m.nets n ++ codes "[" ++ digits 10 hi ++ codes ":" ++ digits 10 lo ++ codes "]"
expr_text m (Choose c a b) = name_of m.nets c ++ codes " ? " ++ name_of m.nets a ++ codes " : " ++ name_of m.nets b
expr_text m (Cell k n) = mem_name (slice_get m.mems k) ++ codes "[" ++ name_of m.nets n ++ codes "]"

abbrev pub assign_text : Module → Assign → List ℕ
assign_text m a = codes "assign " ++ name_of m.nets a.target ++ codes " = " ++ expr_text m a.expr ++ codes ";\n"

abbrev pub memory_text : Mem → List ℕ
memory_text mem = codes "reg [" ++ digits 10 (mem.width - 1) ++ codes ":0] " ++ mem.name ++ codes " [0:" ++ digits 10 (mem.depth - 1) ++ codes "];\n"

-- a word of a memory
abbrev pub cell_text : Module → ℕ → ℕ → List ℕ
cell_text m k n = mem_name (slice_get m.mems k) ++ codes "[" ++ name_of m.nets n ++ codes "]"

abbrev pub target_text : Module → Target → List ℕ
target_text m (Reg n) = name_of m.nets n
target_text m (Word k n) = cell_text m k n

abbrev pub update_text : Module → Update → List ℕ
update_text m u = codes "if (" ++ name_of m.nets u.enable ++ codes ") " ++ target_text m u.target ++ codes " <= " ++ name_of m.nets u.value ++ codes ";\n"

-- one block, where there are updates
unfoldable pub updates_text : Module → List Update → List ℕ
updates_text m [] = []
updates_text m (u ∷ us) = codes "always @(posedge clk) begin\n" ++ flat_map (update_text m) (u ∷ us) ++ codes "end\n"

-- `.port(net)` for a port of an inner module, which has these nets, and the number of a net of the outer one
abbrev pub connection_text : List Net → List Net → Port × ℕ → List ℕ
connection_text outer inner joined = codes "." ++ name_of inner joined.0.net ++ codes "(" ++ name_of outer joined.1 ++ codes ")"

abbrev pub connections_text : List Net → List Net → List (Port × ℕ) → List ℕ
connections_text outer inner joined = join_by (connection_text outer inner) (codes ", ") joined

-- `module name (.port(net), .port(net));` for an instance of this module, and nothing for one of no module
unfoldable pub instance_line : List Net → Instance → Option Module → List ℕ
instance_line outer i None = []
instance_line outer i (Some inner) = inner.name ++ codes " " ++ i.name ++ codes " ("
    ++ connections_text outer inner.nets (zip inner.ports i.nets) ++ codes ");\n"

-- an instance in a module, of one of these modules
abbrev pub instance_text : List Module → Module → Instance → List ℕ
instance_text modules m i = instance_line m.nets i (slice_get modules i.module)

-- a module whose instances are of these modules
unfoldable pub module_text : List Module → Module → List ℕ
module_text modules m =
    codes "module " ++ m.name ++ codes " (\n" ++ ports_text m.nets m.ports ++ codes ");\n" ++ nets_text m.ports 0 m.nets
    ++ flat_map memory_text m.mems ++ flat_map (assign_text m) m.assigns
    ++ flat_map (instance_text modules m) m.instances ++ updates_text m m.updates
    ++ codes "endmodule\n"

abbrev pub modules_text : List Module → List ℕ
modules_text modules = flat_map (module_text modules) modules
