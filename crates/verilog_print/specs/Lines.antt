-- The lines of the text of a design: one for each port, declaration, assignment, update and instance, and those that begin
-- and end a module and its updates.
use Rattle.std.specs.Prelude.{◌≡◌, ℕ, ◌+◌, ◌-◌, ◌==◌, not, Bool, true, List, [], ◌∷◌, ◌++◌, Option, Some, None, map, if◌then◌else◌, codes, slice_get}
use Rattle.std.specs.List.{flat_map, list_all, zip}
use Rattle.rtl_ir.specs.declared.design.Net.{Net}
use Rattle.rtl_ir.specs.declared.design.Mem.{Mem}
use Rattle.rtl_ir.specs.declared.design.Port.{Port}
use Rattle.rtl_ir.specs.declared.design.Assign.{Assign}
use Rattle.rtl_ir.specs.declared.design.Update.{Update}
use Rattle.rtl_ir.specs.declared.design.Instance.{Instance}
use Rattle.rtl_ir.specs.declared.design.Module.{Module}
use Rattle.rtl_ir.specs.declared.design.Design.{Design}
use Rattle.rtl_text.specs.Text.{is_port}
use Rattle.verilog_print.specs.Printed.{digits, net_text, declared, name_of, port_text, expr_text, target_text, connections_text}

-- whether these bytes are within one line
abbrev pub is_plain : ℕ → Bool
is_plain b = not (b == 10)

abbrev pub is_line : List ℕ → Bool
is_line line = list_all is_plain line

-- the text of these lines, each ended by a line feed
abbrev pub text_of_lines : List (List ℕ) → List ℕ
text_of_lines lines = flat_map (λ (line : List ℕ). line ++ codes "\n") lines

-- a line for each port: a comma ends it, and the last one ends the list
abbrev pub port_lines : List Net → List Port → List (List ℕ)
port_lines nets [] = codes ");" ∷ []
port_lines nets (p ∷ []) = (port_text nets p ++ codes ");") ∷ []
port_lines nets (p ∷ q ∷ ps) = (port_text nets p ++ codes ",") ∷ port_lines nets (q ∷ ps)

abbrev pub register_line : Net → List ℕ
register_line n = codes "reg " ++ net_text (declared n) ++ codes ";"

abbrev pub wire_line : Net → List ℕ
wire_line n = codes "wire " ++ net_text (declared n) ++ codes ";"

-- a line for each register and for each wire that is no port's, of the nets from number k on
abbrev pub net_lines : List Port → ℕ → List Net → List (List ℕ)
net_lines ports k [] = []
net_lines ports k (n ∷ ns) =
    if n.reg then register_line n ∷ net_lines ports (k + 1) ns
    else (if is_port ports k then net_lines ports (k + 1) ns else wire_line n ∷ net_lines ports (k + 1) ns)

abbrev pub memory_line : Mem → List ℕ
memory_line mem = codes "reg [" ++ digits 10 (mem.width - 1) ++ codes ":0] " ++ mem.name ++ codes " [0:" ++ digits 10 (mem.depth - 1) ++ codes "];"

abbrev pub assign_line : Module → Assign → List ℕ
assign_line m a = codes "assign " ++ name_of m.nets a.target ++ codes " = " ++ expr_text m a.expr ++ codes ";"

-- a line for an instance of this module
abbrev pub part_lines : List Net → Instance → Option Module → List (List ℕ)
part_lines outer i None = []
part_lines outer i (Some inner) = (inner.name ++ codes " " ++ i.name ++ codes " ("
    ++ connections_text outer inner.nets (zip inner.ports i.nets) ++ codes ");") ∷ []

abbrev pub instance_lines : List Module → Module → List Instance → List (List ℕ)
instance_lines modules m instances = flat_map (λ (i : Instance). part_lines m.nets i (slice_get modules i.«module»)) instances

abbrev pub update_line : Module → Update → List ℕ
update_line m u = codes "if (" ++ name_of m.nets u.enable ++ codes ") " ++ target_text m u.target ++ codes " <= " ++ name_of m.nets u.value ++ codes ";"

-- a line for each update, and two around them
abbrev pub update_lines : Module → List Update → List (List ℕ)
update_lines m [] = []
update_lines m (u ∷ us) = codes "always @(posedge clk) begin" ∷ (map (update_line m) (u ∷ us) ++ codes "end" ∷ [])

abbrev pub module_lines : List Module → Module → List (List ℕ)
module_lines modules m =
    (codes "module " ++ m.name ++ codes " (")
    ∷ (port_lines m.nets m.ports ++ net_lines m.ports 0 m.nets ++ map memory_line m.mems ++ map (assign_line m) m.assigns
    ++ instance_lines modules m m.instances ++ update_lines m m.updates ++ codes "endmodule" ∷ [])

abbrev pub design_lines : Design → List (List ℕ)
design_lines d = flat_map (module_lines d.modules) d.modules

-- the lines of the design, each in one line
pub record AppendsLines (before after : List ℕ) (d : Design) : Type 0 where
  pub appended : after ≡ before ++ text_of_lines (design_lines d)
  pub each : list_all is_line (design_lines d) ≡ true
