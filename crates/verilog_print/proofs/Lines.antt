-- The printed text is the lines of the design, and none of these has a line feed.
use Rattle.std.proofs.Common.{◌≡◌, ◌∙◌, ℕ, ◌+◌, ◌-◌, Bool, true, false, List, [], ◌∷◌, ◌++◌, refl, sym, ap, Option, Some, None, append_assoc, if◌then◌else◌}
use Rattle.std.specs.Prelude.{codes, map, slice_get}
use Rattle.std.specs.List.{flat_map, zip}
use Rattle.std.proofs.lemmas.List.{append-nil}
use Rattle.rtl_ir.specs.declared.design.Net.{Net}
use Rattle.rtl_ir.specs.declared.design.Mem.{Mem}
use Rattle.rtl_ir.specs.declared.design.Port.{Port}
use Rattle.rtl_ir.specs.declared.design.Assign.{Assign}
use Rattle.rtl_ir.specs.declared.design.Update.{Update}
use Rattle.rtl_ir.specs.declared.design.Instance.{Instance}
use Rattle.rtl_ir.specs.declared.design.Module.{Module}
use Rattle.rtl_text.specs.Text.{is_port}
use Rattle.verilog_print.specs.Printed.{digits, net_text, declared, name_of, port_text, ports_text}
use Rattle.verilog_print.specs.Printed.{declaration_text, nets_text, memory_text, expr_text}
use Rattle.verilog_print.specs.Printed.{assign_text, target_text, update_text, updates_text}
use Rattle.verilog_print.specs.Printed.{connections_text, instance_line, instance_text, module_text}
use Rattle.verilog_print.specs.Printed.{modules_text}
use Rattle.verilog_print.specs.Lines.{text_of_lines, port_lines, register_line, wire_line, net_lines, memory_line, assign_line, part_lines, instance_lines, update_line, update_lines, module_lines}

lines_both : (xs ys : List (List ℕ)) → text_of_lines (xs ++ ys) ≡ text_of_lines xs ++ text_of_lines ys
lines_both [] ys = refl
lines_both (x ∷ xs) ys = ap (λ (l : List ℕ). (x ++ codes "\n") ++ l) (lines_both xs ys) ∙ sym (append_assoc (x ++ codes "\n") (text_of_lines xs) (text_of_lines ys))

each_line : {A : Type 0} (f g : A → List ℕ) → ((x : A) → f x ≡ g x ++ codes "\n") → (xs : List A) → flat_map f xs ≡ text_of_lines (map g xs)
each_line f g h [] = refl
each_line f g h (x ∷ xs) = ap (λ (l : List ℕ). l ++ flat_map f xs) (h x) ∙ ap (λ (l : List ℕ). (g x ++ codes "\n") ++ l) (each_line f g h xs)

later_ports : (nets : List Net) (p : Port) (ports : List Port) → port_text nets p
    ++ (flat_map (λ (q : Port). codes ",\n" ++ port_text nets q) ports
    ++ codes ");\n") ≡ text_of_lines (port_lines nets (p ∷ ports))
later_ports nets p [] = sym (append-nil ((port_text nets p ++ codes ");") ++ codes "\n") ∙ append_assoc (port_text nets p) (codes ");") (codes "\n"))
later_ports nets p (q ∷ ports) =
    let first : List ℕ = port_text nets p in
    let others : List ℕ = flat_map (λ (r : Port). codes ",\n" ++ port_text nets r) ports in
    let left : List ℕ = port_text nets q ++ (others ++ codes ");\n") in
    ap (λ (l : List ℕ). first ++ (codes ",\n" ++ l)) (append_assoc (port_text nets q) others (codes ");\n"))
    ∙ sym (append_assoc (first ++ codes ",") (codes "\n") left ∙ append_assoc first (codes ",") (codes "\n" ++ left))
    ∙ ap (λ (l : List ℕ). ((first ++ codes ",") ++ codes "\n") ++ l) (later_ports nets q ports)

ports_in_lines : (nets : List Net) (ports : List Port) → ports_text nets ports ++ codes ");\n" ≡ text_of_lines (port_lines nets ports)
ports_in_lines nets [] = refl
ports_in_lines nets (p ∷ ports) = append_assoc (port_text nets p) (flat_map (λ (q : Port). codes ",\n" ++ port_text nets q) ports) (codes ");\n") ∙ later_ports nets p ports

net_in_line : (reg joined : Bool) (n : Net) (left : List ℕ) (lines : List (List ℕ)) → left ≡ text_of_lines lines
    → (if reg then codes "reg " ++ net_text (declared n) ++ codes ";\n" else (if joined then [] else codes "wire " ++ net_text (declared n) ++ codes ";\n")) ++ left
    ≡ text_of_lines (if reg then register_line n ∷ lines else (if joined then lines else wire_line n ∷ lines))
net_in_line true joined n left lines e =
    ap (λ (l : List ℕ). l ++ left) (sym (append_assoc (codes "reg " ++ net_text (declared n)) (codes ";") (codes "\n"))) ∙ ap (λ (l : List ℕ). (register_line n ++ codes "\n") ++ l) e
net_in_line false true n left lines e = e
net_in_line false false n left lines e =
    ap (λ (l : List ℕ). l ++ left) (sym (append_assoc (codes "wire " ++ net_text (declared n)) (codes ";") (codes "\n"))) ∙ ap (λ (l : List ℕ). (wire_line n ++ codes "\n") ++ l) e

nets_in_lines : (ports : List Port) (k : ℕ) (nets : List Net) → nets_text ports k nets ≡ text_of_lines (net_lines ports k nets)
unfolding declaration_text
nets_in_lines ports k [] = refl
nets_in_lines ports k (n ∷ nets) = net_in_line n.reg (is_port ports k) n (nets_text ports (k + 1) nets) (net_lines ports (k + 1) nets) (nets_in_lines ports (k + 1) nets)

memory_in_line : (mem : Mem) → memory_text mem ≡ memory_line mem ++ codes "\n"
memory_in_line mem = sym (append_assoc (codes "reg [" ++ digits 10 (mem.width - 1) ++ codes ":0] " ++ mem.name ++ codes " [0:" ++ digits 10 (mem.depth - 1)) (codes "];") (codes "\n"))

assign_in_line : (m : Module) (a : Assign) → assign_text m a ≡ assign_line m a ++ codes "\n"
assign_in_line m a = sym (append_assoc (codes "assign " ++ name_of m.nets a.target ++ codes " = " ++ expr_text m a.expr) (codes ";") (codes "\n"))

update_in_line : (m : Module) (u : Update) → update_text m u ≡ update_line m u ++ codes "\n"
update_in_line m u = sym (append_assoc (codes "if (" ++ name_of m.nets u.enable ++ codes ") " ++ target_text m u.target ++ codes " <= " ++ name_of m.nets u.value) (codes ";") (codes "\n"))

part_in_lines : (outer : List Net) (i : Instance) (o : Option Module) → instance_line outer i o ≡ text_of_lines (part_lines outer i o)
unfolding instance_line
part_in_lines outer i None = refl
part_in_lines outer i (Some inner) =
    let front : List ℕ = inner.name ++ codes " " ++ i.name ++ codes " (" ++ connections_text outer inner.nets (zip inner.ports i.nets) in
    sym (append-nil ((front ++ codes ");") ++ codes "\n") ∙ append_assoc front (codes ");") (codes "\n"))

instances_in_lines : (modules : List Module) (m : Module) (instances : List Instance) → flat_map (instance_text modules m) instances ≡ text_of_lines (instance_lines modules m instances)
instances_in_lines modules m [] = refl
instances_in_lines modules m (i ∷ instances) =
    let own = part_lines m.nets i (slice_get modules i.«module») in
    ap (λ (l : List ℕ). l ++ flat_map (instance_text modules m) instances) (part_in_lines m.nets i (slice_get modules i.«module»))
    ∙ ap (λ (l : List ℕ). text_of_lines own ++ l) (instances_in_lines modules m instances)
    ∙ sym (lines_both own (instance_lines modules m instances))

updates_in_lines : (m : Module) (us : List Update) → updates_text m us ≡ text_of_lines (update_lines m us)
unfolding updates_text
updates_in_lines m [] = refl
updates_in_lines m (u ∷ us) =
    ap (λ (l : List ℕ). codes "always @(posedge clk) begin\n" ++ l)
    (ap (λ (l : List ℕ). l ++ codes "end\n") (each_line (update_text m) (update_line m) (update_in_line m) (u ∷ us)) ∙ sym (lines_both (map (update_line m) (u ∷ us)) (codes "end" ∷ [])))

-- lists of lines, one behind another
all_both : (a b c d e f g : List (List ℕ)) → text_of_lines (a ++ b ++ c ++ d ++ e ++ f
    ++ g) ≡ text_of_lines a ++ text_of_lines b ++ text_of_lines c ++ text_of_lines d
    ++ text_of_lines e ++ text_of_lines f ++ text_of_lines g
all_both a b c d e f g =
    lines_both (a ++ b ++ c ++ d ++ e ++ f) g
    ∙ ap (λ (l : List ℕ). l ++ text_of_lines g) (lines_both (a ++ b ++ c ++ d ++ e) f
    ∙ ap (λ (l : List ℕ). l ++ text_of_lines f) (lines_both (a ++ b ++ c ++ d) e
    ∙ ap (λ (l : List ℕ). l ++ text_of_lines e) (lines_both (a ++ b ++ c) d
    ∙ ap (λ (l : List ℕ). l ++ text_of_lines d) (lines_both (a ++ b) c
    ∙ ap (λ (l : List ℕ). l ++ text_of_lines c) (lines_both a b)))))

regrouped : (w name o feed p e b c d i u z : List ℕ) → w ++ name ++ (o ++ feed) ++ p ++ e ++ b ++ c ++ d ++ i ++ u ++ z ≡ ((w ++ name ++ o) ++ feed) ++ ((p ++ e) ++ b ++ c ++ d ++ i ++ u ++ z)
regrouped w name o feed p e b c d i u z = simp append_assoc

module_in_lines : (modules : List Module) (m : Module) → module_text modules m ≡ text_of_lines (module_lines modules m)
unfolding module_text
module_in_lines modules m =
    let ports = ports_in_lines m.nets m.ports in
    let nets = nets_in_lines m.ports 0 m.nets in
    let mems = each_line memory_text memory_line memory_in_line m.mems in
    let assigns = each_line (assign_text m) (assign_line m) (assign_in_line m) m.assigns in
    let instances = instances_in_lines modules m m.instances in
    let updates = updates_in_lines m m.updates in
    let head : List ℕ = (codes "module " ++ m.name ++ codes " (") ++ codes "\n" in
    regrouped (codes "module ") m.name (codes " (") (codes "\n") (ports_text m.nets m.ports)
    (codes ");\n") (nets_text m.ports 0 m.nets) (flat_map memory_text m.mems)
    (flat_map (assign_text m) m.assigns) (flat_map (instance_text modules m) m.instances)
    (updates_text m m.updates) (codes "endmodule\n")
    ∙ (λ i. head ++ (ports i ++ nets i ++ mems i ++ assigns i ++ instances i ++ updates i ++ codes "endmodule\n"))
    ∙ ap (λ (l : List ℕ). head ++ l) (sym (all_both (port_lines m.nets m.ports)
    (net_lines m.ports 0 m.nets) (map memory_line m.mems) (map (assign_line m) m.assigns)
    (instance_lines modules m m.instances) (update_lines m m.updates) (codes "endmodule" ∷ [])))

some_in_lines : (modules some : List Module) → flat_map (module_text modules) some ≡ text_of_lines (flat_map (module_lines modules) some)
some_in_lines modules [] = refl
some_in_lines modules (m ∷ some) =
    ap (λ (l : List ℕ). l ++ flat_map (module_text modules) some) (module_in_lines modules m)
    ∙ ap (λ (l : List ℕ). text_of_lines (module_lines modules m) ++ l) (some_in_lines modules some)
    ∙ sym (lines_both (module_lines modules m) (flat_map (module_lines modules) some))

pub in_lines : (modules : List Module) → modules_text modules ≡ text_of_lines (flat_map (module_lines modules) modules)
in_lines modules = some_in_lines modules modules
