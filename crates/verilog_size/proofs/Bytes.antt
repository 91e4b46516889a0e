-- How many bytes the lines of a module have at most.
use Rattle.std.proofs.Common.{◌≡◌, ℕ, suc, ◌+◌, ◌-◌, ◌*◌, ◌≤◌, Bool, true, false, List, [], ◌∷◌, ◌++◌, length, Option, Some, None, refl, ap, arith, length-append, if◌then◌else◌}
use Rattle.std.specs.Prelude.{codes, map, slice_get}
use Rattle.std.specs.List.{flat_map, sum_by, zip}
use Rattle.std.proofs.lemmas.List.Sums.{sum_by-cons}
use Rattle.rtl_ir.specs.declared.design.Net.{Net}
use Rattle.rtl_ir.specs.declared.design.Mem.{Mem}
use Rattle.rtl_ir.specs.declared.design.Port.{Port}
use Rattle.rtl_ir.specs.declared.design.Sign.{Sign}
use Rattle.rtl_ir.specs.declared.design.Sign.TheVariants.{Add, Sub, Mul, Div, And, Or, Xor, Eq, Lt}
use Rattle.rtl_ir.specs.declared.design.Expr.{Expr}
use Rattle.rtl_ir.specs.declared.design.Expr.TheVariants.{Net as Net_, Literal, Not, Binary, Concat, Repeat, Part, Choose, Cell}
use Rattle.rtl_ir.specs.declared.design.Assign.{Assign}
use Rattle.rtl_ir.specs.declared.design.Target.{Target}
use Rattle.rtl_ir.specs.declared.design.Target.TheVariants.{Reg, Cell as Word}
use Rattle.rtl_ir.specs.declared.design.Update.{Update}
use Rattle.rtl_ir.specs.declared.design.Instance.{Instance}
use Rattle.rtl_ir.specs.declared.design.Module.{Module}
use Rattle.rtl_ir.specs.Spelling.{sign_bytes}
use Rattle.rtl_ir.specs.Operands.{reads, mem_read, target_net, target_mem}
use Rattle.rtl_ir.specs.Formed.{IsFormedExpr, IsFormedModule, net_name}
use Rattle.rtl_ir.specs.Ports.{PortView, port_view}
use Rattle.rtl_text.specs.Text.{is_port}
use Rattle.verilog_print.specs.Printed.{digits, net_text, net_range, mem_name, declared, direction_text, name_of, port_text, expr_text, cell_text, target_text, connection_text, connections_text}
use Rattle.verilog_print.specs.Lines.{text_of_lines, port_lines, register_line, wire_line, net_lines, memory_line, assign_line, part_lines, instance_lines, update_line, update_lines, module_lines}
use Rattle.verilog_size.specs.Names.{net_bytes, mem_bytes, assign_names, update_names, instance_names, module_names}
use Rattle.verilog_size.specs.Sizes.{instance_size, size_of}
use Rattle.verilog_size.proofs.Numerals.{short_decimal, decimal, hexadecimal}

-- ---- texts and lines

-- a text has at most so many bytes
pub record Fits (xs : List ℕ) (n : ℕ) : Type 0 where
  pub few : length xs ≤ n

-- a text fits where its length does
text : (xs : List ℕ) (n : ℕ) → length xs ≤ n → Fits xs n
text xs n h = record { few = h }

-- a text fits in its own length
plain : (xs : List ℕ) → Fits xs (length xs)
plain xs = text xs (length xs) (omega arith)

-- one text behind another
behind : {xs ys : List ℕ} {a b : ℕ} → Fits xs a → Fits ys b → Fits (xs ++ ys) (a + b)
behind {xs = xs} {ys = ys} f g =
    let both = length-append xs ys in
    let first = f.few in
    let second = g.few in
    record { few = omega (arith, both, first, second) }

-- so many bytes fit where more do
within : {xs : List ℕ} {a b : ℕ} → Fits xs a → a ≤ b → Fits xs b
within f h = let few = f.few in record { few = omega (arith, few, h) }

-- how many bytes these lines have, each with its line feed
abbrev pub bytes : List (List ℕ) → ℕ
bytes lines = length (text_of_lines lines)

-- a line has a line feed more than its text
bytes_more : (line : List ℕ) (lines : List (List ℕ)) → bytes (line ∷ lines) ≡ length line + 1 + bytes lines
bytes_more line lines =
    let both = length-append (line ++ codes "\n") (text_of_lines lines) in
    let first = length-append line (codes "\n") in
    omega (arith, both, first)

-- the bytes of lines behind others are together those of both
pub bytes_both : (xs ys : List (List ℕ)) → bytes (xs ++ ys) ≡ bytes xs + bytes ys
bytes_both [] ys = omega arith
bytes_both (x ∷ xs) ys =
    let more = bytes_more x (xs ++ ys) in
    let first = bytes_more x xs in
    let rest = bytes_both xs ys in
    omega (arith, more, first, rest)

-- a line for each element, with less than so many bytes beside its names
bytes_map : {A : Type 0} (line : A → List ℕ) (names : A → ℕ) (xs : List A) (n : ℕ) → ((k : ℕ) (x : A) → slice_get xs k ≡ Some x → Fits (line x) (n + names x))
    → bytes (map line xs) ≤ length xs * (n + 1) + sum_by names xs
bytes_map line names [] n each = omega arith
bytes_map line names (x ∷ xs) n each =
    let more = bytes_more (line x) (map line xs) in
    let first = (each 0 x refl).few in
    let rest = bytes_map line names xs n (λ k. each (suc k)) in
    let sum = sum_by-cons names x xs in
    omega (arith, more, first, rest, sum)

-- lines for each element, with at most so many bytes for each one of its size, beside its names
pub bytes_flat : {A : Type 0} (lines : A → List (List ℕ)) (size names : A → ℕ) (xs : List A) (n : ℕ)
    → ((k : ℕ) (x : A) → slice_get xs k ≡ Some x → bytes (lines x) ≤ n * size x + names x)
    → bytes (flat_map lines xs) ≤ n * sum_by size xs + sum_by names xs
bytes_flat lines size names [] n each = omega arith
bytes_flat lines size names (x ∷ xs) n each =
    let both = bytes_both (lines x) (flat_map lines xs) in
    let first = each 0 x refl in
    let rest = bytes_flat lines size names xs n (λ k. each (suc k)) in
    let sum = sum_by-cons size x xs in
    let product = ap (λ (s : ℕ). n * s) sum in
    let sum_names = sum_by-cons names x xs in
    omega (arith, both, first, rest, product, sum_names)

-- ---- the parts of a line

-- an operator has at most two bytes
sign_fits : (s : Sign) → Fits (sign_bytes s) 2
sign_fits s = text (sign_bytes s) 2 (go s)
  where
    go : (s : Sign) → length (sign_bytes s) ≤ 2
    go Add = omega arith
    go Sub = omega arith
    go Mul = omega arith
    go Div = omega arith
    go And = omega arith
    go Or = omega arith
    go Xor = omega arith
    go Eq = omega arith
    go Lt = omega arith

-- a number up to 128 has at most three digits
number_fits : (n : ℕ) → n ≤ 128 → Fits (digits 10 n) 3
number_fits n h = text (digits 10 n) 3 (short_decimal n (omega (arith, h)))

-- the range and the name of a net
net_fits : (n : Net) → n.width ≤ 128 → Fits (net_text (declared n)) (8 + length n.name)
net_fits n w =
    within (behind (behind (behind (plain (codes "[")) (number_fits (n.width - 1) (omega (arith, w)))) (plain (codes ":0] "))) (plain n.name))
    (omega arith)

module _ {earlier : List Module} (m : Module) (f : IsFormedModule earlier m) where
  -- the name of a net of the module, or of none
  name : (n : ℕ) → Fits (name_of m.nets n) (net_bytes m n)
  name n = plain (name_of m.nets n)

  -- the range and the name of a net of the module
  range_fits : (k : ℕ) (n : Net) → slice_get m.nets k ≡ Some n → Fits (net_text (declared n)) (8 + length n.name)
  range_fits k n e = net_fits n (f.nets k n e).at_most

  -- the declaration of a port
  port_fits : (p : Port) → Fits (port_text m.nets p) (20 + net_bytes m p.net)
  port_fits p = within (behind (direction p.output) (go (slice_get m.nets p.net) refl)) (omega arith)
    where
      direction : (output : Bool) → Fits (direction_text output) 12
      direction true = text (codes "output wire ") 12 (omega arith)
      direction false = text (codes "input wire ") 12 (omega arith)

      go : (o : Option Net) → slice_get m.nets p.net ≡ o → Fits (net_range o) (8 + length (net_name o))
      go None e = text [] 8 (omega arith)
      go (Some n) e = range_fits p.net n e

  -- a word of a memory
  cell_fits : (k n : ℕ) → Fits (cell_text m k n) (mem_bytes m (Some k) + net_bytes m n + 2)
  cell_fits k n =
      within (behind (behind (behind (plain (mem_name (slice_get m.mems k))) (plain (codes "["))) (name n)) (plain (codes "]")))
      (omega arith)

  -- an expression has at most 40 bytes beside its names: a literal has 37
  expr_fits : (e : Expr) → IsFormedExpr m e → Fits (expr_text m e) (40 + sum_by (net_bytes m) (reads e) + mem_bytes m (mem_read e))
  expr_fits (Net_ n) g = within (name n) (omega arith)
  expr_fits (Literal x) g =
      within (behind (behind (number_fits x.width x.at_most) (plain (codes "'h"))) (text (digits 16 x.bits) 32 (hexadecimal x.bits x.width x.at_most x.fits)))
      (omega arith)
  expr_fits (Not n) g = within (behind (plain (codes "~")) (name n)) (omega arith)
  expr_fits (Binary s a b) g =
      within (behind (behind (behind (behind (name a) (plain (codes " "))) (sign_fits s)) (plain (codes " "))) (name b)) (omega arith)
  expr_fits (Concat a b) g =
      within (behind (behind (behind (behind (plain (codes "{")) (name a)) (plain (codes ", "))) (name b)) (plain (codes "}"))) (omega arith)
  expr_fits (Repeat k n) g =
      within (behind (behind (behind (behind (plain (codes "{")) (number_fits k (g.numbers 0 k refl))) (plain (codes "{"))) (name n)) (plain (codes "}}")))
      (omega arith)
  expr_fits (Part n hi lo) g =
      within
      (behind
      (behind (behind (behind (behind (name n) (plain (codes "["))) (number_fits hi (g.numbers 0 hi refl))) (plain (codes ":")))
      (number_fits lo (g.numbers 1 lo refl)))
      (plain (codes "]")))
      (omega arith)
  expr_fits (Choose c a b) g =
      within (behind (behind (behind (behind (name c) (plain (codes " ? "))) (name a)) (plain (codes " : "))) (name b)) (omega arith)
  expr_fits (Cell k n) g = within (cell_fits k n) (omega arith)

  -- ---- lines

  -- the line of a memory
  memory_fits : (k : ℕ) (x : Mem) → slice_get m.mems k ≡ Some x → Fits (memory_line x) (29 + length x.name)
  memory_fits k x e =
      let g = f.mems k x e in
      let width = g.at_most in
      let some = g.words in
      let words = g.words_at_most in
      within
      (behind
      (behind
      (behind (behind (behind (behind (plain (codes "reg [")) (number_fits (x.width - 1) (omega (arith, width)))) (plain (codes ":0] "))) (plain x.name))
      (plain (codes " [0:")))
      (text (digits 10 (x.depth - 1)) 9 (decimal (x.depth - 1) (omega (arith, some, words)))))
      (plain (codes "];")))
      (omega arith)

  -- the line of an assignment
  assign_fits : (k : ℕ) (a : Assign) → slice_get m.assigns k ≡ Some a → Fits (assign_line m a) (59 + assign_names m a)
  assign_fits k a e =
      within
      (behind (behind (behind (behind (plain (codes "assign ")) (name a.target)) (plain (codes " = "))) (expr_fits a.expr (f.assigns k a e).expr))
      (plain (codes ";")))
      (omega arith)

  -- what an update writes
  target_fits : (t : Target) → Fits (target_text m t) (2 + net_bytes m (target_net t) + mem_bytes m (target_mem t))
  target_fits (Reg n) = within (name n) (omega arith)
  target_fits (Word k n) = within (cell_fits k n) (omega arith)

  -- the line of an update
  update_fits : (u : Update) → Fits (update_line m u) (59 + update_names m u)
  update_fits u =
      within
      (behind
      (behind (behind (behind (behind (behind (plain (codes "if (")) (name u.enable)) (plain (codes ") "))) (target_fits u.target)) (plain (codes " <= ")))
      (name u.value))
      (plain (codes ";")))
      (omega arith)

  -- the names of some ports of the module
  abbrev names_of : List Port → ℕ
  names_of ports = sum_by (λ (p : PortView). length p.name) (map (port_view m) ports)

  -- the ports, of which there may be none
  ports_bytes : (ports : List Port) → bytes (port_lines m.nets ports) ≤ length ports * 30 + 3 + names_of ports
  ports_bytes [] = omega arith
  ports_bytes (p ∷ []) =
      let more = bytes_more (port_text m.nets p ++ codes ");") [] in
      let own = (behind (port_fits p) (plain (codes ");"))).few in
      omega (arith, more, own)
  ports_bytes (p ∷ q ∷ ps) =
      let more = bytes_more (port_text m.nets p ++ codes ",") (port_lines m.nets (q ∷ ps)) in
      let own = (behind (port_fits p) (plain (codes ","))).few in
      let rest = ports_bytes (q ∷ ps) in
      let sum = sum_by-cons (λ (p : PortView). length p.name) (port_view m p) (map (port_view m) (q ∷ ps)) in
      omega (arith, more, own, rest, sum)

  -- the declarations of some nets of the module, from number k on
  nets_bytes : (k : ℕ) (nets : List Net) → ((j : ℕ) (n : Net) → slice_get nets j ≡ Some n → Fits (net_text (declared n)) (8 + length n.name))
      → bytes (net_lines m.ports k nets) ≤ length nets * 30 + sum_by (λ (n : Net). length n.name) nets
  nets_bytes k [] each = omega arith
  nets_bytes k (n ∷ ns) each =
      let sum = sum_by-cons (λ (n : Net). length n.name) n ns in
      let rest = nets_bytes (k + 1) ns (λ j. each (suc j)) in
      let all = go n.reg (is_port m.ports k) (net_lines m.ports (k + 1) ns) in
      omega (arith, sum, rest, all)
    where
      go : (reg joined : Bool) (lines : List (List ℕ))
          → bytes (if reg then register_line n ∷ lines else (if joined then lines else wire_line n ∷ lines)) ≤ 30 + length n.name + bytes lines
      go true joined lines =
          let more = bytes_more (register_line n) lines in
          let own = (behind (behind (plain (codes "reg ")) (each 0 n refl)) (plain (codes ";"))).few in
          omega (arith, more, own)
      go false true lines = omega arith
      go false false lines =
          let more = bytes_more (wire_line n) lines in
          let own = (behind (behind (plain (codes "wire ")) (each 0 n refl)) (plain (codes ";"))).few in
          omega (arith, more, own)

  -- the updates, of which there may be none
  updates_bytes : (us : List Update) → bytes (update_lines m us) ≤ length us * 60 + 32 + sum_by (update_names m) us
  updates_bytes [] = omega arith
  updates_bytes (u ∷ us) =
      let more = bytes_more (codes "always @(posedge clk) begin") (map (update_line m) (u ∷ us) ++ codes "end" ∷ []) in
      let both = bytes_both (map (update_line m) (u ∷ us)) (codes "end" ∷ []) in
      let all = bytes_map (update_line m) (update_names m) (u ∷ us) 59 (λ k x e. update_fits x) in
      omega (arith, more, both, all)

  -- ---- instances of a module

  module _ (inner : Module) where
    -- a port of the inner module, and the net that is joined to it
    connection_fits : (joined : Port × ℕ) → Fits (connection_text m.nets inner.nets joined) (3 + net_bytes inner joined.0.net + net_bytes m joined.1)
    connection_fits joined =
        within
        (behind (behind (behind (behind (plain (codes ".")) (plain (name_of inner.nets joined.0.net))) (plain (codes "("))) (name joined.1)) (plain (codes ")")))
        (omega arith)

    -- the names of these ports of the inner module
    abbrev inner_ports : List Port → ℕ
    inner_ports ports = sum_by (λ (p : PortView). length p.name) (map (port_view inner) ports)

    -- all of them but the first, each behind a comma
    later_fits : (ports : List Port) (nets : List ℕ)
        → Fits (flat_map (λ (j : Port × ℕ). codes ", " ++ connection_text m.nets inner.nets j) (zip ports nets))
        (5 * length nets + inner_ports ports + sum_by (net_bytes m) nets)
    later_fits [] nets = text [] (5 * length nets + inner_ports [] + sum_by (net_bytes m) nets) (omega arith)
    later_fits (p ∷ ports) [] = text [] (5 * 0 + inner_ports (p ∷ ports) + sum_by (net_bytes m) []) (omega arith)
    later_fits (p ∷ ports) (n ∷ nets) =
        let first = sum_by-cons (λ (p : PortView). length p.name) (port_view inner p) (map (port_view inner) ports) in
        let second = sum_by-cons (net_bytes m) n nets in
        within (behind (behind (plain (codes ", ")) (connection_fits (p, n))) (later_fits ports nets)) (omega (arith, first, second))

    -- all of them
    connections_fit : (ports : List Port) (nets : List ℕ)
        → Fits (connections_text m.nets inner.nets (zip ports nets)) (5 * length nets + inner_ports ports + sum_by (net_bytes m) nets)
    connections_fit [] nets = text [] (5 * length nets + inner_ports [] + sum_by (net_bytes m) nets) (omega arith)
    connections_fit (p ∷ ports) [] = text [] (5 * 0 + inner_ports (p ∷ ports) + sum_by (net_bytes m) []) (omega arith)
    connections_fit (p ∷ ports) (n ∷ nets) =
        let first = sum_by-cons (λ (p : PortView). length p.name) (port_view inner p) (map (port_view inner) ports) in
        let second = sum_by-cons (net_bytes m) n nets in
        within (behind (connection_fits (p, n)) (later_fits ports nets)) (omega (arith, first, second))

    -- the line of an instance of the inner module
    part_fits : (i : Instance)
        → Fits (inner.name ++ codes " " ++ i.name ++ codes " (" ++ connections_text m.nets inner.nets (zip inner.ports i.nets) ++ codes ");")
        (5 + 5 * length i.nets + instance_names m i (Some inner))
    part_fits i =
        within
        (behind
        (behind (behind (behind (behind (plain inner.name) (plain (codes " "))) (plain i.name)) (plain (codes " (")))
        (connections_fit inner.ports i.nets))
        (plain (codes ");")))
        (omega arith)

  -- the lines of all instances
  instances_bytes : (modules : List Module)
      → bytes (instance_lines modules m m.instances)
      ≤ 100 * sum_by instance_size m.instances + sum_by (λ (i : Instance). instance_names m i (slice_get modules i.«module»)) m.instances
  instances_bytes modules =
      bytes_flat (λ (i : Instance). part_lines m.nets i (slice_get modules i.«module»)) instance_size
      (λ (i : Instance). instance_names m i (slice_get modules i.«module»)) m.instances 100
      (λ k i e. part i (slice_get modules i.«module»))
    where
      part : (i : Instance) (o : Option Module) → bytes (part_lines m.nets i o) ≤ 100 * instance_size i + instance_names m i o
      part i None = omega arith
      part i (Some inner) =
          let line = inner.name ++ codes " " ++ i.name ++ codes " (" ++ connections_text m.nets inner.nets (zip inner.ports i.nets) ++ codes ");" in
          let more = bytes_more line [] in
          let own = (part_fits inner i).few in
          omega (arith, more, own)

  -- the lines of the module, where it has so many assignments and updates together
  pub module_bytes : (modules : List Module)
      → length m.assigns + length m.updates ≤ length m.nets + length m.mems
      → bytes (module_lines modules m) ≤ 100 * size_of m + module_names modules m
  module_bytes modules few =
      let first : List ℕ = codes "module " ++ m.name ++ codes " (" in
      let ports = port_lines m.nets m.ports in
      let nets = net_lines m.ports 0 m.nets in
      let mems = map memory_line m.mems in
      let assigns = map (assign_line m) m.assigns in
      let instances = instance_lines modules m m.instances in
      let updates = update_lines m m.updates in
      let last : List (List ℕ) = codes "endmodule" ∷ [] in
      let head = (behind (behind (plain (codes "module ")) (plain m.name)) (plain (codes " ("))).few in
      let more = bytes_more first (ports ++ nets ++ mems ++ assigns ++ instances ++ updates ++ last) in
      let a = bytes_both ports nets in
      let b = bytes_both (ports ++ nets) mems in
      let c = bytes_both (ports ++ nets ++ mems) assigns in
      let d = bytes_both (ports ++ nets ++ mems ++ assigns) instances in
      let e = bytes_both (ports ++ nets ++ mems ++ assigns ++ instances) updates in
      let g = bytes_both (ports ++ nets ++ mems ++ assigns ++ instances ++ updates) last in
      let of_ports = ports_bytes m.ports in
      let of_nets = nets_bytes 0 m.nets range_fits in
      let of_mems = bytes_map memory_line (λ (k : Mem). length k.name) m.mems 29 memory_fits in
      let of_assigns = bytes_map (assign_line m) (assign_names m) m.assigns 59 assign_fits in
      let of_instances = instances_bytes modules in
      let of_updates = updates_bytes m.updates in
      let all_bytes :
      bytes (module_lines modules m)
      ≤ length m.name + 10 + bytes ports + bytes nets + bytes mems + bytes assigns + bytes instances + bytes updates + 10 =
      omega (arith, head, more, a, b, c, d, e, g) in
      omega (arith, all_bytes, of_ports, of_nets, of_mems, of_assigns, of_instances, of_updates, few)
