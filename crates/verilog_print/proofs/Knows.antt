-- What the items before an item declare, where they declare all that a module has.
use Rattle.std.proofs.Common.{◌≡◌, ◌∙◌, ℕ, zero, suc, ◌+◌, ◌<◌, Bool, true, false, ◌||◌, ◌==◌, List, [], ◌∷◌, ◌++◌, length, refl, ap, arith, Option, Some, None, if◌then◌else◌}
use Rattle.std.specs.Prelude.{map, slice_get}
use Rattle.std.proofs.lemmas.List.{append-nil, map-append}
use Rattle.std.proofs.lemmas.Bool.Decides.{Decides-eqb}
use Rattle.rtl_ir.specs.declared.design.Net.{Net}
use Rattle.rtl_ir.specs.declared.design.Mem.{Mem}
use Rattle.rtl_ir.specs.declared.design.Port.{Port}
use Rattle.rtl_ir.specs.declared.design.Module.{Module}
use Rattle.rtl_ir.specs.Value.{net_width, is_reg}
use Rattle.rtl_ir.specs.Formed.{net_name}
use Rattle.rtl_text.specs.Tree.{Name, PortTree, ItemTree}
use Rattle.rtl_text.specs.Text.{Declared, DeclaredMemory, is_port, wires_in, wires_from, registers_in, registers_of, memories_in, memories_of}
use Rattle.rtl_reading.specs.Uses.{is_in, port_name, names_of}
use Rattle.verilog_print.specs.Printed.{name_of, mem_name}
use Rattle.verilog_print.proofs.Names.{in_first, in_second, in_wider, in_at}
use Rattle.verilog_print.proofs.Trees.{element_at, port_of, port_tree, net_items, memory_item}
use Rattle.verilog_print.proofs.Same.{Joined, joined, nets_declare, memories_declare}

abbrev pub memory_names : List DeclaredMemory → List Name
memory_names ds = map (λ (d : DeclaredMemory). d.name) ds

-- each net, register and memory of the module is declared by these ports and items
pub record Knows (m : Module) (ports : List PortTree) (before : List ItemTree) : Type 0 where
  pub net : (n : ℕ) → n < length m.nets → is_in (name_of m.nets n) (map port_name ports ++ names_of (wires_in before) ++ names_of (registers_in before)) ≡ true
  pub register : (n : ℕ) → is_reg m n ≡ true → is_in (name_of m.nets n) (names_of (registers_in before)) ≡ true
  pub mem : (k : ℕ) → k < length m.mems → is_in (mem_name (slice_get m.mems k)) (memory_names (memories_in before)) ≡ true

names_append : (ds es : List Declared) → names_of (ds ++ es) ≡ names_of ds ++ names_of es
names_append ds es = map-append (λ (d : Declared). d.name) ds es

-- with more items
pub knows_more : (m : Module) (ports : List PortTree) (before more : List ItemTree) → Knows m ports before → Knows m ports (before ++ more)
knows_more m ports before more k =
    let j : Joined before more = joined before more in
    let wires : names_of (wires_in (before ++ more)) ≡ names_of (wires_in before) ++ names_of (wires_in more) = ap names_of j.wires ∙ names_append (wires_in before) (wires_in more) in
    let registers : names_of (registers_in (before ++ more)) ≡ names_of (registers_in before)
    ++ names_of (registers_in more) = ap names_of j.registers ∙ names_append
    (registers_in before) (registers_in more) in
    let memories : memory_names (memories_in (before ++ more)) ≡ memory_names (memories_in before) ++ memory_names (memories_in more) =
    ap memory_names j.memories ∙ map-append (λ (d : DeclaredMemory). d.name) (memories_in before) (memories_in more) in
    record {
      net = λ n h. rw (wires, registers) (in_wider (name_of m.nets n) (map port_name ports)
          (names_of (wires_in before)) (names_of (wires_in more))
          (names_of (registers_in before)) (names_of (registers_in more)) (k.net n h));
      register = λ n h. rw registers (in_first (name_of m.nets n) (names_of (registers_in before)) (names_of (registers_in more)) (k.register n h));
      mem = λ n h. rw memories (in_first (mem_name (slice_get m.mems n)) (memory_names (memories_in before)) (memory_names (memories_in more)) (k.mem n h));
    }

-- each net is a port's, a wire or a register
own_name : (output : Bool) (width : ℕ) (name : Name) → port_name (port_of output width name) ≡ name
unfolding port_of
own_name true width name = refl
own_name false width name = refl

pub tree_name : (nets : List Net) (p : Port) → port_name (port_tree nets p) ≡ name_of nets p.net
unfolding port_tree
tree_name nets p = own_name p.output (net_width (slice_get nets p.net)) (net_name (slice_get nets p.net))

port_among : (nets : List Net) (p : Port) (ports : List Port) (n : ℕ)
    → (is_port ports n ≡ true → is_in (name_of nets n) (map port_name
    (map (port_tree nets) ports)) ≡ true) → (b : Bool) → (p.net == n) ≡ b
    → (b || is_port ports n) ≡ true
    → is_in (name_of nets n) (map port_name (map (port_tree nets) (p ∷ ports))) ≡ true
port_among nets p ports n f true e h =
    let same : p.net ≡ n = (Decides-eqb p.net n).0 e in
    in_at (map port_name (map (port_tree nets) (p ∷ ports))) 0 (name_of nets n) (ap Some (tree_name nets p ∙ ap (name_of nets) same))
port_among nets p ports n f false e h = in_second (name_of nets n) (port_name (port_tree nets p) ∷ []) (map port_name (map (port_tree nets) ports)) (f h)

port_known : (nets : List Net) (ports : List Port) (n : ℕ) → is_port ports n ≡ true → is_in (name_of nets n) (map port_name (map (port_tree nets) ports)) ≡ true
port_known nets [] n h = cc
port_known nets (p ∷ ports) n h = port_among nets p ports n (port_known nets ports n) (p.net == n) refl h

-- a name in a list whose head may be left out
kept : (b : Bool) (name : Name) (d : Declared) (ds : List Declared) → is_in name (names_of ds) ≡ true → is_in name (names_of (if b then d ∷ ds else ds)) ≡ true
kept true name d ds h = in_second name (d.name ∷ []) (names_of ds) h
kept false name d ds h = h

kept_other : (b : Bool) (name : Name) (d : Declared) (ds : List Declared) → is_in name (names_of ds) ≡ true → is_in name (names_of (if b then ds else d ∷ ds)) ≡ true
kept_other true name d ds h = h
kept_other false name d ds h = in_second name (d.name ∷ []) (names_of ds) h

register_known : (nets : List Net) (n : ℕ) (net : Net) → slice_get nets n ≡ Some net → net.reg ≡ true → is_in net.name (names_of (registers_of nets)) ≡ true
register_known [] n net e r = cc
register_known (x ∷ nets) zero net e r = let same : x ≡ net = cc in let is : x.reg ≡ true = cc in rw is (in_at (x.name ∷ names_of (registers_of nets)) 0 net.name (ap (λ (y : Net). Some y.name) same))
register_known (x ∷ nets) (suc n) net e r = kept x.reg net.name (record { name = x.name; width = x.width }) (registers_of nets) (register_known nets n net e r)

wire_known : (ports : List Port) (k : ℕ) (nets : List Net) (n : ℕ) (net : Net)
    → slice_get nets n ≡ Some net → net.reg ≡ false → is_port ports (k + n) ≡ false
    → is_in net.name (names_of (wires_from ports k nets)) ≡ true
wire_known ports k [] n net e r w = cc
wire_known ports k (x ∷ nets) zero net e r w =
    let same : x ≡ net = cc in
    let is : x.reg ≡ false = cc in
    let here : k + 0 ≡ k = omega arith in
    let own : is_port ports k ≡ false = cc in
    rw (is, own) (in_at (x.name ∷ names_of (wires_from ports (k + 1) nets)) 0 net.name (ap (λ (y : Net). Some y.name) same))
wire_known ports k (x ∷ nets) (suc n) net e r w =
    let moved : k + suc n ≡ k + 1 + n = omega arith in
    kept_other (x.reg || is_port ports k) net.name (record { name = x.name; width = x.width }) (wires_from ports (k + 1) nets) (wire_known ports (k + 1) nets n net e r (rw moved at w))

net_known : (ports : List Port) (nets : List Net) (n : ℕ) (net : Net) (reg port : Bool) → slice_get nets n ≡ Some net → net.reg ≡ reg → is_port ports n ≡ port
    → is_in (name_of nets n) (map port_name (map (port_tree nets) ports) ++ names_of (wires_from ports 0 nets) ++ names_of (registers_of nets)) ≡ true
net_known ports nets n net true port e r w =
    in_second (name_of nets n) (map port_name (map (port_tree nets) ports) ++ names_of (wires_from ports 0 nets)) (names_of (registers_of nets)) (rw e (register_known nets n net e r))
net_known ports nets n net false true e r w =
    in_first (name_of nets n) (map port_name (map (port_tree nets) ports) ++ names_of (wires_from ports 0 nets)) (names_of (registers_of nets))
    (in_first (name_of nets n) (map port_name (map (port_tree nets) ports)) (names_of (wires_from ports 0 nets)) (port_known nets ports n w))
net_known ports nets n net false false e r w =
    let at : 0 + n ≡ n = omega arith in
    in_first (name_of nets n) (map port_name (map (port_tree nets) ports) ++ names_of (wires_from ports 0 nets)) (names_of (registers_of nets))
    (in_second (name_of nets n) (map port_name (map (port_tree nets) ports)) (names_of (wires_from ports 0 nets)) (rw e (wire_known ports 0 nets n net e r (rw at w))))

reg_known : (m : Module) (n : ℕ) → is_reg m n ≡ true → is_in (name_of m.nets n) (names_of (registers_of m.nets)) ≡ true
reg_known m n h = go (slice_get m.nets n) refl
  where
    go : (o : Option Net) → slice_get m.nets n ≡ o → is_in (name_of m.nets n) (names_of (registers_of m.nets)) ≡ true
    go None e = let no : false ≡ true = rw e at h in cc
    go (Some net) e = rw e (register_known m.nets n net e (rw e at h))

mem_known : (mems : List Mem) (k : ℕ) (mem : Mem) → slice_get mems k ≡ Some mem → is_in mem.name (memory_names (memories_of mems)) ≡ true
mem_known [] k mem e = cc
mem_known (x ∷ mems) zero mem e = let same : x ≡ mem = cc in in_at (x.name ∷ memory_names (memories_of mems)) 0 mem.name (ap (λ (y : Mem). Some y.name) same)
mem_known (x ∷ mems) (suc k) mem e = in_second mem.name (x.name ∷ []) (memory_names (memories_of mems)) (mem_known mems k mem e)

pub knows_all : (m : Module) → Knows m (map (port_tree m.nets) m.ports) (net_items m.ports 0 m.nets ++ map memory_item m.mems)
knows_all m =
    let j : Joined (net_items m.ports 0 m.nets) (map memory_item m.mems) = joined (net_items m.ports 0 m.nets) (map memory_item m.mems) in
    let n = nets_declare m.ports 0 m.nets in
    let x = memories_declare m.mems in
    let wires : wires_in (net_items m.ports 0 m.nets ++ map memory_item m.mems) ≡ wires_from m.ports 0 m.nets =
    j.wires ∙ ap (λ l. l ++ wires_in (map memory_item m.mems)) n.wires ∙ ap (λ l. wires_from m.ports 0 m.nets ++ l) x.wires ∙ append-nil (wires_from m.ports 0 m.nets) in
    let registers : registers_in (net_items m.ports 0 m.nets ++ map memory_item m.mems) ≡ registers_of m.nets =
    j.registers ∙ ap (λ l. l ++ registers_in (map memory_item m.mems)) n.registers ∙ ap (λ l. registers_of m.nets ++ l) x.registers ∙ append-nil (registers_of m.nets) in
    let memories : memories_in (net_items m.ports 0 m.nets ++ map memory_item m.mems) ≡ memories_of m.mems = j.memories ∙ ap (λ l. l ++ memories_in (map memory_item m.mems)) n.memories ∙ x.memories in
    record {
      net = λ k h. let (net, e) = element_at m.nets k h in rw (wires, registers) (net_known m.ports m.nets k net net.reg (is_port m.ports k) e refl refl);
      register = λ k h. rw registers (reg_known m k h);
      mem = λ k h. let (mem, e) = element_at m.mems k h in rw (memories, e) (mem_known m.mems k mem e);
    }
