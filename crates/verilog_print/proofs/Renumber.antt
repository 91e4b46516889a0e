-- A design with its nets in the order of its text: the text says it too.
use Rattle.std.proofs.Common.{◌≡◌, ◌∙◌, ℕ, suc, ◌+◌, ◌<◌, ◌≤◌, Bool, true, false, ◌||◌, List, [], ◌∷◌, ◌++◌, length, refl, sym, ap, subst, arith, Option, Some, None, if◌then◌else◌}
use Rattle.std.specs.Prelude.{map, slice_get}
use Rattle.std.specs.Option.{option_map}
use Rattle.std.proofs.lemmas.Option.{slice_get-map, slice_get_within}
use Rattle.std.proofs.lemmas.List.{map-append, length-map}
use Rattle.rtl_ir.specs.declared.design.Net.{Net}
use Rattle.rtl_ir.specs.declared.design.Port.{Port}
use Rattle.rtl_ir.specs.declared.design.Module.{Module}
use Rattle.rtl_ir.specs.Value.{is_reg}
use Rattle.rtl_ir.specs.Formed.{IsFormedPort, IsFormedModule}
use Rattle.rtl_text.specs.Tree.{PortTree, InputPort, OutputPort, ItemTree, WireItem, RegisterItem, MemoryItem, AssignItem, AlwaysItem, InstanceItem}
use Rattle.rtl_text.specs.Text.{Declared, is_port, wires_from, registers_of, wires_in, registers_in}
use Rattle.rtl_reading.specs.Reads.{port_net, item_nets, numbers_from, IsPortsFirst, IsNumbered}
use Rattle.rtl_reading.specs.Renumbered.{port_as, assign_as, update_as, instance_as, IsRenumbered}
use Rattle.verilog_print.proofs.Trees.{element_at, port_tree, net_item, net_items}
use Rattle.verilog_print.proofs.Modules.{items_of, module_tree}
use Rattle.verilog_print.proofs.Numbered.{own_net, no_item, port_net_is, items_declare, numbers_same, is_port_within, is_port_past}
use Rattle.verilog_print.proofs.Order.{place_of, at_place, same_place, in_left, order, order_apart, in_order, order_within, port_is_wire, numbers_at, port_numbers, others_from}

-- the nets in the order of the text
abbrev pub nets_of : List Module → Module → List Net
nets_of modules m = map port_net (map (port_tree m.nets) m.ports) ++ item_nets (items_of modules m)

abbrev pub number_of : Module → ℕ → ℕ
number_of m n = place_of (order m) n

abbrev pub renumbered : List Module → Module → Module
renumbered modules m = record {
  name = m.name;
  ports = map (port_as (number_of m)) m.ports;
  nets = nets_of modules m;
  mems = m.mems;
  assigns = map (assign_as (number_of m)) m.assigns;
  updates = map (update_as (number_of m)) m.updates;
  instances = map (instance_as (number_of m)) m.instances;
}

abbrev found : List Net → List (Option Net)
found nets = map (λ (n : Net). Some n) nets

ports_found : (nets : List Net) (m : Module) (ports : List Port) → m.nets ≡ nets
    → ((k : ℕ) (p : Port) → slice_get ports k ≡ Some p → IsFormedPort m p)
    → found (map port_net (map (port_tree nets) ports)) ≡ map (slice_get nets) (port_numbers ports)
ports_found nets m [] same f = refl
ports_found nets m (p ∷ ports) same f =
    let g : IsFormedPort m p = f 0 p refl in
    let inside : p.net < length nets = subst (λ (l : List Net). p.net < length l) same g.net in
    let (net, at) = element_at nets p.net inside in
    let here : slice_get m.nets p.net ≡ Some net = ap (λ (l : List Net). slice_get l p.net) same ∙ at in
    let wire : net.reg ≡ false = rw here at g.wire in
    let first : Some (port_net (port_tree nets p)) ≡ slice_get nets p.net = ap (λ (n : Net). Some n) (port_net_is nets p net at wire) ∙ sym at in
    ap (λ (o : Option Net). o ∷ found (map port_net (map (port_tree nets) ports))) first ∙ ap
    (λ (l : List (Option Net)). slice_get nets p.net
    ∷ l) (ports_found nets m ports same (λ k q e. f (suc k) q e))

others_found : (nets : List Net) (ports : List Port) (k : ℕ) (left : List Net)
    → ((j : ℕ) → slice_get nets (k + j) ≡ slice_get left j)
    → ((j : ℕ) (x : Net) → slice_get left j ≡ Some x → is_port ports (k + j) ≡ true → x.reg ≡ false)
    → found (item_nets (net_items ports k left)) ≡ map (slice_get nets) (others_from ports k left)
unfolding net_items
others_found nets ports k [] at wire = refl
others_found nets ports k (x ∷ left) at wire =
    let here : k + 0 ≡ k = omega arith in
    let moved : (j : ℕ) → slice_get nets (k + 1 + j) ≡ slice_get left j = λ j. let same : k + 1 + j ≡ k + suc j = omega arith in ap (slice_get nets) same ∙ at (suc j) in
    let later = others_found nets ports (k + 1) left moved (λ j y e h. let same : k + 1 + j ≡ k + suc j = omega arith in wire (suc j) y e (subst (λ (v : ℕ). is_port ports v ≡ true) same h)) in
    let own : slice_get nets k ≡ Some x = ap (slice_get nets) (sym here) ∙ at 0 in
    go (is_port ports k) refl own (λ yes. wire 0 x refl (subst (λ (v : ℕ). is_port ports v ≡ true) (sym here) yes)) later
  where
    go : (b : Bool) → is_port ports k ≡ b → slice_get nets k ≡ Some x
        → (is_port ports k ≡ true → x.reg ≡ false)
        → found (item_nets (net_items ports (k + 1) left)) ≡ map (slice_get nets)
        (others_from ports (k + 1) left)
        → found (item_nets (net_item x.reg b x ++ net_items ports (k + 1) left)) ≡ map (slice_get nets) (if b then others_from ports (k + 1) left else k ∷ others_from ports (k + 1) left)
    go true e own f later = ap (λ (l : List ItemTree). found (item_nets l)) (no_item x x.reg (net_items ports (k + 1) left) (f e)) ∙ later
    go false e own f later =
        ap found (own_net x x.reg (net_items ports (k + 1) left) refl) ∙ ap
        (λ (o : Option Net). o ∷ found (item_nets (net_items ports (k + 1) left)))
        (sym own) ∙ ap (λ (l : List (Option Net)). slice_get nets k ∷ l) later

nets_found : (modules : List Module) (m : Module) {earlier : List Module} → IsFormedModule earlier m → found (nets_of modules m) ≡ map (slice_get m.nets) (order m)
nets_found modules m f =
    let zero_at : (j : ℕ) → slice_get m.nets (0 + j) ≡ slice_get m.nets j = λ j. let same : 0 + j ≡ j = omega arith in ap (slice_get m.nets) same in
    let others : found (item_nets (items_of modules m)) ≡ map (slice_get m.nets) (others_from m.ports 0 m.nets) =
    ap found (items_declare modules m) ∙ others_found m.nets m.ports 0 m.nets zero_at (λ j x e h.
    let same : 0 + j ≡ j = omega arith in
    let (p, g, is) = port_is_wire m f j (subst (λ (v : ℕ). is_port m.ports v ≡ true) same h) in
    let at : slice_get m.nets p.net ≡ Some x = ap (slice_get m.nets) is ∙ e in
    let wire : is_reg m p.net ≡ false = g.wire in
    rw at at wire) in
    map-append (λ (n : Net). Some n) (map port_net (map (port_tree m.nets) m.ports)) (item_nets (items_of modules m))
    ∙ ap (λ (l : List (Option Net)). l ++ found (item_nets (items_of modules m))) (ports_found m.nets m m.ports refl f.ports)
    ∙ ap (λ (l : List (Option Net)). map (slice_get m.nets) (port_numbers m.ports) ++ l) others
    ∙ sym (map-append (slice_get m.nets) (port_numbers m.ports) (others_from m.ports 0 m.nets))

unwrapped : (o q : Option Net) → option_map (λ (n : Net). Some n) o ≡ Some q → o ≡ q
unwrapped None q e = absurd (cc)
unwrapped (Some x) q e = cc

pub net_there : (modules : List Module) (m : Module) {earlier : List Module}
    → IsFormedModule earlier m → (i n : ℕ) → slice_get (order m) i ≡ Some n
    → slice_get (nets_of modules m) i ≡ slice_get m.nets n
net_there modules m f i n e =
    unwrapped (slice_get (nets_of modules m) i) (slice_get m.nets n)
    (sym (slice_get-map (λ (x : Net). Some x) (nets_of modules m) i) ∙ ap
    (λ (l : List (Option Net)). slice_get l i) (nets_found modules m f) ∙ slice_get-map
    (slice_get m.nets) (order m) i ∙ ap (option_map (slice_get m.nets)) e)

pub same_count : (modules : List Module) (m : Module) {earlier : List Module} → IsFormedModule earlier m → length (nets_of modules m) ≡ length (order m)
same_count modules m f = sym (length-map (nets_of modules m) (λ (x : Net). Some x)) ∙ ap (λ (l : List (Option Net)). length l) (nets_found modules m f) ∙ length-map (order m) (slice_get m.nets)

-- the number at a place of a list
abbrev pub number_or : Option ℕ → ℕ
number_or None = 0
number_or (Some n) = n

pub placed : (m : Module) (n : ℕ) → n < length m.nets → slice_get (order m) (number_of m n) ≡ Some n
placed m n h = let (i, e) = in_order m n h in at_place (order m) i n e

abbrev pub is_renumbered : (modules : List Module) (m : Module) {earlier : List Module} → IsFormedModule earlier m → IsRenumbered m (renumbered modules m)
is_renumbered modules m f = record {
  number = number_of m;
  back = λ j. number_or (slice_get (order m) j);
  there = λ n h. (
    let within : number_of m n < length (order m) = slice_get_within (order m) (number_of m n) n (placed m n h) in
        let count = same_count modules m f in
        omega arith,
    ap number_or (placed m n h),
  );
  again = λ j h.
      let count = same_count modules m f in
      let below : j < length (order m) = omega arith in
      let (n, at) = element_at (order m) j below in (
        subst (λ (o : Option ℕ). number_or o < length m.nets) (sym at) (order_within m f j n at),
        subst (λ (o : Option ℕ). number_of m (number_or o) ≡ j) (sym at) (same_place (order m) (number_of m n) j n (order_apart m f) (at_place (order m) j n at) at),
      );
  nets = λ n h. net_there modules m f (number_of m n) n (placed m n h);
  name = refl;
  ports = refl;
  mems = refl;
  assigns = refl;
  updates = refl;
  instances = refl;
}

-- ports have the first numbers
numbers_first : (f : ℕ → ℕ) (ports : List Port) (k : ℕ) → ((j : ℕ) (p : Port) → slice_get ports j ≡ Some p → f p.net ≡ k + j) → map (λ (p : Port). p.net) (map (port_as f) ports) ≡ numbers_from k ports
numbers_first f [] k g = refl
numbers_first f (p ∷ ports) k g =
    let first : f p.net ≡ k = (let at = g 0 p refl in omega arith) in
    ap (λ (n : ℕ). n ∷ map (λ (q : Port). q.net) (map (port_as f) ports)) first
    ∙ ap (λ (l : List ℕ). k ∷ l) (numbers_first f ports (k + 1) (λ j q e. let at = g (suc j) q e in omega arith))

numbered_ports : (m : Module) {earlier : List Module} → IsFormedModule earlier m → map (λ (p : Port). p.net) (map (port_as (number_of m)) m.ports) ≡ numbers_from 0 m.ports
numbered_ports m f =
    numbers_first (number_of m) m.ports 0 (λ j p e.
    let at : slice_get (order m) j ≡ Some p.net = in_left (port_numbers m.ports) (others_from m.ports 0 m.nets) j p.net (numbers_at m.ports j p e) in
    let same : number_of m p.net ≡ j = same_place (order m) (number_of m p.net) j p.net (order_apart m f) (at_place (order m) j p.net at) at in
    omega arith)

pub is_numbered : (modules : List Module) (m : Module) {earlier : List Module} → IsFormedModule earlier m → IsNumbered (module_tree modules m) (renumbered modules m)
unfolding module_tree
is_numbered modules m f = record { nets = refl; ports = numbered_ports m f ∙ sym (numbers_same (port_tree m.nets) 0 m.ports) }

-- what the nets in that order declare
wires_past : (all : List Port) (ts : List PortTree) (k : ℕ) (left : List Net)
    → ((n : ℕ) → k ≤ n → n < k + length ts → is_port all n ≡ true)
    → wires_from all k (map port_net ts ++ left) ≡ wires_from all (k + length ts) left
wires_past all [] k left f = let same : k ≡ k + 0 = omega arith in ap (λ (i : ℕ). wires_from all i left) same
wires_past all (t ∷ ts) k left f =
    skip (port_net t).reg (is_port all k) (f k (omega arith) (omega arith))
    ∙ wires_past all ts (k + 1) left (λ n h l. f n (omega arith) (omega arith))
    ∙ (let same : k + 1 + length ts ≡ k + suc (length ts) = omega arith in ap (λ (i : ℕ). wires_from all i left) same)
  where
    skip : (r b : Bool) → b ≡ true
        → (if r || b then wires_from all (k + 1) (map port_net ts
        ++ left) else record { name = (port_net t).name; width = (port_net t).width }
        ∷ wires_from all (k + 1) (map port_net ts
        ++ left)) ≡ wires_from all (k + 1) (map port_net ts ++ left)
    skip true b e = refl
    skip false true e = refl
    skip false false e = absurd (cc)

wires_left : (all : List Port) (is : List ItemTree) (k : ℕ) → ((n : ℕ) → k ≤ n → is_port all n ≡ false) → wires_from all k (item_nets is) ≡ wires_in is
wires_left all [] k f = refl
wires_left all (WireItem w name ∷ is) k f =
    let own : Declared = record { name = name; width = w } in
    rw (f k (omega arith)) (ap (λ (l : List Declared). own ∷ l) (wires_left all is (k + 1) (λ n h. f n (omega arith))))
wires_left all (RegisterItem w name ∷ is) k f = wires_left all is (k + 1) (λ n h. f n (omega arith))
wires_left all (MemoryItem w name n ∷ is) k f = wires_left all is k f
wires_left all (AssignItem name e ∷ is) k f = wires_left all is k f
wires_left all (AlwaysItem us ∷ is) k f = wires_left all is k f
wires_left all (InstanceItem of name cs ∷ is) k f = wires_left all is k f

registers_past : (ts : List PortTree) (left : List Net) → registers_of (map port_net ts ++ left) ≡ registers_of left
registers_past [] left = refl
registers_past (InputPort w name ∷ ts) left = registers_past ts left
registers_past (OutputPort w name ∷ ts) left = registers_past ts left

registers_left : (is : List ItemTree) → registers_of (item_nets is) ≡ registers_in is
registers_left [] = refl
registers_left (WireItem w name ∷ is) = registers_left is
registers_left (RegisterItem w name ∷ is) = let own : Declared = record { name = name; width = w } in ap (λ (l : List Declared). own ∷ l) (registers_left is)
registers_left (MemoryItem w name n ∷ is) = registers_left is
registers_left (AssignItem name e ∷ is) = registers_left is
registers_left (AlwaysItem us ∷ is) = registers_left is
registers_left (InstanceItem of name cs ∷ is) = registers_left is

pub same_registers : (modules : List Module) (m : Module) → registers_in (items_of modules m) ≡ registers_of (nets_of modules m)
same_registers modules m = sym (registers_past (map (port_tree m.nets) m.ports) (item_nets (items_of modules m)) ∙ registers_left (items_of modules m))

pub same_wires : (modules : List Module) (m : Module) {earlier : List Module}
    → IsFormedModule earlier m → wires_in (items_of modules m) ≡ wires_from
    (map (port_as (number_of m)) m.ports) 0 (nets_of modules m)
same_wires modules m f =
    let all : List Port = map (port_as (number_of m)) m.ports in
    let ts : List PortTree = map (port_tree m.nets) m.ports in
    let first : IsPortsFirst (renumbered modules m) = numbered_ports m f ∙ sym (numbers_same (port_as (number_of m)) 0 m.ports) in
    let count : length ts ≡ length all = length-map m.ports (port_tree m.nets) ∙ sym (length-map m.ports (port_as (number_of m))) in
    sym (wires_past all ts 0 (item_nets (items_of modules m))
    (λ n h l. is_port_within all 0 n first h (omega arith)) ∙ wires_left all
    (items_of modules m) (0 + length ts) (λ n h. is_port_past all 0 n first (omega arith)))
