-- Each name in the tree of a module is declared before it is used.
use Rattle.std.proofs.Common.{◌≡◌, ◌∙◌, ℕ, suc, ◌+◌, ◌<◌, Bool, true, false, ◌&&◌, ◌||◌, ◌==◌, not, List, [], ◌∷◌, ◌++◌, length, take, refl, sym, ap, subst, Some, None, append_assoc}
use Rattle.std.specs.Prelude.{map, slice_get, is_some, bytes_eq, codes}
use Rattle.std.specs.List.{list_any, zip}
use Rattle.std.specs.Option.{option_map}
use Rattle.std.proofs.lemmas.Option.{slice_get-map}
use Rattle.std.proofs.lemmas.List.{append-nil, map-append}
use Rattle.rtl_ir.specs.declared.design.Net.{Net}
use Rattle.rtl_ir.specs.declared.design.Mem.{Mem}
use Rattle.rtl_ir.specs.declared.design.Port.{Port}
use Rattle.rtl_ir.specs.declared.design.Expr.{Expr}
use Rattle.rtl_ir.specs.declared.design.Expr.TheVariants.{Net as Plain, Literal, Not, Binary, Concat, Repeat, Part as Slice, Choose, Cell}
use Rattle.rtl_ir.specs.declared.design.Assign.{Assign}
use Rattle.rtl_ir.specs.declared.design.Target.{Target}
use Rattle.rtl_ir.specs.declared.design.Target.TheVariants.{Reg, Cell as Word}
use Rattle.rtl_ir.specs.declared.design.Update.{Update}
use Rattle.rtl_ir.specs.declared.design.Instance.{Instance}
use Rattle.rtl_ir.specs.declared.design.Module.{Module}
use Rattle.rtl_ir.specs.declared.design.Design.{Design}
use Rattle.rtl_ir.specs.Value.{is_reg, width_of}
use Rattle.rtl_ir.specs.Operands.{target_mem}
use Rattle.rtl_ir.specs.Formed.{IsFormedExpr, IsFormedAssign, IsFormedUpdate, IsFormedInstance, IsFormedModule, net_name, is_bit_input as is_bit_port}
use Rattle.rtl_ir.specs.Rules.{AllDiffer, HasUpdates, IsAccepted, names_of as names_in}
use Rattle.rtl_text.specs.Tree.{Name, PortTree, ItemTree, WireItem, RegisterItem, MemoryItem, AssignItem, AlwaysItem, InstanceItem, Connection, ModuleTree}
use Rattle.rtl_reading.specs.Uses.{Scope, is_in, port_name, is_bit_input, module_named, ports_named}
use Rattle.rtl_reading.specs.Uses.{expr_uses, update_uses, updates_uses, item_uses, items_uses}
use Rattle.rtl_reading.specs.Uses.{port_uses, module_uses, text_uses, connection_uses, joined_uses}
use Rattle.rtl_reading.specs.Uses.{unknown_in}
use Rattle.verilog_print.specs.Printed.{name_of}
use Rattle.verilog_print.proofs.Names.{AllKnown, none_unknown, known_both, or_true, in_at}
use Rattle.verilog_print.proofs.Knows.{Knows, knows_more, knows_all}
use Rattle.verilog_print.proofs.Trees.{element_at, expr_tree, port_of, port_tree, net_item, net_items, memory_item, assign_item, update_of, update_tree, always_items}
use Rattle.verilog_print.proofs.Modules.{items_of, module_tree}
use Rattle.verilog_print.proofs.Instances.{connection_tree, instance_tree, named_instance, instance_item, slice_get_take}
use Rattle.verilog_print.proofs.Connected.{NamesDiffer, found, ports_differ, joined_names, each_joined, each_net, connections_known, all_joined}

expr_known : (m : Module) (sc : Scope) (e : Expr) → Knows m sc.ports sc.items → IsFormedExpr m e → AllKnown (expr_uses sc (expr_tree m e))
unfolding expr_tree
expr_known m sc (Plain n) k f = (k.net n (f.nets n (0, refl)), tt)
expr_known m sc (Literal x) k f = tt
expr_known m sc (Not n) k f = (k.net n (f.nets n (0, refl)), tt)
expr_known m sc (Binary s a b) k f = (k.net a (f.nets a (0, refl)), (k.net b (f.nets b (1, refl)), tt))
expr_known m sc (Concat a b) k f = (k.net a (f.nets a (0, refl)), (k.net b (f.nets b (1, refl)), tt))
expr_known m sc (Repeat i n) k f = (k.net n (f.nets n (0, refl)), tt)
expr_known m sc (Slice n hi lo) k f = (k.net n (f.nets n (0, refl)), tt)
expr_known m sc (Choose c a b) k f = (k.net c (f.nets c (0, refl)), (k.net a (f.nets a (1, refl)), (k.net b (f.nets b (2, refl)), tt)))
expr_known m sc (Cell i n) k f = (k.mem i (f.mem i refl), (k.net n (f.nets n (0, refl)), tt))

update_known : (m : Module) (sc : Scope) (u : Update) (t : Target) → u.target ≡ t → Knows m sc.ports sc.items → ((n : ℕ) → t ≡ Reg n → is_reg m n ≡ true) → IsFormedUpdate m u
    → AllKnown (update_uses sc (update_of m (name_of m.nets u.enable) (name_of m.nets u.value) t))
unfolding update_of
update_known m sc u (Reg n) e k r f = (k.net u.enable f.enable, (k.register n (r n refl), (k.net u.value f.value, tt)))
update_known m sc u (Word i n) e k r f = (k.net u.enable f.enable, (k.mem i (f.mem i (ap target_mem e)), (k.net n (rw e at f.net), (k.net u.value f.value, tt))))

updates_known : (m : Module) (sc : Scope) (us : List Update) → Knows m sc.ports sc.items → ((j : ℕ) (u : Update) → slice_get us j ≡ Some u → (n : ℕ) → u.target ≡ Reg n → is_reg m n ≡ true)
    → ((j : ℕ) (u : Update) → slice_get us j ≡ Some u → IsFormedUpdate m u) → AllKnown (updates_uses sc (map (update_tree m) us))
unfolding update_tree
updates_known m sc [] k r f = tt
updates_known m sc (u ∷ us) k r f =
    known_both (update_uses sc (update_tree m u)) (updates_uses sc (map (update_tree m) us)) (update_known m sc u u.target refl k (r 0 u refl) (f 0 u refl))
    (updates_known m sc us k (λ j x e. r (suc j) x e) (λ j x e. f (suc j) x e))

-- an item's names are declared wherever all that the module has is declared before it
abbrev pub IsKnown : Module → List ModuleTree → List PortTree → ItemTree → Type 0
IsKnown m modules ports i = (before : List ItemTree) → Knows m ports before → AllKnown (item_uses (record { modules = modules; ports = ports; items = before }) i)

abbrev pub AreKnown : Module → List ModuleTree → List PortTree → List ItemTree → Type 0
AreKnown m modules ports [] = Unit {0}
AreKnown m modules ports (i ∷ is) = IsKnown m modules ports i × AreKnown m modules ports is

are_both : (m : Module) (modules : List ModuleTree) (ports : List PortTree) (is js : List ItemTree) → AreKnown m modules ports is → AreKnown m modules ports js → AreKnown m modules ports (is ++ js)
are_both m modules ports [] js h k = k
are_both m modules ports (i ∷ is) js (h, t) k = (h, are_both m modules ports is js t k)

items_known : (m : Module) (modules : List ModuleTree) (ports : List PortTree)
    (before is : List ItemTree) → Knows m ports before → AreKnown m modules ports is
    → AllKnown (items_uses modules ports before is)
items_known m modules ports before [] k h = tt
items_known m modules ports before (i ∷ is) k (h, t) =
    known_both (item_uses (record { modules = modules; ports = ports; items = before }) i) (items_uses modules ports (before ++ i ∷ []) is) (h before k)
    (items_known m modules ports (before ++ i ∷ []) is (knows_more m ports before (i ∷ []) k) t)

assigns_known : (m : Module) (modules : List ModuleTree) (ports : List PortTree)
    (assigns : List Assign) → ((j : ℕ) (a : Assign) → slice_get assigns j ≡ Some a
    → IsFormedAssign m a) → AreKnown m modules ports (map (assign_item m) assigns)
unfolding assign_item
assigns_known m modules ports [] f = tt
assigns_known m modules ports (a ∷ assigns) f =
    let g : IsFormedAssign m a = f 0 a refl in
    (λ before k. (k.net a.target g.target, expr_known m (record { modules = modules; ports = ports; items = before }) a.expr k g.expr), assigns_known m modules ports assigns (λ j x e. f (suc j) x e))

always_known : (m : Module) (modules : List ModuleTree) (ports : List PortTree) (us : List Update) → ((j : ℕ) (u : Update) → slice_get us j ≡ Some u → (n : ℕ) → u.target ≡ Reg n → is_reg m n ≡ true)
    → ((j : ℕ) (u : Update) → slice_get us j ≡ Some u → IsFormedUpdate m u) → AreKnown m modules ports (always_items m us)
unfolding always_items
always_known m modules ports [] r f = tt
always_known m modules ports (u ∷ us) r f = (λ before k. updates_known m (record { modules = modules; ports = ports; items = before }) (u ∷ us) k r f, tt)

-- items that use no name
abbrev AreDeclarations : List ItemTree → Type 0
AreDeclarations [] = Unit {0}
AreDeclarations (WireItem w name ∷ is) = AreDeclarations is
AreDeclarations (RegisterItem w name ∷ is) = AreDeclarations is
AreDeclarations (MemoryItem w name n ∷ is) = AreDeclarations is
AreDeclarations (_ ∷ is) = ⊥

after_declarations : (modules : List ModuleTree) (ports : List PortTree)
    (before is more : List ItemTree) → AreDeclarations is
    → AllKnown (items_uses modules ports (before ++ is) more)
    → AllKnown (items_uses modules ports before (is ++ more))
after_declarations modules ports before [] more d h = rw append-nil at h
after_declarations modules ports before (WireItem w name ∷ is) more d h = after_declarations modules ports (before ++ WireItem w name ∷ []) is more d (rw append_assoc h)
after_declarations modules ports before (RegisterItem w name ∷ is) more d h = after_declarations modules ports (before ++ RegisterItem w name ∷ []) is more d (rw append_assoc h)
after_declarations modules ports before (MemoryItem w name n ∷ is) more d h = after_declarations modules ports (before ++ MemoryItem w name n ∷ []) is more d (rw append_assoc h)
after_declarations modules ports before (AssignItem name e ∷ is) more d h = absurd d
after_declarations modules ports before (AlwaysItem us ∷ is) more d h = absurd d
after_declarations modules ports before (InstanceItem of name cs ∷ is) more d h = absurd d

declared_both : (is js : List ItemTree) → AreDeclarations is → AreDeclarations js → AreDeclarations (is ++ js)
declared_both [] js h k = k
declared_both (WireItem w name ∷ is) js h k = declared_both is js h k
declared_both (RegisterItem w name ∷ is) js h k = declared_both is js h k
declared_both (MemoryItem w name n ∷ is) js h k = declared_both is js h k
declared_both (AssignItem name e ∷ is) js h k = absurd h
declared_both (AlwaysItem us ∷ is) js h k = absurd h
declared_both (InstanceItem of name cs ∷ is) js h k = absurd h

net_declared : (reg port : Bool) (n : Net) → AreDeclarations (net_item reg port n)
unfolding net_item
net_declared true port n = tt
net_declared false true n = tt
net_declared false false n = tt

nets_declared : (ports : List Port) (k : ℕ) (nets : List Net) → AreDeclarations (net_items ports k nets)
unfolding net_items
nets_declared ports k [] = tt
nets_declared ports k (n ∷ ns) = declared_both (net_item n.reg _ n) (net_items ports (k + 1) ns) (net_declared n.reg _ n) (nets_declared ports (k + 1) ns)

memories_declared : (mems : List Mem) → AreDeclarations (map memory_item mems)
unfolding memory_item
memories_declared [] = tt
memories_declared (x ∷ mems) = memories_declared mems

-- the clock and the reset
bit_input : (output : Bool) (width : ℕ) (name wanted : Name) → (not output && (width == 1) && bytes_eq name wanted) ≡ true → is_bit_input wanted (port_of output width name) ≡ true
unfolding port_of
bit_input true width name wanted h = cc
bit_input false width name wanted h = h

input_from : (m : Module) (wanted : Name) (p : Port) (ports : List PortTree) (others : Bool)
    → (others ≡ true → list_any (is_bit_input wanted) ports ≡ true) → (b : Bool)
    → is_bit_port m wanted p ≡ b → (b || others) ≡ true
    → list_any (is_bit_input wanted) (port_tree m.nets p ∷ ports) ≡ true
unfolding port_tree
input_from m wanted p ports others f true e h = rw (bit_input p.output (width_of m p.net) (net_name (slice_get m.nets p.net)) wanted e) refl
input_from m wanted p ports others f false e h = rw (f h) (or_true (is_bit_input wanted (port_tree m.nets p)))

input_known : (m : Module) (wanted : Name) (ports : List Port) → list_any (is_bit_port m wanted) ports ≡ true → list_any (is_bit_input wanted) (map (port_tree m.nets) ports) ≡ true
input_known m wanted [] h = cc
input_known m wanted (p ∷ ports) h = input_from m wanted p (map (port_tree m.nets) ports) (list_any (is_bit_port m wanted) ports) (input_known m wanted ports) (is_bit_port m wanted p) refl h

pub inputs_known : (earlier : List Module) (m : Module) → IsFormedModule earlier m → AllKnown (port_uses (map (port_tree m.nets) m.ports))
inputs_known earlier m f = (input_known m (codes "clk") m.ports f.clock, (input_known m (codes "reset") m.ports f.reset, tt))

-- instances
named_known : (sc : Scope) (of name : Name) (cs : List Connection) (tree : ModuleTree)
    → module_named sc.modules of ≡ Some tree
    → AllKnown (connection_uses sc (map port_name tree.ports) [] cs
    ++ joined_uses [] (map port_name tree.ports) cs)
    → AllKnown (item_uses sc (InstanceItem of name cs))
named_known sc of name cs tree e h = subst (λ o. AllKnown
    (record { name = of; declared = is_some o } ∷ (connection_uses sc (ports_named o) [] cs
    ++ joined_uses [] (ports_named o) cs))) (sym e) (refl, h)

instance_known : (modules earlier : List Module) (m : Module) (i : Instance)
    (ports : List PortTree) (before_inner : List Module) (inner : Module)
    → slice_get modules i.module ≡ Some inner → slice_get earlier i.module ≡ Some inner
    → NamesDiffer earlier
    → IsFormedModule before_inner inner → AllDiffer (names_in inner) → length i.nets ≡ length inner.ports → ((k n : ℕ) → slice_get i.nets k ≡ Some n → n < length m.nets)
    → IsKnown m (map (module_tree modules) earlier) ports (instance_item modules m i)
unfolding instance_item named_instance instance_tree module_tree
instance_known modules earlier m i ports before_inner inner of at differ f apart same inside before k =
    let sc : Scope = record { modules = map (module_tree modules) earlier; ports = ports; items = before } in
    let names : List Name = map port_name (map (port_tree inner.nets) inner.ports) in
    let cs : List Connection = map (connection_tree m.nets inner.nets) (zip inner.ports i.nets) in
    let is : joined_names cs ≡ names = each_joined m inner inner.ports i.nets same in
    let listed : (j : ℕ) (c : Connection) → slice_get cs j ≡ Some c → slice_get names j ≡ Some c.port =
    λ j c e. ap (λ l. slice_get l j) (sym is) ∙ slice_get-map (λ (x : Connection). x.port) cs j ∙ ap (option_map (λ (x : Connection). x.port)) e in
    let differs : AllDiffer (joined_names cs) = subst AllDiffer (sym is) (ports_differ before_inner inner f apart) in
    subst (λ o. let t = instance_tree m.nets i o in AllKnown (item_uses sc (InstanceItem t.of t.name t.connections))) (sym of)
    (named_known sc inner.name i.name cs (module_tree modules inner) (found modules earlier i.module inner at differ)
    (known_both (connection_uses sc names [] cs) (joined_uses [] names cs)
    (connections_known sc names [] cs (λ j c e. in_at names j c.port (listed j c e)) (each_net sc m inner inner.ports i.nets k.net inside) differs)
    (all_joined [] names cs (λ j p e. subst (λ l. is_in p l ≡ true) (sym is) (in_at names j p e)) (ports_differ before_inner inner f apart))))

instances_known : (modules : List Module) (earlier : List ModuleTree) (m : Module)
    (ports : List PortTree) (instances : List Instance)
    → ((j : ℕ) (i : Instance) → slice_get instances j ≡ Some i
    → IsKnown m earlier ports (instance_item modules m i))
    → AreKnown m earlier ports (map (instance_item modules m) instances)
instances_known modules earlier m ports [] f = tt
instances_known modules earlier m ports (i ∷ instances) f = (f 0 i refl, instances_known modules earlier m ports instances (λ j x e. f (suc j) x e))

-- modules
name_taken : (modules : List Module) (k j : ℕ) (m : Module) → slice_get (take k modules) j ≡ Some m → slice_get (map (λ (x : Module). x.name) modules) j ≡ Some m.name
name_taken modules k j m e = slice_get-map (λ (x : Module). x.name) modules j ∙ ap (option_map (λ (x : Module). x.name)) (slice_get_take modules k j m e)

earlier_differ : (d : Design) → IsAccepted d → (k : ℕ) → NamesDiffer (take k d.modules)
earlier_differ d a k i j m n e g same = a.names i j n.name (name_taken d.modules k i m e ∙ ap Some same) (name_taken d.modules k j n g)

part_known : (d : Design) → IsAccepted d
    → (k : ℕ) (m : Module) (ports : List PortTree) (i : Instance)
    → IsFormedInstance (take k d.modules) m i
    → IsKnown m (map (module_tree d.modules) (take k d.modules)) ports (instance_item d.modules m i)
part_known d a k m ports i g =
    let (inner, at) = element_at (take k d.modules) i.module g.is_earlier in
    let of : slice_get d.modules i.module ≡ Some inner = slice_get_take d.modules k i.module inner at in
    instance_known d.modules (take k d.modules) m i ports (take i.module d.modules) inner of at
    (earlier_differ d a k) (a.formed.each i.module inner of)
    (a.sound i.module inner of).names (g.ports inner at) g.nets

module_known : (d : Design) → IsAccepted d → (k : ℕ) (m : Module) → slice_get d.modules k ≡ Some m → AllKnown (module_uses (map (module_tree d.modules) (take k d.modules)) (module_tree d.modules m))
unfolding module_tree items_of
module_known d a k m e =
    let f : IsFormedModule (take k d.modules) m = a.formed.each k m e in
    let updated : HasUpdates m = (a.sound k m e).updated in
    let modules : List ModuleTree = map (module_tree d.modules) (take k d.modules) in
    let ports : List PortTree = map (port_tree m.nets) m.ports in
    let us : List ItemTree = always_items m m.updates ++ [] in
    let is : List ItemTree = map (instance_item d.modules m) m.instances ++ us in
    let bs : List ItemTree = map (assign_item m) m.assigns ++ is in
    let always : AreKnown m modules ports us = are_both m modules ports (always_items m m.updates) [] (always_known m modules ports m.updates (λ j u g n t. (updated.only n j u g t).0) f.updates) tt in
    let joined : AreKnown m modules ports is =
    are_both m modules ports (map (instance_item d.modules m) m.instances) us
    (instances_known d.modules modules m ports m.instances
    (λ j i g. part_known d a k m ports i (f.instances j i g))) always in
    let assigned : AreKnown m modules ports bs = are_both m modules ports (map (assign_item m) m.assigns) is (assigns_known m modules ports m.assigns f.assigns) joined in
    known_both (port_uses ports) (items_uses modules ports [] (net_items m.ports 0 m.nets ++ (map memory_item m.mems ++ bs))) (inputs_known (take k d.modules) m f)
    (after_declarations modules ports [] (net_items m.ports 0 m.nets) (map memory_item m.mems ++ bs) (nets_declared m.ports 0 m.nets)
    (after_declarations modules ports (net_items m.ports 0 m.nets) (map memory_item m.mems) bs (memories_declared m.mems)
    (items_known m modules ports (net_items m.ports 0 m.nets ++ map memory_item m.mems) bs (knows_all m) assigned)))

-- modules after these
modules_known : (tree : Module → ModuleTree) (before some : List Module)
    → ((j : ℕ) (m : Module) → slice_get some j ≡ Some m
    → AllKnown (module_uses (map tree (before ++ take j some)) (tree m)))
    → AllKnown (text_uses (map tree before) (map tree some))
modules_known tree before [] f = tt
modules_known tree before (m ∷ some) f =
    let first : AllKnown (module_uses (map tree before) (tree m)) = subst (λ l. AllKnown (module_uses (map tree l) (tree m))) (append-nil before) (f 0 m refl) in
    let left : AllKnown (text_uses (map tree (before ++ m ∷ [])) (map tree some)) =
    modules_known tree (before ++ m ∷ []) some (λ j x e. subst (λ l. AllKnown (module_uses (map tree l) (tree x))) (sym (append_assoc before (m ∷ []) (take j some))) (f (suc j) x e)) in
    known_both (module_uses (map tree before) (tree m)) (text_uses (map tree before ++ tree m
    ∷ []) (map tree some)) first (subst (λ l. AllKnown (text_uses l (map tree some)))
    (map-append tree before (m ∷ [])) left)

-- no name of an accepted design's trees is used before it is declared
pub none_is_unknown : (d : Design) → IsAccepted d → unknown_in (map (module_tree d.modules) d.modules) ≡ None
none_is_unknown d a = none_unknown (text_uses [] (map (module_tree d.modules) d.modules)) (modules_known (module_tree d.modules) [] d.modules (module_known d a))
