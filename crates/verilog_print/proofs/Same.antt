-- The tree of a module is the module, by name.
use Rattle.std.proofs.Common.{◌≡◌, ◌∙◌, ℕ, suc, ◌+◌, ◌<◌, Bool, true, false, ◌||◌, List, [], ◌∷◌, ◌++◌, length, refl, sym, ap, subst, Some, append_assoc, arith, if◌then◌else◌}
use Rattle.std.specs.Prelude.{map, slice_get}
use Rattle.std.specs.List.{zip}
use Rattle.rtl_ir.specs.declared.design.Net.{Net}
use Rattle.std.proofs.lemmas.List.{append-nil}
use Rattle.rtl_ir.specs.declared.design.Mem.{Mem}
use Rattle.rtl_ir.specs.declared.design.Port.{Port}
use Rattle.rtl_ir.specs.declared.design.Target.{Target}
use Rattle.rtl_ir.specs.declared.design.Target.TheVariants.{Reg, Cell as Word}
use Rattle.rtl_ir.specs.declared.design.Update.{Update}
use Rattle.rtl_ir.specs.Operands.{target_mem}
use Rattle.rtl_ir.specs.declared.design.Expr.{Expr}
use Rattle.rtl_ir.specs.declared.design.Expr.TheVariants.{Net as Plain, Literal, Not, Binary, Concat, Repeat, Part as Slice, Choose, Cell}
use Rattle.rtl_ir.specs.declared.design.Assign.{Assign}
use Rattle.rtl_ir.specs.declared.design.Instance.{Instance}
use Rattle.rtl_ir.specs.declared.design.Module.{Module}
use Rattle.rtl_ir.specs.declared.design.Design.{Design}
use Rattle.rtl_ir.specs.Formed.{IsFormedPort, IsFormedExpr, IsFormedAssign, IsFormedUpdate, IsFormedInstance, IsFormedModule, IsFormed}
use Rattle.rtl_text.specs.Tree.{Connection, ItemTree, UpdateTree, WireItem, RegisterItem, MemoryItem, AssignItem, AlwaysItem, InstanceItem}
use Rattle.rtl_text.specs.Text.{Pairwise, IsNet, PortIs, ExprIs, AssignIs, ModuleIs, is_port}
use Rattle.rtl_text.specs.Text.{wires_in, wires_from, registers_in, registers_of, memories_in}
use Rattle.rtl_text.specs.Text.{memories_of, assigns_in, updates_in, instances_in, UpdateIs}
use Rattle.rtl_text.specs.Text.{IsJoined, InstanceIs, IsMem, Declared, DeclaredMemory, NamedAssign}
use Rattle.rtl_text.specs.Text.{NamedInstance}
use Rattle.verilog_print.specs.Printed.{name_of, mem_name}
use Rattle.verilog_print.proofs.Trees.{element_at, port_tree, port_of, expr_tree, net_item, net_items, memory_item, assign_item, update_of, update_tree, always_items}
use Rattle.verilog_print.proofs.Instances.{connection_tree, instance_tree, named_instance, instance_item, InnerOf, IsPart, parts}
use Rattle.verilog_print.proofs.Modules.{items_of, module_tree}

named : (m : Module) (n : ℕ) → n < length m.nets → IsNet m (name_of m.nets n) n
named m n h = let (net, e) = element_at m.nets n h in rw e refl

mem_named : (m : Module) (k : ℕ) → k < length m.mems → IsMem m (mem_name (slice_get m.mems k)) k
mem_named m k h = let (mem, e) = element_at m.mems k h in rw e refl

expr_is : (m : Module) (e : Expr) → IsFormedExpr m e → ExprIs m (expr_tree m e) e
unfolding expr_tree
expr_is m (Plain n) f = named m n (f.nets n (0, refl))
expr_is m (Literal x) f = (refl, refl)
expr_is m (Not n) f = named m n (f.nets n (0, refl))
expr_is m (Binary s a b) f = (refl, named m a (f.nets a (0, refl)), named m b (f.nets b (1, refl)))
expr_is m (Concat a b) f = (named m a (f.nets a (0, refl)), named m b (f.nets b (1, refl)))
expr_is m (Repeat k n) f = (refl, named m n (f.nets n (0, refl)))
expr_is m (Slice n hi lo) f = (refl, refl, named m n (f.nets n (0, refl)))
expr_is m (Choose c a b) f = (named m c (f.nets c (0, refl)), named m a (f.nets a (1, refl)), named m b (f.nets b (2, refl)))
expr_is m (Cell k n) f = (mem_named m k (f.mem k refl), named m n (f.nets n (0, refl)))

port_then : (m : Module) (p : Port) (net : Net) → slice_get m.nets p.net ≡ Some net → net.reg ≡ false → (output : Bool) → p.output ≡ output → PortIs m (port_of output net.width net.name) p
unfolding port_of
port_then m p net e w true d = record { net = net; of = e; named = refl; wide = refl; wire = w; direction = d }
port_then m p net e w false d = record { net = net; of = e; named = refl; wide = refl; wire = w; direction = d }

port_is : (m : Module) (p : Port) → IsFormedPort m p → PortIs m (port_tree m.nets p) p
unfolding port_tree
port_is m p f = let (net, e) = element_at m.nets p.net f.net in rw e (port_then m p net e (rw e at f.wire) p.output refl)

ports_are : (m : Module) (ports : List Port) → ((k : ℕ) (p : Port) → slice_get ports k ≡ Some p → IsFormedPort m p) → Pairwise (PortIs m) (map (port_tree m.nets) ports) ports
ports_are m [] f = tt
ports_are m (p ∷ ports) f = (port_is m p (f 0 p refl), ports_are m ports (λ k q e. f (suc k) q e))

-- the items of a kind in two lists, one behind the other
pub record Joined (is js : List ItemTree) : Type 0 where
  pub wires : wires_in (is ++ js) ≡ wires_in is ++ wires_in js
  pub registers : registers_in (is ++ js) ≡ registers_in is ++ registers_in js
  pub memories : memories_in (is ++ js) ≡ memories_in is ++ memories_in js
  pub assigns : assigns_in (is ++ js) ≡ assigns_in is ++ assigns_in js
  pub updates : updates_in (is ++ js) ≡ updates_in is ++ updates_in js
  pub instances : instances_in (is ++ js) ≡ instances_in is ++ instances_in js

pub joined : (is js : List ItemTree) → Joined is js
joined [] js = record { wires = refl; registers = refl; memories = refl; assigns = refl; updates = refl; instances = refl }
joined (WireItem w n ∷ is) js = let r = joined is js in let own : Declared = record { name = n; width = w } in record {
  wires = ap (λ l. own ∷ l) r.wires;
  registers = r.registers;
  memories = r.memories;
  assigns = r.assigns;
  updates = r.updates;
  instances = r.instances;
}
joined (RegisterItem w n ∷ is) js = let r = joined is js in record {
  wires = r.wires;
  registers = (let own : Declared = record { name = n; width = w } in ap (λ l. own ∷ l) r.registers);
  memories = r.memories;
  assigns = r.assigns;
  updates = r.updates;
  instances = r.instances;
}
joined (MemoryItem w n d ∷ is) js = let r = joined is js in record {
  wires = r.wires;
  registers = r.registers;
  memories = (let own : DeclaredMemory = record { name = n; width = w; depth = d } in ap (λ l. own ∷ l) r.memories);
  assigns = r.assigns;
  updates = r.updates;
  instances = r.instances;
}
joined (AssignItem n e ∷ is) js = let r = joined is js in record {
  wires = r.wires;
  registers = r.registers;
  memories = r.memories;
  assigns = (let own : NamedAssign = record { target = n; expr = e } in ap (λ l. own ∷ l) r.assigns);
  updates = r.updates;
  instances = r.instances;
}
joined (AlwaysItem us ∷ is) js = let r = joined is js in record {
  wires = r.wires;
  registers = r.registers;
  memories = r.memories;
  assigns = r.assigns;
  updates = ap (λ l. us ++ l) r.updates ∙ sym (append_assoc us (updates_in is) (updates_in js));
  instances = r.instances;
}
joined (InstanceItem o n cs ∷ is) js = let r = joined is js in record {
  wires = r.wires;
  registers = r.registers;
  memories = r.memories;
  assigns = r.assigns;
  updates = r.updates;
  instances = (let own : NamedInstance = record { of = o; name = n; connections = cs } in ap (λ l. own ∷ l) r.instances);
}

-- what a list of items declares
pub record Declares (is : List ItemTree) (ws rs : List Declared) (ms : List DeclaredMemory) (bs : List NamedAssign) (us : List UpdateTree) (ns : List NamedInstance) : Type 0 where
  pub wires : wires_in is ≡ ws
  pub registers : registers_in is ≡ rs
  pub memories : memories_in is ≡ ms
  pub assigns : assigns_in is ≡ bs
  pub updates : updates_in is ≡ us
  pub instances : instances_in is ≡ ns

net_declares : (reg port : Bool) (n : Net)
    → Declares (net_item reg port n) (if reg || port then [] else record
    { name = n.name; width = n.width }
    ∷ []) (if reg then record { name = n.name; width = n.width } ∷ [] else []) [] [] [] []
unfolding net_item
net_declares true port n = record { wires = refl; registers = refl; memories = refl; assigns = refl; updates = refl; instances = refl }
net_declares false true n = record { wires = refl; registers = refl; memories = refl; assigns = refl; updates = refl; instances = refl }
net_declares false false n = record { wires = refl; registers = refl; memories = refl; assigns = refl; updates = refl; instances = refl }

shift : {A : Type 0} (b : Bool) (x : A) (xs : List A) → (if b then [] else x ∷ []) ++ xs ≡ (if b then xs else x ∷ xs)
shift true x xs = refl
shift false x xs = refl

shift_other : {A : Type 0} (b : Bool) (x : A) (xs : List A) → (if b then x ∷ [] else []) ++ xs ≡ (if b then x ∷ xs else xs)
shift_other true x xs = refl
shift_other false x xs = refl

pub nets_declare : (ports : List Port) (k : ℕ) (nets : List Net) → Declares (net_items ports k nets) (wires_from ports k nets) (registers_of nets) [] [] [] []
unfolding net_items
nets_declare ports k [] = record { wires = refl; registers = refl; memories = refl; assigns = refl; updates = refl; instances = refl }
nets_declare ports k (n ∷ ns) =
    let own : Declared = record { name = n.name; width = n.width } in
    let o = net_declares n.reg (is_port ports k) n in
    let r = nets_declare ports (k + 1) ns in
    let j = joined (net_item n.reg (is_port ports k) n) (net_items ports (k + 1) ns) in
    record {
      wires = j.wires ∙ ap (λ l. l ++ wires_in (net_items ports (k + 1) ns)) o.wires ∙ ap
          (λ l. (if n.reg || is_port ports k then [] else own ∷ [])
          ++ l) r.wires ∙ shift (n.reg || is_port ports k) own (wires_from ports (k + 1) ns);
      registers = j.registers ∙ ap (λ l. l
          ++ registers_in (net_items ports (k + 1) ns)) o.registers ∙ ap
          (λ l. (if n.reg then own ∷ [] else [])
          ++ l) r.registers ∙ shift_other n.reg own (registers_of ns);
      memories = j.memories ∙ ap (λ l. l ++ memories_in (net_items ports (k + 1) ns)) o.memories ∙ r.memories;
      assigns = j.assigns ∙ ap (λ l. l ++ assigns_in (net_items ports (k + 1) ns)) o.assigns ∙ r.assigns;
      updates = j.updates ∙ ap (λ l. l ++ updates_in (net_items ports (k + 1) ns)) o.updates ∙ r.updates;
      instances = j.instances ∙ ap (λ l. l ++ instances_in (net_items ports (k + 1) ns)) o.instances ∙ r.instances;
    }

pub memories_declare : (mems : List Mem) → Declares (map memory_item mems) [] [] (memories_of mems) [] [] []
unfolding memory_item
memories_declare [] = record { wires = refl; registers = refl; memories = refl; assigns = refl; updates = refl; instances = refl }
memories_declare (x ∷ mems) = let r = memories_declare mems in record {
  wires = r.wires;
  registers = r.registers;
  memories = (let own : DeclaredMemory = record { name = x.name; width = x.width; depth = x.depth } in ap (λ l. own ∷ l) r.memories);
  assigns = r.assigns;
  updates = r.updates;
  instances = r.instances;
}

named_assign : Module → Assign → NamedAssign
named_assign m a = record { target = name_of m.nets a.target; expr = expr_tree m a.expr }

assigns_declare : (m : Module) (assigns : List Assign) → Declares (map (assign_item m) assigns) [] [] [] (map (named_assign m) assigns) [] []
unfolding assign_item named_assign
assigns_declare m [] = record { wires = refl; registers = refl; memories = refl; assigns = refl; updates = refl; instances = refl }
assigns_declare m (a ∷ assigns) = let r = assigns_declare m assigns in record {
  wires = r.wires;
  registers = r.registers;
  memories = r.memories;
  assigns = ap (λ l. named_assign m a ∷ l) r.assigns;
  updates = r.updates;
  instances = r.instances;
}

always_declare : (m : Module) (us : List Update) → Declares (always_items m us) [] [] [] [] (map (update_tree m) us) []
unfolding always_items
always_declare m [] = record { wires = refl; registers = refl; memories = refl; assigns = refl; updates = refl; instances = refl }
always_declare m (u ∷ us) = record { wires = refl; registers = refl; memories = refl; assigns = refl; updates = append-nil (map (update_tree m) (u ∷ us)); instances = refl }

assigns_are : (m : Module) (assigns : List Assign) → ((k : ℕ) (a : Assign) → slice_get assigns k ≡ Some a → IsFormedAssign m a) → Pairwise (AssignIs m) (map (named_assign m) assigns) assigns
unfolding named_assign
assigns_are m [] f = tt
assigns_are m (a ∷ assigns) f = let g : IsFormedAssign m a = f 0 a refl in ((named m a.target g.target, expr_is m a.expr g.expr), assigns_are m assigns (λ k x e. f (suc k) x e))

update_is : (m : Module) (u : Update) (t : Target) → u.target ≡ t → IsFormedUpdate m u → UpdateIs m (update_of m (name_of m.nets u.enable) (name_of m.nets u.value) t) u
unfolding update_of
update_is m u (Reg n) e f = record { register = n; target = e; named = named m n (rw e at f.net); enabled = named m u.enable f.enable; writes = named m u.value f.value }
update_is m u (Word k n) e f =
    record {
      memory = k;
      at = n;
      target = e;
      named = mem_named m k (f.mem k (ap target_mem e));
      addressed = named m n (rw e at f.net);
      enabled = named m u.enable f.enable;
      writes = named m u.value f.value;
    }

updates_are : (m : Module) (us : List Update) → ((k : ℕ) (u : Update) → slice_get us k ≡ Some u → IsFormedUpdate m u) → Pairwise (UpdateIs m) (map (update_tree m) us) us
unfolding update_tree
updates_are m [] f = tt
updates_are m (u ∷ us) f = (update_is m u u.target refl (f 0 u refl), updates_are m us (λ k x e. f (suc k) x e))

-- of two lists whose one part is empty
kept_last : {A : Type 0} {ys : List A} (whole xs ws : List A) → whole ≡ xs ++ ws → xs ≡ [] → ws ≡ ys → whole ≡ ys
kept_last whole xs ws h e k = h ∙ ap (λ l. l ++ ws) e ∙ k

kept_first : {A : Type 0} {ys : List A} (whole xs ws : List A) → whole ≡ xs ++ ws → xs ≡ ys → ws ≡ [] → whole ≡ ys
kept_first {ys = ys} whole xs ws h e k = h ∙ ap (λ l. l ++ ws) e ∙ ap (λ l. ys ++ l) k ∙ append-nil ys

empty_both : {A : Type 0} (whole xs ws : List A) → whole ≡ xs ++ ws → xs ≡ [] → ws ≡ [] → whole ≡ []
empty_both whole xs ws h e k = h ∙ ap (λ l. l ++ ws) e ∙ k

-- instances
instances_declare : (modules : List Module) (m : Module) (instances : List Instance) → Declares (map (instance_item modules m) instances) [] [] [] [] [] (map (named_instance modules m) instances)
unfolding instance_item
instances_declare modules m [] = record { wires = refl; registers = refl; memories = refl; assigns = refl; updates = refl; instances = refl }
instances_declare modules m (i ∷ instances) = let r = instances_declare modules m instances in record {
  wires = r.wires;
  registers = r.registers;
  memories = r.memories;
  assigns = r.assigns;
  updates = r.updates;
  instances = ap (λ l. named_instance modules m i ∷ l) r.instances;
}

-- with one connection more
joined_later : (m inner : Module) (c : Connection) (cs : List Connection) (ports : List Port)
    (nets : List ℕ) → Pairwise (IsJoined m inner cs) ports nets
    → Pairwise (IsJoined m inner (c ∷ cs)) ports nets
joined_later m inner c cs [] [] h = tt
joined_later m inner c cs [] (n ∷ nets) h = h
joined_later m inner c cs (p ∷ ports) [] h = h
joined_later m inner c cs (p ∷ ports) (n ∷ nets) (h, k) =
    let (j, within, is) = h.listed in
    (record { port = h.port; net = h.net; listed = (suc j, omega arith, is); named = h.named; joined = h.joined }, joined_later m inner c cs ports nets k)

joined_each : (m inner : Module) (ports : List Port) (nets : List ℕ)
    → length nets ≡ length ports → ((k : ℕ) (p : Port) → slice_get ports k ≡ Some p
    → IsFormedPort inner p) → ((k n : ℕ) → slice_get nets k ≡ Some n → n < length m.nets)
    → Pairwise (IsJoined m inner (map (connection_tree m.nets inner.nets) (zip ports nets))) ports nets
unfolding connection_tree
joined_each m inner [] [] same f g = tt
joined_each m inner [] (n ∷ nets) same f g = absurd (omega arith)
joined_each m inner (p ∷ ports) [] same f g = absurd (omega arith)
joined_each m inner (p ∷ ports) (n ∷ nets) same f g = (
  record { port = name_of inner.nets p.net; net = name_of m.nets n; listed = (0, omega arith, refl); named = named inner p.net (f 0 p refl).net; joined = named m n (g 0 n refl) },
  joined_later m inner _ _ ports nets (joined_each m inner ports nets (omega arith) (λ k q e. f (suc k) q e) (λ k q e. g (suc k) q e)),
)

connection_each : (outer inner : List Net) (ports : List Port) (nets : List ℕ) → length nets ≡ length ports → length (map (connection_tree outer inner) (zip ports nets)) ≡ length ports
connection_each outer inner [] nets same = refl
connection_each outer inner (p ∷ ports) [] same = absurd (omega arith)
connection_each outer inner (p ∷ ports) (n ∷ nets) same = ap suc (connection_each outer inner ports nets (omega arith))

instance_is : (d : Design) (m : Module) (i : Instance) (earlier : List Module) → InnerOf d.modules i → IsFormedInstance earlier m i → InstanceIs d m (named_instance d.modules m i) i
unfolding named_instance instance_tree
instance_is d m i earlier o f =
    subst (λ inner. InstanceIs d m (instance_tree m.nets i inner) i) (sym o.of)
    (record {
      inner = o.inner;
      of = o.of;
      module_named = refl;
      named = refl;
      joined = joined_each m o.inner o.inner.ports i.nets o.nets o.formed.ports f.nets;
      each_once = connection_each m.nets o.inner.nets o.inner.ports i.nets o.nets;
    })

instances_are : (d : Design) (m : Module) (instances : List Instance) (earlier : List Module) → ((k : ℕ) (i : Instance) → slice_get instances k ≡ Some i → InnerOf d.modules i)
    → ((k : ℕ) (i : Instance) → slice_get instances k ≡ Some i → IsFormedInstance earlier m i) → Pairwise (InstanceIs d m) (map (named_instance d.modules m) instances) instances
instances_are d m [] earlier o f = tt
instances_are d m (i ∷ instances) earlier o f = (instance_is d m i earlier (o 0 i refl) (f 0 i refl), instances_are d m instances earlier (λ k x e. o (suc k) x e) (λ k x e. f (suc k) x e))

pub module_is : (d : Design) (m : Module) → IsPart d.modules m → ModuleIs d (module_tree d.modules m) m
unfolding module_tree items_of
module_is d m part =
    let f : IsFormedModule part.earlier m = part.formed in
    let us : List ItemTree = always_items m m.updates ++ [] in
    let is : List ItemTree = map (instance_item d.modules m) m.instances ++ us in
    let bs : List ItemTree = map (assign_item m) m.assigns ++ is in
    let ms : List ItemTree = map memory_item m.mems ++ bs in
    let n = nets_declare m.ports 0 m.nets in
    let x = memories_declare m.mems in
    let a = assigns_declare m m.assigns in
    let i = instances_declare d.modules m m.instances in
    let u = always_declare m m.updates in
    let j = joined (net_items m.ports 0 m.nets) ms in
    let k = joined (map memory_item m.mems) bs in
    let l = joined (map (assign_item m) m.assigns) is in
    let o = joined (map (instance_item d.modules m) m.instances) us in
    let e = append-nil (always_items m m.updates) in
    let wires : wires_in (net_items m.ports 0 m.nets ++ ms) ≡ wires_from m.ports 0 m.nets =
    kept_first _ _ _ j.wires n.wires (empty_both _ _ _ k.wires x.wires (empty_both _ _ _ l.wires a.wires (empty_both _ _ _ o.wires i.wires (ap wires_in e ∙ u.wires)))) in
    let registers : registers_in (net_items m.ports 0 m.nets ++ ms) ≡ registers_of m.nets =
    kept_first _ _ _ j.registers n.registers (empty_both _ _ _ k.registers x.registers
    (empty_both _ _ _ l.registers a.registers (empty_both _ _ _ o.registers i.registers
    (ap registers_in e ∙ u.registers)))) in
    let memories : memories_in (net_items m.ports 0 m.nets ++ ms) ≡ memories_of m.mems =
    kept_last _ _ _ j.memories n.memories (kept_first _ _ _ k.memories x.memories (empty_both _ _ _ l.memories a.memories (empty_both _ _ _ o.memories i.memories (ap memories_in e ∙ u.memories)))) in
    let assigns : assigns_in (net_items m.ports 0 m.nets ++ ms) ≡ map (named_assign m) m.assigns =
    kept_last _ _ _ j.assigns n.assigns (kept_last _ _ _ k.assigns x.assigns (kept_first _ _ _ l.assigns a.assigns (empty_both _ _ _ o.assigns i.assigns (ap assigns_in e ∙ u.assigns)))) in
    let updates : updates_in (net_items m.ports 0 m.nets ++ ms) ≡ map (update_tree m) m.updates =
    kept_last _ _ _ j.updates n.updates (kept_last _ _ _ k.updates x.updates (kept_last _ _ _ l.updates a.updates (kept_last _ _ _ o.updates i.updates (ap updates_in e ∙ u.updates)))) in
    let instances : instances_in (net_items m.ports 0 m.nets ++ ms) ≡ map (named_instance d.modules m) m.instances =
    kept_last _ _ _ j.instances n.instances (kept_last _ _ _ k.instances x.instances
    (kept_last _ _ _ l.instances a.instances (kept_first _ _ _ o.instances i.instances
    (ap instances_in e ∙ u.instances)))) in
    record {
      named = refl;
      ports = ports_are m m.ports f.ports;
      wires = wires;
      registers = registers;
      memories = memories;
      assigns = subst (λ l. Pairwise (AssignIs m) l m.assigns) (sym assigns) (assigns_are m m.assigns f.assigns);
      updates = subst (λ l. Pairwise (UpdateIs m) l m.updates) (sym updates) (updates_are m m.updates f.updates);
      instances = subst (λ l. Pairwise (InstanceIs d m) l m.instances) (sym instances) (instances_are d m m.instances part.earlier part.inner f.instances);
    }

-- some of the modules of the design
some_are : (d : Design) (some : List Module) → ((k : ℕ) (m : Module) → slice_get some k ≡ Some m → IsPart d.modules m) → Pairwise (ModuleIs d) (map (module_tree d.modules) some) some
some_are d [] f = tt
some_are d (m ∷ some) f = (module_is d m (f 0 m refl), some_are d some (λ k x e. f (suc k) x e))

pub modules_are : (d : Design) → IsFormed d.modules → Pairwise (ModuleIs d) (map (module_tree d.modules) d.modules) d.modules
modules_are d f = some_are d d.modules (parts d.modules f)
