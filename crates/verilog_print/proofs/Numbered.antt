-- Where the ports' nets come first, the tree of a module declares its nets in the order of their numbers.
use Rattle.std.proofs.Common.{◌≡◌, ◌∙◌, ℕ, suc, ◌+◌, ◌<◌, ◌≤◌, Bool, true, false, ◌||◌, ◌==◌, List, [], ◌∷◌, ◌++◌, length, take, refl, sym, ap, subst, arith, Some, None}
use Rattle.std.specs.Prelude.{map, slice_get}
use Rattle.std.proofs.lemmas.List.{append-nil}
use Rattle.std.proofs.lemmas.Bool.Decides.{Decides-eqb}
use Rattle.rtl_ir.specs.declared.design.Net.{Net}
use Rattle.rtl_ir.specs.declared.design.Mem.{Mem}
use Rattle.rtl_ir.specs.declared.design.Port.{Port}
use Rattle.rtl_ir.specs.declared.design.Assign.{Assign}
use Rattle.rtl_ir.specs.declared.design.Update.{Update}
use Rattle.rtl_ir.specs.declared.design.Instance.{Instance}
use Rattle.rtl_ir.specs.declared.design.Module.{Module}
use Rattle.rtl_ir.specs.declared.design.Design.{Design}
use Rattle.rtl_ir.specs.Formed.{IsFormedPort, IsFormedModule, IsFormed}
use Rattle.rtl_text.specs.Tree.{ItemTree, WireItem, RegisterItem, MemoryItem, AssignItem, AlwaysItem, InstanceItem}
use Rattle.rtl_text.specs.Text.{Pairwise, is_port}
use Rattle.rtl_reading.specs.Reads.{port_net, item_nets, numbers_from, IsPortsFirst, ArePortsFirst, IsNumbered}
use Rattle.verilog_print.proofs.Names.{or_true}
use Rattle.verilog_print.proofs.Trees.{element_at, port_of, port_tree, net_item, net_items, memory_item, assign_item, always_items}
use Rattle.verilog_print.proofs.Instances.{instance_item}
use Rattle.verilog_print.proofs.Modules.{items_of, module_tree}

-- which nets are ports', where those are numbered from k on
here_or : (p : Port) (n : ℕ) (others b : Bool) → (p.net == n) ≡ b → ((p.net ≡ n → ⊥) → others ≡ true) → ((p.net == n) || others) ≡ true
here_or p n others true t f = rw t refl
here_or p n others false t f = rw (f (λ same. let yes : (p.net == n) ≡ true = (Decides-eqb p.net n).1 same in cc)) (or_true (p.net == n))

pub is_port_within : (ports : List Port) (k n : ℕ) → map (λ (p : Port). p.net) ports ≡ numbers_from k ports → k ≤ n → n < k + length ports → is_port ports n ≡ true
is_port_within [] k n e h l = absurd (omega arith)
is_port_within (p ∷ ports) k n e h l =
    let first : p.net ≡ k = cc in
    let others : map (λ (q : Port). q.net) ports ≡ numbers_from (k + 1) ports = cc in
    here_or p n (is_port ports n) (p.net == n) refl (λ apart. is_port_within ports (k + 1) n others (omega arith) (omega arith))

neither : (p : Port) (n : ℕ) (others : Bool) → (p.net ≡ n → ⊥) → others ≡ false → ((p.net == n) || others) ≡ false
neither p n others apart e = go (p.net == n) refl
  where
    go : (b : Bool) → (p.net == n) ≡ b → (b || others) ≡ false
    go true t = absurd (apart ((Decides-eqb p.net n).0 t))
    go false t = e

pub is_port_past : (ports : List Port) (k n : ℕ) → map (λ (p : Port). p.net) ports ≡ numbers_from k ports → k + length ports ≤ n → is_port ports n ≡ false
is_port_past [] k n e h = refl
is_port_past (p ∷ ports) k n e h =
    let first : p.net ≡ k = cc in
    let others : map (λ (q : Port). q.net) ports ≡ numbers_from (k + 1) ports = cc in
    neither p n (is_port ports n) (λ same. absurd (omega arith)) (is_port_past ports (k + 1) n others (omega arith))

-- the nets that items declare
item_nets_both : (is js : List ItemTree) → item_nets (is ++ js) ≡ item_nets is ++ item_nets js
item_nets_both [] js = refl
item_nets_both (WireItem w name ∷ is) js = let own : Net = record { name = name; width = w; reg = false } in ap (λ l. own ∷ l) (item_nets_both is js)
item_nets_both (RegisterItem w name ∷ is) js = let own : Net = record { name = name; width = w; reg = true } in ap (λ l. own ∷ l) (item_nets_both is js)
item_nets_both (MemoryItem w name n ∷ is) js = item_nets_both is js
item_nets_both (AssignItem name e ∷ is) js = item_nets_both is js
item_nets_both (AlwaysItem us ∷ is) js = item_nets_both is js
item_nets_both (InstanceItem of name cs ∷ is) js = item_nets_both is js

memories_none : (mems : List Mem) (is : List ItemTree) → item_nets (map memory_item mems ++ is) ≡ item_nets is
unfolding memory_item
memories_none [] is = refl
memories_none (x ∷ mems) is = memories_none mems is

assigns_none : (m : Module) (assigns : List Assign) (is : List ItemTree) → item_nets (map (assign_item m) assigns ++ is) ≡ item_nets is
unfolding assign_item
assigns_none m [] is = refl
assigns_none m (a ∷ assigns) is = assigns_none m assigns is

instances_none : (modules : List Module) (m : Module) (instances : List Instance) (is : List ItemTree) → item_nets (map (instance_item modules m) instances ++ is) ≡ item_nets is
unfolding instance_item
instances_none modules m [] is = refl
instances_none modules m (i ∷ instances) is = instances_none modules m instances is

always_none : (m : Module) (us : List Update) → item_nets (always_items m us ++ []) ≡ []
unfolding always_items
always_none m [] = refl
always_none m (u ∷ us) = refl

-- a net that is no port's is declared by itself
net_of : (n : Net) (reg : Bool) → n.reg ≡ reg → (record { name = n.name; width = n.width; reg = reg }) ≡ n
net_of n reg e = ap (λ r. record { name = n.name; width = n.width; reg = r }) (sym e)

pub own_net : (n : Net) (reg : Bool) (is : List ItemTree) → n.reg ≡ reg → item_nets (net_item reg false n ++ is) ≡ n ∷ item_nets is
unfolding net_item
own_net n true is e = ap (λ x. x ∷ item_nets is) (net_of n true e)
own_net n false is e = ap (λ x. x ∷ item_nets is) (net_of n false e)

others_declared : (ports : List Port) (k : ℕ) (nets : List Net) → ((n : ℕ) → k ≤ n → is_port ports n ≡ false) → item_nets (net_items ports k nets) ≡ nets
unfolding net_items
others_declared ports k [] f = refl
others_declared ports k (n ∷ nets) f =
    let none : is_port ports k ≡ false = f k (omega arith) in
    let left : item_nets (net_items ports (k + 1) nets) ≡ nets = others_declared ports (k + 1) nets (λ j h. f j (omega arith)) in
    subst (λ b. item_nets (net_item n.reg b n ++ net_items ports (k + 1) nets) ≡ n ∷ nets) (sym none) (own_net n n.reg (net_items ports (k + 1) nets) refl ∙ ap (λ l. n ∷ l) left)

-- a port's net
port_net_of : (output : Bool) (n : Net) → n.reg ≡ false → port_net (port_of output n.width n.name) ≡ n
unfolding port_of
port_net_of true n e = net_of n false e
port_net_of false n e = net_of n false e

pub port_net_is : (nets : List Net) (p : Port) (n : Net) → slice_get nets p.net ≡ Some n → n.reg ≡ false → port_net (port_tree nets p) ≡ n
unfolding port_tree
port_net_is nets p n e r = rw e (port_net_of p.output n r)

pub no_item : (n : Net) (reg : Bool) (is : List ItemTree) → reg ≡ false → net_item reg true n ++ is ≡ is
unfolding net_item
no_item n true is e = cc
no_item n false is e = refl

-- the nets from number k on: those of these ports, and then those that are no port's
nets_in_order : (all : List Port) (m : Module) (ports : List Port) (nets : List Net) (k : ℕ)
    → map (λ (p : Port). p.net) ports ≡ numbers_from k ports
    → ((j : ℕ) → slice_get m.nets (k + j) ≡ slice_get nets j)
    → ((n : ℕ) → k ≤ n → n < k + length ports → is_port all n ≡ true) → ((n : ℕ) → k + length ports ≤ n → is_port all n ≡ false) → ((j : ℕ) (p : Port) → slice_get ports j ≡ Some p → IsFormedPort m p)
    → nets ≡ map port_net (map (port_tree m.nets) ports) ++ item_nets (net_items all k nets)
unfolding net_items
nets_in_order all m [] nets k e at f g formed = sym (others_declared all k nets (λ n h. g n (omega arith)))
nets_in_order all m (p ∷ ports) [] k e at f g formed =
    let first : p.net ≡ k = cc in
    let here : k + 0 ≡ k = omega arith in
    let (net, own) = element_at m.nets p.net (formed 0 p refl).net in
    let none : slice_get m.nets k ≡ None = rw here at (at 0) in
    cc
nets_in_order all m (p ∷ ports) (n ∷ nets) k e at f g formed =
    let first : p.net ≡ k = cc in
    let others : map (λ (q : Port). q.net) ports ≡ numbers_from (k + 1) ports = cc in
    let here : k + 0 ≡ k = omega arith in
    let own : slice_get m.nets p.net ≡ Some n = ap (slice_get m.nets) (first ∙ sym here) ∙ at 0 in
    let wire : n.reg ≡ false = rw own at (formed 0 p refl).wire in
    let marked : is_port all k ≡ true = f k (omega arith) (omega arith) in
    let moved : (j : ℕ) → slice_get m.nets (k + 1 + j) ≡ slice_get nets j = λ j. let same : k + 1 + j ≡ k + suc j = omega arith in ap (slice_get m.nets) same ∙ at (suc j) in
    let left : nets ≡ map port_net (map (port_tree m.nets) ports) ++ item_nets (net_items all (k + 1) nets) =
    nets_in_order all m ports nets (k + 1) others moved (λ j h l. f j (omega arith) (omega arith)) (λ j h. g j (omega arith)) (λ j q d. formed (suc j) q d) in
    let skipped : net_item n.reg (is_port all k) n ++ net_items all (k + 1) nets ≡ net_items all (k + 1) nets =
    subst (λ b. net_item n.reg b n ++ net_items all (k + 1) nets ≡ net_items all (k + 1) nets) (sym marked) (no_item n n.reg (net_items all (k + 1) nets) wire) in
    let behind : nets ≡ map port_net (map (port_tree m.nets) ports)
    ++ item_nets (net_item n.reg (is_port all k) n
    ++ net_items all (k + 1) nets) = left ∙ ap (λ l. map port_net
    (map (port_tree m.nets) ports) ++ item_nets l) (sym skipped) in
    ap (λ x. x ∷ nets) (sym (port_net_is m.nets p n own wire)) ∙ ap (λ l. port_net (port_tree m.nets p) ∷ l) behind

pub numbers_same : {A B : Type 0} (f : A → B) (k : ℕ) (xs : List A) → numbers_from k (map f xs) ≡ numbers_from k xs
numbers_same f k [] = refl
numbers_same f k (x ∷ xs) = ap (λ l. k ∷ l) (numbers_same f (k + 1) xs)

-- the items of a module declare what its nets do
pub items_declare : (modules : List Module) (m : Module) → item_nets (items_of modules m) ≡ item_nets (net_items m.ports 0 m.nets)
unfolding items_of
items_declare modules m =
    let us : List ItemTree = always_items m m.updates ++ [] in
    let is : List ItemTree = map (instance_item modules m) m.instances ++ us in
    let bs : List ItemTree = map (assign_item m) m.assigns ++ is in
    let none : item_nets (map memory_item m.mems ++ bs) ≡ [] = memories_none m.mems bs ∙ assigns_none m m.assigns is ∙ instances_none modules m m.instances us ∙ always_none m m.updates in
    item_nets_both (net_items m.ports 0 m.nets) (map memory_item m.mems ++ bs) ∙ ap (λ l. item_nets (net_items m.ports 0 m.nets) ++ l) none ∙ append-nil (item_nets (net_items m.ports 0 m.nets))

module_numbered : (modules earlier : List Module) (m : Module) → IsFormedModule earlier m → IsPortsFirst m → IsNumbered (module_tree modules m) m
unfolding module_tree
module_numbered modules earlier m f first =
    let zero_at : (j : ℕ) → slice_get m.nets (0 + j) ≡ slice_get m.nets j = λ j. let same : 0 + j ≡ j = omega arith in ap (slice_get m.nets) same in
    record {
      nets = nets_in_order m.ports m m.ports m.nets 0 first zero_at
          (λ n h l. is_port_within m.ports 0 n first h l)
          (λ n h. is_port_past m.ports 0 n first h) f.ports ∙ ap
          (λ l. map port_net (map (port_tree m.nets) m.ports) ++ l) (sym (items_declare modules m));
      ports = first ∙ sym (numbers_same (port_tree m.nets) 0 m.ports);
    }

some_numbered : (modules some : List Module) → ((k : ℕ) (m : Module) → slice_get some k ≡ Some m → IsNumbered (module_tree modules m) m) → Pairwise IsNumbered (map (module_tree modules) some) some
some_numbered modules [] f = tt
some_numbered modules (m ∷ some) f = (f 0 m refl, some_numbered modules some (λ k x e. f (suc k) x e))

pub modules_numbered : (d : Design) → IsFormed d.modules → ArePortsFirst d → Pairwise IsNumbered (map (module_tree d.modules) d.modules) d.modules
modules_numbered d f first = some_numbered d.modules d.modules (λ k m e. module_numbered d.modules (take k d.modules) m (f.each k m e) (first k m e))
