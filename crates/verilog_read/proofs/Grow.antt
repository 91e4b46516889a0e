-- What is added to a module, and what holds in it still.
use Rattle.std.proofs.Common.{◌≡◌, ◌∙◌, ℕ, zero, suc, true, false, List, [], ◌∷◌, ◌++◌, map, Some, refl, sym, ap, subst, append_assoc}
use Rattle.std.specs.Prelude.{slice_get}
use Rattle.std.specs.Option.{option_map}
use Rattle.rtl_ir.specs.declared.design.Net.{Net}
use Rattle.rtl_ir.specs.declared.design.Mem.{Mem}
use Rattle.rtl_ir.specs.declared.design.Expr.{Expr}
use Rattle.rtl_ir.specs.declared.design.Expr.TheVariants as exprs
use Rattle.rtl_ir.specs.declared.design.Assign.{Assign}
use Rattle.rtl_ir.specs.declared.design.Update.{Update}
use Rattle.rtl_ir.specs.declared.design.Instance.{Instance}
use Rattle.rtl_ir.specs.declared.design.Module.{Module}
use Rattle.rtl_text.specs.Tree.{Name, ExprTree, PlainTree, LiteralTree, NotTree, BinaryTree}
use Rattle.rtl_text.specs.Tree.{ConcatTree, RepeatTree, PartTree, ChooseTree, CellTree, UpdateTree}
use Rattle.rtl_text.specs.Tree.{RegisterUpdate, CellUpdate, Connection, ItemTree, WireItem}
use Rattle.rtl_text.specs.Tree.{RegisterItem, MemoryItem, AssignItem, AlwaysItem, InstanceItem}
use Rattle.rtl_text.specs.Tree.{ModuleTree}
use Rattle.rtl_text.specs.Text.{Pairwise, IsNet, IsMem, NamedAssign, NamedInstance, ExprIs, AssignIs, UpdateIs, memories_in, memories_of, assigns_in, updates_in, instances_in}
use Rattle.rtl_reading.specs.Uses.{Scope, port_name}
use Rattle.rtl_reading.specs.Reads.{port_net, item_nets}
use Rattle.verilog_read.specs.Built.{IsJoinedTo, IsPartOf, IsSaid}
use Rattle.verilog_read.specs.Walk.{with_item}

pub pairwise_map : {A B : Type 0} {R S : A → B → Type 0} → ((x : A) (y : B) → R x y → S x y) → (xs : List A) (ys : List B) → Pairwise R xs ys → Pairwise S xs ys
pairwise_map f [] [] p = tt
pairwise_map f (x ∷ xs) (y ∷ ys) p = (f x y p.0, pairwise_map f xs ys p.1)
pairwise_map f [] (y ∷ ys) p = absurd p
pairwise_map f (x ∷ xs) [] p = absurd p

pub pairwise_joined : {A B : Type 0} (R : A → B → Type 0) (xs us : List A) (ys vs : List B) → Pairwise R xs ys → Pairwise R us vs → Pairwise R (xs ++ us) (ys ++ vs)
pairwise_joined R [] us [] vs p q = q
pairwise_joined R (x ∷ xs) us (y ∷ ys) vs p q = (p.0, pairwise_joined R xs us ys vs p.1 q)
pairwise_joined R [] us (y ∷ ys) vs p q = absurd p
pairwise_joined R (x ∷ xs) us [] vs p q = absurd p

-- the items of each kind in two lists, one behind the other

pub item_nets-append : (is js : List ItemTree) → item_nets (is ++ js) ≡ item_nets is ++ item_nets js
item_nets-append [] js = refl
item_nets-append (WireItem w name ∷ is) js = ap (λ l. record { name = name; width = w; reg = false } ∷ l) (item_nets-append is js)
item_nets-append (RegisterItem w name ∷ is) js = ap (λ l. record { name = name; width = w; reg = true } ∷ l) (item_nets-append is js)
item_nets-append (MemoryItem w name n ∷ is) js = item_nets-append is js
item_nets-append (AssignItem name e ∷ is) js = item_nets-append is js
item_nets-append (AlwaysItem us ∷ is) js = item_nets-append is js
item_nets-append (InstanceItem of name cs ∷ is) js = item_nets-append is js

pub memories_in-append : (is js : List ItemTree) → memories_in (is ++ js) ≡ memories_in is ++ memories_in js
memories_in-append [] js = refl
memories_in-append (WireItem w name ∷ is) js = memories_in-append is js
memories_in-append (RegisterItem w name ∷ is) js = memories_in-append is js
memories_in-append (MemoryItem w name n ∷ is) js = ap (λ l. record { name = name; width = w; depth = n } ∷ l) (memories_in-append is js)
memories_in-append (AssignItem name e ∷ is) js = memories_in-append is js
memories_in-append (AlwaysItem us ∷ is) js = memories_in-append is js
memories_in-append (InstanceItem of name cs ∷ is) js = memories_in-append is js

pub assigns_in-append : (is js : List ItemTree) → assigns_in (is ++ js) ≡ assigns_in is ++ assigns_in js
assigns_in-append [] js = refl
assigns_in-append (WireItem w name ∷ is) js = assigns_in-append is js
assigns_in-append (RegisterItem w name ∷ is) js = assigns_in-append is js
assigns_in-append (MemoryItem w name n ∷ is) js = assigns_in-append is js
assigns_in-append (AssignItem name e ∷ is) js = ap (λ l. record { target = name; expr = e } ∷ l) (assigns_in-append is js)
assigns_in-append (AlwaysItem us ∷ is) js = assigns_in-append is js
assigns_in-append (InstanceItem of name cs ∷ is) js = assigns_in-append is js

pub updates_in-append : (is js : List ItemTree) → updates_in (is ++ js) ≡ updates_in is ++ updates_in js
updates_in-append [] js = refl
updates_in-append (WireItem w name ∷ is) js = updates_in-append is js
updates_in-append (RegisterItem w name ∷ is) js = updates_in-append is js
updates_in-append (MemoryItem w name n ∷ is) js = updates_in-append is js
updates_in-append (AssignItem name e ∷ is) js = updates_in-append is js
updates_in-append (AlwaysItem us ∷ is) js = ap (λ l. us ++ l) (updates_in-append is js) ∙ sym (append_assoc us (updates_in is) (updates_in js))
updates_in-append (InstanceItem of name cs ∷ is) js = updates_in-append is js

pub instances_in-append : (is js : List ItemTree) → instances_in (is ++ js) ≡ instances_in is ++ instances_in js
instances_in-append [] js = refl
instances_in-append (WireItem w name ∷ is) js = instances_in-append is js
instances_in-append (RegisterItem w name ∷ is) js = instances_in-append is js
instances_in-append (MemoryItem w name n ∷ is) js = instances_in-append is js
instances_in-append (AssignItem name e ∷ is) js = instances_in-append is js
instances_in-append (AlwaysItem us ∷ is) js = instances_in-append is js
instances_in-append (InstanceItem of name cs ∷ is) js = ap (λ l. record { of = of; name = name; connections = cs } ∷ l) (instances_in-append is js)

-- the nets and memories of a module are in another one, by the same numbers
pub record Grows (m n : Module) : Type 0 where
  pub nets : (k : ℕ) (name : Name) → IsNet m name k → IsNet n name k
  pub mems : (k : ℕ) (name : Name) → IsMem m name k → IsMem n name k

front_named : {A : Type 0} (name_of : A → Name) (xs ys : List A) (k : ℕ) (name : Name) → option_map name_of (slice_get xs k) ≡ Some name → option_map name_of (slice_get (xs ++ ys) k) ≡ Some name
front_named name_of [] ys k name e = absurd (cc)
front_named name_of (x ∷ xs) ys zero name e = e
front_named name_of (x ∷ xs) ys (suc k) name e = front_named name_of xs ys k name e

pub grows_by : (m n : Module) (nets : List Net) (mems : List Mem) → n.nets ≡ m.nets ++ nets → n.mems ≡ m.mems ++ mems → Grows m n
grows_by m n nets mems e f = record {
  nets = λ k name h. subst (λ l. option_map (λ (x : Net). x.name) (slice_get l k) ≡ Some name) (sym e) (front_named (λ (x : Net). x.name) m.nets nets k name h);
  mems = λ k name h. subst (λ l. option_map (λ (x : Mem). x.name) (slice_get l k) ≡ Some name) (sym f) (front_named (λ (x : Mem). x.name) m.mems mems k name h);
}

pub grows_same : (m n : Module) → n.nets ≡ m.nets → n.mems ≡ m.mems → Grows m n
grows_same m n e f = record {
  nets = λ k name h. subst (λ l. option_map (λ (x : Net). x.name) (slice_get l k) ≡ Some name) (sym e) h;
  mems = λ k name h. subst (λ l. option_map (λ (x : Mem). x.name) (slice_get l k) ≡ Some name) (sym f) h;
}

module _ {m n : Module} (g : Grows m n) where
  expr_grows : (t : ExprTree) (e : Expr) → ExprIs m t e → ExprIs n t e
  expr_grows (PlainTree a) (exprs.Net k) h = g.nets k a h
  expr_grows (LiteralTree w x) (exprs.Literal word) h = h
  expr_grows (NotTree a) (exprs.Not k) h = g.nets k a h
  expr_grows (BinaryTree s a b) (exprs.Binary t i j) h = (h.0, g.nets i a h.1, g.nets j b h.2)
  expr_grows (ConcatTree a b) (exprs.Concat i j) h = (g.nets i a h.0, g.nets j b h.1)
  expr_grows (RepeatTree i a) (exprs.Repeat j k) h = (h.0, g.nets k a h.1)
  expr_grows (PartTree a hi lo) (exprs.Part k high low) h = (h.0, h.1, g.nets k a h.2)
  expr_grows (ChooseTree c a b) (exprs.Choose i j k) h = (g.nets i c h.0, g.nets j a h.1, g.nets k b h.2)
  expr_grows (CellTree x a) (exprs.Cell k i) h = (g.mems k x h.0, g.nets i a h.1)
  expr_grows _ _ h = absurd h

  pub assign_grows : (t : NamedAssign) (a : Assign) → AssignIs m t a → AssignIs n t a
  assign_grows t a h = (g.nets a.target t.target h.0, expr_grows t.expr a.expr h.1)

  pub update_grows : (t : UpdateTree) (u : Update) → UpdateIs m t u → UpdateIs n t u
  update_grows (RegisterUpdate enable name value) u h = record {
    register = h.register;
    target = h.target;
    named = g.nets h.register name h.named;
    enabled = g.nets u.enable enable h.enabled;
    writes = g.nets u.value value h.writes;
  }
  update_grows (CellUpdate enable name address value) u h = record {
    memory = h.memory;
    at = h.at;
    target = h.target;
    named = g.mems h.memory name h.named;
    addressed = g.nets h.at address h.addressed;
    enabled = g.nets u.enable enable h.enabled;
    writes = g.nets u.value value h.writes;
  }

  pub joined_grows : (cs : List Connection) (port : Name) (k : ℕ) → IsJoinedTo m cs port k → IsJoinedTo n cs port k
  joined_grows cs port k h = record { net = h.net; listed = h.listed; joined = g.nets k h.net h.joined }

  pub part_grows : (earlier : List ModuleTree) (t : NamedInstance) (i : Instance) → IsPartOf earlier m t i → IsPartOf earlier n t i
  part_grows earlier t i h = record {
    inner = h.inner;
    of = h.of;
    module_named = h.module_named;
    named = h.named;
    joined = pairwise_map (joined_grows t.connections) (map port_name h.inner.ports) i.nets h.joined;
    each_once = h.each_once;
  }

-- a module with what an item says
pub record Adds (earlier : List ModuleTree) (i : ItemTree) (m n : Module) : Type 0 where
  pub named : n.name ≡ m.name
  pub ports : n.ports ≡ m.ports
  pub nets : n.nets ≡ m.nets ++ item_nets (i ∷ [])
  pub mems : List Mem
  pub mems_added : n.mems ≡ m.mems ++ mems
  pub mems_are : memories_of mems ≡ memories_in (i ∷ [])
  pub assigns : List Assign
  pub assigns_added : n.assigns ≡ m.assigns ++ assigns
  pub assigns_are : Pairwise (AssignIs n) (assigns_in (i ∷ [])) assigns
  pub updates : List Update
  pub updates_added : n.updates ≡ m.updates ++ updates
  pub updates_are : Pairwise (UpdateIs n) (updates_in (i ∷ [])) updates
  pub instances : List Instance
  pub instances_added : n.instances ≡ m.instances ++ instances
  pub instances_are : Pairwise (IsPartOf earlier n) (instances_in (i ∷ [])) instances

memories_joined : (xs ys : List Mem) → memories_of (xs ++ ys) ≡ memories_of xs ++ memories_of ys
memories_joined [] ys = refl
memories_joined (x ∷ xs) ys = ap (λ l. record { name = x.name; width = x.width; depth = x.depth } ∷ l) (memories_joined xs ys)

pairwise_more : {A B : Type 0} (R S : A → B → Type 0) (xs us ts : List A) (ys vs zs : List B)
    → ((x : A) (y : B) → R x y → S x y) → Pairwise R xs ys → Pairwise S us vs → ts ≡ xs ++ us
    → zs ≡ ys ++ vs → Pairwise S ts zs
pairwise_more R S xs us ts ys vs zs f p q d e = rw (d, e) (pairwise_joined S xs us ys vs (pairwise_map f xs ys p) q)

pub said_more : (name : Name) (sc : Scope) (i : ItemTree) (m n : Module) → IsSaid name sc m → Adds sc.modules i m n → IsSaid name (with_item sc i) n
said_more name sc i m n s a =
    let g = grows_by m n (item_nets (i ∷ [])) a.mems a.nets a.mems_added in
    record {
      named = a.named ∙ s.named;
      ports = a.ports ∙ s.ports;
      declared = record {
        nets = a.nets ∙ ap (λ l. l ++ item_nets (i
            ∷ [])) s.declared.nets ∙ append_assoc (map port_net sc.ports) (item_nets sc.items)
            (item_nets (i ∷ [])) ∙ ap (λ l. map port_net sc.ports
            ++ l) (sym (item_nets-append sc.items (i ∷ [])));
        mems = ap memories_of a.mems_added ∙ memories_joined m.mems a.mems ∙ ap (λ l. l
            ++ memories_of a.mems) s.declared.mems ∙ ap (λ l. memories_in sc.items
            ++ l) a.mems_are ∙ sym (memories_in-append sc.items (i ∷ []));
      };
      assigns = pairwise_more (AssignIs m) (AssignIs n) (assigns_in sc.items) (assigns_in (i
          ∷ [])) (assigns_in (sc.items ++ i
          ∷ [])) m.assigns a.assigns n.assigns (assign_grows g) s.assigns a.assigns_are
          (assigns_in-append sc.items (i ∷ [])) a.assigns_added;
      updates = pairwise_more (UpdateIs m) (UpdateIs n) (updates_in sc.items) (updates_in (i
          ∷ [])) (updates_in (sc.items ++ i
          ∷ [])) m.updates a.updates n.updates (update_grows g) s.updates a.updates_are
          (updates_in-append sc.items (i ∷ [])) a.updates_added;
      instances = pairwise_more (IsPartOf sc.modules m) (IsPartOf sc.modules n)
          (instances_in sc.items) (instances_in (i ∷ [])) (instances_in (sc.items ++ i
          ∷ [])) m.instances a.instances n.instances
          (part_grows g sc.modules) s.instances a.instances_are (instances_in-append sc.items (i
          ∷ [])) a.instances_added;
    }
