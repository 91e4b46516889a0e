-- Items one by one.
use Rattle.std.proofs.Common.{◌≡◌, ◌∙◌, ℕ, ◌+◌, true, false, List, [], ◌∷◌, ◌++◌, map, take, None, refl, sym, ap, subst, append_assoc}
use Rattle.std.proofs.lemmas.List.{append-nil}
use Rattle.rtl_ir.specs.declared.design.Instance.{Instance}
use Rattle.rtl_ir.specs.declared.design.Module.{Module}
use Rattle.rtl_text.specs.Tree as tree
use Rattle.rtl_text.specs.Tree.{Name, PortTree, ModuleTree, WireItem, RegisterItem, MemoryItem, InstanceItem, Connection}
use Rattle.verilog_syntax.specs.Trees.{item_view}
use Rattle.verilog_syntax.specs.declared.tree.ItemTree.{ItemTree}
use Rattle.rtl_reading.specs.Uses.{Scope, item_uses, items_uses, first_undeclared}
use Rattle.verilog_read.specs.Built.{IsSaid, IsPartOf}
use Rattle.verilog_read.specs.Walk.{AllDeclared, IsFault, IsBuilt, with_item, item_scope}
use Rattle.verilog_read.specs.declared.builder.Builder.{Builder}
use Rattle.verilog_read.specs.declared.fault.Fault.{Fault}
use Rattle.verilog_read.proofs.FirstUse.{both, fault_later, fault_sooner}
use Rattle.verilog_read.proofs.Grow.{said_more, grows_same, part_grows}
use Rattle.verilog_read.proofs.Seq.{Split, map_more, map_whole}

-- items that declare something
module _ (named : Name) (sc : Scope) (m : Module) (s : IsSaid named sc m) (name : Name) (width : ℕ) where
  pub wire_said : IsSaid named (with_item sc (WireItem width name)) (record m { nets = m.nets ++ record { name = name; width = width; reg = false } ∷ [] })
  wire_said = said_more named sc (WireItem width name) m _ s (record {
    named = refl;
    ports = refl;
    nets = refl;
    mems = [];
    mems_added = sym (append-nil m.mems);
    mems_are = refl;
    assigns = [];
    assigns_added = sym (append-nil m.assigns);
    assigns_are = tt;
    updates = [];
    updates_added = sym (append-nil m.updates);
    updates_are = tt;
    instances = [];
    instances_added = sym (append-nil m.instances);
    instances_are = tt;
  })

  pub register_said : IsSaid named (with_item sc (RegisterItem width name)) (record m { nets = m.nets ++ record { name = name; width = width; reg = true } ∷ [] })
  register_said = said_more named sc (RegisterItem width name) m _ s (record {
    named = refl;
    ports = refl;
    nets = refl;
    mems = [];
    mems_added = sym (append-nil m.mems);
    mems_are = refl;
    assigns = [];
    assigns_added = sym (append-nil m.assigns);
    assigns_are = tt;
    updates = [];
    updates_added = sym (append-nil m.updates);
    updates_are = tt;
    instances = [];
    instances_added = sym (append-nil m.instances);
    instances_are = tt;
  })

  pub memory_said : (depth : ℕ) → IsSaid named (with_item sc (MemoryItem width name depth)) (record m { mems = m.mems ++ record { name = name; width = width; depth = depth } ∷ [] })
  memory_said depth = said_more named sc (MemoryItem width name depth) m _ s (record {
    named = refl;
    ports = refl;
    nets = sym (append-nil m.nets);
    mems = record { name = name; width = width; depth = depth } ∷ [];
    mems_added = refl;
    mems_are = refl;
    assigns = [];
    assigns_added = sym (append-nil m.assigns);
    assigns_are = tt;
    updates = [];
    updates_added = sym (append-nil m.updates);
    updates_are = tt;
    instances = [];
    instances_added = sym (append-nil m.instances);
    instances_are = tt;
  })

pub instance_said : (named : Name) (sc : Scope) (m : Module) → IsSaid named sc m
    → (of name : Name) (cs : List Connection) (i : Instance) (instances : List Instance)
    → instances ≡ m.instances ++ i ∷ []
    → IsPartOf sc.modules m (record { of = of; name = name; connections = cs }) i
    → IsSaid named (with_item sc (InstanceItem of name cs)) (record m { instances = instances })
instance_said named sc m s of name cs i instances e p = said_more named sc (InstanceItem of name cs) m _ s (record {
  named = refl;
  ports = refl;
  nets = sym (append-nil m.nets);
  mems = [];
  mems_added = sym (append-nil m.mems);
  mems_are = refl;
  assigns = [];
  assigns_added = sym (append-nil m.assigns);
  assigns_are = tt;
  updates = [];
  updates_added = sym (append-nil m.updates);
  updates_are = tt;
  instances = i ∷ [];
  instances_added = e;
  instances_are = (part_grows (grows_same m (record m { instances = instances }) refl refl) sc.modules (record { of = of; name = name; connections = cs }) i p, tt);
})

-- an item that is known
pub given_item : (named : Name) (sc : Scope) (b : Builder) {item is : ItemTree} → item ≡ is
    → AllDeclared (item_uses sc (item_view is)) (IsBuilt named (with_item sc (item_view is)) b)
    → AllDeclared (item_uses sc (item_view item)) (IsBuilt named (with_item sc (item_view item)) b)
given_item named sc b e h = subst (λ t. AllDeclared (item_uses sc (item_view t)) (IsBuilt named (with_item sc (item_view t)) b)) (sym e) h

uses_joined : (modules : List ModuleTree) (ports : List PortTree)
    (before is js : List tree.ItemTree) → items_uses modules ports before (is
    ++ js) ≡ items_uses modules ports before is ++ items_uses modules ports (before ++ is) js
uses_joined modules ports before [] js = ap (λ l. items_uses modules ports l js) (sym (append-nil before))
uses_joined modules ports before (i ∷ is) js =
    let here = item_uses (record { modules = modules; ports = ports; items = before }) i in
    ap (λ l. here ++ l) (uses_joined modules ports (before ++ i
    ∷ []) is js ∙ ap (λ l. items_uses modules ports (before ++ i ∷ []) is
    ++ items_uses modules ports l js) (append_assoc before (i ∷ []) is))
    ∙ sym (append_assoc here (items_uses modules ports (before ++ i ∷ []) is) (items_uses modules ports (before ++ i ∷ is) js))

module _ (named : Name) (sc : Scope) {items : List ItemTree} {i : ℕ} {x : ItemTree} (s : Split items i x) where
  pub items_more : (old new : Builder) → AllDeclared (items_uses sc.modules sc.ports [] (map item_view (take i items))) (IsBuilt named (item_scope sc (map item_view (take i items))) old)
      → AllDeclared (item_uses (item_scope sc (map item_view (take i items))) (item_view x)) (IsBuilt named (item_scope sc (map item_view (take i items) ++ item_view x ∷ [])) new)
      → AllDeclared (items_uses sc.modules sc.ports [] (map item_view (take (i + 1) items))) (IsBuilt named (item_scope sc (map item_view (take (i + 1) items))) new)
  items_more old new before this =
      let front = map item_view (take i items) in
      let here = item_uses (item_scope sc front) (item_view x) in
      subst (λ l. AllDeclared (items_uses sc.modules sc.ports [] l) (IsBuilt named (item_scope sc l) new)) (sym (map_more item_view s)) (record {
        known = ap first_undeclared (uses_joined sc.modules sc.ports [] front (item_view x
            ∷ []) ∙ ap (λ l. items_uses sc.modules sc.ports [] front
            ++ l) (append-nil here)) ∙ both
            (items_uses sc.modules sc.ports [] front) here before.known this.known;
        holds = this.holds;
      })

  pub items_fault : (f : Fault) → first_undeclared (items_uses sc.modules sc.ports []
      (map item_view (take i items))) ≡ None
      → IsFault (item_uses (item_scope sc (map item_view (take i items))) (item_view x)) f
      → IsFault (items_uses sc.modules sc.ports [] (map item_view items)) f
  items_fault f known h =
      let front = map item_view (take i items) in
      let here = item_uses (item_scope sc front) (item_view x) in
      let back = items_uses sc.modules sc.ports (front ++ item_view x ∷ []) (map item_view s.rest) in
      subst (λ l. IsFault l f) (sym (ap (items_uses sc.modules sc.ports []) (map_whole item_view s) ∙ uses_joined sc.modules sc.ports [] front (item_view x ∷ map item_view s.rest)))
      (fault_later (items_uses sc.modules sc.ports [] front) (here ++ back) f known (fault_sooner here back f h))
