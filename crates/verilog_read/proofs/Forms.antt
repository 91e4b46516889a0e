-- A design that was read is formed.
use Rattle.std.proofs.Common.{◌≡◌, ◌∙◌, ℕ, zero, suc, ◌+◌, ◌<◌, ◌≤◌, Bool, true, false, ◌&&◌, ◌||◌}
use Rattle.std.proofs.Common.{cond, nat_eq, List, [], ◌∷◌, ◌++◌, length, map, take, Some, None}
use Rattle.std.proofs.Common.{codes, refl, sym, ap, subst, append_assoc, arith}
use Rattle.std.specs.Prelude.{slice_get, bytes_eq}
use Rattle.std.specs.List.{list_any}
use Rattle.std.specs.Option.{option_map}
use Rattle.std.proofs.lemmas.List.{append-nil, length-append, length-map, length-take}
use Rattle.std.proofs.lemmas.Option.{slice_get_within, slice_get-map}
use Rattle.rtl_check.proofs.Places.{at_seam}
use Rattle.rtl_ir.specs.Names.{is_name}
use Rattle.rtl_ir.specs.declared.design.Net.{Net}
use Rattle.rtl_ir.specs.declared.design.Mem.{Mem}
use Rattle.rtl_ir.specs.declared.design.Port.{Port}
use Rattle.rtl_ir.specs.declared.design.Expr.{Expr}
use Rattle.rtl_ir.specs.declared.design.Expr.TheVariants as exprs
use Rattle.rtl_ir.specs.declared.design.Target.{Target}
use Rattle.rtl_ir.specs.declared.design.Update.{Update}
use Rattle.rtl_ir.specs.declared.design.Instance.{Instance}
use Rattle.rtl_ir.specs.declared.design.Module.{Module}
use Rattle.rtl_ir.specs.Value.{net_kept, is_reg}
use Rattle.rtl_ir.specs.Operands.{target_net, target_mem}
use Rattle.rtl_ir.specs.Formed.{is_bit_input, IsFormedNet, IsFormedMem, IsFormedPort, IsFormedExpr, IsFormedUpdate, IsFormedInstance, IsFormedModule, IsFormed}
use Rattle.rtl_text.specs.Tree.{Name, PortTree, InputPort, OutputPort, ExprTree, PlainTree}
use Rattle.rtl_text.specs.Tree.{LiteralTree, NotTree, BinaryTree, ConcatTree, RepeatTree, PartTree}
use Rattle.rtl_text.specs.Tree.{ChooseTree, CellTree, UpdateTree, RegisterUpdate, CellUpdate}
use Rattle.rtl_text.specs.Tree.{ItemTree, WireItem, RegisterItem, MemoryItem, AssignItem}
use Rattle.rtl_text.specs.Tree.{AlwaysItem, InstanceItem, Connection, ModuleTree}
use Rattle.rtl_text.specs.Text.{Pairwise, IsNet, IsMem, ExprIs, AssignIs, UpdateIs, DeclaredMemory, NamedAssign, NamedInstance, memories_in, memories_of, assigns_in, updates_in, instances_in}
use Rattle.rtl_text.specs.Productions.{IsWidth, IsDepth}
use Rattle.rtl_reading.specs.Uses as uses
use Rattle.rtl_reading.specs.Uses.{Use, port_name, port_uses, items_uses, module_uses, text_uses, first_undeclared, unknown_in}
use Rattle.rtl_reading.specs.Reads.{port_net, item_nets}
use Rattle.verilog_read.specs.Built.{IsJoinedTo, IsPartOf, IsSaid, port_of, ports_from}
use Rattle.verilog_read.specs.Walk.{AreSaid, module_scope}
use Rattle.verilog_read.proofs.Said.{there, taken_at, length_ports}
use Rattle.verilog_read.proofs.Good.{AllAt, none_at, more_at, IsId, GoodPort, GoodExpr, GoodItem, GoodModule, GoodFile}

rest_at : {A : Type 0} (P : A → Type 0) (x : A) (xs : List A) → AllAt P (x ∷ xs) → AllAt P xs
rest_at P x xs h k y e = h (suc k) y e

both_at : {A : Type 0} (P : A → Type 0) (xs ys : List A) → AllAt P xs → AllAt P ys → AllAt P (xs ++ ys)
both_at P [] ys h g = g
both_at P (x ∷ xs) ys h g = more_at P x (xs ++ ys) (h 0 x refl) (both_at P xs ys (rest_at P x xs h) g)

pub pairwise_get : {A B : Type 0} (R : A → B → Type 0) (xs : List A) (ys : List B) (k : ℕ) (y : B) → Pairwise R xs ys → slice_get ys k ≡ Some y → (x : A) × (slice_get xs k ≡ Some x) × R x y
pairwise_get R [] [] k y p e = absurd (cc)
pairwise_get R [] (z ∷ ys) k y p e = absurd p
pairwise_get R (x ∷ xs) [] k y p e = absurd p
pairwise_get R (x ∷ xs) (z ∷ ys) zero y p e = let same : z ≡ y = some_is e in (x, refl, subst (R x) same p.0)
  where
    some_is : {A : Type 0} {x y : A} → Some x ≡ Some y → x ≡ y
    some_is e = cc
pairwise_get R (x ∷ xs) (z ∷ ys) (suc k) y p e = pairwise_get R xs ys k y p.1 e

pub pairwise_length : {A B : Type 0} (R : A → B → Type 0) (xs : List A) (ys : List B) → Pairwise R xs ys → length xs ≡ length ys
pairwise_length R [] [] p = refl
pairwise_length R [] (y ∷ ys) p = absurd p
pairwise_length R (x ∷ xs) [] p = absurd p
pairwise_length R (x ∷ xs) (y ∷ ys) p = ap suc (pairwise_length R xs ys p.1)

-- nets and memories

formed_net : (name : Name) (width : ℕ) (reg : Bool) → IsWidth width → IsId name → IsFormedNet (record { name = name; width = width; reg = reg })
formed_net name width reg w n = record { name = n; some = w.0; at_most = w.1 }

port_nets : (ps : List PortTree) → AllAt GoodPort ps → AllAt IsFormedNet (map port_net ps)
port_nets [] h = none_at IsFormedNet
port_nets (InputPort w name ∷ ps) h = let g = h 0 (InputPort w name) refl in more_at IsFormedNet
    (port_net (InputPort w name)) (map port_net ps) (formed_net name w false g.0 g.1)
    (port_nets ps (rest_at GoodPort (InputPort w name) ps h))
port_nets (OutputPort w name ∷ ps) h = let g = h 0
    (OutputPort w name) refl in more_at IsFormedNet (port_net (OutputPort w name))
    (map port_net ps) (formed_net name w false g.0 g.1)
    (port_nets ps (rest_at GoodPort (OutputPort w name) ps h))

nets_of_items : (is : List ItemTree) → AllAt GoodItem is → AllAt IsFormedNet (item_nets is)
nets_of_items [] h = none_at IsFormedNet
nets_of_items (WireItem w name ∷ is) h = let g = h 0
    (WireItem w name) refl in more_at IsFormedNet (record
    { name = name; width = w; reg = false }) (item_nets is) (formed_net name w false g.0 g.1)
    (nets_of_items is (rest_at GoodItem (WireItem w name) is h))
nets_of_items (RegisterItem w name
    ∷ is) h = let g = h 0 (RegisterItem w name) refl in more_at IsFormedNet
    (record { name = name; width = w; reg = true }) (item_nets is)
    (formed_net name w true g.0 g.1) (nets_of_items is (rest_at GoodItem
    (RegisterItem w name) is h))
nets_of_items (MemoryItem w name n ∷ is) h = nets_of_items is (rest_at GoodItem (MemoryItem w name n) is h)
nets_of_items (AssignItem name e ∷ is) h = nets_of_items is (rest_at GoodItem (AssignItem name e) is h)
nets_of_items (AlwaysItem us ∷ is) h = nets_of_items is (rest_at GoodItem (AlwaysItem us) is h)
nets_of_items (InstanceItem of name cs ∷ is) h = nets_of_items is (rest_at GoodItem (InstanceItem of name cs) is h)

abbrev GoodMemory : DeclaredMemory → Type 0
GoodMemory x = IsWidth x.width × IsId x.name × IsDepth x.depth

memories_of_items : (is : List ItemTree) → AllAt GoodItem is → AllAt GoodMemory (memories_in is)
memories_of_items [] h = none_at GoodMemory
memories_of_items (WireItem w name ∷ is) h = memories_of_items is (rest_at GoodItem (WireItem w name) is h)
memories_of_items (RegisterItem w name ∷ is) h = memories_of_items is (rest_at GoodItem (RegisterItem w name) is h)
memories_of_items (MemoryItem w name n
    ∷ is) h = more_at GoodMemory (record { name = name; width = w; depth = n }) (memories_in is)
    (h 0 (MemoryItem w name n) refl) (memories_of_items is
    (rest_at GoodItem (MemoryItem w name n) is h))
memories_of_items (AssignItem name e ∷ is) h = memories_of_items is (rest_at GoodItem (AssignItem name e) is h)
memories_of_items (AlwaysItem us ∷ is) h = memories_of_items is (rest_at GoodItem (AlwaysItem us) is h)
memories_of_items (InstanceItem of name cs ∷ is) h = memories_of_items is (rest_at GoodItem (InstanceItem of name cs) is h)

abbrev GoodAssign : NamedAssign → Type 0
GoodAssign a = GoodExpr a.expr

assigns_of_items : (is : List ItemTree) → AllAt GoodItem is → AllAt GoodAssign (assigns_in is)
assigns_of_items [] h = none_at GoodAssign
assigns_of_items (WireItem w name ∷ is) h = assigns_of_items is (rest_at GoodItem (WireItem w name) is h)
assigns_of_items (RegisterItem w name ∷ is) h = assigns_of_items is (rest_at GoodItem (RegisterItem w name) is h)
assigns_of_items (MemoryItem w name n ∷ is) h = assigns_of_items is (rest_at GoodItem (MemoryItem w name n) is h)
assigns_of_items (AssignItem name e
    ∷ is) h = more_at GoodAssign (record { target = name; expr = e }) (assigns_in is)
    (h 0 (AssignItem name e) refl) (assigns_of_items is (rest_at GoodItem (AssignItem name e) is h))
assigns_of_items (AlwaysItem us ∷ is) h = assigns_of_items is (rest_at GoodItem (AlwaysItem us) is h)
assigns_of_items (InstanceItem of name cs ∷ is) h = assigns_of_items is (rest_at GoodItem (InstanceItem of name cs) is h)

abbrev GoodInstance : NamedInstance → Type 0
GoodInstance i = IsId i.name

instances_of_items : (is : List ItemTree) → AllAt GoodItem is → AllAt GoodInstance (instances_in is)
instances_of_items [] h = none_at GoodInstance
instances_of_items (WireItem w name ∷ is) h = instances_of_items is (rest_at GoodItem (WireItem w name) is h)
instances_of_items (RegisterItem w name ∷ is) h = instances_of_items is (rest_at GoodItem (RegisterItem w name) is h)
instances_of_items (MemoryItem w name n ∷ is) h = instances_of_items is (rest_at GoodItem (MemoryItem w name n) is h)
instances_of_items (AssignItem name e ∷ is) h = instances_of_items is (rest_at GoodItem (AssignItem name e) is h)
instances_of_items (AlwaysItem us ∷ is) h = instances_of_items is (rest_at GoodItem (AlwaysItem us) is h)
instances_of_items (InstanceItem of name cs
    ∷ is) h = more_at GoodInstance (record { of = of; name = name; connections = cs })
    (instances_in is) (h 0 (InstanceItem of name cs) refl)
    (instances_of_items is (rest_at GoodItem (InstanceItem of name cs) is h))

-- a name is that of a thing that is there
named_within : {A : Type 0} (name_of : A → Name) (xs : List A) (k : ℕ) (name : Name) → option_map name_of (slice_get xs k) ≡ Some name → k < length xs
named_within name_of [] k name e = absurd (cc)
named_within name_of (x ∷ xs) zero name e = omega arith
named_within name_of (x ∷ xs) (suc k) name e = let h = named_within name_of xs k name e in omega arith

module _ (m : Module) where
  net_within : (name : Name) (k : ℕ) → IsNet m name k → k < length m.nets
  net_within name k h = named_within (λ (n : Net). n.name) m.nets k name h

  mem_within : (name : Name) (k : ℕ) → IsMem m name k → k < length m.mems
  mem_within name k h = named_within (λ (n : Mem). n.name) m.mems k name h

  abbrev Within : ℕ → Type 0
  Within n = n < length m.nets

  abbrev Small : ℕ → Type 0
  Small n = n ≤ 128

  one : (P : ℕ → Type 0) (a : ℕ) → P a → AllAt P (a ∷ [])
  one P a p = more_at P a [] p (none_at P)

  formed_expr : (t : ExprTree) (e : Expr) → ExprIs m t e → GoodExpr t → IsFormedExpr m e
  formed_expr (PlainTree a) (exprs.Net k) h g = record { nets = λ n r. one Within k (net_within a k h) r.0 n r.1; mem = λ k e. absurd (cc); numbers = none_at Small }
  formed_expr (LiteralTree w x) (exprs.Literal word) h g = record { nets = λ n r. none_at Within r.0 n r.1; mem = λ k e. absurd (cc); numbers = none_at Small }
  formed_expr (NotTree a) (exprs.Not k) h g = record { nets = λ n r. one Within k (net_within a k h) r.0 n r.1; mem = λ k e. absurd (cc); numbers = none_at Small }
  formed_expr (BinaryTree s a b) (exprs.Binary t i j) h g = record {
    nets = λ n r. more_at Within i (j ∷ []) (net_within a i h.1) (one Within j (net_within b j h.2)) r.0 n r.1;
    mem = λ k e. absurd (cc);
    numbers = none_at Small;
  }
  formed_expr (ConcatTree a b) (exprs.Concat i j) h g = record {
    nets = λ n r. more_at Within i (j ∷ []) (net_within a i h.0) (one Within j (net_within b j h.1)) r.0 n r.1;
    mem = λ k e. absurd (cc);
    numbers = none_at Small;
  }
  formed_expr (RepeatTree i a) (exprs.Repeat j k) h g = record { nets = λ n r. one Within k (net_within a k h.1) r.0 n r.1; mem = λ k e. absurd (cc); numbers = one Small j (subst Small h.0 g) }
  formed_expr (PartTree a hi lo) (exprs.Part k high low) h g = record {
    nets = λ n r. one Within k (net_within a k h.2) r.0 n r.1;
    mem = λ k e. absurd (cc);
    numbers = more_at Small high (low ∷ []) (subst Small h.0 g.0) (one Small low (subst Small h.1 g.1));
  }
  formed_expr (ChooseTree c a b) (exprs.Choose i j k) h g = record {
    nets = λ n r. more_at Within i (j ∷ k ∷ []) (net_within c i h.0) (more_at Within j (k ∷ []) (net_within a j h.1) (one Within k (net_within b k h.2))) r.0 n r.1;
    mem = λ k e. absurd (cc);
    numbers = none_at Small;
  }
  formed_expr (CellTree x a) (exprs.Cell k i) h g = record {
    nets = λ n r. one Within i (net_within a i h.1) r.0 n r.1;
    mem = λ j e. (let same : k ≡ j = cc in subst (λ l. l < length m.mems) same (mem_within x k h.0));
    numbers = none_at Small;
  }
  formed_expr _ _ h g = absurd h

  formed_update : (t : UpdateTree) (u : Update) → UpdateIs m t u → IsFormedUpdate m u
  formed_update (RegisterUpdate enable name value) u h = record {
    enable = net_within enable u.enable h.enabled;
    value = net_within value u.value h.writes;
    net = subst (λ (x : Target). target_net x < length m.nets) (sym h.target) (net_within name h.register h.named);
    mem = λ k e. let f = ap target_mem h.target in absurd (cc);
  }
  formed_update (CellUpdate enable name address value) u h = record {
    enable = net_within enable u.enable h.enabled;
    value = net_within value u.value h.writes;
    net = subst (λ (x : Target). target_net x < length m.nets) (sym h.target) (net_within address h.at h.addressed);
    mem = λ k e. let f = ap target_mem h.target in (let same : h.memory ≡ k = cc in subst (λ l. l < length m.mems) same (mem_within name h.memory h.named));
  }

  nets_joined : (cs : List Connection) (ports : List Name) (ns : List ℕ) → Pairwise (IsJoinedTo m cs) ports ns → AllAt Within ns
  nets_joined cs ports ns p k n e = let r = pairwise_get (IsJoinedTo m cs) ports ns k n p e in net_within r.2.net n r.2.joined

-- ports

port_at : (a : ℕ) (ps : List PortTree) (k : ℕ) (p : Port) → slice_get (ports_from a ps) k ≡ Some p → (q : PortTree) × (slice_get ps k ≡ Some q) × (p ≡ port_of (a + k) q)
port_at a [] k p e = absurd (cc)
port_at a (q ∷ ps) zero p e = let n : a + 0 ≡ a = omega arith in let same : port_of a q ≡ p = some_is e in (q, refl, sym same ∙ ap (λ i. port_of i q) (sym n))
  where
    some_is : {A : Type 0} {x y : A} → Some x ≡ Some y → x ≡ y
    some_is e = cc
port_at a (q ∷ ps) (suc k) p e = let r = port_at (a + 1) ps k p e in let n : a + 1 + k ≡ a + suc k = omega arith in (r.0, r.1, r.2 ∙ ap (λ i. port_of i r.0) n)

net_number : (k : ℕ) (q : PortTree) → (port_of k q).net ≡ k
net_number k (InputPort w name) = refl
net_number k (OutputPort w name) = refl

net_at : (ps : List PortTree) (back : List Net) (k : ℕ) (q : PortTree) → slice_get ps k ≡ Some q → slice_get (map port_net ps ++ back) k ≡ Some (port_net q)
net_at [] back k q e = absurd (cc)
net_at (p ∷ ps) back zero q e = let same : p ≡ q = some_is e in ap (λ x. Some (port_net x)) same
  where
    some_is : {A : Type 0} {x y : A} → Some x ≡ Some y → x ≡ y
    some_is e = cc
net_at (p ∷ ps) back (suc k) q e = net_at ps back k q e

is_wire : (q : PortTree) → net_kept (Some (port_net q)) ≡ false
is_wire (InputPort w name) = refl
is_wire (OutputPort w name) = refl

bit_inputs : (m : Module) (front back : List Net) (ps : List PortTree) (name : Name)
    → m.nets ≡ front ++ (map port_net ps ++ back)
    → list_any (uses.is_bit_input name) ps ≡ list_any (is_bit_input m name)
    (ports_from (length front) ps)
bit_inputs m front back [] name e = refl
bit_inputs m front back (p ∷ ps) name e =
    let n : length (front ++ port_net p ∷ []) ≡ length front + 1 = length-append front (port_net p ∷ []) in
    let more = bit_inputs m (front ++ port_net p ∷ []) back ps name (e ∙ sym (append_assoc front (port_net p ∷ []) (map port_net ps ++ back))) in
    let later = more ∙ ap (λ k. list_any (is_bit_input m name) (ports_from k ps)) n in
    this p (ap (λ l. slice_get l (length front)) e ∙ at_seam front (port_net p) (map port_net ps ++ back)) later
  where
    this : (q : PortTree) → slice_get m.nets (length front) ≡ Some (port_net q) → list_any (uses.is_bit_input name) ps ≡ list_any (is_bit_input m name) (ports_from (length front + 1) ps)
        → list_any (uses.is_bit_input name) (q ∷ ps) ≡ list_any (is_bit_input m name) (port_of (length front) q ∷ ports_from (length front + 1) ps)
    this (InputPort w a) at h = rw at (ap (λ b. (nat_eq w 1 && bytes_eq a name) || b) h)
    this (OutputPort w a) at h = h

-- what is known of all uses is known of each part
pub front_known : (us vs : List Use) → first_undeclared (us ++ vs) ≡ None → first_undeclared us ≡ None
front_known [] vs e = refl
front_known (u ∷ us) vs e = by_head u.declared refl e (λ f. front_known us vs f)
  where
    by_head : (b : Bool) → u.declared ≡ b → cond b (first_undeclared (us
        ++ vs)) (Some u.name) ≡ None → (first_undeclared (us ++ vs) ≡ None
        → first_undeclared us ≡ None) → first_undeclared (u ∷ us) ≡ None
    by_head true h f more = rw (h) (more f)
    by_head false h f more = absurd (cc)

pub back_known : (us vs : List Use) → first_undeclared (us ++ vs) ≡ None → first_undeclared vs ≡ None
back_known [] vs e = e
back_known (u ∷ us) vs e = by_head u.declared refl e (λ f. back_known us vs f)
  where
    by_head : (b : Bool) → u.declared ≡ b → cond b (first_undeclared (us ++ vs)) (Some u.name) ≡ None → (first_undeclared (us ++ vs) ≡ None → first_undeclared vs ≡ None) → first_undeclared vs ≡ None
    by_head true h f more = more f
    by_head false h f more = absurd (cc)

pub module_known : (earlier ts : List ModuleTree) (k : ℕ) (t : ModuleTree)
    → first_undeclared (text_uses earlier ts) ≡ None → slice_get ts k ≡ Some t
    → first_undeclared (module_uses (earlier ++ take k ts) t) ≡ None
module_known earlier [] k t e at = absurd (cc)
module_known earlier (u ∷ ts) zero t e at =
    let same : u ≡ t = some_is at in
    subst (λ l. first_undeclared (module_uses l t) ≡ None) (sym (append-nil earlier))
    (subst (λ x. first_undeclared (module_uses earlier x) ≡ None) same
    (front_known (module_uses earlier u) (text_uses (earlier ++ u ∷ []) ts) e))
  where
    some_is : {A : Type 0} {x y : A} → Some x ≡ Some y → x ≡ y
    some_is e = cc
module_known earlier (u ∷ ts) (suc k) t e at =
    subst (λ l. first_undeclared (module_uses l t) ≡ None) (append_assoc earlier (u
    ∷ []) (take k ts)) (module_known (earlier ++ u
    ∷ []) ts k t (back_known (module_uses earlier u) (text_uses (earlier ++ u ∷ []) ts) e) at)

pub use_known : (u : Use) (us : List Use) → first_undeclared (u ∷ us) ≡ None → u.declared ≡ true
use_known u us e = by_head u.declared refl e
  where
    by_head : (b : Bool) → u.declared ≡ b → cond b (first_undeclared us) (Some u.name) ≡ None → u.declared ≡ true
    by_head true h f = h
    by_head false h f = absurd (cc)

-- a module after those before it
formed_module : (earlier : List ModuleTree) (front : List Module) (t : ModuleTree) (m : Module)
    → IsSaid t.name (module_scope earlier t) m → GoodModule t
    → first_undeclared (module_uses earlier t) ≡ None → length front ≡ length earlier
    → ((k : ℕ) (u : ModuleTree) (inner : Module) → slice_get earlier k ≡ Some u → slice_get front k ≡ Some inner → inner.ports ≡ ports_from 0 u.ports) → IsFormedModule front m
formed_module earlier front t m s g known count within =
    let nets = both_at IsFormedNet (map port_net t.ports) (item_nets t.items) (port_nets t.ports g.ports) (nets_of_items t.items g.items) in
    let clocks = front_known (port_uses t.ports) (items_uses earlier t.ports [] t.items) known in
    record {
      name = ap is_name s.named ∙ g.name;
      nets = λ k n e. nets k n (ap (λ l. slice_get l k) (sym s.declared.nets) ∙ e);
      mems = λ k x e. memory k x e;
      ports = λ k p e. port k p e;
      apart = λ j k p q e f same. apart j k p q e f same;
      assigns = λ k a e.
          let r = pairwise_get (AssignIs m) (assigns_in t.items) m.assigns k a s.assigns e in
          record { target = net_within m r.0.target a.target r.2.0; expr = formed_expr m r.0.expr a.expr r.2.1 (assigns_of_items t.items g.items k r.0 r.1) };
      updates = λ k u e. let r = pairwise_get (UpdateIs m) (updates_in t.items) m.updates k u s.updates e in formed_update m r.0 u r.2;
      instances = λ k i e. instance k i e;
      clock = ap (list_any (is_bit_input m (codes "clk"))) s.ports ∙ sym (bit_inputs m [] (item_nets t.items) t.ports (codes "clk") s.declared.nets) ∙ use_known clock_use (reset_use ∷ []) clocks;
      reset = ap (list_any (is_bit_input m (codes "reset"))) s.ports ∙ sym
          (bit_inputs m [] (item_nets t.items) t.ports
          (codes "reset") s.declared.nets) ∙ use_known reset_use [] (back_known (clock_use
          ∷ []) (reset_use ∷ []) clocks);
    }
  where
    clock_use : Use
    clock_use = record { name = codes "clk"; declared = list_any (uses.is_bit_input (codes "clk")) t.ports }

    reset_use : Use
    reset_use = record { name = codes "reset"; declared = list_any (uses.is_bit_input (codes "reset")) t.ports }

    memory : (k : ℕ) (x : Mem) → slice_get m.mems k ≡ Some x → IsFormedMem x
    memory k x e =
        let f : Mem → DeclaredMemory = λ (y : Mem). record { name = y.name; width = y.width; depth = y.depth } in
        let at : slice_get (memories_of m.mems) k ≡ Some (f x) = slice_get-map f m.mems k ∙ ap (option_map f) e in
        let good = memories_of_items t.items g.items k (f x) (ap (λ l. slice_get l k) (sym s.declared.mems) ∙ at) in
        record { name = good.1; some = good.0.0; at_most = good.0.1; words = good.2.0; words_at_most = good.2.1 }

    port_there : (k : ℕ) (p : Port) → slice_get m.ports k ≡ Some p → (q : PortTree) × (slice_get t.ports k ≡ Some q) × (p.net ≡ k)
    port_there k p e =
        let r = port_at 0 t.ports k p (ap (λ l. slice_get l k) (sym s.ports) ∙ e) in
        let n : 0 + k ≡ k = omega arith in
        (r.0, r.1, ap (λ (x : Port). x.net) r.2 ∙ net_number (0 + k) r.0 ∙ n)

    port : (k : ℕ) (p : Port) → slice_get m.ports k ≡ Some p → IsFormedPort m p
    port k p e =
        let r = port_there k p e in
        let at : slice_get m.nets k ≡ Some (port_net r.0) = ap (λ l. slice_get l k) s.declared.nets ∙ net_at t.ports (item_nets t.items) k r.0 r.1 in
        record { net = subst (λ j. j < length m.nets) (sym r.2) (slice_get_within m.nets k (port_net r.0) at); wire = ap (λ j. is_reg m j) r.2 ∙ ap net_kept at ∙ is_wire r.0 }

    apart : (j k : ℕ) (p q : Port) → slice_get m.ports j ≡ Some p → slice_get m.ports k ≡ Some q → p.net ≡ q.net → j ≡ k
    apart j k p q e f same = sym (port_there j p e).2 ∙ same ∙ (port_there k q f).2

    instance : (k : ℕ) (i : Instance) → slice_get m.instances k ≡ Some i → IsFormedInstance front m i
    instance k i e =
        let r = pairwise_get (IsPartOf earlier m) (instances_in t.items) m.instances k i s.instances e in
        let p = r.2 in
        record {
          name = ap is_name p.named ∙ instances_of_items t.items g.items k r.0 r.1;
          is_earlier = omega (arith, slice_get_within earlier i.module p.inner p.of, count);
          nets = nets_joined m r.0.connections (map port_name p.inner.ports) i.nets p.joined;
          ports = λ inner at. sym (pairwise_length (IsJoinedTo m r.0.connections)
              (map port_name p.inner.ports) i.nets p.joined) ∙ length-map p.inner.ports
              port_name ∙ sym (ap length
              (within i.module p.inner inner p.of at) ∙ length_ports 0 p.inner.ports);
        }

-- all modules
pub formed : (trees : List ModuleTree) (modules : List Module) → AreSaid trees modules → GoodFile trees → unknown_in trees ≡ None → IsFormed modules
formed trees modules h g known = record {
  some = omega (arith, h.count, g.some);
  each = λ k m at.
      let t = there trees k (omega (arith, slice_get_within modules k m at, h.count)) in
      formed_module (take k trees) (take k modules) t.0 m (h.each k t.0 m t.1 at)
      (g.modules k t.0 t.1) (module_known [] trees k t.0 known t.1) (omega (
        arith,
        length-take k trees,
        length-take k modules,
        h.count,
      ))
      (λ j u inner a b. (h.each j u inner (taken_at trees k j u a) (taken_at modules k j inner b)).ports);
}
