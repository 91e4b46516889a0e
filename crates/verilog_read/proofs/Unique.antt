-- A text has one accepted design.
use Rattle.std.proofs.Common.{◌≡◌, ◌∙◌, ℕ, zero, suc, ◌+◌, Bool, true, false, ◌&&◌, ◌||◌, not, List, [], ◌∷◌, ◌++◌, length, map, take, Some, None, is_some, refl, sym, ap, subst, arith}
use Rattle.std.specs.Prelude.{slice_get, Contains, bytes_eq}
use Rattle.std.specs.List.{list_any}
use Rattle.std.specs.Option.{option_map}
use Rattle.std.proofs.lemmas.Option.{slice_get_within, slice_get-map, slice_get-get_or}
use Rattle.std.proofs.lemmas.List.Folds.{list_any-append}
use Rattle.rtl_check.proofs.Places.{in_front, in_back}
use Rattle.rtl_ir.specs.declared.design.Net.{Net}
use Rattle.rtl_ir.specs.declared.design.Mem.{Mem}
use Rattle.rtl_ir.specs.declared.design.Port.{Port}
use Rattle.rtl_ir.specs.declared.design.Assign.{Assign}
use Rattle.rtl_ir.specs.declared.design.Update.{Update}
use Rattle.rtl_ir.specs.declared.design.Target.TheVariants.{Reg, Cell}
use Rattle.rtl_ir.specs.declared.design.Instance.{Instance}
use Rattle.rtl_ir.specs.declared.design.Module.{Module}
use Rattle.rtl_ir.specs.declared.design.Design.{Design}
use Rattle.rtl_ir.specs.Rules.{names_of, AllDiffer, IsAccepted}
use Rattle.rtl_text.specs.Tree.{Name, PortTree, InputPort, OutputPort, UpdateTree, RegisterUpdate}
use Rattle.rtl_text.specs.Tree.{CellUpdate, ItemTree, WireItem, RegisterItem, MemoryItem}
use Rattle.rtl_text.specs.Tree.{AssignItem, AlwaysItem, InstanceItem, Connection, ModuleTree}
use Rattle.rtl_text.specs.Text.{Pairwise, IsNet, IsMem, PortIs, AssignIs, UpdateIs, IsJoined}
use Rattle.rtl_text.specs.Text.{InstanceIs, ModuleIs, NamedAssign, NamedInstance, DeclaredMemory}
use Rattle.rtl_text.specs.Text.{memories_of, assigns_in, updates_in, instances_in}
use Rattle.rtl_reading.specs.Uses.{Use, Scope, is_in, port_uses, net, connection_uses, joined_uses, item_uses, items_uses, unknown_in, first_undeclared, ports_named, module_named}
use Rattle.rtl_reading.specs.Reads.{IsNumbered}
use Rattle.verilog_read.proofs.Tables.{is_itself, map_joined}
use Rattle.verilog_read.proofs.Said.{there}
use Rattle.verilog_read.proofs.Good.{AllAt}
use Rattle.verilog_read.proofs.Forms.{module_known, front_known, back_known, use_known}
use Rattle.verilog_read.proofs.SameExpr.{same_expr}

pub some_is : {A : Type 0} {x y : A} → Some x ≡ Some y → x ≡ y
some_is e = cc

-- lists that agree item by item
lists_same : {A : Type 0} (xs ys : List A) → length ys ≡ length xs → ((k : ℕ) (x y : A) → slice_get xs k ≡ Some x → slice_get ys k ≡ Some y → y ≡ x) → ys ≡ xs
lists_same [] [] n h = refl
lists_same [] (y ∷ ys) n h = absurd (omega arith)
lists_same (x ∷ xs) [] n h = absurd (omega arith)
lists_same (x ∷ xs) (y ∷ ys) n h = let p = h 0 x y refl refl in let q = lists_same xs ys (omega arith) (λ k a b e f. h (suc k) a b e f) in λ i. p i ∷ q i

pub pairwise_same : {A B : Type 0} (R S : A → B → Type 0) (ts : List A) (xs ys : List B)
    → ((k : ℕ) (t : A) (x y : B) → slice_get ts k ≡ Some t → R t x → S t y → y ≡ x)
    → Pairwise R ts xs → Pairwise S ts ys → ys ≡ xs
pairwise_same R S [] [] [] h p q = refl
pairwise_same R S (t ∷ ts) (x ∷ xs) (y ∷ ys) h p q = let a = h 0 t x y refl p.0 q.0 in let b = pairwise_same R S ts xs ys (λ k u v w e r s. h (suc k) u v w e r s) p.1 q.1 in λ i. a i ∷ b i
pairwise_same R S [] (x ∷ xs) ys h p q = absurd p
pairwise_same R S [] [] (y ∷ ys) h p q = absurd q
pairwise_same R S (t ∷ ts) [] ys h p q = absurd p
pairwise_same R S (t ∷ ts) (x ∷ xs) [] h p q = absurd q

pub pairwise_there : {A B : Type 0} (R : A → B → Type 0) (ts : List A) (xs : List B) (k : ℕ) (t : A) (x : B) → Pairwise R ts xs → slice_get ts k ≡ Some t → slice_get xs k ≡ Some x → R t x
pairwise_there R [] [] k t x p e f = absurd (cc)
pairwise_there R [] (y ∷ xs) k t x p e f = absurd p
pairwise_there R (u ∷ ts) [] k t x p e f = absurd p
pairwise_there R (u ∷ ts) (y ∷ xs) zero t x p e f = let a = some_is e in let b = some_is f in subst (λ z. R z x) a (subst (λ z. R u z) b p.0)
pairwise_there R (u ∷ ts) (y ∷ xs) (suc k) t x p e f = pairwise_there R ts xs k t x p.1 e f

pub pairwise_count : {A B : Type 0} (R : A → B → Type 0) (ts : List A) (xs : List B) → Pairwise R ts xs → length xs ≡ length ts
pairwise_count R [] [] p = refl
pairwise_count R [] (x ∷ xs) p = absurd p
pairwise_count R (t ∷ ts) [] p = absurd p
pairwise_count R (t ∷ ts) (x ∷ xs) p = ap suc (pairwise_count R ts xs p.1)

-- memories and ports
mems_same : (xs ys : List Mem) → memories_of ys ≡ memories_of xs → ys ≡ xs
mems_same [] [] e = refl
mems_same [] (y ∷ ys) e = absurd (cc)
mems_same (x ∷ xs) [] e = absurd (cc)
mems_same (x ∷ xs) (y ∷ ys) e =
    let h : ◌≡◌ {A = DeclaredMemory} (record { name = y.name; width = y.width; depth = y.depth }) (record { name = x.name; width = x.width; depth = x.depth }) = cc in
    let t = mems_same xs ys (cc) in
    λ i. record { name = (h i).name; width = (h i).width; depth = (h i).depth } ∷ t i

direction : (m : Module) (t : PortTree) (p : Port) → PortIs m t p → (n : Module) (q : Port) → PortIs n t q → q.output ≡ p.output
direction m (InputPort w name) p h n q g = g.direction ∙ sym h.direction
direction m (OutputPort w name) p h n q g = g.direction ∙ sym h.direction

ports_same : (m n : Module) (ts : List PortTree) (ps qs : List Port) → Pairwise (PortIs m) ts ps → Pairwise (PortIs n) ts qs → map (λ (p : Port). p.net) qs ≡ map (λ (p : Port). p.net) ps → qs ≡ ps
ports_same m n [] [] [] p q e = refl
ports_same m n [] (x ∷ ps) qs p q e = absurd p
ports_same m n [] [] (y ∷ qs) p q e = absurd q
ports_same m n (t ∷ ts) [] qs p q e = absurd p
ports_same m n (t ∷ ts) (x ∷ ps) [] p q e = absurd q
ports_same m n (t ∷ ts) (x ∷ ps) (y ∷ qs) p q e =
    let h : y.net ≡ x.net = cc in let o = direction m t x p.0 n y q.0 in
    let r = ports_same m n ts ps qs p.1 q.1 (cc) in
    λ i. record { net = h i; output = o i } ∷ r i

-- what is known of the connections of each instance
abbrev AreKnown : NamedInstance → Type 0
AreKnown t = (sc : Scope) × (ports : List Name) × (first_undeclared (connection_uses sc ports [] t.connections) ≡ None)

instances_known : (modules : List ModuleTree) (ports : List PortTree) (before is : List ItemTree) → first_undeclared (items_uses modules ports before is) ≡ None → AllAt AreKnown (instances_in is)
instances_known modules ports before [] h k t e = absurd (cc)
instances_known modules ports before (WireItem w name ∷ is) h k t e = instances_known modules ports (before ++ WireItem w name ∷ []) is h k t e
instances_known modules ports before (RegisterItem w name ∷ is) h k t e = instances_known modules ports (before ++ RegisterItem w name ∷ []) is h k t e
instances_known modules ports before (MemoryItem w name n ∷ is) h k t e = instances_known modules ports (before ++ MemoryItem w name n ∷ []) is h k t e
instances_known modules ports before (AssignItem name x ∷ is) h k t e =
    let here = item_uses (record { modules = modules; ports = ports; items = before }) (AssignItem name x) in
    instances_known modules ports (before ++ AssignItem name x ∷ []) is (back_known here (items_uses modules ports (before ++ AssignItem name x ∷ []) is) h) k t e
instances_known modules ports before (AlwaysItem us ∷ is) h k t e =
    let here = item_uses (record { modules = modules; ports = ports; items = before }) (AlwaysItem us) in
    instances_known modules ports (before ++ AlwaysItem us ∷ []) is (back_known here (items_uses modules ports (before ++ AlwaysItem us ∷ []) is) h) k t e
instances_known modules ports before (InstanceItem of name cs ∷ is) h (suc k) t e =
    let here = item_uses (record { modules = modules; ports = ports; items = before }) (InstanceItem of name cs) in
    instances_known modules ports (before ++ InstanceItem of name cs ∷ []) is (back_known here (items_uses modules ports (before ++ InstanceItem of name cs ∷ []) is) h) k t e
instances_known modules ports before (InstanceItem of name cs ∷ is) h zero t e =
    let sc : Scope = record { modules = modules; ports = ports; items = before } in
    let here = item_uses sc (InstanceItem of name cs) in
    let names = ports_named (module_named modules of) in
    let own : Use = record { name = of; declared = is_some (module_named modules of) } in
    let all = front_known here (items_uses modules ports (before ++ InstanceItem of name cs ∷ []) is) h in
    let joins = front_known (connection_uses sc names [] cs) (joined_uses [] names cs) (back_known (own ∷ []) (connection_uses sc names [] cs ++ joined_uses [] names cs) all) in
    let same : cs ≡ t.connections = ap (λ (x : NamedInstance). x.connections) (some_is e) in
    (sc, names, subst (λ l. first_undeclared (connection_uses sc names [] l) ≡ None) same joins)

-- a connection's port isn't named before
and_not : (a b : Bool) → (a && not b) ≡ true → b ≡ false
and_not true false e = refl
and_not true true e = absurd (cc)
and_not false b e = absurd (cc)

or_false : (a b : Bool) → (a || b) ≡ false → (a ≡ false) × (b ≡ false)
or_false false false e = (refl, refl)
or_false true b e = absurd (cc)
or_false false true e = absurd (cc)

abbrev port_names : List Connection → List Name
port_names cs = map (λ (c : Connection). c.port) cs

fresh : (sc : Scope) (ports : List Name) (before cs : List Connection) (k : ℕ) (c : Connection)
    → first_undeclared (connection_uses sc ports before cs) ≡ None → slice_get cs k ≡ Some c
    → is_in c.port (port_names before) ≡ false
fresh sc ports before [] k c h e = absurd (cc)
fresh sc ports before (x ∷ cs) zero c h e =
    let own : Use = record { name = x.port; declared = is_in x.port ports && not (is_in x.port (port_names before)) } in
    let d = use_known own (net sc x.net ∷ connection_uses sc ports (before ++ x ∷ []) cs) h in
    subst (λ (y : Connection). is_in y.port (port_names before) ≡ false) (some_is e) (and_not (is_in x.port ports) (is_in x.port (port_names before)) d)
fresh sc ports before (x ∷ cs) (suc k) c h e =
    let own : Use = record { name = x.port; declared = is_in x.port ports && not (is_in x.port (port_names before)) } in
    let f = fresh sc ports (before ++ x ∷ []) cs k c (back_known (own ∷ net sc x.net ∷ []) (connection_uses sc ports (before ++ x ∷ []) cs) h) e in
    let g : is_in c.port (port_names before ++ x.port ∷ []) ≡ false = ap (is_in c.port) (sym (map_joined (λ (y : Connection). y.port) before (x ∷ []))) ∙ f in
    (or_false (is_in c.port (port_names before)) (is_in c.port (x.port ∷ [])) (sym (list_any-append (bytes_eq c.port) (port_names before) (x.port ∷ [])) ∙ g)).0

or_last : (a b : Bool) → b ≡ true → (a || (b || false)) ≡ true
or_last true b e = refl
or_last false true e = refl
or_last false false e = absurd (cc)

last_in : (before : List Connection) (x : Connection) (name : Name) → name ≡ x.port → is_in name (port_names (before ++ x ∷ [])) ≡ true
last_in before x name e =
    ap (is_in name) (map_joined (λ (y : Connection). y.port) before (x ∷ [])) ∙ list_any-append (bytes_eq name) (port_names before) (x.port ∷ [])
    ∙ or_last (list_any (bytes_eq name) (port_names before)) (bytes_eq name x.port) (ap (λ l. bytes_eq l x.port) e ∙ is_itself x.port)

true_false : {b : Bool} → b ≡ true → b ≡ false → ⊥
true_false e f = let g : true ≡ false = sym e ∙ f in absurd (cc)

-- of two connections of one port both are the same one
one_connection : (sc : Scope) (ports : List Name) (before cs : List Connection) (i j : ℕ)
    (a b : Connection) → first_undeclared (connection_uses sc ports before cs) ≡ None
    → slice_get cs i ≡ Some a → slice_get cs j ≡ Some b → a.port ≡ b.port → a ≡ b
one_connection sc ports before [] i j a b h e f p = absurd (cc)
one_connection sc ports before (x ∷ cs) zero zero a b h e f p = sym (some_is e) ∙ some_is f
one_connection sc ports before (x ∷ cs) zero (suc j) a b h e f p =
    let own : Use = record { name = x.port; declared = is_in x.port ports && not (is_in x.port (port_names before)) } in
    let more = back_known (own ∷ net sc x.net ∷ []) (connection_uses sc ports (before ++ x ∷ []) cs) h in
    absurd (true_false (last_in before x b.port (sym p ∙ ap (λ (y : Connection). y.port) (sym (some_is e)))) (fresh sc ports (before ++ x ∷ []) cs j b more f))
one_connection sc ports before (x ∷ cs) (suc i) zero a b h e f p =
    let own : Use = record { name = x.port; declared = is_in x.port ports && not (is_in x.port (port_names before)) } in
    let more = back_known (own ∷ net sc x.net ∷ []) (connection_uses sc ports (before ++ x ∷ []) cs) h in
    absurd (true_false (last_in before x a.port (p ∙ ap (λ (y : Connection). y.port) (sym (some_is f)))) (fresh sc ports (before ++ x ∷ []) cs i a more e))
one_connection sc ports before (x ∷ cs) (suc i) (suc j) a b h e f p =
    let own : Use = record { name = x.port; declared = is_in x.port ports && not (is_in x.port (port_names before)) } in
    let more = back_known (own ∷ net sc x.net ∷ []) (connection_uses sc ports (before ++ x ∷ []) cs) h in
    one_connection sc ports (before ++ x ∷ []) cs i j a b more e f p

listed_at : (cs : List Connection) (c : Connection) (h : Contains cs c) → slice_get cs h.0 ≡ Some c
listed_at cs c h = slice_get-get_or cs h.0 c h.1 ∙ ap Some h.2

-- names in a module
pub net_named : (m : Module) (a : Name) (i : ℕ) → IsNet m a i → slice_get (names_of m) i ≡ Some a
net_named m a i h =
    let nets = map (λ (n : Net). n.name) m.nets in let mems = map (λ (k : Mem). k.name) m.mems in
    in_front (nets ++ mems) (map (λ (x : Instance). x.name) m.instances) i a (in_front nets mems i a (slice_get-map (λ (n : Net). n.name) m.nets i ∙ h))

mem_named : (m : Module) (a : Name) (i : ℕ) → IsMem m a i → slice_get (names_of m) (length (map (λ (n : Net). n.name) m.nets) + i) ≡ Some a
mem_named m a i h =
    let nets = map (λ (n : Net). n.name) m.nets in let mems = map (λ (k : Mem). k.name) m.mems in
    in_front (nets ++ mems) (map (λ (x : Instance). x.name) m.instances) (length nets + i) a (in_back nets mems i a (slice_get-map (λ (k : Mem). k.name) m.mems i ∙ h))

-- designs whose modules have the same nets and ports, by number
record Alike (d e : Design) : Type 0 where
  inner : (k : ℕ) (x y : Module) → slice_get d.modules k ≡ Some x → slice_get e.modules k ≡ Some y → (y.ports ≡ x.ports) × (y.nets ≡ x.nets)
  numbers : (i j : ℕ) (x y : Module) → slice_get d.modules i ≡ Some x → slice_get e.modules j ≡ Some y → x.name ≡ y.name → j ≡ i

module _ (d e : Design) (alike : Alike d e) (m n : Module) (nets : n.nets ≡ m.nets) (mems : n.mems ≡ m.mems) (differ : AllDiffer (names_of m)) where
  same_net : (a : Name) (i j : ℕ) → IsNet m a i → IsNet n a j → j ≡ i
  same_net a i j h g =
      let g' : IsNet m a j = subst (λ l. option_map (λ (x : Net). x.name) (slice_get l j) ≡ Some a) nets g in
      sym (differ i j a (net_named m a i h) (net_named m a j g'))

  same_mem : (a : Name) (i j : ℕ) → IsMem m a i → IsMem n a j → j ≡ i
  same_mem a i j h g =
      let g' : IsMem m a j = subst (λ l. option_map (λ (x : Mem). x.name) (slice_get l j) ≡ Some a) mems g in
      let r = differ _ _ a (mem_named m a i h) (mem_named m a j g') in
      omega (arith, r)

  assign_same : (t : NamedAssign) (x y : Assign) → AssignIs m t x → AssignIs n t y → y ≡ x
  assign_same t x y h g =
      let p = same_net t.target x.target y.target h.0 g.0 in
      let q = same_expr m n same_net same_mem t.expr x.expr y.expr h.1 g.1 in
      λ i. record { target = p i; expr = q i }

  update_same : (t : UpdateTree) (x y : Update) → UpdateIs m t x → UpdateIs n t y → y ≡ x
  update_same (RegisterUpdate enable name value) x y h g =
      let p = same_net enable x.enable y.enable h.enabled g.enabled in
      let q = g.target ∙ ap (λ k. Reg k) (same_net name h.register g.register h.named g.named) ∙ sym h.target in
      let r = same_net value x.value y.value h.writes g.writes in
      λ i. record { enable = p i; target = q i; value = r i }
  update_same (CellUpdate enable name address value) x y h g =
      let p = same_net enable x.enable y.enable h.enabled g.enabled in
      let k = same_mem name h.memory g.memory h.named g.named in
      let a = same_net address h.at g.at h.addressed g.addressed in
      let q : y.target ≡ x.target = g.target ∙ (λ i. Cell (k i) (a i)) ∙ sym h.target in
      let r = same_net value x.value y.value h.writes g.writes in
      λ i. record { enable = p i; target = q i; value = r i }

  instance_same : (t : NamedInstance) → AreKnown t → (x y : Instance) → InstanceIs d m t x → InstanceIs e n t y → y ≡ x
  instance_same t known x y h g =
      let number = alike.numbers x.module y.module h.inner g.inner h.of g.of (h.module_named ∙ sym g.module_named) in
      let same = alike.inner x.module h.inner g.inner h.of (subst (λ k. slice_get e.modules k ≡ Some g.inner) number g.of) in
      let nets_are = pairwise_same (IsJoined m h.inner t.connections) (IsJoined n g.inner t.connections) h.inner.ports x.nets y.nets
      (λ k p a b at j l.
      let l' : option_map (λ (z : Net). z.name) (slice_get h.inner.nets p.net) ≡ Some l.port = subst (λ ns. option_map (λ (z : Net). z.name) (slice_get ns p.net) ≡ Some l.port) same.1 l.named in
      let ports : j.port ≡ l.port = some_is (sym j.named ∙ l') in
      let one = one_connection known.0 known.1 [] t.connections j.listed.0 l.listed.0 _ _ known.2 (listed_at t.connections _ j.listed) (listed_at t.connections _ l.listed) ports in
      same_net j.net a b j.joined (subst (λ z. IsNet n z b) (sym (ap (λ (z : Connection). z.net) one)) l.joined))
      h.joined (subst (λ ps. Pairwise (IsJoined n g.inner t.connections) ps y.nets) same.0 g.joined) in
      let name = g.named ∙ sym h.named in
      λ i. record { «module» = number i; name = name i; nets = nets_are i }

  module_same : (t : ModuleTree) → n.ports ≡ m.ports → AllAt AreKnown (instances_in t.items) → ModuleIs d t m → ModuleIs e t n → n ≡ m
  module_same t ports known h g =
      let name = g.named ∙ sym h.named in
      let assigns = pairwise_same (AssignIs m) (AssignIs n) (assigns_in t.items) m.assigns n.assigns (λ k u x y at a b. assign_same u x y a b) h.assigns g.assigns in
      let updates = pairwise_same (UpdateIs m) (UpdateIs n) (updates_in t.items) m.updates n.updates (λ k u x y at a b. update_same u x y a b) h.updates g.updates in
      let instances = pairwise_same (InstanceIs d m) (InstanceIs e n)
      (instances_in t.items) m.instances n.instances
      (λ k u x y at a b. instance_same u (known k u at) x y a b) h.instances g.instances in
      λ i. record { name = name i; ports = ports i; nets = nets i; mems = mems i; assigns = assigns i; updates = updates i; instances = instances i }

pub one_design : (trees : List ModuleTree) (d other : Design)
    → Pairwise (ModuleIs d) trees d.modules → Pairwise IsNumbered trees d.modules
    → Pairwise (ModuleIs other) trees other.modules → Pairwise IsNumbered trees other.modules
    → unknown_in trees ≡ None → IsAccepted d → other ≡ d
one_design trees d other p q r s known a =
    let modules = lists_same d.modules other.modules (pairwise_count (ModuleIs other) trees other.modules r ∙ sym (pairwise_count (ModuleIs d) trees d.modules p)) same in
    λ i. record { modules = modules i }
  where
    tree_at : (k : ℕ) (x : Module) → slice_get d.modules k ≡ Some x → (t : ModuleTree) × (slice_get trees k ≡ Some t)
    tree_at k x e = there trees k (omega (arith, slice_get_within d.modules k x e, pairwise_count (ModuleIs d) trees d.modules p))

    nets_at : (k : ℕ) (x y : Module) → slice_get d.modules k ≡ Some x → slice_get other.modules k ≡ Some y → (y.ports ≡ x.ports) × (y.nets ≡ x.nets)
    nets_at k x y e f =
        let t = tree_at k x e in
        let u = pairwise_there IsNumbered trees d.modules k t.0 x q t.1 e in
        let v = pairwise_there IsNumbered trees other.modules k t.0 y s t.1 f in
        let h = pairwise_there (ModuleIs d) trees d.modules k t.0 x p t.1 e in
        let g = pairwise_there (ModuleIs other) trees other.modules k t.0 y r t.1 f in
        (ports_same x y t.0.ports x.ports y.ports h.ports g.ports (v.ports ∙ sym u.ports), v.nets ∙ sym u.nets)

    name_at : (k : ℕ) (y : Module) → slice_get other.modules k ≡ Some y → slice_get (map (λ (m : Module). m.name) d.modules) k ≡ Some y.name
    name_at k y f =
        let x = there d.modules k (omega (arith, slice_get_within other.modules k y f, pairwise_count (ModuleIs d) trees d.modules p, pairwise_count (ModuleIs other) trees other.modules r)) in
        let t = tree_at k x.0 x.1 in
        let h = pairwise_there (ModuleIs d) trees d.modules k t.0 x.0 p t.1 x.1 in
        let g = pairwise_there (ModuleIs other) trees other.modules k t.0 y r t.1 f in
        slice_get-map (λ (m : Module). m.name) d.modules k ∙ ap (option_map (λ (m : Module). m.name)) x.1 ∙ ap Some (h.named ∙ sym g.named)

    alike : Alike d other
    alike = record {
      inner = nets_at;
      numbers = λ i j x y e f named. sym (a.names i j y.name (slice_get-map (λ (m : Module). m.name) d.modules i ∙ ap (option_map (λ (m : Module). m.name)) e ∙ ap Some named) (name_at j y f));
    }

    same : (k : ℕ) (x y : Module) → slice_get d.modules k ≡ Some x → slice_get other.modules k ≡ Some y → y ≡ x
    same k x y e f =
        let t = tree_at k x e in
        let nets = nets_at k x y e f in
        let h = pairwise_there (ModuleIs d) trees d.modules k t.0 x p t.1 e in
        let g = pairwise_there (ModuleIs other) trees other.modules k t.0 y r t.1 f in
        let uses = module_known [] trees k t.0 known t.1 in
        let items = back_known (port_uses t.0.ports) (items_uses (take k trees) t.0.ports [] t.0.items) uses in
        module_same d other alike x y nets.1 (mems_same x.mems y.mems (sym g.memories ∙ h.memories)) (a.sound k x e).names t.0 nets.0 (instances_known (take k trees) t.0.ports [] t.0.items items) h g
