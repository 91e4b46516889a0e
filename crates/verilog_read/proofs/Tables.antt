-- What tables say of the nets and memories that are declared.
use Rattle.std.proofs.Common.{◌≡◌, ◌∙◌, ℕ, zero, suc, ◌+◌, Bool, true, false, ◌||◌, cond, List, [], ◌∷◌, ◌++◌, length, map, Option, Some, None, is_some, refl, sym, ap, subst, arith}
use Rattle.std.specs.Prelude.{slice_get, bytes_eq}
use Rattle.std.specs.List.{list_any}
use Rattle.std.specs.Cmp.Lexicographic.{bytes_decides}
use Rattle.std.proofs.lemmas.List.Folds.{list_any-append}
use Rattle.rtl_ir.specs.declared.design.Net.{Net}
use Rattle.rtl_ir.specs.declared.design.Mem.{Mem}
use Rattle.rtl_ir.specs.declared.design.Module.{Module}
use Rattle.rtl_text.specs.Tree.{Name, PortTree, InputPort, OutputPort, ItemTree, WireItem, RegisterItem, MemoryItem, AssignItem, AlwaysItem, InstanceItem}
use Rattle.rtl_text.specs.Text.{IsNet, IsMem, DeclaredMemory, wires_in, registers_in, memories_of}
use Rattle.rtl_reading.specs.Uses.{Scope, is_in, port_name, names_of, is_net, is_register, is_memory, net, register, memory, first_undeclared}
use Rattle.rtl_reading.specs.Reads.{port_net, item_nets}
use Rattle.verilog_read.specs.Tables.{stands, number_from, number_of, IsTable}
use Rattle.verilog_read.specs.declared.table.Table.{Table}
use Rattle.verilog_read.specs.Built.{HasNets}
use Rattle.verilog_read.specs.Walk.{AllDeclared, net_name, register_name, memory_name}

pub same_name : (a b : Name) → bytes_eq a b ≡ true → a ≡ b
same_name a b e = (bytes_decides a b).0 e

pub is_itself : (a : Name) → bytes_eq a a ≡ true
is_itself a = (bytes_decides a a).1 refl

-- one test or its converse
pub turned : (a b : Name) → bytes_eq a b ≡ bytes_eq b a
turned a b = by_tests (bytes_eq a b) (bytes_eq b a) refl refl
  where
    by_tests : (x y : Bool) → bytes_eq a b ≡ x → bytes_eq b a ≡ y → bytes_eq a b ≡ bytes_eq b a
    by_tests true true e f = e ∙ sym f
    by_tests false false e f = e ∙ sym f
    by_tests true false e f = let p : a ≡ b = same_name a b e in let q : bytes_eq b a ≡ true = (bytes_decides b a).1 (sym p) in e ∙ sym q
    by_tests false true e f = let p : b ≡ a = same_name b a f in let q : bytes_eq a b ≡ true = (bytes_decides a b).1 (sym p) in q ∙ sym f

abbrev pub else_pick : Option ℕ → Option ℕ → Option ℕ
else_pick (Some n) other = Some n
else_pick None other = other

-- the number of a name with one name more
pub number_push : (k : ℕ) (ns : List (Option Name)) (o : Option Name) (q : Name) → number_from k (ns ++ o ∷ []) q ≡ else_pick (number_from k ns q) (cond (stands o q) (Some (k + length ns)) None)
number_push k [] o q = let e : k + 0 ≡ k = omega arith in rw e refl
number_push k (n ∷ ns) o q = by_head (stands n q) refl (number_push (k + 1) ns o q)
  where
    by_head : (b : Bool) → stands n q ≡ b → number_from (k + 1) (ns ++ o
        ∷ []) q ≡ else_pick (number_from (k + 1) ns q) (cond (stands o q)
        (Some (k + 1 + length ns)) None) → number_from k (n ∷ ns ++ o
        ∷ []) q ≡ else_pick (number_from k (n ∷ ns) q) (cond (stands o q) (Some (k + length (n
        ∷ ns))) None)
    by_head true e h = rw (e) refl
    by_head false e h = let f : k + 1 + length ns ≡ k + suc (length ns) = omega arith in rw (e) (h ∙ ap (λ x. else_pick (number_from (k + 1) ns q) (cond (stands o q) (Some x) None)) f)

-- the place of a name that has a number
pub number_at : (k : ℕ) (ns : List (Option Name)) (q : Name) (n : ℕ) → number_from k ns q ≡ Some n → (j : ℕ) × (n ≡ k + j) × (slice_get ns j ≡ Some (Some q))
number_at k [] q n e = absurd (cc)
number_at k (None ∷ ns) q n e = let r = number_at (k + 1) ns q n e in (suc r.0, omega (arith, r.1), r.2)
number_at k (Some a ∷ ns) q n e = by_head (bytes_eq q a) refl e (λ h. number_at (k + 1) ns q n h)
  where
    by_head : (b : Bool) → bytes_eq q a ≡ b → cond b (Some k) (number_from (k + 1) ns q) ≡ Some n → (number_from (k + 1) ns q ≡ Some n → (j : ℕ) × (n ≡ k + 1 + j) × (slice_get ns j ≡ Some (Some q)))
        → (j : ℕ) × (n ≡ k + j) × (slice_get (Some a ∷ ns) j ≡ Some (Some q))
    by_head true f h more = let p : k ≡ n = cc in (0, omega (arith, p), ap (λ x. Some (Some x)) (sym (same_name q a f)))
    by_head false f h more = let r = more h in (suc r.0, omega (arith, r.1), r.2)

pub number_place : (ns : List (Option Name)) (q : Name) (n : ℕ) → number_of ns q ≡ Some n → slice_get ns n ≡ Some (Some q)
number_place ns q n e = let r = number_at 0 ns q n e in let p : n ≡ r.0 = omega (arith, r.1) in rw p r.2

-- whether a name has a number
pub number_any : (k : ℕ) (ns : List (Option Name)) (q : Name) → is_some (number_from k ns q) ≡ list_any (λ o. stands o q) ns
number_any k [] q = refl
number_any k (n ∷ ns) q = by_head (stands n q) refl (number_any (k + 1) ns q)
  where
    by_head : (b : Bool) → stands n q ≡ b → is_some (number_from (k + 1) ns q) ≡ list_any (λ o. stands o q) ns → is_some (number_from k (n ∷ ns) q) ≡ list_any (λ o. stands o q) (n ∷ ns)
    by_head true e h = rw (e) refl
    by_head false e h = rw (e) h

or_none : (o : Option ℕ) → o ≡ else_pick o None
or_none None = refl
or_none (Some x) = refl

-- a table with one name more
pub declared_more : (names : List (Option Name)) (name q : Name) (number : ℕ)
    (old new : Option ℕ) → old ≡ number_of names q
    → new ≡ cond (bytes_eq name q) (Some number) old → number_of names name ≡ None
    → number ≡ length names → new ≡ number_of (names ++ Some name ∷ []) q
declared_more names name q number old new e f none is = f ∙ by_test (bytes_eq name q) refl ∙ sym (number_push 0 names (Some name) q)
  where
    by_test : (b : Bool) → bytes_eq name q ≡ b → cond (bytes_eq name q) (Some number) old ≡ else_pick (number_from 0 names q) (cond (bytes_eq q name) (Some (0 + length names)) None)
    by_test true h =
        let p : name ≡ q = same_name name q h in
        let g : number_from 0 names q ≡ None = ap (number_of names) (sym p) ∙ none in
        let t : bytes_eq q name ≡ true = turned q name ∙ h in
        let n : 0 + length names ≡ number = omega (arith, is) in
        rw (h, g, t, n) refl
    by_test false h =
        let t : bytes_eq q name ≡ false = turned q name ∙ h in
        rw (h, t, e) (or_none (number_from 0 names q))

-- a table that has the name already
pub declared_again : (names : List (Option Name)) (name q : Name) → is_some (number_of names name) ≡ true → number_of names q ≡ number_of (names ++ Some name ∷ []) q
declared_again names name q some = by_number (number_from 0 names q) refl ∙ sym (number_push 0 names (Some name) q)
  where
    by_test : (b : Bool) → bytes_eq q name ≡ b → number_from 0 names q ≡ None → number_from 0 names q ≡ else_pick (number_from 0 names q) (cond (bytes_eq q name) (Some (0 + length names)) None)
    by_test false h e = rw (e, h) refl
    by_test true h e = let p : q ≡ name = same_name q name h in let s : is_some
        (number_from 0 names q) ≡ true = ap (λ x. is_some
        (number_of names x)) p ∙ some in let t : false ≡ true = sym (ap is_some e) ∙ s in absurd
        (cc)

    by_number : (o : Option ℕ) → number_from 0 names q ≡ o → number_from 0 names q ≡ else_pick (number_from 0 names q) (cond (bytes_eq q name) (Some (0 + length names)) None)
    by_number (Some x) e = rw (e) refl
    by_number None e = by_test (bytes_eq q name) refl e

-- one thing more that has no such name
pub number_skip : (names : List (Option Name)) (q : Name) → number_of names q ≡ number_of (names ++ None ∷ []) q
number_skip names q = or_none (number_from 0 names q) ∙ sym (number_push 0 names None q)

-- the names that nets have, by the ports and items that declare them

or_assoc : (a b c : Bool) → (a || (b || c)) ≡ ((a || b) || c)
or_assoc true b c = refl
or_assoc false b c = refl

or_turned : (a b c : Bool) → (a || (b || c)) ≡ (b || (a || c))
or_turned true true c = refl
or_turned true false c = refl
or_turned false true c = refl
or_turned false false c = refl

ports_any : (ports : List PortTree) (q : Name) → list_any (λ o. stands o q) (map net_name (map port_net ports)) ≡ list_any (bytes_eq q) (map port_name ports)
ports_any [] q = refl
ports_any (InputPort w a ∷ ps) q = ap (λ b. bytes_eq q a || b) (ports_any ps q)
ports_any (OutputPort w a ∷ ps) q = ap (λ b. bytes_eq q a || b) (ports_any ps q)

items_any : (is : List ItemTree) (q : Name)
    → list_any (λ o. stands o q) (map net_name (item_nets is)) ≡
    (list_any (bytes_eq q) (names_of (wires_in is)) || list_any (bytes_eq q)
    (names_of (registers_in is)))
items_any [] q = refl
items_any (WireItem w a ∷ is) q = ap (λ b. bytes_eq q a || b) (items_any is q) ∙ or_assoc
    (bytes_eq q a) (list_any (bytes_eq q) (names_of (wires_in is)))
    (list_any (bytes_eq q) (names_of (registers_in is)))
items_any (RegisterItem w a ∷ is) q = ap (λ b. bytes_eq q a || b) (items_any is q) ∙ or_turned
    (bytes_eq q a) (list_any (bytes_eq q) (names_of (wires_in is)))
    (list_any (bytes_eq q) (names_of (registers_in is)))
items_any (MemoryItem w a n ∷ is) q = items_any is q
items_any (AssignItem a e ∷ is) q = items_any is q
items_any (AlwaysItem us ∷ is) q = items_any is q
items_any (InstanceItem of a cs ∷ is) q = items_any is q

pub map_joined : {A B : Type 0} (f : A → B) (xs ys : List A) → map f (xs ++ ys) ≡ map f xs ++ map f ys
map_joined f [] ys = refl
map_joined f (x ∷ xs) ys = ap (λ l. f x ∷ l) (map_joined f xs ys)

nets_any : (ports : List PortTree) (is : List ItemTree) (q : Name)
    → list_any (λ o. stands o q) (map net_name (map port_net ports
    ++ item_nets is)) ≡ is_in q (map port_name ports ++ names_of (wires_in is)
    ++ names_of (registers_in is))
nets_any ports is q =
    let test : Option Name → Bool = λ o. stands o q in
    let a = list_any-append (bytes_eq q) (map port_name ports ++ names_of (wires_in is)) (names_of (registers_in is)) in
    let b = list_any-append (bytes_eq q) (map port_name ports) (names_of (wires_in is)) in
    let c = list_any-append test (map net_name (map port_net ports)) (map net_name (item_nets is)) in
    ap (list_any test) (map_joined net_name (map port_net ports) (item_nets is)) ∙ c
    ∙ ap (λ x. x || list_any test (map net_name (item_nets is))) (ports_any ports q)
    ∙ ap (λ x. list_any (bytes_eq q) (map port_name ports) || x) (items_any is q)
    ∙ or_assoc (list_any (bytes_eq q) (map port_name ports)) (list_any (bytes_eq q) (names_of (wires_in is))) (list_any (bytes_eq q) (names_of (registers_in is)))
    ∙ ap (λ x. x || list_any (bytes_eq q) (names_of (registers_in is))) (sym b) ∙ sym a

port_registers_any : (ports : List PortTree) (nets : List Net) (q : Name)
    → list_any (λ o. stands o q) (map register_name (map port_net ports
    ++ nets)) ≡ list_any (λ o. stands o q) (map register_name nets)
port_registers_any [] nets q = refl
port_registers_any (InputPort w a ∷ ps) nets q = port_registers_any ps nets q
port_registers_any (OutputPort w a ∷ ps) nets q = port_registers_any ps nets q

item_registers_any : (is : List ItemTree) (q : Name) → list_any (λ o. stands o q) (map register_name (item_nets is)) ≡ is_in q (names_of (registers_in is))
item_registers_any [] q = refl
item_registers_any (WireItem w a ∷ is) q = item_registers_any is q
item_registers_any (RegisterItem w a ∷ is) q = ap (λ b. bytes_eq q a || b) (item_registers_any is q)
item_registers_any (MemoryItem w a n ∷ is) q = item_registers_any is q
item_registers_any (AssignItem a e ∷ is) q = item_registers_any is q
item_registers_any (AlwaysItem us ∷ is) q = item_registers_any is q
item_registers_any (InstanceItem of a cs ∷ is) q = item_registers_any is q

memories_any : (mems : List Mem) (q : Name) → list_any (λ o. stands o q) (map memory_name mems) ≡ is_in q (map (λ (d : DeclaredMemory). d.name) (memories_of mems))
memories_any [] q = refl
memories_any (k ∷ ks) q = ap (λ b. bytes_eq q k.name || b) (memories_any ks q)

net_is_known : {sc : Scope} {m : Module} (q : Name) → HasNets sc m → is_some (number_of (map net_name m.nets) q) ≡ is_net sc q
net_is_known {sc = sc} {m = m} q h = number_any 0 (map net_name m.nets) q ∙ ap (λ l. list_any (λ o. stands o q) (map net_name l)) h.nets ∙ nets_any sc.ports sc.items q

register_is_known : {sc : Scope} {m : Module} (q : Name) → HasNets sc m → is_some (number_of (map register_name m.nets) q) ≡ is_register sc q
register_is_known {sc = sc} {m = m} q h = number_any 0 (map register_name m.nets) q ∙ ap
    (λ l. list_any (λ o. stands o q) (map register_name l)) h.nets ∙ port_registers_any sc.ports
    (item_nets sc.items) q ∙ item_registers_any sc.items q

memory_is_known : {sc : Scope} {m : Module} (q : Name) → HasNets sc m → is_some (number_of (map memory_name m.mems) q) ≡ is_memory sc q
memory_is_known {sc = sc} {m = m} q h = number_any 0 (map memory_name m.mems) q ∙ memories_any m.mems q ∙ ap (λ l. is_in q (map (λ (d : DeclaredMemory). d.name) l)) h.mems

-- the net at a place of a name
net_at : (nets : List Net) (n : ℕ) (q : Name) → slice_get (map net_name nets) n ≡ Some (Some q) → (x : Net) × (slice_get nets n ≡ Some x) × (x.name ≡ q)
net_at [] n q e = absurd (cc)
net_at (x ∷ nets) zero q e = (x, refl, (cc))
net_at (x ∷ nets) (suc n) q e = net_at nets n q e

register_at : (nets : List Net) (n : ℕ) (q : Name) → slice_get (map register_name nets) n ≡ Some (Some q) → (x : Net) × (slice_get nets n ≡ Some x) × (x.name ≡ q)
register_at [] n q e = absurd (cc)
register_at (x ∷ nets) (suc n) q e = register_at nets n q e
register_at (x ∷ nets) zero q e = by_reg x.reg e
  where
    by_reg : (b : Bool) → Some (cond b (Some x.name) None) ≡ Some (Some q) → (y : Net) × (slice_get (x ∷ nets) zero ≡ Some y) × (y.name ≡ q)
    by_reg true f = (x, refl, (cc))
    by_reg false f = absurd (cc)

memory_at : (mems : List Mem) (n : ℕ) (q : Name) → slice_get (map memory_name mems) n ≡ Some (Some q) → (x : Mem) × (slice_get mems n ≡ Some x) × (x.name ≡ q)
memory_at [] n q e = absurd (cc)
memory_at (x ∷ mems) zero q e = (x, refl, (cc))
memory_at (x ∷ mems) (suc n) q e = memory_at mems n q e

pub lone_known : (name : Name) (b : Bool) → b ≡ true → first_undeclared (record { name = name; declared = b } ∷ []) ≡ None
lone_known name true e = refl
lone_known name false e = absurd (cc)

pub lone_unknown : (name : Name) (b : Bool) → b ≡ false → first_undeclared (record { name = name; declared = b } ∷ []) ≡ Some name
lone_unknown name true e = absurd (cc)
lone_unknown name false e = refl

module _ {sc : Scope} {m : Module} (q : Name) (h : HasNets sc m) where
  pub net_found : (n : ℕ) → number_of (map net_name m.nets) q ≡ Some n → AllDeclared (net sc q ∷ []) (IsNet m q n)
  net_found n e =
      let r = net_at m.nets n q (number_place (map net_name m.nets) q n e) in
      record { known = lone_known q (is_net sc q) (sym (net_is_known q h) ∙ ap is_some e); holds = rw r.1 (ap Some r.2) }

  pub net_missing : number_of (map net_name m.nets) q ≡ None → first_undeclared (net sc q ∷ []) ≡ Some q
  net_missing e = lone_unknown q (is_net sc q) (sym (net_is_known q h) ∙ ap is_some e)

  pub register_found : (n : ℕ) → number_of (map register_name m.nets) q ≡ Some n → AllDeclared (register sc q ∷ []) (IsNet m q n)
  register_found n e =
      let r = register_at m.nets n q (number_place (map register_name m.nets) q n e) in
      record { known = lone_known q (is_register sc q) (sym (register_is_known q h) ∙ ap is_some e); holds = rw r.1 (ap Some r.2) }

  pub register_missing : number_of (map register_name m.nets) q ≡ None → first_undeclared (register sc q ∷ []) ≡ Some q
  register_missing e = lone_unknown q (is_register sc q) (sym (register_is_known q h) ∙ ap is_some e)

  pub memory_found : (n : ℕ) → number_of (map memory_name m.mems) q ≡ Some n → AllDeclared (memory sc q ∷ []) (IsMem m q n)
  memory_found n e =
      let r = memory_at m.mems n q (number_place (map memory_name m.mems) q n e) in
      record { known = lone_known q (is_memory sc q) (sym (memory_is_known q h) ∙ ap is_some e); holds = rw r.1 (ap Some r.2) }

  pub memory_missing : number_of (map memory_name m.mems) q ≡ None → first_undeclared (memory sc q ∷ []) ≡ Some q
  memory_missing e = lone_unknown q (is_memory sc q) (sym (memory_is_known q h) ∙ ap is_some e)

-- the tables with a net more, and with a memory more

pub push_named : {A : Type 0} (name_of : A → Option Name) (xs : List A) (x : A) (t : Table) → IsTable t (map name_of xs ++ name_of x ∷ []) → IsTable t (map name_of (xs ++ x ∷ []))
push_named name_of xs x t h = subst (IsTable t) (sym (map_joined name_of xs (x ∷ []))) h

pub skip_named : {A : Type 0} (name_of : A → Option Name) (xs : List A) (x : A) (t : Table) → name_of x ≡ None → IsTable t (map name_of xs) → IsTable t (map name_of (xs ++ x ∷ []))
skip_named name_of xs x t e h q =
    h q ∙ number_skip (map name_of xs) q.now ∙ ap (λ o. number_of (map name_of xs ++ o ∷ []) q.now) (sym e) ∙ ap (λ l. number_of l q.now) (sym (map_joined name_of xs (x ∷ [])))
