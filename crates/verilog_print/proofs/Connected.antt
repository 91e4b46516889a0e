-- The names that the tree of an instance uses are declared: its module's and the nets', and its module's ports, each once.
use Rattle.std.proofs.Common.{◌≡◌, ◌∙◌, ℕ, zero, suc, ◌<◌, Bool, true, false, List, [], ◌∷◌, ◌++◌, length, refl, sym, ap, subst, arith, Option, Some, append_assoc, if◌then◌else◌}
use Rattle.std.specs.Prelude.{map, slice_get, bytes_eq}
use Rattle.std.specs.List.{zip}
use Rattle.std.specs.Option.{option_map}
use Rattle.std.proofs.lemmas.List.{map-append}
use Rattle.std.proofs.lemmas.Option.{slice_get-map}
use Rattle.std.proofs.lemmas.Slice.Eq.{bytes_eq-Decides}
use Rattle.rtl_ir.specs.declared.design.Net.{Net}
use Rattle.rtl_ir.specs.declared.design.Port.{Port}
use Rattle.rtl_ir.specs.declared.design.Module.{Module}
use Rattle.rtl_ir.specs.Formed.{IsFormedModule}
use Rattle.rtl_ir.specs.Rules.{AllDiffer, names_of as names_in}
use Rattle.rtl_text.specs.Tree.{Name, Connection, ModuleTree}
use Rattle.rtl_reading.specs.Uses.{Scope, is_in, is_net, port_name, module_named, connection_uses, joined_uses}
use Rattle.verilog_print.specs.Printed.{name_of}
use Rattle.verilog_print.proofs.Names.{AllKnown, both_true, get_first, not_before}
use Rattle.verilog_print.proofs.Knows.{tree_name}
use Rattle.verilog_print.proofs.Trees.{element_at, port_tree}
use Rattle.verilog_print.proofs.Modules.{module_tree}
use Rattle.verilog_print.proofs.Instances.{connection_tree}

-- modules of different names
abbrev pub NamesDiffer : List Module → Type 0
NamesDiffer modules = (j k : ℕ) (m n : Module) → slice_get modules j ≡ Some m → slice_get modules k ≡ Some n → m.name ≡ n.name → j ≡ k

found_from : (modules : List Module) (x inner : Module) (left : Option ModuleTree) (b : Bool)
    → bytes_eq x.name inner.name ≡ b → (b ≡ true → x ≡ inner)
    → (b ≡ false → left ≡ Some (module_tree modules inner))
    → (if b then Some (module_tree modules x) else left) ≡ Some (module_tree modules inner)
found_from modules x inner left true e f g = ap (λ m. Some (module_tree modules m)) (f refl)
found_from modules x inner left false e f g = g refl

-- a module is found by its name among the trees of modules
pub found : (modules earlier : List Module) (j : ℕ) (inner : Module)
    → slice_get earlier j ≡ Some inner → NamesDiffer earlier
    → module_named (map (module_tree modules) earlier) inner.name ≡ Some (module_tree modules inner)
unfolding module_tree
found modules [] j inner e d = cc
found modules (x ∷ earlier) zero inner e d =
    let same : x ≡ inner = cc in
    let test : bytes_eq x.name inner.name ≡ true = (bytes_eq-Decides x.name inner.name).1 (ap (λ (m : Module). m.name) same) in
    rw test (ap (λ m. Some (module_tree modules m)) same)
found modules (x ∷ earlier) (suc j) inner e d =
    found_from modules x inner (module_named (map (module_tree modules) earlier) inner.name) (bytes_eq x.name inner.name) refl
    (λ h. let same : x.name ≡ inner.name = (bytes_eq-Decides x.name inner.name).0 h in let no : 0 ≡ suc j = d 0 (suc j) x inner refl e same in absurd (omega arith))
    (λ h. found modules earlier j inner e (λ i k m n p q s. let t : suc i ≡ suc k = d (suc i) (suc k) m n p q s in omega arith))

-- the names of a module's ports, and that they differ
pub port_names : Module → List Name
port_names m = map port_name (map (port_tree m.nets) m.ports)

name_at : (m : Module) (ports : List Port) (j : ℕ) (name : Name)
    → slice_get (map port_name (map (port_tree m.nets) ports)) j ≡ Some name → (p : Port)
    × (slice_get ports j ≡ Some p) × (name_of m.nets p.net ≡ name)
name_at m [] j name e = cc
name_at m (p ∷ ports) zero name e = let same : port_name (port_tree m.nets p) ≡ name = cc in (p, refl, sym (tree_name m.nets p) ∙ same)
name_at m (p ∷ ports) (suc j) name e = name_at m ports j name e

net_name_at : (nets : List Net) (n : ℕ) → n < length nets → slice_get (map (λ (net : Net). net.name) nets) n ≡ Some (name_of nets n)
net_name_at nets n h = let (net, e) = element_at nets n h in slice_get-map (λ (x : Net). x.name) nets n ∙ ap (option_map (λ (x : Net). x.name)) e ∙ rw e refl

pub ports_differ : (earlier : List Module) (m : Module) → IsFormedModule earlier m → AllDiffer (names_in m) → AllDiffer (map port_name (map (port_tree m.nets) m.ports))
ports_differ earlier m f d i j name e g =
    let (p, at, own) = name_at m m.ports i name e in
    let (q, other, same) = name_at m m.ports j name g in
    let inside : slice_get (names_in m) p.net ≡ Some
    (name_of m.nets p.net) = get_first _ _ p.net (name_of m.nets p.net)
    (get_first _ _ p.net (name_of m.nets p.net) (net_name_at m.nets p.net
    (f.ports i p at).net)) in
    let within : slice_get (names_in m) q.net ≡ Some
    (name_of m.nets q.net) = get_first _ _ q.net (name_of m.nets q.net)
    (get_first _ _ q.net (name_of m.nets q.net) (net_name_at m.nets q.net
    (f.ports j q other).net)) in
    f.apart i j p q at other (d p.net q.net name (inside ∙ ap Some own) (within ∙ ap Some same))

-- the connections
abbrev pub joined_names : List Connection → List Name
joined_names cs = map (λ (c : Connection). c.port) cs

pub each_joined : (m inner : Module) (ports : List Port) (nets : List ℕ)
    → length nets ≡ length ports → joined_names (map (connection_tree m.nets inner.nets)
    (zip ports nets)) ≡ map port_name (map (port_tree inner.nets) ports)
unfolding connection_tree
each_joined m inner [] nets h = refl
each_joined m inner (p ∷ ports) [] h = absurd (omega arith)
each_joined m inner (p ∷ ports) (n ∷ nets) h =
    let own : name_of inner.nets p.net ≡ port_name (port_tree inner.nets p) = sym (tree_name inner.nets p) in
    let others : joined_names (map (connection_tree m.nets inner.nets) (zip ports nets)) ≡ map port_name (map (port_tree inner.nets) ports) = each_joined m inner ports nets (omega arith) in
    rw (own, others) refl

pub each_net : (sc : Scope) (m inner : Module) (ports : List Port) (nets : List ℕ)
    → ((n : ℕ) → n < length m.nets → is_net sc (name_of m.nets n) ≡ true)
    → ((k n : ℕ) → slice_get nets k ≡ Some n → n < length m.nets)
    → (j : ℕ) (c : Connection) → slice_get (map (connection_tree m.nets inner.nets) (zip ports nets)) j ≡ Some c → is_net sc c.net ≡ true
unfolding connection_tree
each_net sc m inner [] nets f g j c e = cc
each_net sc m inner (p ∷ ports) [] f g j c e = cc
each_net sc m inner (p ∷ ports) (n
    ∷ nets) f g zero c e = let own : record
    { port = name_of inner.nets p.net; net = name_of m.nets n } ≡ c = cc in subst
    (λ (x : Connection). is_net sc x.net ≡ true) own (f n (g 0 n refl))
each_net sc m inner (p ∷ ports) (n ∷ nets) f g (suc j) c e = each_net sc m inner ports nets f (λ k x d. g (suc k) x d) j c e

pub connections_known : (sc : Scope) (ports : List Name) (before cs : List Connection)
    → ((j : ℕ) (c : Connection) → slice_get cs j ≡ Some c → is_in c.port ports ≡ true)
    → ((j : ℕ) (c : Connection) → slice_get cs j ≡ Some c → is_net sc c.net ≡ true)
    → AllDiffer (joined_names (before ++ cs)) → AllKnown (connection_uses sc ports before cs)
connections_known sc ports before [] f g d = tt
connections_known sc ports before (c ∷ cs) f g d =
    let apart : AllDiffer (joined_names before ++ c.port ∷ joined_names cs) = subst AllDiffer (map-append (λ (x : Connection). x.port) before (c ∷ cs)) d in
    let new : is_in c.port (joined_names before) ≡ false = not_before (joined_names before) c.port (joined_names cs) apart in
    let others : AllDiffer (joined_names ((before ++ c ∷ []) ++ cs)) = rw append_assoc d in (
      both_true (is_in c.port ports) (is_in c.port (joined_names before)) (f 0 c refl) new,
      (
        g 0 c refl,
        connections_known sc ports (before ++ c
            ∷ []) cs (λ j x e. f (suc j) x e) (λ j x e. g (suc j) x e) others,
      ),
    )

pub all_joined : (before ports : List Name) (cs : List Connection)
    → ((j : ℕ) (port : Name) → slice_get ports j ≡ Some port
    → is_in port (joined_names cs) ≡ true) → AllDiffer (before ++ ports)
    → AllKnown (joined_uses before ports cs)
all_joined before [] cs f d = tt
all_joined before (p ∷ ports) cs f d =
    let others : AllDiffer ((before ++ p ∷ []) ++ ports) = rw append_assoc d in
    (both_true (is_in p (joined_names cs)) (is_in p before) (f 0 p refl) (not_before before p ports d), all_joined (before ++ p ∷ []) ports cs (λ j x e. f (suc j) x e) others)
