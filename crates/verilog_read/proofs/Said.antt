-- A module that was read is what the tree says.
use Rattle.std.proofs.Common.{◌≡◌, ◌∙◌, ℕ, zero, suc, ◌+◌, ◌<◌, ◌≤◌, ◌≢◌, Bool, true, false, ◌||◌}
use Rattle.std.proofs.Common.{◌==◌, List, [], ◌∷◌, ◌++◌, length, map, Some, refl, sym, ap, subst}
use Rattle.std.proofs.Common.{append_assoc, arith, ◌⊎◌, inl, inr}
use Rattle.std.specs.Prelude.{slice_get, take}
use Rattle.std.proofs.lemmas.Option.{slice_get_within}
use Rattle.std.proofs.lemmas.Bool.{cases_lt}
use Rattle.std.proofs.lemmas.Bool.Decides.{nat_tests}
use Rattle.std.proofs.lemmas.List.{length-append}
use Rattle.rtl_check.proofs.Places.{at_seam}
use Rattle.rtl_ir.specs.declared.design.Net.{Net}
use Rattle.rtl_ir.specs.declared.design.Port.{Port}
use Rattle.rtl_ir.specs.declared.design.Instance.{Instance}
use Rattle.rtl_ir.specs.declared.design.Module.{Module}
use Rattle.rtl_ir.specs.declared.design.Design.{Design}
use Rattle.rtl_text.specs.Tree.{PortTree, InputPort, OutputPort, ItemTree, WireItem, RegisterItem, MemoryItem, AssignItem, AlwaysItem, InstanceItem, Connection, ModuleTree}
use Rattle.rtl_text.specs.Text.{Pairwise, PortIs, IsJoined, InstanceIs, ModuleIs, NamedInstance, is_port, wires_in, wires_from, registers_in, registers_of, instances_in}
use Rattle.rtl_reading.specs.Uses.{port_name}
use Rattle.rtl_reading.specs.Reads.{port_net, item_nets, numbers_from, IsNumbered}
use Rattle.verilog_read.specs.Built.{IsJoinedTo, IsPartOf, IsSaid, port_of, ports_from}
use Rattle.verilog_read.specs.Walk.{AreSaid, module_scope}
use Rattle.verilog_read.proofs.Grow.{pairwise_map}

-- the net of a port, by its place
net_there : (m : Module) (front back : List Net) (p : PortTree) → m.nets ≡ front ++ (port_net p ∷ back) → slice_get m.nets (length front) ≡ Some (port_net p)
net_there m front back p e = ap (λ l. slice_get l (length front)) e ∙ at_seam front (port_net p) back

-- one port is behind the nets in front
behind : (front : List Net) (p : PortTree) (ps : List PortTree) (back : List Net) → front ++ (map port_net (p ∷ ps) ++ back) ≡ (front ++ port_net p ∷ []) ++ (map port_net ps ++ back)
behind front p ps back = sym (append_assoc front (port_net p ∷ []) (map port_net ps ++ back))

module _ (m : Module) where
  ports_are : (front : List Net) (ps : List PortTree) (back : List Net) → m.nets ≡ front ++ (map port_net ps ++ back) → Pairwise (PortIs m) ps (ports_from (length front) ps)
  ports_are front [] back e = tt
  ports_are front (p ∷ ps) back e =
      let n : length (front ++ port_net p ∷ []) ≡ length front + 1 = length-append front (port_net p ∷ []) in
      (this p e, subst (λ k. Pairwise (PortIs m) ps (ports_from k ps)) n (ports_are (front ++ port_net p ∷ []) ps back (e ∙ behind front p ps back)))
    where
      this : (p : PortTree) → m.nets ≡ front ++ (port_net p ∷ (map port_net ps ++ back)) → PortIs m p (port_of (length front) p)
      this (InputPort w name) f = record { net = port_net (InputPort w name); of = net_there m front _ (InputPort w name) f; named = refl; wide = refl; wire = refl; direction = refl }
      this (OutputPort w name) f = record { net = port_net (OutputPort w name); of = net_there m front _ (OutputPort w name) f; named = refl; wide = refl; wire = refl; direction = refl }

-- which nets are ports'
eq_self : (n : ℕ) → (n == n) ≡ true
eq_self n = grind (arith, nat_tests)

eq_not : (k n : ℕ) → k ≢ n → (k == n) ≡ false
eq_not k n ne = grind (arith, nat_tests)

port_net_of : (k : ℕ) (p : PortTree) → (port_of k p).net ≡ k
port_net_of k (InputPort w name) = refl
port_net_of k (OutputPort w name) = refl

or_true : (a b : Bool) → b ≡ true → (a || b) ≡ true
or_true true b e = refl
or_true false b e = e

is_port_within : (k : ℕ) (ps : List PortTree) (n : ℕ) → k ≤ n → n < k + length ps → is_port (ports_from k ps) n ≡ true
is_port_within k [] n h lt = absurd (omega arith)
is_port_within k (p ∷ ps) n h lt = by_place (cases_lt k n) (λ less. is_port_within (k + 1) ps n (omega arith) (omega arith))
  where
    by_place : (k < n) ⊎ (n ≤ k) → (k < n → is_port (ports_from (k + 1) ps) n ≡ true) → is_port (ports_from k (p ∷ ps)) n ≡ true
    by_place (inl less) more = or_true ((port_of k p).net == n) (is_port (ports_from (k + 1) ps) n) (more less)
    by_place (inr ge) more = let e : k ≡ n = omega arith in rw (port_net_of k p, e, eq_self n) refl

is_port_past : (k : ℕ) (ps : List PortTree) (n : ℕ) → k + length ps ≤ n → is_port (ports_from k ps) n ≡ false
is_port_past k [] n h = refl
is_port_past k (p ∷ ps) n h = let ne : k ≢ n = omega arith in let e = eq_not k n ne in rw (port_net_of k p, e) (is_port_past (k + 1) ps n (omega arith))

-- the wires, behind the nets of the ports
wires_behind : (all : List Port) (k : ℕ) (ps : List PortTree) (nets : List Net)
    → ((n : ℕ) → k ≤ n → n < k + length ps → is_port all n ≡ true)
    → wires_from all k (map port_net ps ++ nets) ≡ wires_from all (k + length ps) nets
wires_behind all k [] nets h = let e : k + 0 ≡ k = omega arith in rw e refl
wires_behind all k (p ∷ ps) nets h =
    let e : k + 1 + length ps ≡ k + suc (length ps) = omega arith in
    skip p (h k (omega arith) (omega arith)) ∙ wires_behind all (k + 1) ps nets (λ n a b. h n (omega arith) (omega arith)) ∙ ap (λ j. wires_from all j nets) e
  where
    skip : (q : PortTree) → is_port all k ≡ true → wires_from all k (port_net q ∷ (map port_net ps ++ nets)) ≡ wires_from all (k + 1) (map port_net ps ++ nets)
    skip (InputPort w name) f = rw f refl
    skip (OutputPort w name) f = rw f refl

wires_of_items : (all : List Port) (k : ℕ) (is : List ItemTree) → ((n : ℕ) → k ≤ n → is_port all n ≡ false) → wires_from all k (item_nets is) ≡ wires_in is
wires_of_items all k [] h = refl
wires_of_items all k (WireItem w name ∷ is) h = let f = h k (omega arith) in rw f (ap (λ l. record { name = name; width = w } ∷ l) (wires_of_items all (k + 1) is (λ n a. h n (omega arith))))
wires_of_items all k (RegisterItem w name ∷ is) h = wires_of_items all (k + 1) is (λ n a. h n (omega arith))
wires_of_items all k (MemoryItem w name n ∷ is) h = wires_of_items all k is h
wires_of_items all k (AssignItem name e ∷ is) h = wires_of_items all k is h
wires_of_items all k (AlwaysItem us ∷ is) h = wires_of_items all k is h
wires_of_items all k (InstanceItem of name cs ∷ is) h = wires_of_items all k is h

registers_are : (ps : List PortTree) (is : List ItemTree) → registers_in is ≡ registers_of (map port_net ps ++ item_nets is)
registers_are (InputPort w name ∷ ps) is = registers_are ps is
registers_are (OutputPort w name ∷ ps) is = registers_are ps is
registers_are [] [] = refl
registers_are [] (WireItem w name ∷ is) = registers_are [] is
registers_are [] (RegisterItem w name ∷ is) = ap (λ l. record { name = name; width = w } ∷ l) (registers_are [] is)
registers_are [] (MemoryItem w name n ∷ is) = registers_are [] is
registers_are [] (AssignItem name e ∷ is) = registers_are [] is
registers_are [] (AlwaysItem us ∷ is) = registers_are [] is
registers_are [] (InstanceItem of name cs ∷ is) = registers_are [] is

numbers_are : (k : ℕ) (ps : List PortTree) → map (λ (p : Port). p.net) (ports_from k ps) ≡ numbers_from k ps
numbers_are k [] = refl
numbers_are k (p ∷ ps) = let e = port_net_of k p in rw e (ap (λ l. k ∷ l) (numbers_are (k + 1) ps))

-- the ports of an instance
module _ (m inner : Module) (cs : List Connection) where
  joined_are : (front : List Net) (ps : List PortTree) (back : List Net) (ns : List ℕ)
      → inner.nets ≡ front ++ (map port_net ps ++ back)
      → Pairwise (IsJoinedTo m cs) (map port_name ps) ns
      → Pairwise (IsJoined m inner cs) (ports_from (length front) ps) ns
  joined_are front [] back [] e h = tt
  joined_are front [] back (n ∷ ns) e h = absurd h
  joined_are front (p ∷ ps) back [] e h = absurd h
  joined_are front (p ∷ ps) back (n ∷ ns) e h =
      let l : length (front ++ port_net p ∷ []) ≡ length front + 1 = length-append front (port_net p ∷ []) in
      (this p e h.0, subst (λ k. Pairwise (IsJoined m inner cs) (ports_from k ps) ns) l (joined_are (front ++ port_net p ∷ []) ps back ns (e ∙ behind front p ps back) h.1))
    where
      this : (p : PortTree) → inner.nets ≡ front ++ (port_net p ∷ (map port_net ps ++ back)) → IsJoinedTo m cs (port_name p) n → IsJoined m inner cs (port_of (length front) p) n
      this (InputPort w name) f j = let g = net_there inner front (map port_net ps
          ++ back) (InputPort w name) f in record
          { port = name; net = j.net; listed = j.listed; named = rw g refl; joined = j.joined }
      this (OutputPort w name) f j = let g = net_there inner front (map port_net ps
          ++ back) (OutputPort w name) f in record
          { port = name; net = j.net; listed = j.listed; named = rw g refl; joined = j.joined }

-- the modules before one are in the design
abbrev pub AreIn : Design → List ModuleTree → Type 0
AreIn d earlier = (k : ℕ) (t : ModuleTree) → slice_get earlier k ≡ Some t → (inner : Module)
    × (slice_get d.modules k ≡ Some inner) × (inner.name ≡ t.name)
    × (inner.ports ≡ ports_from 0 t.ports) × (inner.nets ≡ map port_net t.ports
    ++ item_nets t.items)

pub length_ports : (k : ℕ) (ps : List PortTree) → length (ports_from k ps) ≡ length ps
length_ports k [] = refl
length_ports k (p ∷ ps) = ap suc (length_ports (k + 1) ps)

instance_is : (d : Design) (earlier : List ModuleTree) (m : Module) → AreIn d earlier → (t : NamedInstance) (i : Instance) → IsPartOf earlier m t i → InstanceIs d m t i
instance_is d earlier m within t i p =
    let w = within i.module p.inner p.of in
    record {
      inner = w.0;
      of = w.1;
      module_named = w.2 ∙ p.module_named;
      named = p.named;
      joined = subst (λ ps. Pairwise (IsJoined m w.0 t.connections) ps i.nets) (sym w.3) (joined_are m w.0 t.connections [] p.inner.ports (item_nets p.inner.items) i.nets w.4 p.joined);
      each_once = p.each_once ∙ sym (ap length w.3 ∙ length_ports 0 p.inner.ports);
    }

pub module_is : (d : Design) (earlier : List ModuleTree) (t : ModuleTree) (m : Module) → AreIn d earlier → IsSaid t.name (module_scope earlier t) m → ModuleIs d t m
module_is d earlier t m within s =
    let zero_more : 0 + length t.ports ≡ length t.ports = omega arith in
    record {
      named = s.named;
      ports = subst (Pairwise (PortIs m) t.ports) (sym s.ports) (ports_are m [] t.ports (item_nets t.items) s.declared.nets);
      wires = sym (ap (λ l. wires_from m.ports 0 l) s.declared.nets ∙ ap (λ ps. wires_from ps 0 (map port_net t.ports ++ item_nets t.items)) s.ports
          ∙ wires_behind (ports_from 0 t.ports) 0 t.ports (item_nets t.items) (λ n a b. is_port_within 0 t.ports n a b)
          ∙ wires_of_items (ports_from 0 t.ports) (0 + length t.ports) t.items (λ n a. is_port_past 0 t.ports n a));
      registers = registers_are t.ports t.items ∙ ap registers_of (sym s.declared.nets);
      memories = sym s.declared.mems;
      assigns = s.assigns;
      updates = s.updates;
      instances = pairwise_map (instance_is d earlier m within) (instances_in t.items) m.instances s.instances;
    }

pub is_numbered : (earlier : List ModuleTree) (t : ModuleTree) (m : Module) → IsSaid t.name (module_scope earlier t) m → IsNumbered t m
is_numbered earlier t m s = record { nets = s.declared.nets; ports = ap (map (λ (p : Port). p.net)) s.ports ∙ numbers_are 0 t.ports }

-- all modules
pairwise_at : {A B : Type 0} (R : A → B → Type 0) (xs : List A) (ys : List B)
    → length ys ≡ length xs → ((k : ℕ) (x : A) (y : B) → slice_get xs k ≡ Some x
    → slice_get ys k ≡ Some y → R x y) → Pairwise R xs ys
pairwise_at R [] [] n h = tt
pairwise_at R [] (y ∷ ys) n h = absurd (omega arith)
pairwise_at R (x ∷ xs) [] n h = absurd (omega arith)
pairwise_at R (x ∷ xs) (y ∷ ys) n h = (h 0 x y refl refl, pairwise_at R xs ys (omega arith) (λ k a b e f. h (suc k) a b e f))

pub there : {A : Type 0} (xs : List A) (k : ℕ) → k < length xs → (x : A) × (slice_get xs k ≡ Some x)
there [] k lt = absurd (omega arith)
there (x ∷ xs) zero lt = (x, refl)
there (x ∷ xs) (suc k) lt = there xs k (omega arith)

pub taken_at : {A : Type 0} (xs : List A) (n k : ℕ) (x : A) → slice_get (take n xs) k ≡ Some x → slice_get xs k ≡ Some x
taken_at xs zero k x e = absurd (cc)
taken_at [] (suc n) k x e = absurd (cc)
taken_at (y ∷ xs) (suc n) zero x e = e
taken_at (y ∷ xs) (suc n) (suc k) x e = taken_at xs n k x e

module _ (trees : List ModuleTree) (d : Design) (h : AreSaid trees d.modules) where
  are_in : (n : ℕ) → AreIn d (take n trees)
  are_in n k t e =
      let at = taken_at trees n k t e in
      let m = there d.modules k (omega (arith, slice_get_within trees k t at, h.count)) in
      let s = h.each k t m.0 at m.1 in
      (m.0, m.1, s.named, s.ports, s.declared.nets)

  pub modules_are : Pairwise (ModuleIs d) trees d.modules
  modules_are = pairwise_at (ModuleIs d) trees d.modules h.count (λ k t m a b. module_is d (take k trees) t m (are_in k) (h.each k t m a b))

  pub are_numbered : Pairwise IsNumbered trees d.modules
  are_numbered = pairwise_at IsNumbered trees d.modules h.count (λ k t m a b. is_numbered (take k trees) t m (h.each k t m a b))
