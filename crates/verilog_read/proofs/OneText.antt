-- Two accepted designs of one text are the same up to the numbers of their nets.
use Rattle.std.proofs.Common.{◌≡◌, ◌∙◌, ℕ, zero, suc, ◌+◌, Bool, true, false, ◌||◌, ◌==◌, Option, List, [], ◌∷◌, length, map, Some, None, if◌then◌else◌, refl, sym, ap, subst, arith}
use Rattle.std.specs.Prelude.{slice_get, bytes_eq}
use Rattle.std.specs.Option.{option_map}
use Rattle.std.proofs.lemmas.Option.{slice_get_within}
use Rattle.rtl_ir.specs.declared.design.Net.{Net}
use Rattle.rtl_ir.specs.declared.design.Mem.{Mem}
use Rattle.rtl_ir.specs.declared.design.Port.{Port}
use Rattle.rtl_ir.specs.declared.design.Expr.{Expr}
use Rattle.rtl_ir.specs.declared.design.Assign.{Assign}
use Rattle.rtl_ir.specs.declared.design.Update.{Update}
use Rattle.rtl_ir.specs.declared.design.Instance.{Instance}
use Rattle.rtl_ir.specs.declared.design.Module.{Module}
use Rattle.rtl_ir.specs.declared.design.Design.{Design}
use Rattle.rtl_ir.specs.Formed.{net_name, name_of}
use Rattle.rtl_ir.specs.Rules.{names_of, AllDiffer, IsAccepted}
use Rattle.rtl_text.specs.Tree.{Name, PortTree, InputPort, OutputPort, ExprTree, PlainTree}
use Rattle.rtl_text.specs.Tree.{LiteralTree, NotTree, BinaryTree, ConcatTree, RepeatTree, PartTree}
use Rattle.rtl_text.specs.Tree.{ChooseTree, CellTree, UpdateTree, RegisterUpdate, CellUpdate}
use Rattle.rtl_text.specs.Tree.{Connection, ModuleTree}
use Rattle.rtl_text.specs.Text.{Pairwise, IsNet, IsMem, PortIs, ExprIs, AssignIs, UpdateIs}
use Rattle.rtl_text.specs.Text.{IsJoined, InstanceIs, ModuleIs, NamedAssign, NamedInstance}
use Rattle.rtl_text.specs.Text.{Declared, is_port, wires_from, registers_of, assigns_in, updates_in}
use Rattle.rtl_text.specs.Text.{instances_in}
use Rattle.rtl_reading.specs.Uses.{unknown_in}
use Rattle.rtl_reading.specs.Reads.{IsNumbered}
use Rattle.rtl_reading.specs.Renumbered.{port_as, expr_as, assign_as, target_as, update_as, instance_as, IsRenumbered, AreRenumbered}
use Rattle.verilog_read.proofs.Tables.{is_itself, same_name}
use Rattle.verilog_read.proofs.Said.{there}
use Rattle.verilog_read.proofs.Grow.{pairwise_map}
use Rattle.std.proofs.lemmas.List.{length-map}
use Rattle.std.proofs.lemmas.Bool.Decides.{Decides-eqb}
use Rattle.verilog_read.proofs.SameExpr.{plain_shape, literal_shape, not_shape, binary_shape, concat_shape, repeat_shape, part_shape, choose_shape, cell_shape}
use Rattle.verilog_read.proofs.Unique.{one_design, some_is, pairwise_same, pairwise_there, pairwise_count, net_named}

-- a net of a list, with its place
abbrev Stands : List Net → Net → Type 0
Stands nets k = (j : ℕ) × (slice_get nets j ≡ Some k)

-- the place of the first net of a name
place_in : Name → List Net → ℕ
place_in name [] = 0
place_in name (k ∷ ks) = if bytes_eq name k.name then 0 else suc (place_in name ks)

-- it is a net of that name
first_named : (name : Name) (nets : List Net) (j : ℕ) (k : Net) → slice_get nets j ≡ Some k → k.name ≡ name → (x : Net) × (slice_get nets (place_in name nets) ≡ Some x) × (x.name ≡ name)
unfolding place_in
first_named name [] j k e same = absurd (cc)
first_named name (x ∷ nets) zero k e same =
    let own : x ≡ k = some_is e in
    let yes : bytes_eq name x.name ≡ true = ap (λ (l : Name). bytes_eq name l) (ap (λ (z : Net). z.name) own ∙ same) ∙ is_itself name in
    rw yes (x, refl, ap (λ (z : Net). z.name) own ∙ same)
first_named name (x ∷ nets) (suc j) k e same = go (bytes_eq name x.name) refl (first_named name nets j k e same)
  where
    go : (b : Bool) → bytes_eq name x.name ≡ b → ((y : Net) × (slice_get nets (place_in name nets) ≡ Some y) × (y.name ≡ name))
        → (y : Net) × (slice_get (x ∷ nets) (if b then 0 else suc (place_in name nets)) ≡ Some y) × (y.name ≡ name)
    go true e h = (x, refl, sym (same_name name x.name e))
    go false e h = h

-- each wire that a list of nets declares is one of them
wire_of : (ports : List Port) (k : ℕ) (nets : List Net) (i : ℕ) (d : Declared) → slice_get (wires_from ports k nets) i ≡ Some d → Stands nets (record { name = d.name; width = d.width; reg = false })
wire_of ports k [] i d e = absurd (cc)
wire_of ports k (n ∷ nets) i d e = go n.reg (is_port ports k) refl i e (λ i e. wire_of ports (k + 1) nets i d e)
  where
    go : (r b : Bool) → n.reg ≡ r → (i : ℕ) → slice_get (if r || b then wires_from ports (k + 1) nets else record { name = n.name; width = n.width } ∷ wires_from ports (k + 1) nets) i ≡ Some d
        → ((i : ℕ) → slice_get (wires_from ports (k + 1) nets) i ≡ Some d
        → Stands nets (record { name = d.name; width = d.width; reg = false }))
        → Stands (n ∷ nets) (record { name = d.name; width = d.width; reg = false })
    go true b p i e more = let (j, at) = more i e in (suc j, at)
    go false true p i e more = let (j, at) = more i e in (suc j, at)
    go false false p (suc i) e more = let (j, at) = more i e in (suc j, at)
    go false false p zero e more =
        let same : ◌≡◌ {A = Declared} (record { name = n.name; width = n.width }) d = some_is e in
        (0, λ h. Some (record { name = (same h).name; width = (same h).width; reg = p h }))

register_of : (nets : List Net) (i : ℕ) (d : Declared) → slice_get (registers_of nets) i ≡ Some d → Stands nets (record { name = d.name; width = d.width; reg = true })
register_of [] i d e = absurd (cc)
register_of (n ∷ nets) i d e = go n.reg refl i e (λ i e. register_of nets i d e)
  where
    go : (r : Bool) → n.reg ≡ r → (i : ℕ) → slice_get (if r then record { name = n.name; width = n.width } ∷ registers_of nets else registers_of nets) i ≡ Some d
        → ((i : ℕ) → slice_get (registers_of nets) i ≡ Some d
        → Stands nets (record { name = d.name; width = d.width; reg = true }))
        → Stands (n ∷ nets) (record { name = d.name; width = d.width; reg = true })
    go false p i e more = let (j, at) = more i e in (suc j, at)
    go true p (suc i) e more = let (j, at) = more i e in (suc j, at)
    go true p zero e more =
        let same : ◌≡◌ {A = Declared} (record { name = n.name; width = n.width }) d = some_is e in
        (0, λ h. Some (record { name = (same h).name; width = (same h).width; reg = p h }))

-- and each of them that is a wire and no port's, or a register, is declared
abbrev declared : Net → Declared
declared n = record { name = n.name; width = n.width }

wire_in : (ports : List Port) (k : ℕ) (nets : List Net) (n : ℕ) (x : Net)
    → slice_get nets n ≡ Some x → x.reg ≡ false → is_port ports (k + n) ≡ false → (i : ℕ)
    × (slice_get (wires_from ports k nets) i ≡ Some (declared x))
wire_in ports k [] n x e wire free = absurd (cc)
wire_in ports k (y ∷ nets) zero x e wire free =
    let own : y ≡ x = some_is e in
    let here : k + 0 ≡ k = omega arith in
    let plain : y.reg ≡ false = ap (λ (z : Net). z.reg) own ∙ wire in
    let no : is_port ports k ≡ false = ap (is_port ports) (sym here) ∙ free in
    rw plain (rw no (0, ap (λ (z : Net). Some (declared z)) own))
wire_in ports k (y ∷ nets) (suc n) x e wire free =
    let further : k + 1 + n ≡ k + suc n = omega arith in
    let (i, at) = wire_in ports (k + 1) nets n x e wire (ap (is_port ports) further ∙ free) in
    go y.reg (is_port ports k) i at
  where
    go : (r b : Bool) (i : ℕ) → slice_get (wires_from ports (k + 1) nets) i ≡ Some (declared x)
        → (j : ℕ) × (slice_get (if r || b then wires_from ports (k + 1) nets else record { name = y.name; width = y.width } ∷ wires_from ports (k + 1) nets) j ≡ Some (declared x))
    go true b i at = (i, at)
    go false true i at = (i, at)
    go false false i at = (suc i, at)

register_in : (nets : List Net) (n : ℕ) (x : Net) → slice_get nets n ≡ Some x → x.reg ≡ true → (i : ℕ) × (slice_get (registers_of nets) i ≡ Some (declared x))
register_in [] n x e reg = absurd (cc)
register_in (y ∷ nets) zero x e reg =
    let own : y ≡ x = some_is e in
    let is : y.reg ≡ true = ap (λ (z : Net). z.reg) own ∙ reg in
    rw is (0, ap (λ (z : Net). Some (declared z)) own)
register_in (y ∷ nets) (suc n) x e reg = let (i, at) = register_in nets n x e reg in go y.reg i at
  where
    go : (r : Bool) (i : ℕ) → slice_get (registers_of nets) i ≡ Some (declared x) → (j : ℕ)
        × (slice_get (if r then record { name = y.name; width = y.width }
        ∷ registers_of nets else registers_of nets) j ≡ Some (declared x))
    go true i at = (suc i, at)
    go false i at = (i, at)

-- the port of a net
port_of : (ports : List Port) (n : ℕ) → is_port ports n ≡ true → (i : ℕ) × (p : Port) × (slice_get ports i ≡ Some p) × (p.net ≡ n)
port_of [] n e = absurd (cc)
port_of (p ∷ ports) n e = go (p.net == n) refl e (λ e. port_of ports n e)
  where
    go : (b : Bool) → (p.net == n) ≡ b → (b || is_port ports n) ≡ true → (is_port ports n ≡ true → (i : ℕ) × (q : Port) × (slice_get ports i ≡ Some q) × (q.net ≡ n))
        → (i : ℕ) × (q : Port) × (slice_get (p ∷ ports) i ≡ Some q) × (q.net ≡ n)
    go true same e more = (0, p, refl, (Decides-eqb p.net n).0 same)
    go false same e more = let (i, q, at, is) = more e in (suc i, q, at, is)

-- the net of a port as its tree says it
abbrev net_by : PortTree → Net
net_by (InputPort w name) = record { name = name; width = w; reg = false }
net_by (OutputPort w name) = record { name = name; width = w; reg = false }

net_by_is : (m : Module) (t : PortTree) (p : Port) → PortIs m t p → slice_get m.nets p.net ≡ Some (net_by t)
net_by_is m (InputPort w name) p h = h.of ∙ (λ i. Some (record { name = h.named i; width = h.wide i; reg = h.wire i }))
net_by_is m (OutputPort w name) p h = h.of ∙ (λ i. Some (record { name = h.named i; width = h.wide i; reg = h.wire i }))

-- each net of a module of a tree is a net of every module of it
module _ (d e : Design) (t : ModuleTree) (m x : Module) (h : ModuleIs d t m) (g : ModuleIs e t x) where
  same_net : (n : ℕ) (k : Net) → slice_get m.nets n ≡ Some k → Stands x.nets k
  same_net n k at = of_kind k.reg (is_port m.ports n) refl refl
    where
      of_kind : (r b : Bool) → k.reg ≡ r → is_port m.ports n ≡ b → Stands x.nets k
      of_kind true b reg port =
          let (i, s) = register_in m.nets n k at reg in
          let (j, f) = register_of x.nets i (declared k) (ap (λ (l : List Declared). slice_get l i) (sym g.registers ∙ h.registers) ∙ s) in
          (j, f ∙ (λ o. Some (record { name = k.name; width = k.width; reg = sym reg o })))
      of_kind false false reg port =
          let zero_on : 0 + n ≡ n = omega arith in
          let (i, s) = wire_in m.ports 0 m.nets n k at reg (ap (is_port m.ports) zero_on ∙ port) in
          let (j, f) = wire_of x.ports 0 x.nets i (declared k) (ap (λ (l : List Declared). slice_get l i) (sym g.wires ∙ h.wires) ∙ s) in
          (j, f ∙ (λ o. Some (record { name = k.name; width = k.width; reg = sym reg o })))
      of_kind false true reg port =
          let (i, p, is, same) = port_of m.ports n port in
          let tree = there t.ports i (omega (arith, slice_get_within m.ports i p is, pairwise_count (PortIs m) t.ports m.ports h.ports)) in
          let q = there x.ports i (omega (arith, slice_get_within t.ports i tree.0 tree.1, pairwise_count (PortIs x) t.ports x.ports g.ports)) in
          let own : slice_get m.nets n ≡ Some (net_by tree.0) = ap (slice_get m.nets) (sym same) ∙ net_by_is m tree.0 p (pairwise_there (PortIs m) t.ports m.ports i tree.0 p h.ports tree.1 is) in
          (q.0.net, net_by_is x tree.0 q.0 (pairwise_there (PortIs x) t.ports x.ports i tree.0 q.0 g.ports tree.1 q.1) ∙ sym own ∙ at)

is_own : (m : Module) (n : ℕ) (y : Net) → slice_get m.nets n ≡ Some y → IsNet m (name_of m n) n
is_own m n y e = rw e refl

-- where names differ, a net is found by its name
abbrev number_in : List Net → Module → ℕ → ℕ
number_in nets m n = place_in (name_of m n) nets

found_by_name : (x : Module) → AllDiffer (names_of x) → (name : Name) (j : ℕ) → IsNet x name j → place_in name x.nets ≡ j
found_by_name x differ name j is = go (slice_get x.nets j) refl
  where
    go : (o : Option Net) → slice_get x.nets j ≡ o → place_in name x.nets ≡ j
    go None e = (let f : None ≡ Some name = ap (option_map (λ (z : Net). z.name)) (sym e) ∙ is in absurd (cc))
    go (Some k) e =
        let named : k.name ≡ name = some_is (ap (option_map (λ (z : Net). z.name)) (sym e) ∙ is) in
        let (y, at, same) = first_named name x.nets j k e named in
        differ (place_in name x.nets) j name (net_named x name (place_in name x.nets) (ap (option_map (λ (z : Net). z.name)) at ∙ ap Some same)) (net_named x name j is)

-- names found in another module with the same names
module _ (m x : Module) (f : ℕ → ℕ) (moves : (name : Name) (n : ℕ) → IsNet m name n → IsNet x name (f n)) (mems : x.mems ≡ m.mems) where
  mem_moved : (name : Name) (k : ℕ) → IsMem m name k → IsMem x name k
  mem_moved name k h = ap (λ (l : List Mem). option_map (λ (z : Mem). z.name) (slice_get l k)) mems ∙ h

  expr_moved : (t : ExprTree) (e : Expr) → ExprIs m t e → ExprIs x t (expr_as f e)
  expr_moved (PlainTree a) e h = let (i, is, r) = plain_shape m a e h in rw is (moves a i r)
  expr_moved (LiteralTree w z) e h = let (i, is, r, s) = literal_shape m w z e h in rw is (r, s)
  expr_moved (NotTree a) e h = let (i, is, r) = not_shape m a e h in rw is (moves a i r)
  expr_moved (BinaryTree s a b) e h = let (o, i, j, is, q, r, r') = binary_shape m s a b e h in rw is (q, moves a i r, moves b j r')
  expr_moved (ConcatTree a b) e h = let (i, j, is, r, r') = concat_shape m a b e h in rw is (moves a i r, moves b j r')
  expr_moved (RepeatTree n a) e h = let (o, i, is, q, r) = repeat_shape m n a e h in rw is (q, moves a i r)
  expr_moved (PartTree a hi lo) e h = let (i, k, l, is, q, q', r) = part_shape m a hi lo e h in rw is (q, q', moves a i r)
  expr_moved (ChooseTree c a b) e h = let (k, i, j, is, q, r, r') = choose_shape m c a b e h in rw is (moves c k q, moves a i r, moves b j r')
  expr_moved (CellTree z a) e h = let (k, i, is, q, r) = cell_shape m z a e h in rw is (mem_moved z k q, moves a i r)

  assign_moved : (t : NamedAssign) (a : Assign) → AssignIs m t a → AssignIs x t (assign_as f a)
  assign_moved t a h = (moves t.target a.target h.0, expr_moved t.expr a.expr h.1)

  update_moved : (t : UpdateTree) (u : Update) → UpdateIs m t u → UpdateIs x t (update_as f u)
  update_moved (RegisterUpdate enable name value) u h = record {
    register = f h.register;
    target = ap (target_as f) h.target;
    named = moves name h.register h.named;
    enabled = moves enable u.enable h.enabled;
    writes = moves value u.value h.writes;
  }
  update_moved (CellUpdate enable name address value) u h = record {
    memory = h.memory;
    at = f h.at;
    target = ap (target_as f) h.target;
    named = mem_moved name h.memory h.named;
    addressed = moves address h.at h.addressed;
    enabled = moves enable u.enable h.enabled;
    writes = moves value u.value h.writes;
  }

  joins_moved : (inner other : Module) (f' : ℕ → ℕ) → ((name : Name) (n : ℕ) → IsNet inner name n → IsNet other name (f' n)) → (cs : List Connection) (ports : List Port) (nets : List ℕ)
      → Pairwise (IsJoined m inner cs) ports nets → Pairwise (IsJoined x other cs) (map (port_as f') ports) (map f nets)
  joins_moved inner other f' moves' cs [] [] h = h
  joins_moved inner other f' moves' cs [] (n ∷ nets) h = absurd h
  joins_moved inner other f' moves' cs (p ∷ ports) [] h = absurd h
  joins_moved inner other f' moves' cs (p ∷ ports) (n ∷ nets) h = (
    record { port = h.0.port; net = h.0.net; listed = h.0.listed; named = moves' h.0.port p.net h.0.named; joined = moves h.0.net n h.0.joined },
    joins_moved inner other f' moves' cs ports nets h.1,
  )

pairwise_as : {A B C : Type 0} (R : A → B → Type 0) (S : A → C → Type 0) (f : B → C) (ts : List A) (xs : List B) → ((t : A) (x : B) → R t x → S t (f x)) → Pairwise R ts xs → Pairwise S ts (map f xs)
pairwise_as R S f [] [] h p = p
pairwise_as R S f [] (x ∷ xs) h p = absurd p
pairwise_as R S f (t ∷ ts) [] h p = absurd p
pairwise_as R S f (t ∷ ts) (x ∷ xs) h p = (h t x p.0, pairwise_as R S f ts xs h p.1)

-- a module with the nets of another one in place of its own, by name
abbrev moved : Module → Module → Module
moved m x = record {
  name = m.name;
  ports = map (port_as (number_in x.nets m)) m.ports;
  nets = x.nets;
  mems = m.mems;
  assigns = map (assign_as (number_in x.nets m)) m.assigns;
  updates = map (update_as (number_in x.nets m)) m.updates;
  instances = map (instance_as (number_in x.nets m)) m.instances;
}

abbrev all_moved : List Module → List Module → List Module
all_moved (m ∷ ms) (x ∷ xs) = moved m x ∷ all_moved ms xs
all_moved _ _ = []

moved_at : (ms xs : List Module) (k : ℕ) (m x : Module) → slice_get ms k ≡ Some m → slice_get xs k ≡ Some x → slice_get (all_moved ms xs) k ≡ Some (moved m x)
moved_at [] xs k m x e g = absurd (cc)
moved_at (y ∷ ms) [] k m x e g = absurd (cc)
moved_at (y ∷ ms) (z ∷ xs) zero m x e g = let a = some_is e in let b = some_is g in λ i. Some (moved (a i) (b i))
moved_at (y ∷ ms) (z ∷ xs) (suc k) m x e g = moved_at ms xs k m x e g

module _ (trees : List ModuleTree) (d r : Design) (p : Pairwise (ModuleIs d) trees d.modules)
    (q : Pairwise (ModuleIs r) trees r.modules) (numbered : Pairwise IsNumbered trees r.modules)
    (a : IsAccepted d) (b : IsAccepted r) where
  -- a module of each of the designs at one place, and its tree
  record At (k : ℕ) (m x : Module) : Type 0 where
    tree : ModuleTree
    tree_at : slice_get trees k ≡ Some tree
    of : slice_get d.modules k ≡ Some m
    stands : slice_get r.modules k ≡ Some x
    is : ModuleIs d tree m
    also : ModuleIs r tree x
    counted : IsNumbered tree x

  at : (k : ℕ) (m : Module) → slice_get d.modules k ≡ Some m → (x : Module) × At k m x
  at k m e =
      let t = there trees k (omega (arith, slice_get_within d.modules k m e, pairwise_count (ModuleIs d) trees d.modules p)) in
      let x = there r.modules k (omega (arith, slice_get_within trees k t.0 t.1, pairwise_count (ModuleIs r) trees r.modules q)) in (
        x.0,
        record {
          tree = t.0;
          tree_at = t.1;
          of = e;
          stands = x.1;
          is = pairwise_there (ModuleIs d) trees d.modules k t.0 m p t.1 e;
          also = pairwise_there (ModuleIs r) trees r.modules k t.0 x.0 q t.1 x.1;
          counted = pairwise_there IsNumbered trees r.modules k t.0 x.0 numbered t.1 x.1;
        },
      )

  module _ (k : ℕ) (m x : Module) (h : At k m x) where
    abbrev f : ℕ → ℕ
    f = number_in x.nets m

    differ : AllDiffer (names_of m)
    differ = (a.sound k m h.of).names

    differ_too : AllDiffer (names_of x)
    differ_too = (b.sound k x h.stands).names

    -- where a net of the one stands in the other
    there_in : (n : ℕ) (y : Net) → slice_get m.nets n ≡ Some y → slice_get x.nets (f n) ≡ Some y
    there_in n y e =
        let (j, s) = same_net d r h.tree m x h.is h.also n y e in
        let own : IsNet x y.name j = ap (option_map (λ (z : Net). z.name)) s in
        let named : name_of m n ≡ y.name = rw e refl in
        let place : f n ≡ j = ap (λ (l : Name). place_in l x.nets) named ∙ found_by_name x differ_too y.name j own in
        ap (slice_get x.nets) place ∙ s

    back_in : (n : ℕ) (y : Net) → slice_get x.nets n ≡ Some y → slice_get m.nets (number_in m.nets x n) ≡ Some y
    back_in n y e =
        let (j, s) = same_net r d h.tree x m h.also h.is n y e in
        let own : IsNet m y.name j = ap (option_map (λ (z : Net). z.name)) s in
        let named : name_of x n ≡ y.name = rw e refl in
        let place : number_in m.nets x n ≡ j = ap (λ (l : Name). place_in l m.nets) named ∙ found_by_name m differ y.name j own in
        ap (slice_get m.nets) place ∙ s

    moves : (name : Name) (n : ℕ) → IsNet m name n → IsNet (moved m x) name (f n)
    moves name n e = go (slice_get m.nets n) refl
      where
        go : (o : Option Net) → slice_get m.nets n ≡ o → IsNet (moved m x) name (f n)
        go None g = (let bad : None ≡ Some name = ap (option_map (λ (z : Net). z.name)) (sym g) ∙ e in absurd (cc))
        go (Some y) g = ap (option_map (λ (z : Net). z.name)) (there_in n y g) ∙ ap (option_map (λ (z : Net). z.name)) (sym g) ∙ e

    -- the ports stand in the one order, and so do their nets
    ports_moved : x.ports ≡ map (port_as f) m.ports
    ports_moved = pairwise_same (λ t (y : Port). (z : Port) × PortIs m t z × (y ≡ port_as f z)) (PortIs x) h.tree.ports (map (port_as f) m.ports) x.ports
        (λ i t y z e g s. port_same t g.0 y z g.1 g.2 s)
        (pairwise_as (PortIs m) (λ t (y : Port). (z : Port) × PortIs m t z × (y ≡ port_as f z)) (port_as f) h.tree.ports m.ports (λ t y g. (y, g, refl)) h.is.ports) h.also.ports
      where
        port_same : (t : PortTree) (own y z : Port) → PortIs m t own → y ≡ port_as f own → PortIs x t z → z ≡ y
        port_same (InputPort w name) own y z g same s = (λ i. record {
          net = (sym (found_by_name x differ_too name z.net
              (ap (option_map (λ (n : Net). n.name)) s.of ∙ ap Some s.named)) ∙ ap
              (λ (l : Name). place_in l x.nets) (sym (ap net_name g.of ∙ g.named))) i;
          output = (s.direction ∙ sym g.direction) i;
        }) ∙ sym same
        port_same (OutputPort w name) own y z g same s = (λ i. record {
          net = (sym (found_by_name x differ_too name z.net
              (ap (option_map (λ (n : Net). n.name)) s.of ∙ ap Some s.named)) ∙ ap
              (λ (l : Name). place_in l x.nets) (sym (ap net_name g.of ∙ g.named))) i;
          output = (s.direction ∙ sym g.direction) i;
        }) ∙ sym same

    port_there : (t : PortTree) (y : Port) → PortIs x t y → PortIs (moved m x) t y
    port_there (InputPort w name) y s = record { net = s.net; of = s.of; named = s.named; wide = s.wide; wire = s.wire; direction = s.direction }
    port_there (OutputPort w name) y s = record { net = s.net; of = s.of; named = s.named; wide = s.wide; wire = s.wire; direction = s.direction }

    is_numbered : IsNumbered h.tree (moved m x)
    is_numbered = record { nets = h.counted.nets; ports = ap (λ (l : List Port). map (λ (y : Port). y.net) l) (sym ports_moved) ∙ h.counted.ports }

    is_renumbered : IsRenumbered m (moved m x)
    is_renumbered = record {
      number = f;
      back = number_in m.nets x;
      there = λ n e. let y = there m.nets n e in (
        slice_get_within x.nets (f n) y.0 (there_in n y.0 y.1),
        (let named : name_of x (f n) ≡ name_of m n = ap net_name (there_in n y.0 y.1 ∙ sym y.1) in
            ap (λ (l : Name). place_in l m.nets) named ∙ found_by_name m differ (name_of m n) n (is_own m n y.0 y.1)),
      );
      again = λ n e. let y = there x.nets n e in (
        slice_get_within m.nets (number_in m.nets x n) y.0 (back_in n y.0 y.1),
        (let named : name_of m (number_in m.nets x n) ≡ name_of x n = ap net_name (back_in n y.0 y.1 ∙ sym y.1) in
            ap (λ (l : Name). place_in l x.nets) named ∙ found_by_name x differ_too (name_of x n) n (is_own x n y.0 y.1)),
      );
      nets = λ n e. let y = there m.nets n e in there_in n y.0 y.1 ∙ sym y.1;
      name = refl;
      ports = refl;
      mems = refl;
      assigns = refl;
      updates = refl;
      instances = refl;
    }

  -- the design with the nets of the read one
  abbrev of_text : Design
  of_text = record { modules = all_moved d.modules r.modules }

  instance_moved : (k : ℕ) (m x : Module) (h : At k m x) (t : NamedInstance) (i : Instance) → InstanceIs d m t i → InstanceIs of_text (moved m x) t (instance_as (f k m x h) i)
  instance_moved k m x h t i g =
      let (y, inside) = at i.module g.inner g.of in
      record {
        inner = moved g.inner y;
        of = moved_at d.modules r.modules i.module g.inner y g.of inside.stands;
        module_named = g.module_named;
        named = g.named;
        joined = joins_moved m (moved m x) (f k m x h) (moves k m x h) refl g.inner
            (moved g.inner y) (f i.module g.inner y inside)
            (moves i.module g.inner y inside) t.connections g.inner.ports i.nets g.joined;
        each_once = g.each_once ∙ sym (length-map g.inner.ports (port_as (f i.module g.inner y inside)));
      }

  module_moved : (k : ℕ) (m x : Module) (h : At k m x) → ModuleIs of_text h.tree (moved m x)
  module_moved k m x h = record {
    named = h.is.named;
    ports = subst (Pairwise (PortIs (moved m x)) h.tree.ports) (ports_moved k m x h) (pairwise_map (port_there k m x h) h.tree.ports x.ports h.also.ports);
    wires = h.also.wires ∙ ap (λ (l : List Port). wires_from l 0 x.nets) (ports_moved k m x h);
    registers = h.also.registers;
    memories = h.is.memories;
    assigns = pairwise_as (AssignIs m) (AssignIs (moved m x)) (assign_as (f k m x h))
        (assigns_in h.tree.items) m.assigns (λ t y g. assign_moved m (moved m x) (f k m x h)
        (moves k m x h) refl t y g) h.is.assigns;
    updates = pairwise_as (UpdateIs m) (UpdateIs (moved m x)) (update_as (f k m x h))
        (updates_in h.tree.items) m.updates (λ t y g. update_moved m (moved m x) (f k m x h)
        (moves k m x h) refl t y g) h.is.updates;
    instances = pairwise_as (InstanceIs d m) (InstanceIs of_text (moved m x)) (instance_as (f k m x h)) (instances_in h.tree.items) m.instances (λ t y g. instance_moved k m x h t y g) h.is.instances;
  }

  counts : length d.modules ≡ length r.modules
  counts = pairwise_count (ModuleIs d) trees d.modules p ∙ sym (pairwise_count (ModuleIs r) trees r.modules q)

  -- what holds of each module of a text, and the moved one, holds of all
  all_of : {A : Type 0} (R : A → Module → Type 0) (ts : List A) (ms xs : List Module) → length ts ≡ length ms → length ms ≡ length xs
      → ((k : ℕ) (t : A) (m x : Module) → slice_get ts k ≡ Some t → slice_get ms k ≡ Some m → slice_get xs k ≡ Some x → R t (moved m x)) → Pairwise R ts (all_moved ms xs)
  all_of R [] [] xs n l g = tt
  all_of R (t ∷ ts) [] xs n l g = absurd (omega (arith, n))
  all_of R [] (m ∷ ms) xs n l g = absurd (omega (arith, n))
  all_of R (t ∷ ts) (m ∷ ms) [] n l g = absurd (omega (arith, l))
  all_of R (t ∷ ts) (m ∷ ms) (x ∷ xs) n l g = (g 0 t m x refl refl refl, all_of R ts ms xs (omega (arith, n)) (omega (arith, l)) (λ k u y z e o s. g (suc k) u y z e o s))

  same_place : (k : ℕ) (m x : Module) → slice_get d.modules k ≡ Some m → slice_get r.modules k ≡ Some x → At k m x
  same_place k m x e g = let (y, h) = at k m e in subst (At k m) (some_is (sym h.stands ∙ g)) h

  pub same_up_to_numbers : unknown_in trees ≡ None → AreRenumbered d r
  same_up_to_numbers known =
      let moved_is : Pairwise (ModuleIs of_text) trees of_text.modules = all_of (ModuleIs of_text) trees d.modules r.modules (sym (pairwise_count (ModuleIs d) trees d.modules p)) counts
      (λ k t m x e o s. let h = same_place k m x o s in subst (λ u. ModuleIs of_text u (moved m x)) (some_is (sym h.tree_at ∙ e)) (module_moved k m x h)) in
      let moved_numbered : Pairwise IsNumbered trees of_text.modules = all_of IsNumbered trees d.modules r.modules (sym (pairwise_count (ModuleIs d) trees d.modules p)) counts
      (λ k t m x e o s. let h = same_place k m x o s in subst (λ u. IsNumbered u (moved m x)) (some_is (sym h.tree_at ∙ e)) (is_numbered k m x h)) in
      let same : of_text ≡ r = one_design trees r of_text q numbered moved_is moved_numbered known b in
      let all : Pairwise IsRenumbered d.modules of_text.modules = all_of IsRenumbered d.modules d.modules r.modules refl counts
      (λ k t m x e o s. let h = same_place k m x o s in subst (λ u. IsRenumbered u (moved m x)) (some_is (sym o ∙ e)) (is_renumbered k m x h)) in
      subst (AreRenumbered d) same all
