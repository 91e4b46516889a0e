-- What a text says of a module, it says of the module with its nets under other numbers.
use Rattle.std.proofs.Common.{◌≡◌, ◌∙◌, ℕ, suc, List, [], ◌∷◌, refl, sym, ap, Option, Some, None}
use Rattle.std.specs.Prelude.{map, slice_get}
use Rattle.std.specs.Option.{option_map}
use Rattle.std.proofs.lemmas.Option.{slice_get-map, slice_get_within}
use Rattle.std.proofs.lemmas.List.{length-map}
use Rattle.rtl_ir.specs.declared.design.Net.{Net}
use Rattle.rtl_ir.specs.declared.design.Mem.{Mem}
use Rattle.rtl_ir.specs.declared.design.Port.{Port}
use Rattle.rtl_ir.specs.declared.design.Expr.{Expr}
use Rattle.rtl_ir.specs.declared.design.Expr.TheVariants as exprs
use Rattle.rtl_ir.specs.declared.design.Assign.{Assign}
use Rattle.rtl_ir.specs.declared.design.Update.{Update}
use Rattle.rtl_ir.specs.declared.design.Instance.{Instance}
use Rattle.rtl_ir.specs.declared.design.Module.{Module}
use Rattle.rtl_ir.specs.declared.design.Design.{Design}
use Rattle.rtl_ir.specs.Formed.{IsFormed}
use Rattle.rtl_text.specs.Tree.{Name, PortTree, InputPort, OutputPort, ExprTree, PlainTree}
use Rattle.rtl_text.specs.Tree.{LiteralTree, NotTree, BinaryTree, ConcatTree, RepeatTree, PartTree}
use Rattle.rtl_text.specs.Tree.{ChooseTree, CellTree, UpdateTree, RegisterUpdate, CellUpdate}
use Rattle.rtl_text.specs.Tree.{Connection, ModuleTree}
use Rattle.rtl_text.specs.Text.{Pairwise, IsNet, IsMem, PortIs, ExprIs, AssignIs, UpdateIs, IsJoined, InstanceIs, ModuleIs, NamedAssign, NamedInstance, assigns_in, updates_in, instances_in}
use Rattle.rtl_reading.specs.Reads.{IsNumbered}
use Rattle.rtl_reading.specs.Renumbered.{port_as, expr_as, assign_as, target_as, update_as, instance_as, IsRenumbered, AreRenumbered}
use Rattle.verilog_print.proofs.Instances.{IsPart, parts}
use Rattle.verilog_print.proofs.Modules.{module_tree}
use Rattle.verilog_print.proofs.Same.{module_is}
use Rattle.verilog_print.proofs.Renumber.{number_of, renumbered, is_renumbered, is_numbered, same_wires, same_registers}

pairwise_moved : {A B : Type 0} {R : A → B → Type 0} (S : A → B → Type 0) (g : B → B)
    → ((x : A) (y : B) → R x y → S x (g y)) → (xs : List A) (ys : List B) → Pairwise R xs ys
    → Pairwise S xs (map g ys)
pairwise_moved S g f [] [] p = tt
pairwise_moved S g f (x ∷ xs) (y ∷ ys) p = (f x y p.0, pairwise_moved S g f xs ys p.1)
pairwise_moved S g f [] (y ∷ ys) p = absurd p
pairwise_moved S g f (x ∷ xs) [] p = absurd p

module _ {m x : Module} (r : IsRenumbered m x) where
  net_moves : (n : ℕ) (net : Net) → slice_get m.nets n ≡ Some net → slice_get x.nets (r.number n) ≡ Some net
  net_moves n net e = r.nets n (slice_get_within m.nets n net e) ∙ e

  name_moves : (name : Name) (n : ℕ) (o : Option Net) → slice_get m.nets n ≡ o → option_map (λ (net : Net). net.name) o ≡ Some name → IsNet x name (r.number n)
  name_moves name n None e h = absurd (cc)
  name_moves name n (Some net) e h = ap (option_map (λ (y : Net). y.name)) (net_moves n net e) ∙ h

  pub net_named : (name : Name) (n : ℕ) → IsNet m name n → IsNet x name (r.number n)
  net_named name n h = name_moves name n (slice_get m.nets n) refl h

  pub mem_named : (name : Name) (k : ℕ) → IsMem m name k → IsMem x name k
  mem_named name k h = ap (λ (l : List Mem). option_map (λ (mem : Mem). mem.name) (slice_get l k)) r.mems ∙ h

  port_moves : (t : PortTree) (p : Port) → PortIs m t p → PortIs x t (port_as r.number p)
  port_moves (InputPort w name) p h = record { net = h.net; of = net_moves p.net h.net h.of; named = h.named; wide = h.wide; wire = h.wire; direction = h.direction }
  port_moves (OutputPort w name) p h = record { net = h.net; of = net_moves p.net h.net h.of; named = h.named; wide = h.wide; wire = h.wire; direction = h.direction }

  expr_moves : (t : ExprTree) (e : Expr) → ExprIs m t e → ExprIs x t (expr_as r.number e)
  expr_moves (PlainTree a) (exprs.Net k) h = net_named a k h
  expr_moves (LiteralTree w y) (exprs.Literal word) h = h
  expr_moves (NotTree a) (exprs.Not k) h = net_named a k h
  expr_moves (BinaryTree s a b) (exprs.Binary t i j) h = (h.0, net_named a i h.1, net_named b j h.2)
  expr_moves (ConcatTree a b) (exprs.Concat i j) h = (net_named a i h.0, net_named b j h.1)
  expr_moves (RepeatTree i a) (exprs.Repeat j k) h = (h.0, net_named a k h.1)
  expr_moves (PartTree a hi lo) (exprs.Part k high low) h = (h.0, h.1, net_named a k h.2)
  expr_moves (ChooseTree c a b) (exprs.Choose i j k) h = (net_named c i h.0, net_named a j h.1, net_named b k h.2)
  expr_moves (CellTree y a) (exprs.Cell k i) h = (mem_named y k h.0, net_named a i h.1)
  expr_moves _ _ h = absurd h

  assign_moves : (t : NamedAssign) (a : Assign) → AssignIs m t a → AssignIs x t (assign_as r.number a)
  assign_moves t a h = (net_named t.target a.target h.0, expr_moves t.expr a.expr h.1)

  update_moves : (t : UpdateTree) (u : Update) → UpdateIs m t u → UpdateIs x t (update_as r.number u)
  update_moves (RegisterUpdate enable name value) u h = record {
    register = r.number h.register;
    target = ap (target_as r.number) h.target;
    named = net_named name h.register h.named;
    enabled = net_named enable u.enable h.enabled;
    writes = net_named value u.value h.writes;
  }
  update_moves (CellUpdate enable name address value) u h = record {
    memory = h.memory;
    at = r.number h.at;
    target = ap (target_as r.number) h.target;
    named = mem_named name h.memory h.named;
    addressed = net_named address h.at h.addressed;
    enabled = net_named enable u.enable h.enabled;
    writes = net_named value u.value h.writes;
  }

  joined_moves : {inner other : Module} → IsRenumbered inner other → (f g : ℕ → ℕ)
      → ((name : Name) (n : ℕ) → IsNet inner name n → IsNet other name (g n))
      → ((name : Name) (n : ℕ) → IsNet m name n → IsNet x name (f n))
      → (cs : List Connection) (ports : List Port) (nets : List ℕ)
      → Pairwise (IsJoined m inner cs) ports nets → Pairwise (IsJoined x other cs) (map (port_as g) ports) (map f nets)
  joined_moves s f g inside outside cs [] [] p = tt
  joined_moves s f g inside outside cs (q ∷ ports) (n ∷ nets) p = (
    record {
      port = p.0.port;
      net = p.0.net;
      listed = p.0.listed;
      named = inside p.0.port q.net p.0.named;
      joined = outside p.0.net n p.0.joined;
    },
    joined_moves s f g inside outside cs ports nets p.1,
  )
  joined_moves s f g inside outside cs [] (n ∷ nets) p = absurd p
  joined_moves s f g inside outside cs (q ∷ ports) [] p = absurd p

abbrev pub moved_design : Design → Design
moved_design d = record { modules = map (renumbered d.modules) d.modules }

module _ (d : Design) (f : IsFormed d.modules) where
  module_at : (k : ℕ) (m : Module) → slice_get d.modules k ≡ Some m → slice_get (map (renumbered d.modules) d.modules) k ≡ Some (renumbered d.modules m)
  module_at k m e = slice_get-map (renumbered d.modules) d.modules k ∙ ap (option_map (renumbered d.modules)) e

  instance_moves : (m : Module) → IsPart d.modules m → (t : NamedInstance) (i : Instance) → InstanceIs d m t i → InstanceIs (moved_design d) (renumbered d.modules m) t (instance_as (number_of m) i)
  instance_moves m part t i h =
      let r : IsRenumbered m (renumbered d.modules m) = is_renumbered d.modules m part.formed in
      let s : IsRenumbered h.inner (renumbered d.modules h.inner) = is_renumbered d.modules h.inner (f.each i.«module» h.inner h.of) in
      record {
        inner = renumbered d.modules h.inner;
        of = module_at i.«module» h.inner h.of;
        module_named = h.module_named;
        named = h.named;
        joined = joined_moves r s (number_of m) (number_of h.inner) (net_named s) (net_named r) t.connections h.inner.ports i.nets h.joined;
        each_once = h.each_once ∙ sym (length-map h.inner.ports (port_as (number_of h.inner)));
      }

  module_moves : (m : Module) → IsPart d.modules m → ModuleIs (moved_design d) (module_tree d.modules m) (renumbered d.modules m)
  unfolding module_tree
  module_moves m part =
      let h : ModuleIs d (module_tree d.modules m) m = module_is d m part in
      let r : IsRenumbered m (renumbered d.modules m) = is_renumbered d.modules m part.formed in
      let t : ModuleTree = module_tree d.modules m in
      record {
        named = h.named;
        ports = pairwise_moved (PortIs (renumbered d.modules m)) (port_as (number_of m)) (port_moves r) t.ports m.ports h.ports;
        wires = same_wires d.modules m part.formed;
        registers = same_registers d.modules m;
        memories = h.memories;
        assigns = pairwise_moved (AssignIs (renumbered d.modules m)) (assign_as (number_of m)) (assign_moves r) (assigns_in t.items) m.assigns h.assigns;
        updates = pairwise_moved (UpdateIs (renumbered d.modules m)) (update_as (number_of m)) (update_moves r) (updates_in t.items) m.updates h.updates;
        instances = pairwise_moved (InstanceIs (moved_design d) (renumbered d.modules m)) (instance_as (number_of m)) (instance_moves m part) (instances_in t.items) m.instances h.instances;
      }

  -- some of the modules
  some_move : (some : List Module) → ((k : ℕ) (m : Module) → slice_get some k ≡ Some m
      → IsPart d.modules m) → Pairwise (ModuleIs (moved_design d))
      (map (module_tree d.modules) some) (map (renumbered d.modules) some)
  some_move [] g = tt
  some_move (m ∷ some) g = (module_moves m (g 0 m refl), some_move some (λ k x e. g (suc k) x e))

  some_numbered : (some : List Module) → ((k : ℕ) (m : Module) → slice_get some k ≡ Some m
      → IsPart d.modules m) → Pairwise IsNumbered (map (module_tree d.modules) some)
      (map (renumbered d.modules) some)
  some_numbered [] g = tt
  some_numbered (m ∷ some) g = (is_numbered d.modules m (g 0 m refl).formed, some_numbered some (λ k x e. g (suc k) x e))

  some_renumbered : (some : List Module) → ((k : ℕ) (m : Module) → slice_get some k ≡ Some m → IsPart d.modules m) → Pairwise IsRenumbered some (map (renumbered d.modules) some)
  some_renumbered [] g = tt
  some_renumbered (m ∷ some) g = (is_renumbered d.modules m (g 0 m refl).formed, some_renumbered some (λ k x e. g (suc k) x e))

  pub modules_move : Pairwise (ModuleIs (moved_design d)) (map (module_tree d.modules) d.modules) (map (renumbered d.modules) d.modules)
  modules_move = some_move d.modules (parts d.modules f)

  pub modules_numbered : Pairwise IsNumbered (map (module_tree d.modules) d.modules) (map (renumbered d.modules) d.modules)
  modules_numbered = some_numbered d.modules (parts d.modules f)

  pub modules_renumbered : AreRenumbered d (record { modules = map (renumbered d.modules) d.modules })
  modules_renumbered = some_renumbered d.modules (parts d.modules f)
