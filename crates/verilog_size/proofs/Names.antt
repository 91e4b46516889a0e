-- The bytes of the names in a module, by how long the names are that it declares.
use Rattle.std.proofs.Common.{◌≡◌, ◌∙◌, ℕ, ◌+◌, ◌*◌, ◌≤◌, List, length, Option, Some, None, get_or, take, refl, sym, ap, subst, arith}
use Rattle.std.specs.Prelude.{map, slice_get}
use Rattle.std.specs.List.{All, sum_by}
use Rattle.std.proofs.lemmas.List.{length-map}
use Rattle.std.proofs.lemmas.List.Elements.{All-map}
use Rattle.std.proofs.lemmas.List.Sums.{sum_by-le}
use Rattle.std.proofs.Math.Nat.{mul-le-mul_right}
use Rattle.rtl_ir.specs.declared.design.Net.{Net}
use Rattle.rtl_ir.specs.declared.design.Mem.{Mem}
use Rattle.rtl_ir.specs.declared.design.Expr.{Expr}
use Rattle.rtl_ir.specs.declared.design.Expr.TheVariants.{Net as Net_, Literal, Not, Binary, Concat, Repeat, Part, Choose, Cell}
use Rattle.rtl_ir.specs.declared.design.Assign.{Assign}
use Rattle.rtl_ir.specs.declared.design.Update.{Update}
use Rattle.rtl_ir.specs.declared.design.Instance.{Instance}
use Rattle.rtl_ir.specs.declared.design.Module.{Module}
use Rattle.rtl_ir.specs.Operands.{reads, mem_read, target_net, target_mem}
use Rattle.rtl_ir.specs.Formed.{IsFormedModule, IsFormedInstance, net_name}
use Rattle.rtl_ir.specs.Ports.{PortView, port_view}
use Rattle.verilog_print.specs.Printed.{mem_name}
use Rattle.verilog_size.specs.Names.{HasShortNames, net_bytes, mem_bytes, assign_names, update_names, port_names, instance_names, inner_names, module_names}
use Rattle.verilog_size.specs.Sizes.{HasNamesUpTo, NamesAreFew, instance_size, size_of}
use Rattle.verilog_size.proofs.Slices.{one_of, get_taken, sum_few}
use Rattle.verilog_size.proofs.Slots.{few_slots}

module _ (m : Module) (most : ℕ) (short : HasShortNames most m) where
  -- the name of a net, or of none
  pub net_up_to : (n : ℕ) → net_bytes m n ≤ most
  net_up_to n = go (slice_get m.nets n) refl
    where
      go : (o : Option Net) → slice_get m.nets n ≡ o → length (net_name o) ≤ most
      go None e = omega arith
      go (Some x) e = one_of (λ (y : Net). length y.name ≤ most) m.nets short.nets n x e

  -- the name of a memory, or of none
  mem_up_to : (o : Option ℕ) → mem_bytes m o ≤ most
  mem_up_to None = omega arith
  mem_up_to (Some k) = go (slice_get m.mems k) refl
    where
      go : (o : Option Mem) → slice_get m.mems k ≡ o → length (mem_name o) ≤ most
      go None e = omega arith
      go (Some x) e = one_of (λ (y : Mem). length y.name ≤ most) m.mems short.mems k x e

  -- an expression has at most three names
  pub expr_up_to : (e : Expr) → sum_by (net_bytes m) (reads e) + mem_bytes m (mem_read e) ≤ 3 * most
  expr_up_to (Net_ n) = omega (arith, net_up_to n)
  expr_up_to (Literal x) = omega arith
  expr_up_to (Not n) = omega (arith, net_up_to n)
  expr_up_to (Binary s a b) = omega (arith, net_up_to a, net_up_to b)
  expr_up_to (Concat a b) = omega (arith, net_up_to a, net_up_to b)
  expr_up_to (Repeat k n) = omega (arith, net_up_to n)
  expr_up_to (Part n hi lo) = omega (arith, net_up_to n)
  expr_up_to (Choose c a b) = omega (arith, net_up_to c, net_up_to a, net_up_to b)
  expr_up_to (Cell k n) = omega (arith, mem_up_to (Some k), net_up_to n)

  assign_up_to : (a : Assign) → assign_names m a ≤ 4 * most
  assign_up_to a = omega (arith, net_up_to a.target, expr_up_to a.expr)

  update_up_to : (u : Update) → update_names m u ≤ 4 * most
  update_up_to u = omega (arith, net_up_to u.enable, net_up_to (target_net u.target), mem_up_to (target_mem u.target), net_up_to u.value)

  pub ports_up_to : port_names m ≤ length m.ports * most
  ports_up_to =
      let each = All-map (λ (p : PortView). length p.name ≤ most) (port_view m) m.ports (λ k d within. net_up_to _) in
      let sum = sum_by-le (λ (p : PortView). length p.name) most (map (port_view m) m.ports) each in
      let long = length-map m.ports (port_view m) in
      subst (λ n. port_names m ≤ n * most) long sum

  -- the names of nets
  pub nets_up_to : (ns : List ℕ) → sum_by (net_bytes m) ns ≤ length ns * most
  nets_up_to ns = sum_by-le (net_bytes m) most ns (λ k d within. net_up_to _)

  -- all but the module's own name and those of its instances, where it has so many assignments and updates together
  pub inner_up_to : length m.assigns + length m.updates ≤ length m.nets + length m.mems
      → inner_names m ≤ 5 * most * (length m.ports + length m.nets + length m.mems)
  inner_up_to few =
      let ports = ports_up_to in
      let nets = sum_by-le (λ (n : Net). length n.name) most m.nets short.nets in
      let mems = sum_by-le (λ (k : Mem). length k.name) most m.mems short.mems in
      let assigns = sum_by-le (assign_names m) (4 * most) m.assigns (λ k d within. assign_up_to (get_or m.assigns k d)) in
      let updates = sum_by-le (update_names m) (4 * most) m.updates (λ k d within. update_up_to (get_or m.updates k d)) in
      let slots = mul-le-mul_right (4 * most) few in
      omega (arith, ports, nets, mems, assigns, updates, slots)

pub names_few : NamesAreFew
names_few d earlier m most formed sound short = inner_up_to m most short (few_slots {d = d} m formed sound)

-- ---- instances, and all of a module

-- the names of an instance, each of at most so many bytes
instance_up_to : (earlier : List Module) (m : Module) (most : ℕ) (short : HasShortNames most m) (i : Instance)
    → IsFormedInstance earlier m i → length i.name ≤ most
    → (o : Option Module) → slice_get earlier i.«module» ≡ o → ((inner : Module) → o ≡ Some inner → HasNamesUpTo most inner)
    → instance_names m i o ≤ 5 * most * instance_size i
instance_up_to earlier m most short i formed name None e inner = omega arith
instance_up_to earlier m most short i formed name (Some inner) e names =
    let own = (names inner refl).own in
    let ports = ports_up_to inner most (names inner refl).short in
    let nets = nets_up_to m most short i.nets in
    let same = ap (λ n. n * most) (formed.ports inner e) in
    omega (arith, own, ports, nets, same, name)

-- the names of a module and its instances
pub module_up_to : (modules : List Module) (k most : ℕ) (m : Module) → IsFormedModule (take k modules) m
    → length m.assigns + length m.updates ≤ length m.nets + length m.mems
    → All (HasNamesUpTo most) modules → HasNamesUpTo most m
    → module_names modules m ≤ 5 * most * size_of m
module_up_to modules k most m formed few all names =
    let own = names.own in
    let inner = inner_up_to m most names.short few in
    let instances = sum_few (λ (i : Instance). instance_names m i (slice_get modules i.«module»)) instance_size (5 * most) m.instances
    (λ j i e.
    let at = get_taken modules k i.«module» (formed.instances j i e).is_earlier in
    subst (λ o. instance_names m i o ≤ 5 * most * instance_size i) at
    (instance_up_to (take k modules) m most names.short i (formed.instances j i e)
    (one_of (λ (x : Instance). length x.name ≤ most) m.instances names.instances j i e) (slice_get (take k modules) i.«module») refl
    (λ inner is. one_of (HasNamesUpTo most) modules all i.«module» inner (sym at ∙ is)))) in
    omega (arith, own, inner, instances)
