-- What the loop keeps that makes a design flat.
use Rattle.std.proofs.Common.{◌≡◌, ℕ, ◌+◌, ◌-◌, ◌^◌, ◌<◌, ◌≤◌, List, [], ◌∷◌, ◌++◌, map, length, get_or, Some, refl, sym, ap, ◌∙◌, subst, arith}
use Rattle.std.specs.Prelude.{slice_get, sum_by}
use Rattle.std.specs.List.{list_any}
use Rattle.std.proofs.lemmas.Bool.{false≢true}
use Rattle.std.proofs.lemmas.List.Sums.{sum_by-append}
use Rattle.std.proofs.lemmas.Option.{slice_get_within}
use Rattle.rtl_ir.specs.declared.design.Design.{Design}
use Rattle.rtl_ir.specs.declared.design.Module.{Module}
use Rattle.rtl_ir.specs.declared.design.Port.{Port}
use Rattle.rtl_ir.specs.declared.design.Instance.{Instance}
use Rattle.rtl_ir.specs.Flat.{top_of}
use Rattle.rtl_ir.specs.Formed.{IsFormedModule, is_bit_input}
use Rattle.rtl_ir.specs.Rules.{IsAccepted}
use Rattle.verilog_sim.specs.declared.scope.Scope.{Scope}
use Rattle.verilog_sim.specs.declared.flatten.Parts.{Parts}
use Rattle.verilog_sim.specs.Relocation.{bare_net, bare_mem, joins_of, relocated_assign, relocated_update, relocated_instance}
use Rattle.verilog_sim.specs.Flattened.{IsRanged, IsAdded, IsAddedJoined, module_of, place_of, start, join}
use Rattle.verilog_sim.proofs.Flattened.{AreFlattened}
use Rattle.verilog_sim.specs.Start.{cells_with, cells_after, all_cells}
use Rattle.verilog_sim.proofs.Sitting.{get_right}
use Rattle.verilog_sim.proofs.Placed.{IsPlaced, placed_of}
use Rattle.verilog_sim.proofs.Copying.{placed_copied}
use Rattle.verilog_sim.proofs.Whole.{placed_joins}
use Rattle.verilog_sim.proofs.CellNumbers.{cells_at}
use Rattle.verilog_sim.proofs.CellTotals.{total_copied, total_joins, total_top, own_mems, with_last, relocated_cells, sum_cons}

pub ranged_of : {d : Design} {m : Module} → IsPlaced d m → IsRanged m
ranged_of h = record { assigns = h.standing.ranged.assigns; updates = h.standing.ranged.updates; nets = λ k j n i at is. h.standing.nets k i j n at is }

pub record HasRoom (nets mems : ℕ) (m : Module) : Type 0 where
  pub nets_fit : nets + length m.nets < 2 ^ 32
  pub mems_fit : mems + length m.mems < 2 ^ 32

pub top_room : (d : Design) → IsAccepted d → all_cells d ≤ 2 ^ 26 → (m : Module) → top_of d ≡ Some m → HasRoom 0 0 m
top_room d h small m e =
    let p = placed_of d h (length d.modules - 1) m e in
    let t = total_top d h.formed m e in
    record { nets_fit = omega (arith, small, t); mems_fit = omega (arith, small, t, own_mems [] m p.mems) }

-- a module has a net, since it has the port clk
pub some_net : (earlier : List Module) (m : Module) → IsFormedModule earlier m → 0 < length m.nets
some_net earlier m f = by_ports m.ports refl
  where
    by_ports : (ps : List Port) → m.ports ≡ ps → 0 < length m.nets
    by_ports [] e = absurd (false≢true (sym (ap (list_any (is_bit_input m _)) e) ∙ f.clock))
    by_ports (p ∷ ps) e = let lt = (f.ports 0 p (ap (λ (l : List Port). slice_get l 0) e)).net in omega (arith, lt)

pub start_flat :
    (d : Design) (top : Module) (old new : Parts)
    → old.nets.items ≡ [] → old.mems.items ≡ [] → old.assigns.items ≡ [] → old.updates.items ≡ [] → old.instances.items ≡ []
    → IsAdded old new top → AreFlattened d top new []
start_flat d top old new nets mems assigns updates instances a =
    record {
      copy = module_of top.ports new;
      copied = record {
        ports = refl;
        nets = a.nets ∙ ap (λ l. l ++ map bare_net top.nets) nets;
        mems = a.mems ∙ ap (λ l. l ++ map bare_mem top.mems) mems;
        assigns = a.assigns ∙ ap (λ l. l
            ++ map (relocated_assign (length old.nets.items)
            (length old.mems.items)) top.assigns) assigns ∙ ap
            (λ b. map (relocated_assign b (length old.mems.items)) top.assigns)
            (ap length nets) ∙ ap (λ b. map (relocated_assign 0 b) top.assigns) (ap length mems);
        updates = a.updates ∙ ap (λ l. l
            ++ map (relocated_update (length old.nets.items)
            (length old.mems.items)) top.updates) updates ∙ ap
            (λ b. map (relocated_update b (length old.mems.items)) top.updates)
            (ap length nets) ∙ ap (λ b. map (relocated_update 0 b) top.updates) (ap length mems);
        instances = a.instances ∙ ap (λ l. l ++ map (relocated_instance (length old.nets.items)) top.instances) instances ∙ ap (λ b. map (relocated_instance b) top.instances) (ap length nets);
      };
      joins = start;
    }

abbrev place_made : ℕ → ℕ → ℕ → ℕ → ℕ → Scope
place_made i n a m b = record { instance = i; first_net = n; nets = a; first_mem = m; mems = b }

pub place_is : (s : Scope) (i n a m b : ℕ) → s.instance ≡ i → s.first_net ≡ n → s.nets ≡ a → s.first_mem ≡ m → s.mems ≡ b → s ≡ place_made i n a m b
place_is s i n a m b ei en ea em eb =
    ap (λ x. place_made x s.first_net s.nets s.first_mem s.mems) ei
    ∙ ap (λ x. place_made i x s.nets s.first_mem s.mems) en
    ∙ ap (λ x. place_made i n x s.first_mem s.mems) ea
    ∙ ap (λ x. place_made i n a x s.mems) em
    ∙ ap (λ x. place_made i n a m x) eb

module _ (d : Design) (h : IsAccepted d) (small : all_cells d ≤ 2 ^ 26) (top : Module)
    (is_top : top_of d ≡ Some top) (parts : Parts) (ss : List Scope)
    (a : AreFlattened d top parts ss) (rest : List Instance) (part : Instance)
    (was : parts.instances.items ≡ rest ++ part ∷ []) where
  placed : IsPlaced d (module_of top.ports parts)
  placed = placed_joins d h a.joins (placed_copied d a.copied (placed_of d h (length d.modules - 1) top is_top))

  last_is : slice_get parts.instances.items (length rest) ≡ Some part
  last_is =
      let e : length rest + 0 ≡ length rest = omega arith in
      ap (λ (l : List Instance). slice_get l (length rest)) was ∙ ap (slice_get (rest ++ part ∷ [])) (sym e) ∙ get_right rest (part ∷ []) 0

  pub part_within : part.«module» < length d.modules
  part_within = let q = placed.modules (length rest) part last_is in slice_get_within d.modules part.«module» q.0 q.1

  module _ (inner : Module) (is : slice_get d.modules part.«module» ≡ Some inner) where
    inner_placed : IsPlaced d inner
    inner_placed = placed_of d h part.«module» inner is

    pub part_ranged : IsRanged inner
    part_ranged = ranged_of inner_placed

    pub part_ports : (k : ℕ) (p : Port) → slice_get inner.ports k ≡ Some p → p.net < length inner.nets
    part_ports k p at = (inner_placed.ports k p at).net

    pub part_size : length part.nets ≡ length inner.ports
    part_size = placed.standing.sizes (length rest) part inner last_is is

    pub part_room : HasRoom (length parts.nets.items) (length parts.mems.items) inner
    part_room =
        let whole : cells_with (cells_after [] d.modules) (module_of top.ports parts) ≡ all_cells d =
        total_joins d h.formed a.joins ∙ total_copied (cells_after [] d.modules) a.copied ∙ total_top d h.formed top is_top in
        let both = with_last d h.formed (module_of top.ports parts) rest part inner was is in
        record {
          nets_fit = omega (arith, small, whole, both);
          mems_fit = omega (arith, small, whole, both, own_mems [] (module_of top.ports parts) placed.mems, own_mems [] inner inner_placed.mems);
        }

    module _ (new : Parts) (s : Scope) (place : s ≡ place_of (length rest)
        (module_of top.ports parts) inner) (old : Parts) (ns : List ℕ) (same : ns ≡ part.nets)
        (added : IsAddedJoined old new inner ns) (nets : old.nets.items ≡ parts.nets.items)
        (mems : old.mems.items ≡ parts.mems.items) (assigns : old.assigns.items
        ≡ parts.assigns.items) (updates : old.updates.items ≡ parts.updates.items)
        (instances : old.instances.items ≡ rest) where
      b : IsAddedJoined old new inner part.nets
      b = subst (λ (l : List ℕ). IsAddedJoined old new inner l) same added

      pub step_flat : AreFlattened d top new (ss ++ s ∷ [])
      step_flat =
          record {
            copy = a.copy;
            copied = a.copied;
            joins = join a.joins (record {
              rest = rest;
              part = part;
              was = was;
              inner = inner;
              is = is;
              ports = refl;
              nets = b.more_nets ∙ ap (λ l. l ++ map bare_net inner.nets) nets;
              mems = b.mems ∙ ap (λ l. l ++ map bare_mem inner.mems) mems;
              assigns = b.assigns
                  ∙ ap (λ l. (l ++ map (relocated_assign (length old.nets.items) (length old.mems.items)) inner.assigns) ++ joins_of (length old.nets.items) inner.ports part.nets) assigns
                  ∙ ap (λ x. (parts.assigns.items ++ map (relocated_assign x (length old.mems.items)) inner.assigns) ++ joins_of x inner.ports part.nets) (ap length nets)
                  ∙ ap (λ x. (parts.assigns.items ++ map (relocated_assign (length parts.nets.items) x) inner.assigns) ++ joins_of (length parts.nets.items) inner.ports part.nets) (ap length mems);
              updates = b.updates
                  ∙ ap (λ l. l ++ map (relocated_update (length old.nets.items) (length old.mems.items)) inner.updates) updates
                  ∙ ap (λ x. parts.updates.items ++ map (relocated_update x (length old.mems.items)) inner.updates) (ap length nets)
                  ∙ ap (λ x. parts.updates.items ++ map (relocated_update (length parts.nets.items) x) inner.updates) (ap length mems);
              instances = b.instances
                  ∙ ap (λ l. l ++ map (relocated_instance (length old.nets.items)) inner.instances) instances
                  ∙ ap (λ x. rest ++ map (relocated_instance x) inner.instances) (ap length nets);
              place = place;
            });
          }

      pub step_smaller : sum_by (λ (i : Instance). get_or
          (cells_after [] d.modules) i.«module» 0) new.instances.items < sum_by
          (λ (i : Instance). get_or (cells_after [] d.modules) i.«module» 0) parts.instances.items
      step_smaller =
          let of : Instance → ℕ = λ i. get_or (cells_after [] d.modules) i.«module» 0 in
          omega (
            arith,
            ap (sum_by of) b.instances,
            ap (λ l. sum_by of (l ++ map (relocated_instance (length old.nets.items)) inner.instances)) instances,
            sum_by-append of rest (map (relocated_instance (length old.nets.items)) inner.instances),
            relocated_cells (cells_after [] d.modules) (length old.nets.items) inner.instances,
            ap (sum_by of) was,
            sum_by-append of rest (part ∷ []),
            sum_cons of part [],
            cells_at d h.formed part.«module» inner is,
            some_net _ inner (h.formed.each part.«module» inner is),
          )
