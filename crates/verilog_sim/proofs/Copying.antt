-- A copy of a module without names keeps the rules.
use Rattle.std.proofs.Common.{◌≡◌, ℕ, ◌+◌, ◌<◌, true, false, ◌||◌, List, [], ◌∷◌, length, Some, sym, ap, ◌∙◌, subst, arith}
use Rattle.std.specs.Prelude.{slice_get, option_map}
use Rattle.std.proofs.lemmas.List.{length-map}
use Rattle.std.proofs.lemmas.Option.{slice_get-map}
use Rattle.rtl_ir.specs.declared.design.Design.{Design}
use Rattle.rtl_ir.specs.declared.design.Module.{Module}
use Rattle.rtl_ir.specs.declared.design.Net.{Net}
use Rattle.rtl_ir.specs.declared.design.Mem.{Mem}
use Rattle.rtl_ir.specs.declared.design.Port.{Port}
use Rattle.rtl_ir.specs.declared.design.Assign.{Assign}
use Rattle.rtl_ir.specs.declared.design.Update.{Update}
use Rattle.rtl_ir.specs.declared.design.Instance.{Instance}
use Rattle.rtl_ir.specs.declared.design.Target.TheVariants.{Reg}
use Rattle.rtl_ir.specs.Value.{width_of, is_reg}
use Rattle.rtl_ir.specs.Flat.{Path}
use Rattle.rtl_ir.specs.Typed.{is_input, is_given, IsTyped, IsUpdateTyped}
use Rattle.rtl_ir.specs.Formed.{IsFormedAssign, IsFormedUpdate}
use Rattle.rtl_ir.specs.Rules.{Connection, Driver, ByAssign, ByPort, Drives}
use Rattle.rtl_ir.specs.Walks.{FlatFeeds, own, enter, leave, inside, FlatWay, done, then'}
use Rattle.verilog_sim.specs.Relocation.{bare_net, bare_mem, relocated_expr, relocated_assign, relocated_update, relocated_instance}
use Rattle.verilog_sim.specs.Runnable.{IsSizedNet, IsSizedMem}
use Rattle.verilog_sim.specs.Flattened.{IsCopied}
use Rattle.verilog_sim.proofs.Cutting.{kept_in}
use Rattle.verilog_sim.proofs.Sitting.{some_of_map, of_map, none, map_same, assign_same, update_same, sits_copied}
use Rattle.verilog_sim.proofs.Parting.{Standing}
use Rattle.verilog_sim.proofs.Joining.{formed_relocated, typed_relocated, ConnectionIn, connection_of, connection_in}
use Rattle.verilog_sim.proofs.JoinRules.{update_relocated, update_typed}
use Rattle.verilog_sim.proofs.JoinDrivers.{driven_in}
use Rattle.verilog_sim.proofs.Placed.{IsPlaced}

module _ (d : Design) {m n : Module} (j : IsCopied m n) where
  pub inst_copied : (k : ℕ) → slice_get n.instances (0 + k) ≡ option_map (relocated_instance 0) (slice_get m.instances k)
  inst_copied k = ap (slice_get n.instances) (none k) ∙ ap (λ (l : List Instance). slice_get l k) j.instances ∙ slice_get-map (relocated_instance 0) m.instances k

  assigns : n.assigns ≡ m.assigns
  assigns = j.assigns ∙ map_same (relocated_assign 0 0) m.assigns assign_same

  updates : n.updates ≡ m.updates
  updates = j.updates ∙ map_same (relocated_update 0 0) m.updates update_same

  assign_at : (k : ℕ) (a : Assign) → slice_get n.assigns k ≡ Some a → slice_get m.assigns k ≡ Some a
  assign_at k a at = sym (ap (λ (l : List Assign). slice_get l k) assigns) ∙ at

  update_at : (k : ℕ) (u : Update) → slice_get n.updates k ≡ Some u → slice_get m.updates k ≡ Some u
  update_at k u at = sym (ap (λ (l : List Update). slice_get l k) updates) ∙ at

  port_at : (k : ℕ) (p : Port) → slice_get n.ports k ≡ Some p → slice_get m.ports k ≡ Some p
  port_at k p at = sym (ap (λ (l : List Port). slice_get l k) j.ports) ∙ at

  nets : length n.nets ≡ length m.nets
  nets = ap length j.nets ∙ length-map m.nets bare_net

  mems : length n.mems ≡ length m.mems
  mems = ap length j.mems ∙ length-map m.mems bare_mem

  connection_at : (k i : ℕ) (e : Connection d n k i) → ConnectionIn d m 0 k i e.inner e.port e.net
  connection_at k i e = subst (λ (l : ℕ). (x : Connection d n l i) → ConnectionIn d m 0 k i x.inner x.port x.net) (none k) (connection_in d m n 0 0 k i (inst_copied k)) e

  drives_at : (x : Driver) (t : ℕ) → Drives d n x t → Drives d m x t
  drives_at (ByAssign k) t q = (q.0, assign_at k q.0 q.1, q.2)
  drives_at (ByPort k i) t q = let c = connection_at k i q.0 in (connection_of c, q.1, sym (none c.own) ∙ c.moved ∙ q.2)

  feeds_at : {p q : Path} {a b : ℕ} → FlatFeeds d n p a q b → FlatFeeds d m p a q b
  feeds_at (own k t a at r) = own k t a (assign_at k a at) r
  feeds_at (enter k i e out) = let c = connection_at k i e in subst (λ (t : ℕ). FlatFeeds d m [] t (k ∷ []) e.port.net) (sym (none c.own) ∙ c.moved) (enter k i (connection_of c) out)
  feeds_at (leave k i e out) = let c = connection_at k i e in subst (λ (t : ℕ). FlatFeeds d m (k ∷ []) e.port.net [] t) (sym (none c.own) ∙ c.moved) (leave k i (connection_of c) out)
  feeds_at (inside k i y p q a b of is f) =
      let x = some_of_map (relocated_instance 0) (slice_get m.instances k) i (sym (inst_copied k) ∙ ap (slice_get n.instances) (none k) ∙ of) in
      inside k x.0 y p q a b x.1 (ap (λ (z : Instance). slice_get d.modules z.«module») x.2 ∙ is) f

  way_at : {p q : Path} {a b : ℕ} → FlatWay d n p a q b → FlatWay d m p a q b
  way_at done = done
  way_at (then' f w) = then' (feeds_at f) (way_at w)

  module _ (h : IsPlaced d m) where
    width_at : (t : ℕ) → t < length m.nets → width_of n t ≡ width_of m t
    width_at t lt = ap (width_of n) (sym (none t)) ∙ (sits_copied j).widths t lt

    reg_at : (t : ℕ) → t < length m.nets → is_reg n t ≡ is_reg m t
    reg_at t lt = ap (is_reg n) (sym (none t)) ∙ (sits_copied j).regs t lt

    each_instance : (P : Instance → Type 0) → ((k : ℕ) (i : Instance) → slice_get m.instances k ≡ Some i → P (relocated_instance 0 i)) → (k : ℕ) (i : Instance) → slice_get n.instances k ≡ Some i → P i
    each_instance P f k i at =
        let q = some_of_map (relocated_instance 0) (slice_get m.instances k) i (sym (inst_copied k) ∙ ap (slice_get n.instances) (none k) ∙ at) in
        subst P q.2 (f k q.0 q.1)

    standing : Standing d n
    standing =
        record {
          ranged = record {
            assigns = λ k a at. (let f = h.standing.ranged.assigns k a (assign_at k a at) in
                subst (IsFormedAssign n) (assign_same a) (record {
                  target = omega (arith, f.target, nets);
                  expr = formed_relocated 0 0 m n (omega (arith, nets)) (omega (arith, mems)) a.expr f.expr;
                }));
            updates = λ k u at. subst (IsFormedUpdate n) (update_same u) (update_relocated 0 0 m n (omega (arith, nets)) (omega (arith, mems)) u (h.standing.ranged.updates k u (update_at k u at)));
          };
          nets = λ k i l o at is. each_instance (λ i. (l o : ℕ) → slice_get i.nets l ≡ Some o → o < length n.nets)
              (λ k i at l o is. (let q = of_map (λ t. 0 + t) i.nets l o is in omega (arith, h.standing.nets k i l q.0 at q.1, q.2, nets)))
              k i at l o is;
          sizes = λ k i y at is. each_instance (λ i. (y : Module) → slice_get d.modules i.«module» ≡ Some y → length i.nets ≡ length y.ports)
              (λ k i at y is. length-map i.nets (λ t. 0 + t) ∙ h.standing.sizes k i y at is)
              k i at y is;
        }

    sized_net : (y : Net) → IsSizedNet y → IsSizedNet (bare_net y)
    sized_net y f = record { some = f.some; at_most = f.at_most }

    sized_mem : (y : Mem) → IsSizedMem y → IsSizedMem (bare_mem y)
    sized_mem y f = record { some = f.some; at_most = f.at_most; words = f.words }

    given_at : (t : ℕ) (x : Driver) → Drives d n x t → is_given n t ≡ false
    given_at t x q =
        let r = drives_at x t q in
        ap (λ o. o || is_input n.ports t) (reg_at t (driven_in d m h.standing t x r)) ∙ ap (λ (ps : List Port). is_reg m t || is_input ps t) j.ports ∙ h.given t x r

    typed_at : (k : ℕ) (a : Assign) → slice_get n.assigns k ≡ Some a → IsTyped n (width_of n a.target) a.expr
    typed_at k a at =
        let at' = assign_at k a at in
        let f = h.standing.ranged.assigns k a at' in
        subst (λ (x : Assign). IsTyped n (width_of n x.target) x.expr) (assign_same a)
        (subst (λ (w : ℕ). IsTyped n w (relocated_expr 0 0 a.expr))
        (sym ((sits_copied j).widths a.target f.target))
        (typed_relocated 0 0 m n (sits_copied j) (width_of m a.target) a.expr f.expr
        (h.typed k a at')))

    updated_at : (t : ℕ) → is_reg n t ≡ true → (k : ℕ) × (u : Update) × (slice_get n.updates k ≡ Some u) × (u.target ≡ Reg t)
    updated_at t reg =
        let q = h.updated t (sym (reg_at t (omega (arith, kept_in n t reg, nets))) ∙ reg) in
        (q.0, q.1, ap (λ (l : List Update). slice_get l q.0) updates ∙ q.2, q.3)

    pub placed_copied : IsPlaced d n
    placed_copied =
        record {
          standing = standing;
          modules = each_instance (λ i. (y : Module) × (slice_get d.modules i.«module» ≡ Some y)) h.modules;
          nets = λ k x at. (let q = of_map bare_net m.nets k x (sym (ap (λ (l : List Net). slice_get l k) j.nets) ∙ at) in subst IsSizedNet q.2 (sized_net q.0 (h.nets k q.0 q.1)));
          mems = λ k x at. (let q = of_map bare_mem m.mems k x (sym (ap (λ (l : List Mem). slice_get l k) j.mems) ∙ at) in subst IsSizedMem q.2 (sized_mem q.0 (h.mems k q.0 q.1)));
          ports = λ k p at. (let f = h.ports k p (port_at k p at) in record { net = omega (arith, f.net, nets); wire = reg_at p.net f.net ∙ f.wire });
          apart = λ i k p q at at'. h.apart i k p q (port_at i p at) (port_at k q at');
          typed = typed_at;
          given = given_at;
          one = λ t x y q r. h.one t x y (drives_at x t q) (drives_at y t r);
          free = λ p a q b f w. h.free p a q b (feeds_at f) (way_at w);
          update_widths = λ k u at. subst (IsUpdateTyped n) (update_same u)
              (update_typed 0 0 m n (sits_copied j) u (h.standing.ranged.updates k u
              (update_at k u at)) (h.update_widths k u (update_at k u at)));
          regs = λ k t u at is. (let r = h.regs k t u (update_at k u at) is in reg_at t (kept_in m t r) ∙ r);
          updated = updated_at;
          joined = λ k i e. (let c = connection_at k i e in
              h.joined k i (connection_of c) ∙ sym (width_at c.own (h.standing.nets k c.part i c.own c.of c.joins)) ∙ ap (width_of n) (sym (none c.own) ∙ c.moved));
        }
