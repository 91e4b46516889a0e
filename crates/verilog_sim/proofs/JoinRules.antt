-- A module with one more part keeps the rules.
use Rattle.std.proofs.Common.{◌≡◌, ℕ, zero, suc, ◌+◌, ◌-◌, ◌<◌, ◌≤◌, Bool, true, false, cond, List, [], ◌∷◌, map, length, Some, refl, sym, ap, ◌∙◌, subst, ⊎_elim, arith, length-append}
use Rattle.std.specs.Prelude.{slice_get}
use Rattle.std.proofs.lemmas.Bool.{cases_lt}
use Rattle.std.proofs.lemmas.List.{length-map}
use Rattle.rtl_ir.specs.declared.design.Design.{Design}
use Rattle.rtl_ir.specs.declared.design.Module.{Module}
use Rattle.rtl_ir.specs.declared.design.Net.{Net}
use Rattle.rtl_ir.specs.declared.design.Mem.{Mem}
use Rattle.rtl_ir.specs.declared.design.Port.{Port}
use Rattle.rtl_ir.specs.declared.design.Assign.{Assign}
use Rattle.rtl_ir.specs.declared.design.Update.{Update}
use Rattle.rtl_ir.specs.declared.design.Target.{Target}
use Rattle.rtl_ir.specs.declared.design.Target.TheVariants.{Reg, Cell as Scope'}
use Rattle.rtl_ir.specs.declared.design.Instance.{Instance}
use Rattle.rtl_ir.specs.declared.design.Expr.TheVariants.{Net as Plain}
use Rattle.rtl_ir.specs.Value.{width_of, is_reg}
use Rattle.rtl_ir.specs.Operands.{target_net, target_mem}
use Rattle.rtl_ir.specs.Formed.{IsFormedAssign, IsFormedUpdate}
use Rattle.rtl_ir.specs.Typed.{IsTyped, IsUpdateTyped, target_width}
use Rattle.rtl_ir.specs.Rules.{Connection}
use Rattle.verilog_sim.specs.Relocation.{bare_net, bare_mem, relocated_expr, relocated_assign, relocated_target, relocated_update, relocated_instance}
use Rattle.verilog_sim.specs.declared.scope.Scope.{Scope}
use Rattle.verilog_sim.specs.Runnable.{IsSizedNet, IsSizedMem}
use Rattle.verilog_sim.specs.Flattened.{IsJoined}
use Rattle.verilog_sim.proofs.Cutting.{Sits, kept_in}
use Rattle.verilog_sim.proofs.Sitting.{assign_made, Side, left, right, side_of, some_left, get_right, of_map, to_map, none, assign_same, update_same, sits_inner, sits_outer}
use Rattle.verilog_sim.proofs.Parting.{Standing, inst_inner, inst_other, inst_last}
use Rattle.verilog_sim.proofs.Joining.{JoinAt, Assigning, by_outer, by_inner, by_join, assigning, formed_relocated, formed_wider, typed_relocated, connection_of, connection_in}
use Rattle.verilog_sim.proofs.Placed.{IsPlaced}
use Rattle.verilog_sim.proofs.Feeding.{free_before}
use Rattle.verilog_sim.proofs.JoinDrivers.{one_joined, given_joined, reg_outer}

-- updates under moved numbers
target_formed : (b nets : ℕ) (c : ℕ) (t : Target) → target_net t < nets → target_net (relocated_target b c t) < b + nets
target_formed b nets c (Reg r) lt = omega (arith, lt)
target_formed b nets c (Scope' k a) lt = omega (arith, lt)

mem_formed : (b c mems : ℕ) (t : Target) → ((k : ℕ) → target_mem t ≡ Some k → k < mems) → (k : ℕ) → target_mem (relocated_target b c t) ≡ Some k → k < c + mems
mem_formed b c mems (Reg r) h k e = absurd (cc)
mem_formed b c mems (Scope' i a) h k e = let f : c + i ≡ k = cc in omega (arith, h i refl, f)

pub update_relocated : (b c : ℕ) (inner n : Module) → b + length inner.nets ≤ length n.nets
    → c + length inner.mems ≤ length n.mems → (u : Update) → IsFormedUpdate inner u
    → IsFormedUpdate n (relocated_update b c u)
update_relocated b c inner n nets mems u f =
    record {
      enable = omega (arith, f.enable);
      value = omega (arith, f.value);
      net = omega (arith, target_formed b (length inner.nets) c u.target f.net);
      mem = λ k e. omega (arith, mem_formed b c (length inner.mems) u.target f.mem k e);
    }

target_typed : (b c : ℕ) (inner n : Module) → Sits b c inner n → (t : Target)
    → target_net t < length inner.nets → ((k : ℕ) → target_mem t ≡ Some k
    → k < length inner.mems) → target_width n (relocated_target b c t) ≡ target_width inner t
target_typed b c inner n s (Reg r) net mem = s.widths r net
target_typed b c inner n s (Scope' k a) net mem = s.word_widths k (mem k refl)

pub update_typed : (b c : ℕ) (inner n : Module) → Sits b c inner n → (u : Update) → IsFormedUpdate inner u → IsUpdateTyped inner u → IsUpdateTyped n (relocated_update b c u)
update_typed b c inner n s u f t =
    record {
      enable = s.widths u.enable f.enable ∙ t.enable;
      value = s.widths u.value f.value ∙ t.value ∙ sym (target_typed b c inner n s u.target f.net f.mem);
    }

pub of_moved_reg : (b c t : ℕ) (x : Target) → relocated_target b c x ≡ Reg t → (r : ℕ) × (x ≡ Reg r) × (b + r ≡ t)
of_moved_reg b c t (Reg r) e = (r, refl, cc)
of_moved_reg b c t (Scope' k a) e = absurd (cc)

module _ {d : Design} {m n : Module} {s : Scope} (j : IsJoined d m s n) (h : IsPlaced d m) (g : IsPlaced d j.inner) where
  nets : length n.nets ≡ length m.nets + length j.inner.nets
  nets = omega (arith, ap length j.nets, length-append m.nets (map bare_net j.inner.nets), length-map j.inner.nets bare_net)

  mems : length n.mems ≡ length m.mems + length j.inner.mems
  mems = omega (arith, ap length j.mems, length-append m.mems (map bare_mem j.inner.mems), length-map j.inner.mems bare_mem)

  inner_sits : Sits (length m.nets) (length m.mems) j.inner n
  inner_sits = sits_inner j h.standing.ranged

  width_outer : (t : ℕ) → t < length m.nets → width_of n t ≡ width_of m t
  width_outer t lt = ap (width_of n) (sym (none t)) ∙ (sits_outer j).widths t lt

  reads_one : (k i t : ℕ) → slice_get (k ∷ []) i ≡ Some t → k ≡ t
  reads_one k zero t e = cc
  reads_one k (suc i) t e = absurd (cc)

  plain : (t k : ℕ) → t < length n.nets → k < length n.nets → IsFormedAssign n (assign_made t (Plain k))
  plain t k lt less = record {
    target = lt;
    expr = record { nets = λ i r. subst (λ (x : ℕ). x < length n.nets) (reads_one k r.0 i r.1) less; mem = λ i e. absurd (cc); numbers = λ i x e. absurd (cc) };
  }

  -- a property of the assignments of n
  each_assign :
      (P : Assign → Type 0)
      → ((k : ℕ) (a : Assign) → slice_get m.assigns k ≡ Some a → P a)
      → ((k : ℕ) (a : Assign) → slice_get j.inner.assigns k ≡ Some a → P (relocated_assign (length m.nets) (length m.mems) a))
      → ((i : ℕ) (p : Port) (o : ℕ) → slice_get j.inner.ports i ≡ Some p
      → slice_get j.part.nets i ≡ Some o → P (assign_made o (Plain (length m.nets + p.net)))
      × P (assign_made (length m.nets + p.net) (Plain o)))
      → (k : ℕ) (a : Assign) → slice_get n.assigns k ≡ Some a → P a
  each_assign P outer inner join k a at = by_origin (assigning j k a at)
    where
      by_port : (i : ℕ) (q : JoinAt (length m.nets) j.inner.ports j.part.nets i a) → (o : Bool)
          → P (cond o (assign_made q.net (Plain (length m.nets + q.port.net)))
          (assign_made (length m.nets + q.port.net) (Plain q.net)))
      by_port i q true = (join i q.port q.net q.at q.joins).0
      by_port i q false = (join i q.port q.net q.at q.joins).1

      by_origin : Assigning j k a → P a
      by_origin (by_outer at') = outer k a at'
      by_origin (by_inner i x place at' same) = subst P same (inner i x at')
      by_origin (by_join i place q) = subst P q.is (by_port i q q.port.output)

  net_of : (i o : ℕ) → slice_get j.part.nets i ≡ Some o → o < length m.nets
  net_of i o e = h.standing.nets (length j.rest) j.part i o (inst_last j) e

  formed : (k : ℕ) (a : Assign) → slice_get n.assigns k ≡ Some a → IsFormedAssign n a
  formed =
      each_assign (IsFormedAssign n)
      (λ k a at. (let f = h.standing.ranged.assigns k a at in record { target = omega (arith, f.target, nets); expr = formed_wider m n (omega (arith, nets)) (omega (arith, mems)) a.expr f.expr }))
      (λ k a at. (let f = g.standing.ranged.assigns k a at in record {
        target = omega (arith, f.target, nets);
        expr = formed_relocated (length m.nets) (length m.mems) j.inner n (omega (arith, nets)) (omega (arith, mems)) a.expr f.expr;
      }))
      (λ i p o at joins. (let lt = net_of i o joins in let less =
      (g.ports i p at).net in let x : o < length n.nets = omega (
        arith,
        lt,
        nets,
      ) in let y : length m.nets + p.net < length n.nets = omega (
        arith,
        less,
        nets,
      ) in (plain o (length m.nets + p.net) x y, plain (length m.nets + p.net) o y x)))

  typed : (k : ℕ) (a : Assign) → slice_get n.assigns k ≡ Some a → IsTyped n (width_of n a.target) a.expr
  typed =
      each_assign (λ a. IsTyped n (width_of n a.target) a.expr)
      (λ k a at. (let f = h.standing.ranged.assigns k a at in
      subst (λ (x : Assign). IsTyped n (width_of n x.target) x.expr) (assign_same a)
      (subst (λ (w : ℕ). IsTyped n w (relocated_expr 0 0 a.expr))
      (sym ((sits_outer j).widths a.target f.target))
      (typed_relocated 0 0 m n (sits_outer j) (width_of m a.target) a.expr f.expr
      (h.typed k a at)))))
      (λ k a at. (let f = g.standing.ranged.assigns k a at in
      subst (λ (w : ℕ). IsTyped n w (relocated_expr (length m.nets) (length m.mems) a.expr))
      (sym (inner_sits.widths a.target f.target)) (typed_relocated (length m.nets)
      (length m.mems) j.inner n inner_sits (width_of j.inner a.target) a.expr f.expr
      (g.typed k a at))))
      (λ i p o at joins. (let e : width_of n (length m.nets + p.net) ≡ width_of n o = inner_sits.widths p.net ((g.ports i p at).net) ∙ h.joined (length j.rest) i (record {
        part = j.part;
        of = inst_last j;
        inner = j.inner;
        is = j.is;
        port = p;
        at = at;
        net = o;
        joins = joins;
      }) ∙ sym (width_outer o (net_of i o joins)) in (e, sym e)))

  -- a property of the updates of n
  each_update :
      (P : Update → Type 0)
      → ((k : ℕ) (u : Update) → slice_get m.updates k ≡ Some u → P u)
      → ((k : ℕ) (u : Update) → slice_get j.inner.updates k ≡ Some u → P (relocated_update (length m.nets) (length m.mems) u))
      → (k : ℕ) (u : Update) → slice_get n.updates k ≡ Some u → P u
  each_update P outer inner k u at = by_side (side_of m.updates
      (map (relocated_update (length m.nets) (length m.mems)) j.inner.updates) k u
      (sym (ap (λ (l : List Update). slice_get l k) j.updates) ∙ at))
    where
      by_side : Side m.updates (map (relocated_update (length m.nets) (length m.mems)) j.inner.updates) k u → P u
      by_side (left lt e) = outer k u e
      by_side (right i place e) = let q = of_map (relocated_update (length m.nets) (length m.mems)) j.inner.updates i u e in subst P q.2 (inner i q.0 q.1)

  updates_formed : (k : ℕ) (u : Update) → slice_get n.updates k ≡ Some u → IsFormedUpdate n u
  updates_formed =
      each_update (IsFormedUpdate n)
      (λ k u at. subst (IsFormedUpdate n) (update_same u) (update_relocated 0 0 m n (omega (arith, nets)) (omega (arith, mems)) u (h.standing.ranged.updates k u at)))
      (λ k u at. update_relocated (length m.nets) (length m.mems) j.inner n (omega (arith, nets)) (omega (arith, mems)) u (g.standing.ranged.updates k u at))

  updates_typed : (k : ℕ) (u : Update) → slice_get n.updates k ≡ Some u → IsUpdateTyped n u
  updates_typed =
      each_update (IsUpdateTyped n)
      (λ k u at. subst (IsUpdateTyped n) (update_same u) (update_typed 0 0 m n (sits_outer j) u (h.standing.ranged.updates k u at) (h.update_widths k u at)))
      (λ k u at. update_typed (length m.nets) (length m.mems) j.inner n inner_sits u (g.standing.ranged.updates k u at) (g.update_widths k u at))

  regs : (k t : ℕ) (u : Update) → slice_get n.updates k ≡ Some u → u.target ≡ Reg t → is_reg n t ≡ true
  regs k t u at is =
      each_update (λ u. u.target ≡ Reg t → is_reg n t ≡ true)
      (λ k u at is. (let r = h.regs k t u at is in reg_outer j h g t (kept_in m t r) ∙ r))
      (λ k u at is. (let q = of_moved_reg (length m.nets) (length m.mems) t u.target is in let r = g.regs k q.0 u at q.1 in ap (is_reg n) (sym q.2) ∙ inner_sits.regs q.0 (kept_in j.inner q.0 r) ∙ r))
      k u at is

  updated : (t : ℕ) → is_reg n t ≡ true → (k : ℕ) × (u : Update) × (slice_get n.updates k ≡ Some u) × (u.target ≡ Reg t)
  updated t reg = ⊎_elim low high (cases_lt t (length m.nets))
    where
      low : t < length m.nets → (k : ℕ) × (u : Update) × (slice_get n.updates k ≡ Some u) × (u.target ≡ Reg t)
      low lt =
          let q = h.updated t (sym (reg_outer j h g t lt) ∙ reg) in
          (q.0, q.1, ap (λ (l : List Update). slice_get l q.0) j.updates ∙ some_left m.updates (map (relocated_update (length m.nets) (length m.mems)) j.inner.updates) q.0 q.1 q.2, q.3)

      high : length m.nets ≤ t → (k : ℕ) × (u : Update) × (slice_get n.updates k ≡ Some u) × (u.target ≡ Reg t)
      high ge =
          let e : length m.nets + (t - length m.nets) ≡ t = omega (arith, ge) in
          let lt : t - length m.nets < length j.inner.nets = omega (arith, kept_in n t reg, nets, ge) in
          let q = g.updated (t - length m.nets) (sym (inner_sits.regs (t - length m.nets) lt) ∙ ap (is_reg n) e ∙ reg) in (
            length m.updates + q.0,
            relocated_update (length m.nets) (length m.mems) q.1,
            ap (λ (l : List Update). slice_get l
                (length m.updates + q.0)) j.updates ∙ get_right m.updates
                (map (relocated_update (length m.nets)
                (length m.mems)) j.inner.updates) q.0 ∙ to_map
                (relocated_update (length m.nets) (length m.mems)) j.inner.updates q.0 q.1 q.2,
            ap (relocated_target (length m.nets) (length m.mems)) q.3 ∙ ap Reg e,
          )

  -- a property of the instances of n
  each_instance :
      (P : Instance → Type 0)
      → ((k : ℕ) (i : Instance) → slice_get m.instances k ≡ Some i → P i)
      → ((k : ℕ) (i : Instance) → slice_get j.inner.instances k ≡ Some i → P (relocated_instance (length m.nets) i))
      → (k : ℕ) (i : Instance) → slice_get n.instances k ≡ Some i → P i
  each_instance P outer inner k i at = by_side (side_of j.rest (map (relocated_instance (length m.nets)) j.inner.instances) k i (sym (ap (λ (l : List Instance). slice_get l k) j.instances) ∙ at))
    where
      by_side : Side j.rest (map (relocated_instance (length m.nets)) j.inner.instances) k i → P i
      by_side (left lt e) = outer k i (sym (inst_other j k lt) ∙ at)
      by_side (right l place e) = let q = of_map (relocated_instance (length m.nets)) j.inner.instances l i e in subst P q.2 (inner l q.0 q.1)

  standing : Standing d n
  standing =
      record {
        ranged = record { assigns = formed; updates = updates_formed };
        nets = λ k i l o at is. each_instance (λ i. (l o : ℕ) → slice_get i.nets l ≡ Some o → o < length n.nets)
            (λ k i at l o is. omega (arith, h.standing.nets k i l o at is, nets))
            (λ k i at l o is. (let q = of_map (λ t. length m.nets + t) i.nets l o is in omega (arith, g.standing.nets k i l q.0 at q.1, q.2, nets)))
            k i at l o is;
        sizes = λ k i y at is. each_instance (λ i. (y : Module) → slice_get d.modules i.«module» ≡ Some y → length i.nets ≡ length y.ports)
            (λ k i at y is. h.standing.sizes k i y at is)
            (λ k i at y is. length-map i.nets (λ t. length m.nets + t) ∙ g.standing.sizes k i y at is)
            k i at y is;
      }

  connection_width : (k i : ℕ) (e : Connection d n k i) → width_of e.inner e.port.net ≡ width_of n e.net
  connection_width k i e = ⊎_elim other deep (cases_lt k (length j.rest))
    where
      other : k < length j.rest → width_of e.inner e.port.net ≡ width_of n e.net
      other lt =
          let of' : slice_get m.instances k ≡ Some e.part = sym (inst_other j k lt) ∙ e.of in
          h.joined k i (record {
            part = e.part;
            of = of';
            inner = e.inner;
            is = e.is;
            port = e.port;
            at = e.at;
            net = e.net;
            joins = e.joins;
          }) ∙ sym (width_outer e.net (h.standing.nets k e.part i e.net of' e.joins))

      deep_at : (l : ℕ) (x : Connection d n (length j.rest + l) i) → width_of x.inner x.port.net ≡ width_of n x.net
      deep_at l x =
          let c = connection_in d j.inner n (length m.nets) (length j.rest) l i (inst_inner j l) x in
          g.joined l i (connection_of c) ∙ sym (inner_sits.widths c.own (g.standing.nets l c.part i c.own c.of c.joins)) ∙ ap (width_of n) c.moved

      deep : length j.rest ≤ k → width_of e.inner e.port.net ≡ width_of n e.net
      deep ge =
          let q : length j.rest + (k - length j.rest) ≡ k = omega (arith, ge) in
          subst (λ (l : ℕ). (x : Connection d n l i) → width_of x.inner x.port.net ≡ width_of n x.net) q (deep_at (k - length j.rest)) e

  port_at : (k : ℕ) (p : Port) → slice_get n.ports k ≡ Some p → slice_get m.ports k ≡ Some p
  port_at k p at = sym (ap (λ (l : List Port). slice_get l k) j.ports) ∙ at

  sized_nets : (k : ℕ) (x : Net) → slice_get n.nets k ≡ Some x → IsSizedNet x
  sized_nets k x at = by_side (side_of m.nets (map bare_net j.inner.nets) k x (sym (ap (λ (l : List Net). slice_get l k) j.nets) ∙ at))
    where
      bare : (y : Net) → IsSizedNet y → IsSizedNet (bare_net y)
      bare y f = record { some = f.some; at_most = f.at_most }

      by_side : Side m.nets (map bare_net j.inner.nets) k x → IsSizedNet x
      by_side (left lt e) = h.nets k x e
      by_side (right i place e) = let q = of_map bare_net j.inner.nets i x e in subst IsSizedNet q.2 (bare q.0 (g.nets i q.0 q.1))

  sized_mems : (k : ℕ) (x : Mem) → slice_get n.mems k ≡ Some x → IsSizedMem x
  sized_mems k x at = by_side (side_of m.mems (map bare_mem j.inner.mems) k x (sym (ap (λ (l : List Mem). slice_get l k) j.mems) ∙ at))
    where
      bare : (y : Mem) → IsSizedMem y → IsSizedMem (bare_mem y)
      bare y f = record { some = f.some; at_most = f.at_most; words = f.words }

      by_side : Side m.mems (map bare_mem j.inner.mems) k x → IsSizedMem x
      by_side (left lt e) = h.mems k x e
      by_side (right i place e) = let q = of_map bare_mem j.inner.mems i x e in subst IsSizedMem q.2 (bare q.0 (g.mems i q.0 q.1))

  pub placed_joined : IsPlaced d n
  placed_joined =
      record {
        standing = standing;
        modules = each_instance (λ i. (y : Module) × (slice_get d.modules i.«module» ≡ Some y)) h.modules g.modules;
        nets = sized_nets;
        mems = sized_mems;
        ports = λ k p at. (let f = h.ports k p (port_at k p at) in record { net = omega (arith, f.net, nets); wire = reg_outer j h g p.net f.net ∙ f.wire });
        apart = λ i k p q at at'. h.apart i k p q (port_at i p at) (port_at k q at');
        typed = typed;
        given = given_joined j h g;
        one = one_joined j h g;
        free = free_before j h.standing h.free;
        update_widths = updates_typed;
        regs = regs;
        updated = updated;
        joined = connection_width;
      }
