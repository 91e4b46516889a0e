-- A module with its nets under other numbers keeps the rules of drivers, updates and widths where it did.
use Rattle.std.proofs.Common.{◌≡◌, ◌∙◌, ◌⊎◌, inl, inr, ℕ, zero, suc, ◌+◌, ◌*◌, ◌<◌, Bool, true}
use Rattle.std.proofs.Common.{false, ◌||◌, ◌&&◌, ◌==◌, not, List, [], ◌∷◌, ◌++◌, length, refl, sym}
use Rattle.std.proofs.Common.{ap, subst, arith, Option, Some, None, append_assoc, nat_eq}
use Rattle.std.specs.Prelude.{map, slice_get}
use Rattle.std.proofs.lemmas.Option.{slice_get_within, slice_get-map}
use Rattle.std.proofs.lemmas.Bool.Decides.{Decides-eqb}
use Rattle.std.specs.Option.{option_map}
use Rattle.rtl_ir.specs.declared.design.Net.{Net}
use Rattle.rtl_ir.specs.declared.design.Mem.{Mem}
use Rattle.rtl_ir.specs.declared.design.Port.{Port}
use Rattle.rtl_ir.specs.declared.design.Sign.{Sign}
use Rattle.rtl_ir.specs.declared.design.Expr.{Expr}
use Rattle.rtl_ir.specs.declared.design.Expr.TheVariants.{Net as Plain, Literal, Not, Binary, Concat, Repeat, Part, Choose, Cell}
use Rattle.rtl_ir.specs.declared.design.Assign.{Assign}
use Rattle.rtl_ir.specs.declared.design.Target.{Target}
use Rattle.rtl_ir.specs.declared.design.Target.TheVariants.{Reg, Cell as Place}
use Rattle.rtl_ir.specs.declared.design.Update.{Update}
use Rattle.rtl_ir.specs.declared.design.Instance.{Instance}
use Rattle.rtl_ir.specs.declared.design.Module.{Module}
use Rattle.rtl_ir.specs.declared.design.Design.{Design}
use Rattle.rtl_ir.specs.Value.{net_kept, width_of, is_reg}
use Rattle.rtl_ir.specs.Operands.{reads, IsRead, target_net}
use Rattle.rtl_ir.specs.Typed.{is_input, is_given, mem_width, word_width, IsSignTyped, IsTyped, target_width, IsUpdateTyped}
use Rattle.rtl_ir.specs.Formed.{IsFormedPort, IsFormedExpr, IsFormedModule, IsFormed}
use Rattle.rtl_ir.specs.Rules.{names_of, AllDiffer, Connection, Driver, ByAssign, ByPort, Drives, HasDrivers, HasUpdates, Feeds, Way, IsLevelled, HasWidths, IsSound}
use Rattle.rtl_reading.specs.Renumbered.{port_as, expr_as, assign_as, target_as, update_as, instance_as, IsRenumbered}
use Rattle.rtl_reading.proofs.Same.{mapped, mapped_to, reads_as, Paired, same_width, same_reg, same_number, net_back}

reg_step : (o : Option Net) (nets : List Net) (n : ℕ) → slice_get nets n ≡ o → net_kept o ≡ true → n < length nets
reg_step None nets n e h = absurd (cc)
reg_step (Some x) nets n e h = slice_get_within nets n x e

reg_within : (m : Module) (n : ℕ) → is_reg m n ≡ true → n < length m.nets
reg_within m n h = reg_step (slice_get m.nets n) m.nets n refl h

reg_back : (f : ℕ → ℕ) (t : Target) (n : ℕ) → target_as f t ≡ Reg n → (k : ℕ) × (t ≡ Reg k) × (f k ≡ n)
reg_back f (Reg k) n e = (k, refl, cc)
reg_back f (Place k a) n e = absurd (cc)

place_back : (f : ℕ → ℕ) (t : Target) (k a : ℕ) → target_as f t ≡ Place k a → (b : ℕ) × (t ≡ Place k b)
place_back f (Reg n) k a e = absurd (cc)
place_back f (Place j b) k a e = (b, (let same : j ≡ k = cc in ap (λ (v : ℕ). Place v b) same))

-- what is joined in one design is in the other
pub record Joins (d : Design) {e : Design} {m x : Module} (r : IsRenumbered m x) (k j : ℕ) (c : Connection e x k j) : Type 0 where
  pub from : Connection d m k j
  pub inner : IsRenumbered from.inner c.inner
  pub port : port_as inner.number from.port ≡ c.port
  pub net : r.number from.net ≡ c.net

pub record JoinsAt (d : Design) {e : Design} {m x : Module} (r : IsRenumbered m x) (k j : ℕ) (c : Connection e x k j) (z : Module) (s : IsRenumbered z c.inner) : Type 0 where
  pub part : Instance
  pub of : slice_get m.instances k ≡ Some part
  pub is : slice_get d.modules part.«module» ≡ Some z
  pub port : Port
  pub at : slice_get z.ports j ≡ Some port
  pub net : ℕ
  pub joins : slice_get part.nets j ≡ Some net
  pub same_port : port_as s.number port ≡ c.port
  pub same_net : r.number net ≡ c.net

module _ {d e : Design} (q : Paired d.modules e.modules) where
  connected : {m x : Module} (r : IsRenumbered m x) (k j : ℕ) (c : Connection d m k j) → (b : Connection e x k j) × (b.port.output ≡ c.port.output) × (b.net ≡ r.number c.net)
  connected {m = m} {x = x} r k j c =
      let (y, at, s) = q.to c.part.«module» c.inner c.is in (
        record {
          part = instance_as r.number c.part;
          of = mapped_to (instance_as r.number) m.instances x.instances k c.part r.instances c.of;
          inner = y;
          is = at;
          port = port_as s.number c.port;
          at = mapped_to (port_as s.number) c.inner.ports y.ports j c.port s.ports c.at;
          net = r.number c.net;
          joins = mapped_to r.number c.part.nets (map r.number c.part.nets) j c.net refl c.joins;
        },
        refl,
        refl,
      )

  pub joins_back : {m x : Module} (r : IsRenumbered m x) (k j : ℕ) (c : Connection e x k j) → Joins d r k j c
  joins_back {m = m} {x = x} r k j c =
      let (i, of, same) = mapped (instance_as r.number) m.instances x.instances k c.part r.instances c.of in
      let (z, at, s) = q.at c.part.«module» c.inner c.is in
      let (p, pt, port) = mapped (port_as s.number) z.ports c.inner.ports j c.port s.ports c.at in
      let (n, nt, net) = mapped r.number i.nets c.part.nets j c.net (sym (ap (λ (v : Instance). v.nets) same)) c.joins in
      record {
        from = record { part = i; of = of; inner = z; is = ap (λ (v : Instance). slice_get d.modules v.«module») same ∙ at; port = p; at = pt; net = n; joins = nt };
        inner = s;
        port = port;
        net = net;
      }

  -- the same with the module of the instance at hand
  pub joins_at : {m x : Module} (r : IsRenumbered m x) (k j : ℕ) (c : Connection e x k j)
      (z : Module) → slice_get d.modules c.part.«module» ≡ Some z → (s : IsRenumbered z c.inner)
      → JoinsAt d r k j c z s
  joins_at {m = m} {x = x} r k j c z at s =
      let (i, of, same) = mapped (instance_as r.number) m.instances x.instances k c.part r.instances c.of in
      let (p, pt, port) = mapped (port_as s.number) z.ports c.inner.ports j c.port s.ports c.at in
      let (n, nt, net) = mapped r.number i.nets c.part.nets j c.net (sym (ap (λ (v : Instance). v.nets) same)) c.joins in
      record { part = i; of = of; is = ap (λ (v : Instance). slice_get d.modules v.«module») same ∙ at; port = p; at = pt; net = n; joins = nt; same_port = port; same_net = net }

  module _ {m x : Module} (r : IsRenumbered m x) where
    back_of : (n k : ℕ) → n < length m.nets → r.number n ≡ k → r.back k ≡ n
    back_of n k h e = ap r.back (sym e) ∙ (r.there n h).1

    test_as : (a b : ℕ) → a < length m.nets → b < length m.nets → (r.number a == r.number b) ≡ (a == b)
    test_as a b h k = go (a == b) refl (r.number a == r.number b) refl
      where
        go : (s : Bool) → (a == b) ≡ s → (t : Bool) → (r.number a == r.number b) ≡ t → t ≡ s
        go true e true f = refl
        go false e false f = refl
        go true e false f = let same : a ≡ b = (Decides-eqb a b).0 e in let yes : (r.number a == r.number b) ≡ true = (Decides-eqb (r.number a) (r.number b)).1 (ap r.number same) in cc
        go false e true f = let same : a ≡ b = same_number r a b h k ((Decides-eqb (r.number a) (r.number b)).0 f) in let yes : (a == b) ≡ true = (Decides-eqb a b).1 same in cc

    input_as : (ports : List Port) (n : ℕ) → n < length m.nets
        → ((k : ℕ) (p : Port) → slice_get ports k ≡ Some p → IsFormedPort m p)
        → is_input (map (port_as r.number) ports) (r.number n) ≡ is_input ports n
    input_as [] n h f = refl
    input_as (p ∷ ports) n h f =
        let t = test_as p.net n (f zero p refl).net h in
        let u = input_as ports n h (λ k o e. f (suc k) o e) in
        λ i. (t i && not p.output) || u i

    given_as : {earlier : List Module} → IsFormedModule earlier m → (n : ℕ) → n < length m.nets → is_given x (r.number n) ≡ is_given m n
    given_as f n h =
        let t = same_reg r n h in
        let u = ap (λ (l : List Port). is_input l (r.number n)) r.ports ∙ input_as m.ports n h f.ports in
        λ i. t i || u i

    drives_to : (w : Driver) (n : ℕ) → Drives d m w n → Drives e x w (r.number n)
    drives_to (ByAssign j) n (a, at, same) = (assign_as r.number a, mapped_to (assign_as r.number) m.assigns x.assigns j a r.assigns at, ap r.number same)
    drives_to (ByPort k j) n (c, out, same) = let (b, o, s) = connected r k j c in (b, o ∙ out, s ∙ ap r.number same)

    drives_back : (w : Driver) (n : ℕ) → Drives e x w n → (k : ℕ) × Drives d m w k × (r.number k ≡ n)
    drives_back (ByAssign j) n (a, at, same) = let (b, bt, is) = mapped (assign_as r.number) m.assigns x.assigns j a r.assigns at in (b.target, (b, bt, refl), ap (λ (v : Assign). v.target) is ∙ same)
    drives_back (ByPort k j) n (c, out, same) = let h = joins_back r k j c in (h.from.net, (h.from, ap (λ (v : Port). v.output) h.port ∙ out, refl), h.net ∙ same)

    pub driven_again : {earlier : List Module} → IsFormedModule earlier m → HasDrivers d m → HasDrivers e x
    driven_again f h = record {
      driver = λ n. h.driver (r.back n);
      some = λ n l g.
          let (bl, bs) = r.again n l in
          subst (λ (v : ℕ). Drives e x (h.driver (r.back n)) v) bs (drives_to (h.driver (r.back n)) (r.back n) (h.some (r.back n) bl (sym (given_as f (r.back n) bl) ∙ ap (is_given x) bs ∙ g)));
      only = λ n w s.
          let (k, t, same) = drives_back w n s in
          let (kl, g, is) = h.only k w t in
          (subst (λ (v : ℕ). v < length x.nets) same (r.there k kl).0, ap (is_given x) (sym same) ∙ given_as f k kl ∙ g, is ∙ ap h.driver (sym (back_of k n kl same)));
    }

    pub updated_again : HasUpdates m → HasUpdates x
    updated_again h = record {
      update = λ n. h.update (r.back n);
      some = λ n e'.
          let (bl, bs) = r.again n (reg_within x n e') in
          let (u, at, t) = h.some (r.back n) (sym (same_reg r (r.back n) bl) ∙ ap (is_reg x) bs ∙ e') in
          (update_as r.number u, mapped_to (update_as r.number) m.updates x.updates (h.update (r.back n)) u r.updates at, ap (target_as r.number) t ∙ ap (λ (v : ℕ). Reg v) bs);
      only = λ n j v at t.
          let (u, ut, is) = mapped (update_as r.number) m.updates x.updates j v r.updates at in
          let (k, kt, same) = reg_back r.number u.target n (ap (λ (w : Update). w.target) is ∙ t) in
          let (g, place) = h.only k j u ut kt in
          let kl = reg_within m k g in
          (ap (is_reg x) (sym same) ∙ same_reg r k kl ∙ g, place ∙ ap h.update (sym (back_of k n kl same)));
      of_mems = λ k i j a b u v at bt s t.
          let (u', ut, us) = mapped (update_as r.number) m.updates x.updates i u r.updates at in
          let (v', vt, vs) = mapped (update_as r.number) m.updates x.updates j v r.updates bt in
          let (a', aim) = place_back r.number u'.target k a (ap (λ (w : Update). w.target) us ∙ s) in
          let (b', mark) = place_back r.number v'.target k b (ap (λ (w : Update). w.target) vs ∙ t) in
          h.of_mems k i j a' b' u' v' ut vt aim mark;
    }

    same_words : (k : ℕ) → word_width x k ≡ word_width m k
    same_words k = ap (λ (l : List Mem). mem_width (slice_get l k)) r.mems

    typed_as : (w : ℕ) (t : Expr) → IsFormedExpr m t → IsTyped m w t → IsTyped x w (expr_as r.number t)
    typed_as w (Plain n) f h = same_width r n (f.nets n (0, refl)) ∙ h
    typed_as w (Literal y) f h = h
    typed_as w (Not n) f h = same_width r n (f.nets n (0, refl)) ∙ h
    typed_as w (Binary s a b) f h =
        subst (λ (v : ℕ). IsSignTyped s w v (width_of x (r.number b)))
        (sym (same_width r a (f.nets a (
          0,
          refl,
        )))) (subst (λ (v : ℕ). IsSignTyped s w (width_of m a) v)
        (sym (same_width r b (f.nets b (1, refl)))) h)
    typed_as w (Concat a b) f h = let p = same_width r a (f.nets a (0, refl)) in let o = same_width r b (f.nets b (1, refl)) in (λ i. p i + o i) ∙ h
    typed_as w (Repeat k n) f h = ap (λ (v : ℕ). k * v) (same_width r n (f.nets n (0, refl))) ∙ h
    typed_as w (Part n hi lo) f h = (h.0, subst (λ (v : ℕ). hi < v) (sym (same_width r n (f.nets n (0, refl)))) h.1, h.2)
    typed_as w (Choose c a b) f h = (same_width r c (f.nets c (0, refl)) ∙ h.0, same_width r a (f.nets a (1, refl)) ∙ h.1, same_width r b (f.nets b (2, refl)) ∙ h.2)
    typed_as w (Cell k n) f h = same_words k ∙ h

    target_as_wide : (t : Target) → target_net t < length m.nets → target_width x (target_as r.number t) ≡ target_width m t
    target_as_wide (Reg n) h = same_width r n h
    target_as_wide (Place k a) h = same_words k

    pub widths_again : {earlier : List Module} → IsFormedModule earlier m → IsFormed d.modules → HasWidths d m → HasWidths e x
    widths_again f all h = record {
      typed = λ j b at.
          let (a, bt, is) = mapped (assign_as r.number) m.assigns x.assigns j b r.assigns at in
          let g = f.assigns j a bt in
          subst (λ (v : Assign). IsTyped x (width_of x v.target) v.expr) is
          (subst (λ (v : ℕ). IsTyped x v (expr_as r.number a.expr)) (sym (same_width r a.target g.target)) (typed_as (width_of m a.target) a.expr g.expr (h.typed j a bt)));
      updates = λ j v at.
          let (u, ut, is) = mapped (update_as r.number) m.updates x.updates j v r.updates at in
          let g = f.updates j u ut in
          let t = h.updates j u ut in
          subst (IsUpdateTyped x) is (record { enable = same_width r u.enable g.enable ∙ t.enable; value = same_width r u.value g.value ∙ t.value ∙ sym (target_as_wide u.target g.net) });
      joined = λ k j c.
          let b = joins_back r k j c in
          let s = b.inner in
          let inside = ((all.each b.from.part.«module» b.from.inner b.from.is).ports j b.from.port b.from.at).net in
          let outside = (f.instances k b.from.part b.from.of).nets j b.from.net b.from.joins in
          ap (λ (v : Port). width_of c.inner v.net) (sym b.port) ∙ same_width s b.from.port.net inside ∙ h.joined k j b.from ∙ sym (same_width r b.from.net outside) ∙ ap (width_of x) b.net;
    }
