-- A way in a module with one more part is a way in the module with the instance.
use Rattle.std.proofs.Common.{◌≡◌, ℕ, zero, suc, ◌+◌, ◌-◌, ◌<◌, Bool, true, false, cond, ltb, [], ◌∷◌, length, Some, refl, sym, ap, ◌∙◌, subst, ⊎_elim, arith}
use Rattle.std.specs.Prelude.{slice_get}
use Rattle.std.proofs.lemmas.Bool.{cases_lt, lt-ltb, le-ltb}
use Rattle.rtl_ir.specs.declared.design.Design.{Design}
use Rattle.rtl_ir.specs.declared.design.Module.{Module}
use Rattle.rtl_ir.specs.declared.design.Assign.{Assign}
use Rattle.rtl_ir.specs.declared.design.Instance.{Instance}
use Rattle.rtl_ir.specs.declared.design.Expr.{Expr}
use Rattle.rtl_ir.specs.declared.design.Expr.TheVariants.{Net as Plain}
use Rattle.rtl_ir.specs.Flat.{Path}
use Rattle.rtl_ir.specs.Operands.{IsRead}
use Rattle.rtl_ir.specs.Rules.{Connection}
use Rattle.rtl_ir.specs.Walks.{FlatFeeds, own, enter, leave, inside, FlatWay, done, then'}
use Rattle.verilog_sim.specs.Relocation.{relocated_instance}
use Rattle.verilog_sim.specs.declared.scope.Scope.{Scope}
use Rattle.verilog_sim.specs.Flattened.{IsJoined}
use Rattle.verilog_sim.proofs.Sitting.{assign_made, some_of_map}
use Rattle.verilog_sim.proofs.Parting.{Standing, inst_inner, inst_other, inst_last}
use Rattle.verilog_sim.proofs.Joining.{read_moved, Assigning, by_outer, by_inner, by_join, assigning, connection_of, connection_in}

-- where a net of the module with the part stands in the module with the instance
abbrev path_before : ℕ → ℕ → Path → ℕ → Path
path_before b last [] a = cond (ltb a b) [] (last ∷ [])
path_before b last (k ∷ p) a = cond (ltb k last) (k ∷ p) (last ∷ (k - last) ∷ p)

abbrev net_before : ℕ → Path → ℕ → ℕ
net_before b [] a = cond (ltb a b) a (a - b)
net_before b (k ∷ p) a = a

-- a net stands at this place
record Stands (b last : ℕ) (p : Path) (a : ℕ) (q : Path) (c : ℕ) : Type 0 where
  path : path_before b last p a ≡ q
  net : net_before b p a ≡ c

outer_net : (b last a : ℕ) → a < b → Stands b last [] a [] a
outer_net b last a lt = record { path = ap (λ t. cond t [] (last ∷ [])) (lt-ltb a b lt); net = ap (λ t. cond t a (a - b)) (lt-ltb a b lt) }

outer_same : (b last a c : ℕ) → c < b → c ≡ a → Stands b last [] a [] c
outer_same b last a c lt e = subst (λ (x : ℕ). Stands b last [] x [] c) e (outer_net b last c lt)

inner_net : (b last a n : ℕ) → b + a ≡ n → Stands b last [] n (last ∷ []) a
inner_net b last a n e =
    record { path = ap (λ t. cond t [] (last ∷ [])) (le-ltb n b (omega (arith, e))); net = ap (λ t. cond t n (n - b)) (le-ltb n b (omega (arith, e))) ∙ (let f : n - b ≡ a = omega (arith, e) in f) }

other_net : (b last k : ℕ) (p : Path) (a : ℕ) → k < last → Stands b last (k ∷ p) a (k ∷ p) a
other_net b last k p a lt = record { path = ap (λ t. cond t (k ∷ p) (last ∷ (k - last) ∷ p)) (lt-ltb k last lt); net = refl }

deep_net : (b last k : ℕ) (p : Path) (a : ℕ) → Stands b last ((last + k) ∷ p) a (last ∷ k ∷ p) a
deep_net b last k p a =
    record {
      path = ap (λ t. cond t ((last + k) ∷ p) (last ∷ (last + k - last) ∷ p)) (le-ltb (last + k) last (omega arith)) ∙ (let f : last + k - last ≡ k = omega arith in ap (λ (i : ℕ). last ∷ i ∷ p) f);
      net = refl;
    }

-- the way from net to net, in the module with the instance
abbrev Before : Design → Module → ℕ → ℕ → Path → ℕ → Path → ℕ → Type 0
Before d m b last p a q c = FlatFeeds d m (path_before b last p a) (net_before b p a) (path_before b last q c) (net_before b q c)

before : {d : Design} {m : Module} {b last : ℕ} {p q p' q' : Path} {a c a' c' : ℕ} → Stands b last p a p' a' → Stands b last q c q' c' → FlatFeeds d m p' a' q' c' → Before d m b last p a q c
before {d = d} {m = m} {b = b} {last = last} {p = p} {q = q} {p' = p'} {q' = q'} {a = a} {c = c} {a' = a'} {c' = c'} s t f =
    subst (λ (x : Path). FlatFeeds d m x (net_before b p a) (path_before b last q c) (net_before b q c)) (sym s.path)
    (subst (λ (x : ℕ). FlatFeeds d m p' x (path_before b last q c) (net_before b q c)) (sym s.net)
    (subst (λ (x : Path). FlatFeeds d m p' a' x (net_before b q c)) (sym t.path)
    (subst (λ (x : ℕ). FlatFeeds d m p' a' q' x) (sym t.net) f)))

module _ {d : Design} {m n : Module} {s : Scope} (j : IsJoined d m s n) (h : Standing d m) where
  -- an instance of n is one of m, or one of the part
  by_place : (k : ℕ) {A : Type 0} → (k < length j.rest → A) → ((i : ℕ) → length j.rest + i ≡ k → A) → A
  by_place k f g = ⊎_elim f (λ ge. g (k - length j.rest) (omega (arith, ge))) (cases_lt k (length j.rest))

  connection_other : (k i : ℕ) → k < length j.rest → (e : Connection d n k i) → slice_get m.instances k ≡ Some e.part
  connection_other k i lt e = sym (inst_other j k lt) ∙ e.of

  of_assign : (k t : ℕ) (a : Assign) → IsRead a.expr t → Assigning j k a → Before d m (length m.nets) (length j.rest) [] t [] a.target
  of_assign k t a r (by_outer at) =
      let f = h.ranged.assigns k a at in
      before (outer_net (length m.nets) (length j.rest) t (f.expr.nets t r)) (outer_net (length m.nets) (length j.rest) a.target f.target) (own k t a at r)
  of_assign k t a r (by_inner i x is at same) =
      let q = read_moved (length m.nets) (length m.mems) x.expr t (subst (λ (y : Expr). IsRead y t) (sym (ap (λ (y : Assign). y.expr) same)) r) in
      before (inner_net (length m.nets) (length j.rest) q.0 t q.2) (inner_net (length m.nets) (length j.rest) x.target a.target (ap (λ (y : Assign). y.target) same))
      (inside (length j.rest) j.part j.inner [] [] q.0 x.target (inst_last j) j.is (own i q.0 x at q.1))
  of_assign k t a r (by_join i is g) = by_output g.port.output refl
    where
      net : g.net < length m.nets
      net = h.nets (length j.rest) j.part i g.net (inst_last j) g.joins

      edge : Connection d m (length j.rest) i
      edge = record { part = j.part; of = inst_last j; inner = j.inner; is = j.is; port = g.port; at = g.at; net = g.net; joins = g.joins }

      read_at : (y : ℕ) (z : Assign) → z ≡ a → z.expr ≡ Plain y → t ≡ y
      read_at y z e f =
          let q : IsRead (Plain y) t = subst (λ (x : Expr). IsRead x t) (sym (ap (λ (x : Assign). x.expr) e) ∙ f) r in
          one y t q.0 q.1
        where
          one : (y t i : ℕ) → slice_get (y ∷ []) i ≡ Some t → t ≡ y
          one y t zero e = cc
          one y t (suc i) e = absurd (cc)

      by_output : (o : Bool) → g.port.output ≡ o → Before d m (length m.nets) (length j.rest) [] t [] a.target
      by_output true e =
          let same : assign_made g.net (Plain (length m.nets + g.port.net)) ≡ a = sym
          (ap (λ o. cond o (assign_made g.net (Plain (length m.nets + g.port.net)))
          (assign_made (length m.nets + g.port.net) (Plain g.net))) e) ∙ g.is in
          before (inner_net (length m.nets) (length j.rest) g.port.net t
          (sym (read_at (length m.nets + g.port.net) _ same refl)))
          (outer_same (length m.nets) (length j.rest) a.target g.net net
          (ap (λ (y : Assign). y.target) same)) (leave (length j.rest) i edge e)
      by_output false e =
          let same : assign_made (length m.nets + g.port.net) (Plain g.net) ≡ a = sym
          (ap (λ o. cond o (assign_made g.net (Plain (length m.nets + g.port.net)))
          (assign_made (length m.nets + g.port.net) (Plain g.net))) e) ∙ g.is in
          before (outer_same (length m.nets) (length j.rest) t g.net net
          (sym (read_at g.net _ same refl))) (inner_net (length m.nets)
          (length j.rest) g.port.net a.target (ap (λ (y : Assign). y.target) same))
          (enter (length j.rest) i edge e)

  enter_other : (k i : ℕ) → k < length j.rest → (e : Connection d n k i) → e.port.output ≡ false → Before d m (length m.nets) (length j.rest) [] e.net (k ∷ []) e.port.net
  enter_other k i lt e out =
      let of' = connection_other k i lt e in
      before (outer_net (length m.nets) (length j.rest) e.net (h.nets k e.part i e.net of' e.joins)) (other_net (length m.nets) (length j.rest) k [] e.port.net lt)
      (enter k i (record { part = e.part; of = of'; inner = e.inner; is = e.is; port = e.port; at = e.at; net = e.net; joins = e.joins }) out)

  leave_other : (k i : ℕ) → k < length j.rest → (e : Connection d n k i) → e.port.output ≡ true → Before d m (length m.nets) (length j.rest) (k ∷ []) e.port.net [] e.net
  leave_other k i lt e out =
      let of' = connection_other k i lt e in
      before (other_net (length m.nets) (length j.rest) k [] e.port.net lt) (outer_net (length m.nets) (length j.rest) e.net (h.nets k e.part i e.net of' e.joins))
      (leave k i (record { part = e.part; of = of'; inner = e.inner; is = e.is; port = e.port; at = e.at; net = e.net; joins = e.joins }) out)

  enter_deep : (k i : ℕ) (e : Connection d n (length j.rest + k) i) → e.port.output ≡ false → Before d m (length m.nets) (length j.rest) [] e.net ((length j.rest + k) ∷ []) e.port.net
  enter_deep k i e out =
      let c = connection_in d j.inner n (length m.nets) (length j.rest) k i (inst_inner j k) e in
      before (inner_net (length m.nets) (length j.rest) c.own e.net c.moved) (deep_net (length m.nets) (length j.rest) k [] e.port.net)
      (inside (length j.rest) j.part j.inner [] (k ∷ []) c.own e.port.net (inst_last j) j.is (enter k i (connection_of c) out))

  leave_deep : (k i : ℕ) (e : Connection d n (length j.rest + k) i) → e.port.output ≡ true → Before d m (length m.nets) (length j.rest) ((length j.rest + k) ∷ []) e.port.net [] e.net
  leave_deep k i e out =
      let c = connection_in d j.inner n (length m.nets) (length j.rest) k i (inst_inner j k) e in
      before (deep_net (length m.nets) (length j.rest) k [] e.port.net) (inner_net (length m.nets) (length j.rest) c.own e.net c.moved)
      (inside (length j.rest) j.part j.inner (k ∷ []) [] e.port.net c.own (inst_last j) j.is (leave k i (connection_of c) out))

  inside_deep : (k : ℕ) (i : Instance) (y : Module) (p q : Path) (a c : ℕ)
      → slice_get n.instances (length j.rest + k) ≡ Some i
      → slice_get d.modules i.«module» ≡ Some y → FlatFeeds d y p a q c
      → Before d m (length m.nets) (length j.rest) ((length j.rest + k)
      ∷ p) a ((length j.rest + k) ∷ q) c
  inside_deep k i y p q a c of is f =
      let x = some_of_map (relocated_instance (length m.nets)) (slice_get j.inner.instances k) i (sym (inst_inner j k) ∙ of) in
      before (deep_net (length m.nets) (length j.rest) k p a) (deep_net (length m.nets) (length j.rest) k q c)
      (inside (length j.rest) j.part j.inner (k ∷ p) (k ∷ q) a c (inst_last j) j.is (inside k x.0 y p q a c x.1 (ap (λ (z : Instance). slice_get d.modules z.«module») x.2 ∙ is) f))

  pub feeds_before : {p q : Path} {a c : ℕ} → FlatFeeds d n p a q c → Before d m (length m.nets) (length j.rest) p a q c
  feeds_before (own k t a at r) = of_assign k t a r (assigning j k a at)
  feeds_before (enter k i e out) =
      by_place k (λ lt. enter_other k i lt e out) (λ k' is'. subst
      (λ (x : ℕ). (e : Connection d n x i) → e.port.output ≡ false
      → Before d m (length m.nets) (length j.rest) [] e.net (x
      ∷ []) e.port.net) is' (enter_deep k' i) e out)
  feeds_before (leave k i e out) =
      by_place k (λ lt. leave_other k i lt e out) (λ k' is'. subst
      (λ (x : ℕ). (e : Connection d n x i) → e.port.output ≡ true
      → Before d m (length m.nets) (length j.rest) (x
      ∷ []) e.port.net [] e.net) is' (leave_deep k' i) e out)
  feeds_before (inside k i y p q a c of is f) =
      by_place k
      (λ lt. before (other_net (length m.nets) (length j.rest) k p a lt) (other_net (length m.nets) (length j.rest) k q c lt) (inside k i y p q a c (sym (inst_other j k lt) ∙ of) is f))
      (λ k' is'. subst (λ (x : ℕ). slice_get n.instances x ≡ Some i → Before d m (length m.nets) (length j.rest) (x ∷ p) a (x ∷ q) c) is' (λ of'. inside_deep k' i y p q a c of' is f) of)

  pub way_before : {p q : Path} {a c : ℕ} → FlatWay d n p a q c
      → FlatWay d m (path_before (length m.nets) (length j.rest) p a)
      (net_before (length m.nets) p a) (path_before (length m.nets) (length j.rest) q c)
      (net_before (length m.nets) q c)
  way_before done = done
  way_before (then' f w) = then' (feeds_before f) (way_before w)

  pub free_before : ((p : Path) (a : ℕ) (q : Path) (c : ℕ) → FlatFeeds d m p a q c → FlatWay d m q c p a → ⊥) → (p : Path) (a : ℕ) (q : Path) (c : ℕ) → FlatFeeds d n p a q c → FlatWay d n q c p a → ⊥
  free_before g p a q c f w = g _ _ _ _ (feeds_before f) (way_before w)
