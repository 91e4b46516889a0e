-- Each net of a module with one more part has at most one driver.
use Rattle.std.proofs.Common.{◌≡◌, ℕ, ◌+◌, ◌-◌, ◌<◌, ◌≤◌, Bool, true, false, ◌||◌, cond, eqb, List, length, Some, refl, sym, ap, ◌∙◌, subst, ⊎_elim, arith}
use Rattle.std.specs.Prelude.{slice_get}
use Rattle.std.proofs.lemmas.Bool.{cases_lt, eq-eqb, ne_eqb, false≢true}
use Rattle.rtl_ir.specs.declared.design.Design.{Design}
use Rattle.rtl_ir.specs.declared.design.Module.{Module}
use Rattle.rtl_ir.specs.declared.design.Port.{Port}
use Rattle.rtl_ir.specs.declared.design.Assign.{Assign}
use Rattle.rtl_ir.specs.declared.design.Expr.TheVariants.{Net as Plain}
use Rattle.rtl_ir.specs.Value.{is_reg}
use Rattle.rtl_ir.specs.Typed.{is_input, is_given}
use Rattle.rtl_ir.specs.Rules.{Connection, Driver, ByAssign, ByPort, Drives}
use Rattle.rtl_ir.proofs.Ports.{input_at}
use Rattle.verilog_sim.specs.declared.scope.Scope.{Scope}
use Rattle.verilog_sim.specs.Flattened.{IsJoined}
use Rattle.verilog_sim.proofs.Sitting.{assign_made, none, sits_inner, sits_outer}
use Rattle.verilog_sim.proofs.Parting.{Standing, inst_inner, inst_other, inst_last}
use Rattle.verilog_sim.proofs.Joining.{own_assigns, Assigning, by_outer, by_inner, by_join, assigning, connection_of, connection_in}
use Rattle.verilog_sim.proofs.Evaluated.{input_of, given_input}
use Rattle.verilog_sim.proofs.Placed.{IsPlaced}

-- what drives a net is in range
pub driven_in : (d : Design) (m : Module) → Standing d m → (t : ℕ) (x : Driver) → Drives d m x t → t < length m.nets
driven_in d m h t (ByAssign k) q = subst (λ (i : ℕ). i < length m.nets) q.2 ((h.ranged.assigns k q.0 q.1).target)
driven_in d m h t (ByPort k i) q = let e = q.0 in subst (λ (i : ℕ). i < length m.nets) q.2 (h.nets k e.part i e.net e.of e.joins)

no_input : (ps : List Port) (b t : ℕ) → ((k : ℕ) (p : Port) → slice_get ps k ≡ Some p → p.net < b) → b ≤ t → is_input ps t ≡ false
no_input ps b t h le = by_test (is_input ps t) refl
  where
    by_test : (o : Bool) → is_input ps t ≡ o → is_input ps t ≡ false
    by_test false e = e
    by_test true e = let q = input_at ps t e in absurd (omega (arith, le, h q.place q.port q.at, q.net))

either_false : (a b : Bool) → a || b ≡ false → a ≡ false
either_false true b e = e
either_false false b e = refl

-- which driver of the module with the part stands for a driver of the module with the instance, and for one of the part
abbrev as_outer : ℕ → ℕ → Driver → Driver
as_outer last assigns (ByAssign k) = ByAssign k
as_outer last assigns (ByPort k i) = cond (eqb k last) (ByAssign (assigns + i)) (ByPort k i)

abbrev as_inner : ℕ → ℕ → Driver → Driver
as_inner last assigns (ByAssign k) = ByAssign (assigns + k)
as_inner last assigns (ByPort k i) = ByPort (last + k) i

data Origin {d : Design} {m n : Module} {s : Scope} (j : IsJoined d m s n) (x : Driver) (t : ℕ) : Type 0 where
  low : (y : Driver) → Drives d m y t → as_outer (length j.rest) (length (own_assigns m j.inner)) y ≡ x → Origin j x t
  high : (u : ℕ) (y : Driver) → length m.nets + u ≡ t → Drives d j.inner y u → as_inner (length j.rest) (length m.assigns) y ≡ x → Origin j x t
  port : (i : ℕ) (p : Port) → length m.nets + p.net ≡ t → slice_get j.inner.ports i ≡ Some p → p.output ≡ false → ByAssign (length (own_assigns m j.inner) + i) ≡ x → Origin j x t

module _ {d : Design} {m n : Module} {s : Scope} (j : IsJoined d m s n) (h : IsPlaced d m) (g : IsPlaced d j.inner) where
  of_assign : (k t : ℕ) (a : Assign) → a.target ≡ t → Assigning j k a → Origin j (ByAssign k) t
  of_assign k t a is (by_outer at) = low (ByAssign k) (a, at, is) refl
  of_assign k t a is (by_inner i x place at same) = high x.target (ByAssign i) (ap (λ (y : Assign). y.target) same ∙ is) (x, at, refl) (ap ByAssign (sym place))
  of_assign k t a is (by_join i place q) = by_output q.port.output refl
    where
      drives : q.port.output ≡ true → q.net ≡ t → Drives d m (ByPort (length j.rest) i) t
      drives e f = (record { part = j.part; of = inst_last j; inner = j.inner; is = j.is; port = q.port; at = q.at; net = q.net; joins = q.joins }, e, f)

      by_output : (o : Bool) → q.port.output ≡ o → Origin j (ByAssign k) t
      by_output true e =
          let same : assign_made q.net (Plain (length m.nets + q.port.net)) ≡ a = sym
          (ap (λ o. cond o (assign_made q.net (Plain (length m.nets + q.port.net)))
          (assign_made (length m.nets + q.port.net) (Plain q.net))) e) ∙ q.is in
          low (ByPort (length j.rest) i) (drives e (ap (λ (y : Assign). y.target) same ∙ is))
          (ap (λ o. cond o (ByAssign (length (own_assigns m j.inner) + i)) (ByPort (length j.rest) i)) (eq-eqb (length j.rest) (length j.rest) refl) ∙ ap ByAssign (sym place))
      by_output false e =
          let same : assign_made (length m.nets + q.port.net) (Plain q.net) ≡ a = sym
          (ap (λ o. cond o (assign_made q.net (Plain (length m.nets + q.port.net)))
          (assign_made (length m.nets + q.port.net) (Plain q.net))) e) ∙ q.is in
          port i q.port (ap (λ (y : Assign). y.target) same ∙ is) q.at e (ap ByAssign (sym place))

  of_port : (k i t : ℕ) → (e : Connection d n k i) → e.port.output ≡ true → e.net ≡ t → Origin j (ByPort k i) t
  of_port k i t e out is = ⊎_elim other deep (cases_lt k (length j.rest))
    where
      other : k < length j.rest → Origin j (ByPort k i) t
      other lt =
          low (ByPort k i) (record { part = e.part; of = sym (inst_other j k lt) ∙ e.of; inner = e.inner; is = e.is; port = e.port; at = e.at; net = e.net; joins = e.joins }, out, is)
          (ap (λ o. cond o (ByAssign (length (own_assigns m j.inner) + i)) (ByPort k i)) (ne_eqb k (length j.rest) (λ f. absurd (omega (arith, f, lt)))))

      deep_at : (l : ℕ) → (x : Connection d n (length j.rest + l) i) → x.port.output ≡ true → x.net ≡ t → Origin j (ByPort (length j.rest + l) i) t
      deep_at l x o f = let c = connection_in d j.inner n (length m.nets) (length j.rest) l i (inst_inner j l) x in high c.own (ByPort l i) (c.moved ∙ f) (connection_of c, o, refl) refl

      deep : length j.rest ≤ k → Origin j (ByPort k i) t
      deep ge =
          let q : length j.rest + (k - length j.rest) ≡ k = omega (arith, ge) in
          subst (λ (l : ℕ). (x : Connection d n l i) → x.port.output ≡ true → x.net ≡ t → Origin j (ByPort l i) t) q (deep_at (k - length j.rest)) e out is

  origin : (x : Driver) (t : ℕ) → Drives d n x t → Origin j x t
  origin (ByAssign k) t q = of_assign k t q.0 q.2 (assigning j k q.0 q.1)
  origin (ByPort k i) t q = of_port k i t q.0 q.1 q.2

  same_origin : (t : ℕ) (x y : Driver) → Origin j x t → Origin j y t → x ≡ y
  same_origin t x y (low z q u) (low z' q' u') = sym u ∙ ap (as_outer (length j.rest) (length (own_assigns m j.inner))) (h.one t z z' q q') ∙ u'
  same_origin t x y (low z q u) (high t' z' e q' u') = absurd (omega (arith, driven_in d m h.standing t z q, e))
  same_origin t x y (low z q u) (port i p e at out u') = absurd (omega (arith, driven_in d m h.standing t z q, e))
  same_origin t x y (high t' z' e q' u') (low z q u) = absurd (omega (arith, driven_in d m h.standing t z q, e))
  same_origin t x y (port i p e at out u') (low z q u) = absurd (omega (arith, driven_in d m h.standing t z q, e))
  same_origin t x y (high a z e q u) (high b z' e' q' u') =
      let f : b ≡ a = omega (arith, e, e') in
      sym u ∙ ap (as_inner (length j.rest) (length m.assigns)) (g.one a z z' q (subst (λ (i : ℕ). Drives d j.inner z' i) f q')) ∙ u'
  same_origin t x y (high a z e q u) (port i p e' at out u') =
      let f : p.net ≡ a = omega (arith, e, e') in
      absurd (false≢true (sym (g.given a z q) ∙ ap (is_given j.inner) (sym f) ∙ given_input j.inner p.net (input_of j.inner.ports i p at out)))
  same_origin t x y (port i p e' at out u') (high a z e q u) =
      let f : p.net ≡ a = omega (arith, e, e') in
      absurd (false≢true (sym (g.given a z q) ∙ ap (is_given j.inner) (sym f) ∙ given_input j.inner p.net (input_of j.inner.ports i p at out)))
  same_origin t x y (port i p e at out u) (port i' p' e' at' out' u') =
      let f : p.net ≡ p'.net = omega (arith, e, e') in
      sym u ∙ ap (λ k. ByAssign (length (own_assigns m j.inner) + k)) (g.apart i i' p p' at at' f) ∙ u'

  pub one_joined : (t : ℕ) (x y : Driver) → Drives d n x t → Drives d n y t → x ≡ y
  one_joined t x y q r = same_origin t x y (origin x t q) (origin y t r)

  pub reg_outer : (t : ℕ) → t < length m.nets → is_reg n t ≡ is_reg m t
  reg_outer t lt = ap (is_reg n) (sym (none t)) ∙ (sits_outer j).regs t lt

  given_low : (t : ℕ) → t < length m.nets → is_given m t ≡ false → is_given n t ≡ false
  given_low t lt e = ap (λ o. o || is_input n.ports t) (reg_outer t lt) ∙ ap (λ (ps : List Port). is_reg m t || is_input ps t) j.ports ∙ e

  given_high : (t u : ℕ) → length m.nets + u ≡ t → u < length j.inner.nets → is_reg j.inner u ≡ false → is_given n t ≡ false
  given_high t u is lt e =
      ap (λ o. o || is_input n.ports t) (ap (is_reg n) (sym is) ∙ (sits_inner j h.standing.ranged).regs u lt ∙ e)
      ∙ ap (λ (ps : List Port). is_input ps t) j.ports
      ∙ no_input m.ports (length m.nets) t (λ k p at. (h.ports k p at).net) (omega (arith, is))

  given_at : (t : ℕ) (x : Driver) → Origin j x t → is_given n t ≡ false
  given_at t x (low y q u) = given_low t (driven_in d m h.standing t y q) (h.given t y q)
  given_at t x (high a y e q u) = given_high t a e (driven_in d j.inner g.standing a y q) (either_false (is_reg j.inner a) (is_input j.inner.ports a) (g.given a y q))
  given_at t x (port i p e at out u) = let f = g.ports i p at in given_high t p.net e f.net f.wire

  pub given_joined : (t : ℕ) (x : Driver) → Drives d n x t → is_given n t ≡ false
  given_joined t x q = given_at t x (origin x t q)
