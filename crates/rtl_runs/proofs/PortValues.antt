-- The values of a module's inputs, from a list that has one for each port.
use Rattle.std.proofs.Common.{◌≡◌, ℕ, zero, suc, ◌+◌, ◌^◌, ◌<◌, Bool, true, false, not, cond, eqb, ◌&&◌, ◌||◌, List, [], ◌∷◌, map, Some, refl, sym, ap, ◌∙◌, subst, arith}
use Rattle.std.specs.Prelude.{slice_get}
use Rattle.std.specs.Option.{option_map}
use Rattle.std.specs.List.{AllZip}
use Rattle.std.proofs.lemmas.Bool.{false≢true, eq-eqb, eqb-true}
use Rattle.std.proofs.lemmas.Nat.{pow_pos}
use Rattle.std.proofs.lemmas.Option.{slice_get-map}
use Rattle.rtl_ir.specs.declared.design.Module.{Module}
use Rattle.rtl_ir.specs.declared.design.Port.{Port}
use Rattle.rtl_ir.specs.Value.{Family, width_of}
use Rattle.rtl_ir.specs.Typed.{is_input}
use Rattle.rtl_ir.specs.Ports.{Shape, PortView, shape_ports, port_view, HasShape, port_net, net_at}
use Rattle.rtl_ir.proofs.Ports.{InputAt, input_at}

-- the value of a net, which is that of the first port on it
abbrev pub given : List Port → List ℕ → Family
given [] xs n = 0
given (p ∷ ps) [] n = 0
given (p ∷ ps) (x ∷ xs) n = cond (eqb p.net n) x (given ps xs n)

-- ports with one net are one port
abbrev pub AreApart : List Port → Type 0
AreApart ps = (i j : ℕ) (p q : Port) → slice_get ps i ≡ Some p → slice_get ps j ≡ Some q → p.net ≡ q.net → i ≡ j

given_at : (ps : List Port) (xs : List ℕ) (j : ℕ) (p : Port) (x : ℕ) → AreApart ps → slice_get ps j ≡ Some p → slice_get xs j ≡ Some x → given ps xs p.net ≡ x
given_at [] xs j p x h e f = absurd (cc)
given_at (q ∷ ps) [] j p x h e f = absurd (cc)
given_at (q ∷ ps) (y ∷ ys) zero p x h e f =
    let a : q ≡ p = cc in
    let b : y ≡ x = cc in
    ap (λ t. cond t y (given ps ys p.net)) (eq-eqb q.net p.net (ap (λ (i : Port). i.net) a)) ∙ b
given_at (q ∷ ps) (y ∷ ys) (suc j) p x h e f =
    by_test (eqb q.net p.net) refl (given_at ps ys j p x (λ i l a b k m z. let r : suc i ≡ suc l = h (suc i) (suc l) a b k m z in omega arith) e f)
  where
    by_test : (t : Bool) → eqb q.net p.net ≡ t → given ps ys p.net ≡ x → cond t y (given ps ys p.net) ≡ x
    by_test true r more =
        let z : 0 ≡ suc j = h 0 (suc j) q p refl e (eqb-true q.net p.net r) in
        absurd (omega arith)
    by_test false r more = more

-- each value is a word of its port's width, and so it is of its net's
abbrev pub FitPorts : List PortView → List ℕ → Type 0
FitPorts = AllZip (λ p x. x < 2 ^ p.width)

given_fits : (m : Module) (ps : List Port) (xs : List ℕ) (n : ℕ) → FitPorts (map (port_view m) ps) xs → given ps xs n < 2 ^ width_of m n
given_fits m [] xs n h = pow_pos (width_of m n)
given_fits m (p ∷ ps) [] n h = absurd h
given_fits m (p ∷ ps) (x ∷ xs) n h = by_test (eqb p.net n) refl (given_fits m ps xs n h.1)
  where
    by_test : (t : Bool) → eqb p.net n ≡ t → given ps xs n < 2 ^ width_of m n → cond t x (given ps xs n) < 2 ^ width_of m n
    by_test true e more = subst (λ (i : ℕ). x < 2 ^ width_of m i) (eqb-true p.net n e) h.0
    by_test false e more = more

pub inputs_fit : (m : Module) (s : Shape) (xs : List ℕ) → HasShape m s → FitPorts (shape_ports s) xs → (n : ℕ) → given m.ports xs n < 2 ^ width_of m n
inputs_fit m s xs has h n = given_fits m m.ports xs n (subst (λ (l : List PortView). FitPorts l xs) (sym has) h)

over : (a b o : Bool) → a ≡ true → o ≡ false → (a && not o) || b ≡ true
over true b false e f = refl
over true b true e f = absurd (false≢true (sym f))
over false b o e f = absurd (false≢true e)

later : (a b : Bool) → b ≡ true → a || b ≡ true
later true b e = refl
later false b e = e

input_of : (ps : List Port) (j : ℕ) (p : Port) → slice_get ps j ≡ Some p → p.output ≡ false → is_input ps p.net ≡ true
input_of [] j p e f = absurd (cc)
input_of (q ∷ ps) zero p e f =
    let a : q ≡ p = cc in
    over (eqb q.net p.net) (is_input ps p.net) q.output (eq-eqb q.net p.net (ap (λ (i : Port). i.net) a)) (ap (λ (i : Port). i.output) a ∙ f)
input_of (q ∷ ps) (suc j) p e f = later (eqb q.net p.net && not q.output) (is_input ps p.net) (input_of ps j p e f)

module _ (m : Module) (v : Family) where
  -- the inputs among these ports, of which the first has this number, have these values
  abbrev pub Has : ℕ → List PortView → List ℕ → Type 0
  Has k [] xs = Unit {0}
  Has k (p ∷ ps) [] = ⊥
  Has k (p ∷ ps) (x ∷ xs) = (p.output ≡ false → v (net_at m k) ≡ x) × Has (k + 1) ps xs

  pub renumbered : (j k : ℕ) (l : List PortView) (xs : List ℕ) → j ≡ k → Has j l xs → Has k l xs
  renumbered j k l xs e h = subst (λ (i : ℕ). Has i l xs) e h

  has_all : (k : ℕ) (l : List PortView) (xs : List ℕ) → FitPorts l xs
      → ((i : ℕ) (p : PortView) (x : ℕ) → slice_get l i ≡ Some p → slice_get xs i ≡ Some x
      → p.output ≡ false → v (net_at m (k + i)) ≡ x) → Has k l xs
  has_all k [] xs fit h = tt
  has_all k (p ∷ ps) [] fit h = absurd fit
  has_all k (p ∷ ps) (x ∷ xs) fit h = (
    λ o. (let e : k ≡ k + 0 = omega arith in ap (λ i. v (net_at m i)) e ∙ h 0 p x refl refl o),
    has_all (k + 1) ps xs fit.1 (λ i q y a b o. (let e : k + 1 + i ≡ k + suc i = omega arith in ap (λ j. v (net_at m j)) e ∙ h (suc i) q y a b o)),
  )

  at_place : (k i : ℕ) (l : List PortView) (xs : List ℕ) (p : PortView) → Has k l xs → slice_get l i ≡ Some p → p.output ≡ false → (x : ℕ) × (slice_get xs i ≡ Some x) × (v (net_at m (k + i)) ≡ x)
  at_place k i [] xs p h at inward = absurd (cc)
  at_place k i (q ∷ l) [] p h at inward = absurd h
  at_place k zero (q ∷ l) (x ∷ xs) p h at inward =
      let same : q ≡ p = cc in
      let place : k + 0 ≡ k = omega arith in
      (x, refl, ap (λ i. v (net_at m i)) place ∙ h.0 (ap (λ (z : PortView). z.output) same ∙ inward))
  at_place k (suc i) (q ∷ l) (x ∷ xs) p h at inward =
      let r = at_place (k + 1) i l xs p h.1 at inward in
      let place : k + suc i ≡ k + 1 + i = omega arith in
      (r.0, r.1, ap (λ i. v (net_at m i)) place ∙ r.2)

  placed_in : (ps : List Port) (i : ℕ) (view : PortView) → slice_get (map (port_view m) ps) i ≡ Some view → (p : Port) × (slice_get ps i ≡ Some p) × (port_view m p ≡ view)
  placed_in [] i view e = absurd (cc)
  placed_in (p ∷ ps) zero view e = (p, refl, cc)
  placed_in (p ∷ ps) (suc i) view e = placed_in ps i view e

  -- where the inputs have the values that a list gives them, they have these as ports of the shape
  pub has_given : (s : Shape) (xs : List ℕ) → HasShape m s → AreApart m.ports
      → FitPorts (shape_ports s) xs → ((n : ℕ) → is_input m.ports n ≡ true
      → v n ≡ given m.ports xs n) → Has 0 (shape_ports s) xs
  has_given s xs has apart fit h =
      has_all 0 (shape_ports s) xs fit (λ i p x at of inward. (
      let q = placed_in m.ports i p (ap (λ (l : List PortView). slice_get l i) has ∙ at) in
      let net : net_at m (0 + i) ≡ q.0.net = (let e : 0 + i ≡ i = omega arith in ap (net_at m) e ∙ ap port_net q.1) in
      let o : q.0.output ≡ false = ap (λ (z : PortView). z.output) q.2 ∙ inward in
      ap v net ∙ h q.0.net (input_of m.ports i q.0 q.1 o) ∙ given_at m.ports xs i q.0 x apart q.1 of))

  -- and so they have where they have these as ports of the shape
  pub values_are : (s : Shape) (xs : List ℕ) → HasShape m s → AreApart m.ports → Has 0 (shape_ports s) xs → (n : ℕ) → is_input m.ports n ≡ true → v n ≡ given m.ports xs n
  values_are s xs has apart h n input =
      let i : InputAt m.ports n = input_at m.ports n input in
      let at : slice_get (shape_ports s) i.place ≡ Some (port_view m i.port) = ap
      (λ (l : List PortView). slice_get l i.place) (sym has) ∙ slice_get-map
      (port_view m) m.ports i.place ∙ ap (option_map (port_view m)) i.at in
      let r = at_place 0 i.place (shape_ports s) xs (port_view m i.port) h at i.input in
      let net : net_at m (0 + i.place) ≡ n = (let e : 0 + i.place ≡ i.place = omega arith in ap (net_at m) e ∙ ap port_net i.at ∙ i.net) in
      ap v (sym net) ∙ r.2 ∙ sym (given_at m.ports xs i.place i.port r.0 apart i.at r.1) ∙ ap (given m.ports xs) i.net
