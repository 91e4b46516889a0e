-- Ports, reads and assignments by their places.
use Rattle.std.proofs.Common.{◌≡◌, ℕ, zero, suc, ◌+◌, ◌-◌, ◌*◌, ◌/◌, ◌%◌, ◌^◌, ◌<◌, Bool, true}
use Rattle.std.proofs.Common.{false, not, ◌&&◌, ◌||◌, cond, eqb, ltb, List, [], ◌∷◌, length, get_or}
use Rattle.std.proofs.Common.{Some, refl, sym, ap, ◌∙◌, subst, arith}
use Rattle.std.specs.Prelude.{slice_get}
use Rattle.std.proofs.lemmas.Bool.{false≢true, eqb-true}
use Rattle.std.proofs.lemmas.Option.{slice_get_within, slice_get-get_or}
use Rattle.rtl_ir.specs.declared.design.Module.{Module}
use Rattle.rtl_ir.specs.declared.design.Port.{Port}
use Rattle.rtl_ir.specs.declared.design.Assign.{Assign}
use Rattle.rtl_ir.specs.declared.design.Expr.{Expr}
use Rattle.rtl_ir.specs.declared.design.Expr.TheVariants.{Net as Plain, Literal, Not, Binary, Concat, Repeat, Part, Choose, Cell}
use Rattle.rtl_ir.specs.Value.{Family, Contents, value, width_of, combined, repeated, depth_of}
use Rattle.rtl_ir.specs.Edge.{Assigned}
use Rattle.rtl_ir.specs.Flat.{Joined}
use Rattle.rtl_ir.specs.Operands.{IsRead}
use Rattle.rtl_ir.specs.Typed.{is_input}

-- what holds of a number if it holds of all lesser ones
upto : (P : ℕ → Type 0) → ((j : ℕ) → ((i : ℕ) → i < j → P i) → P j) → (b j : ℕ) → j < b → P j
upto P h zero j lt = absurd (omega arith)
upto P h (suc b) j lt = h j (λ i l. upto P h b i (omega arith))

pub by_lesser : (P : ℕ → Type 0) → ((j : ℕ) → ((i : ℕ) → i < j → P i) → P j) → (j : ℕ) → P j
by_lesser P h j = upto P h (suc j) j (omega arith)

-- an expression sees what it reads alone
pub value_agrees : (m : Module) (c : Contents) (v v' : Family) (w : ℕ) (e : Expr) → ((n : ℕ) → IsRead e n → v n ≡ v' n) → value m c v w e ≡ value m c v' w e
value_agrees m c v v' w (Plain n) h = h n (0, refl)
value_agrees m c v v' w (Literal x) h = refl
value_agrees m c v v' w (Not n) h = ap (λ x. 2 ^ w - 1 - x) (h n (0, refl))
value_agrees m c v v' w (Binary s a b) h = ap (λ x. combined s w x (v b)) (h a (0, refl)) ∙ ap (λ x. combined s w (v' a) x) (h b (1, refl))
value_agrees m c v v' w (Concat a b) h = ap (λ x. x * 2 ^ width_of m b + v b) (h a (0, refl)) ∙ ap (λ x. v' a * 2 ^ width_of m b + x) (h b (1, refl))
value_agrees m c v v' w (Repeat k n) h = ap (λ x. repeated k (width_of m n) x) (h n (0, refl))
value_agrees m c v v' w (Part n hi lo) h = ap (λ x. (x / 2 ^ lo) % 2 ^ (hi + 1 - lo)) (h n (0, refl))
value_agrees m c v v' w (Choose n a b) h =
    ap (λ x. cond (eqb x 1) (v a) (v b)) (h n (0, refl)) ∙ ap (λ x. cond (eqb (v' n) 1) x (v b)) (h a (1, refl)) ∙ ap (λ x. cond (eqb (v' n) 1) (v' a) x) (h b (2, refl))
value_agrees m c v v' w (Cell k n) h = ap (λ x. cond (ltb x (depth_of m k)) (c.cells k x) 0) (h n (0, refl))

pub joined_at : (outer inner : Family) (ps : List Port) (ns : List ℕ) (j : ℕ) (p : Port) (n : ℕ) → Joined outer inner ps ns → slice_get ps j ≡ Some p → slice_get ns j ≡ Some n → inner p.net ≡ outer n
joined_at outer inner [] ns j p n h e f = absurd (cc)
joined_at outer inner (q ∷ ps) [] j p n h e f = absurd h
joined_at outer inner (q ∷ ps) (o ∷ ns) zero p n h e f =
    let a : q ≡ p = cc in
    let b : o ≡ n = cc in
    ap (λ (i : Port). inner i.net) (sym a) ∙ h.0 ∙ ap outer b
joined_at outer inner (q ∷ ps) (o ∷ ns) (suc j) p n h e f = joined_at outer inner ps ns j p n h.1 e f

pub joined_of : (outer inner : Family) (ps : List Port) (ns : List ℕ) → length ns ≡ length ps
    → ((j : ℕ) (p : Port) (n : ℕ) → slice_get ps j ≡ Some p → slice_get ns j ≡ Some n
    → inner p.net ≡ outer n) → Joined outer inner ps ns
joined_of outer inner [] [] e h = tt
joined_of outer inner [] (o ∷ ns) e h = absurd (omega (arith, e))
joined_of outer inner (q ∷ ps) [] e h = absurd (omega (arith, e))
joined_of outer inner (q ∷ ps) (o ∷ ns) e h = (h 0 q o refl refl, joined_of outer inner ps ns (omega (arith, e)) (λ j p n a b. h (suc j) p n a b))

-- a port has a net where there is one for each
pub net_at : (ps : List Port) (ns : List ℕ) (j : ℕ) (p : Port) → length ns ≡ length ps → slice_get ps j ≡ Some p → (n : ℕ) × (slice_get ns j ≡ Some n)
net_at ps ns j p e h =
    let lt = slice_get_within ps j p h in
    (get_or ns j 0, slice_get-get_or ns j 0 (omega arith))

-- an input is a port
pub record InputAt (ps : List Port) (a : ℕ) : Type 0 where
  pub place : ℕ
  pub port : Port
  pub at : slice_get ps place ≡ Some port
  pub net : port.net ≡ a
  pub input : port.output ≡ false

later : (p : Port) (ps : List Port) (a : ℕ) → InputAt ps a → InputAt (p ∷ ps) a
later p ps a i = record { place = suc i.place; port = i.port; at = i.at; net = i.net; input = i.input }

by_test : (p : Port) (ps : List Port) (a : ℕ) → (is_input ps a ≡ true → InputAt ps a) → (b o : Bool) → eqb p.net a ≡ b → p.output ≡ o → (b && not o) || is_input ps a ≡ true → InputAt (p ∷ ps) a
by_test p ps a more true false e f g = record { place = 0; port = p; at = refl; net = eqb-true p.net a e; input = f }
by_test p ps a more true true e f g = later p ps a (more g)
by_test p ps a more false true e f g = later p ps a (more g)
by_test p ps a more false false e f g = later p ps a (more g)

pub input_at : (ps : List Port) (a : ℕ) → is_input ps a ≡ true → InputAt ps a
input_at [] a h = absurd (false≢true h)
input_at (p ∷ ps) a h = by_test p ps a (input_at ps a) (eqb p.net a) p.output refl refl h

pub assigned_at : (m : Module) (c : Contents) (v : Family) (as' : List Assign) (j : ℕ)
    (a : Assign) → Assigned m c v as' → slice_get as' j ≡ Some a
    → v a.target ≡ value m c v (width_of m a.target) a.expr
assigned_at m c v [] j a h e = absurd (cc)
assigned_at m c v (b ∷ as') zero a h e =
    let q : b ≡ a = cc in
    let P : Assign → Type 0 = λ i. v i.target ≡ value m c v (width_of m i.target) i.expr in
    subst P q h.0
assigned_at m c v (b ∷ as') (suc j) a h e = assigned_at m c v as' j a h.1 e

pub assigned_of : (m : Module) (c : Contents) (v : Family) (as' : List Assign)
    → ((j : ℕ) (a : Assign) → slice_get as' j ≡ Some a
    → v a.target ≡ value m c v (width_of m a.target) a.expr) → Assigned m c v as'
assigned_of m c v [] h = tt
assigned_of m c v (b ∷ as') h = (h 0 b refl, assigned_of m c v as' (λ j a e. h (suc j) a e))
