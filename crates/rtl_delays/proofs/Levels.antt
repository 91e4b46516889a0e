-- Assignments that read earlier nets stay so in modules that grow.
use Rattle.std.proofs.Common.{◌≡◌, ℕ, zero, suc, ◌+◌, ◌<◌, ◌≤◌, true, false, List, [], ◌∷◌, ◌++◌, length, Some, sym, ap, ◌∙◌, subst, arith, length-append}
use Rattle.std.proofs.lemmas.Bool.{false≢true}
use Rattle.std.specs.Prelude.{slice_get}
use Rattle.rtl_ir.specs.declared.design.Net.{Net}
use Rattle.rtl_ir.specs.declared.design.Port.{Port}
use Rattle.rtl_ir.specs.declared.design.Module.{Module}
use Rattle.rtl_ir.specs.declared.design.Assign.{Assign}
use Rattle.rtl_ir.specs.declared.design.Expr.{Expr}
use Rattle.rtl_ir.specs.declared.design.Expr.TheVariants.{Net as Plain, Literal, Not, Binary, Concat, Repeat, Part, Choose, Cell}
use Rattle.rtl_ir.specs.Operands.{reads}
use Rattle.rtl_ir.specs.Grow.{IsIn}
use Rattle.rtl_build.specs.Wires.{is_output, AreInner, AreWires, AddsWires}
use Rattle.rtl_delays.specs.Ordered.{IsOrderedAssign, IsOrdered}
use Rattle.rtl_delays.proofs.Lists.{of_two}

abbrev pub Below : ℕ → List ℕ → Type 0
Below k [] = Unit {0}
Below k (n ∷ ns) = (n < k) × Below k ns

pub below : (e : Expr) (k : ℕ) → IsIn k 0 e → Below k (reads e)
below (Plain n) k i = (i, tt)
below (Literal x) k i = tt
below (Not n) k i = (i, tt)
below (Binary s a b) k i = (i.0, (i.1, tt))
below (Concat a b) k i = (i.0, (i.1, tt))
below (Repeat t n) k i = (i, tt)
below (Part n hi lo) k i = (i, tt)
below (Choose n a b) k i = (i.0, (i.1, (i.2, tt)))
below (Cell x n) k i = absurd (omega (arith, i.0))

pub below_at : (k : ℕ) (ns : List ℕ) → Below k ns → (i n : ℕ) → slice_get ns i ≡ Some n → n < k
below_at k [] b i n e = cc
below_at k (x ∷ ns) b zero n e = let f : x ≡ n = cc in subst (λ y. y < k) f b.0
below_at k (x ∷ ns) b (suc i) n e = below_at k ns b.1 i n e

pub inner_at : (ps : List Port) (ns : List ℕ) → AreInner ps ns → (i n : ℕ) → slice_get ns i ≡ Some n → is_output ps n ≡ false
inner_at ps [] b i n e = cc
inner_at ps (x ∷ ns) b zero n e = let f : x ≡ n = cc in subst (λ y. is_output ps y ≡ false) f b.0
inner_at ps (x ∷ ns) b (suc i) n e = inner_at ps ns b.1 i n e

ordered_kept : (m n : Module) (a : Assign) → n.ports ≡ m.ports → length m.nets ≤ length n.nets → IsOrderedAssign m a → IsOrderedAssign n a
ordered_kept m n a p le h = record {
  within = λ k r. let q = h.within k r in omega (arith, le, q);
  inner = λ k r. ap (λ ps. is_output ps k) p ∙ h.inner k r;
  earlier = λ k r o. h.earlier k r (sym (ap (λ ps. is_output ps a.target) p) ∙ o);
}

wires_at : (m : Module) (n : ℕ) (nets : List Net) (assigns : List Assign)
    → n + length nets ≤ length m.nets → AreWires m n nets assigns → (j : ℕ) (a : Assign)
    → slice_get assigns j ≡ Some a → IsOrderedAssign m a
wires_at m n [] [] le w j a e = cc
wires_at m n [] (x ∷ assigns) le w j a e = absurd w
wires_at m n (x ∷ nets) [] le w j a e = absurd w
wires_at m n (x ∷ nets) (y ∷ assigns) le w (suc j) a e = wires_at m (n + 1) nets assigns (omega arith) w.1 j a e
wires_at m n (x ∷ nets) (y ∷ assigns) le w zero a e =
    let same : y ≡ a = cc in
    let here : IsOrderedAssign m y = record {
      within = λ k r. let q = below_at n (reads y.expr) (below y.expr n w.0.earlier) r.0 k r.1 in omega (arith, q, le);
      inner = λ k r. inner_at m.ports (reads y.expr) w.0.inner r.0 k r.1;
      earlier = λ k r o. let q = below_at n (reads y.expr) (below y.expr n w.0.earlier) r.0 k r.1 in let t = w.0.target in omega (arith, q, t);
    } in
    subst (IsOrderedAssign m) same here

pub wires_ordered : (old new : Module) (most : ℕ) → IsOrdered old → AddsWires old new most → IsOrdered new
wires_ordered old new most h w =
    let g = w.grows in
    let size : length new.nets ≡ length old.nets + length g.more_nets = ap length g.nets ∙ length-append old.nets g.more_nets in
    λ j a e. of_two (IsOrderedAssign new) old.assigns g.more_assigns
    (λ i b q. ordered_kept old new b g.ports (omega (arith, size)) (h i b q))
    (λ i b q. wires_at new (length old.nets) g.more_nets g.more_assigns (omega (arith, size)) w.wires i b q)
    j a (sym (ap (λ l. slice_get l j) g.assigns) ∙ e)

pub same_ordered : (m n : Module) → n.ports ≡ m.ports → n.assigns ≡ m.assigns → length m.nets ≤ length n.nets → IsOrdered m → IsOrdered n
same_ordered m n p s le h = λ j a e. ordered_kept m n a p le (h j a (sym (ap (λ l. slice_get l j) s) ∙ e))

pub last_ordered : (m n : Module) (a : Assign) → n.ports ≡ m.ports → n.assigns ≡ m.assigns ++ a ∷ [] → length m.nets ≤ length n.nets → IsOrderedAssign n a → IsOrdered m → IsOrdered n
last_ordered m n a p s le here h = λ j b e.
    of_two (IsOrderedAssign n) m.assigns (a ∷ [])
    (λ i x q. ordered_kept m n x p le (h i x q))
    (λ i x q. one i x q here)
    j b (sym (ap (λ l. slice_get l j) s) ∙ e)
  where
    one : (i : ℕ) (x : Assign) → slice_get (a ∷ []) i ≡ Some x → IsOrderedAssign n a → IsOrderedAssign n x
    one zero x q k = let same : a ≡ x = cc in subst (IsOrderedAssign n) same k
    one (suc i) x q k = cc

-- an output's assignment is ordered
pub output_ordered : (m : Module) (target n : ℕ) → n < length m.nets → is_output m.ports n ≡ false → is_output m.ports target ≡ true → IsOrderedAssign m (record { target = target; expr = Plain n })
output_ordered m target n lt inner output = record {
  within = λ x r. below_at (length m.nets) (n ∷ []) (lt, tt) r.0 x r.1;
  inner = λ x r. inner_at m.ports (n ∷ []) (inner, tt) r.0 x r.1;
  earlier = λ x r q. absurd (false≢true (sym q ∙ output));
}

pub cell_ordered : (m : Module) (target k n : ℕ) → n < length m.nets → n < target → is_output m.ports n ≡ false → IsOrderedAssign m (record { target = target; expr = Cell k n })
cell_ordered m target k n lt before inner = record {
  within = λ x r. below_at (length m.nets) (n ∷ []) (lt, tt) r.0 x r.1;
  inner = λ x r. inner_at m.ports (n ∷ []) (inner, tt) r.0 x r.1;
  earlier = λ x r q. below_at target (n ∷ []) (before, tt) r.0 x r.1;
}
