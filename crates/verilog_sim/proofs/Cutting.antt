-- A module that stands in another one under moved numbers: values, edges and first contents of it.
use Rattle.std.proofs.Common.{◌≡◌, ℕ, ◌+◌, ◌-◌, ◌*◌, ◌/◌, ◌%◌, ◌^◌, ◌<◌, ◌≤◌, true, cond, eqb, ltb, List, ◌++◌, map, length, Some, refl, sym, ap, ◌∙◌, subst, ⊎_elim}
use Rattle.std.specs.Prelude.{slice_get}
use Rattle.std.proofs.lemmas.Bool.{cases_lt, lt-ltb, le-ltb, false≢true}
use Rattle.std.proofs.lemmas.Nat.{pow_pos}
use Rattle.std.proofs.lemmas.Option.{slice_get_past}
use Rattle.rtl_ir.specs.declared.design.Module.{Module}
use Rattle.rtl_ir.specs.declared.design.Assign.{Assign}
use Rattle.rtl_ir.specs.declared.design.Update.{Update}
use Rattle.rtl_ir.specs.declared.design.Target.{Target}
use Rattle.rtl_ir.specs.declared.design.Target.TheVariants.{Reg, Cell as Place}
use Rattle.rtl_ir.specs.declared.design.Expr.{Expr}
use Rattle.rtl_ir.specs.declared.design.Expr.TheVariants.{Net as Plain, Literal, Not, Binary, Concat, Repeat, Part, Choose, Cell}
use Rattle.rtl_ir.specs.Value.{Family, Contents, value, width_of, is_reg, net_kept, depth_of, combined, repeated}
use Rattle.rtl_ir.specs.Edge.{Fits}
use Rattle.rtl_ir.specs.Typed.{word_width}
use Rattle.rtl_ir.specs.Formed.{IsFormedExpr, IsFormedAssign, IsFormedUpdate}
use Rattle.rtl_ir.proofs.Ports.{assigned_at, assigned_of}
use Rattle.verilog_sim.specs.Relocation.{relocated_expr, relocated_assign, relocated_update}
use Rattle.verilog_sim.proofs.ByPath.{cut_family, cut_contents}

-- a target is none of so many nets and memories
abbrev pub IsOutside : ℕ → ℕ → ℕ → ℕ → Target → Type 0
IsOutside b nets c mems (Reg r) = (k : ℕ) → k < nets → b + k ≡ r → ⊥
IsOutside b nets c mems (Place j a) = (k : ℕ) → k < mems → c + k ≡ j → ⊥

abbrev pub AreOutside : ℕ → ℕ → ℕ → ℕ → List Update → Type 0
AreOutside b nets c mems us = (j : ℕ) (u : Update) → slice_get us j ≡ Some u → IsOutside b nets c mems u.target

-- the nets of inner stand in n from b on, and its memories from c on
pub record Sits (b c : ℕ) (inner n : Module) : Type 0 where
  pub widths : (k : ℕ) → k < length inner.nets → width_of n (b + k) ≡ width_of inner k
  pub regs : (k : ℕ) → k < length inner.nets → is_reg n (b + k) ≡ is_reg inner k
  pub depths : (k : ℕ) → k < length inner.mems → depth_of n (c + k) ≡ depth_of inner k
  pub word_widths : (k : ℕ) → k < length inner.mems → word_width n (c + k) ≡ word_width inner k
  pub assigns : (j : ℕ) (a : Assign) → slice_get inner.assigns j ≡ Some a → (i : ℕ) × (slice_get n.assigns i ≡ Some (relocated_assign b c a))
  pub before : List Update
  pub behind : List Update
  pub updates : n.updates ≡ before ++ (map (relocated_update b c) inner.updates ++ behind)
  pub apart : AreOutside b (length inner.nets) c (length inner.mems) before
  pub apart_behind : AreOutside b (length inner.nets) c (length inner.mems) behind

-- numbers of the module are in range
pub record Ranged (m : Module) : Type 0 where
  pub assigns : (k : ℕ) (a : Assign) → slice_get m.assigns k ≡ Some a → IsFormedAssign m a
  pub updates : (k : ℕ) (u : Update) → slice_get m.updates k ≡ Some u → IsFormedUpdate m u

pub cut_at : (b nets : ℕ) (v : Family) (k : ℕ) → k < nets → cut_family b nets v k ≡ v (b + k)
cut_at b nets v k lt = ap (λ t. cond t (v (b + k)) 0) (lt-ltb k nets lt)

pub cut_past : (b nets : ℕ) (v : Family) (k : ℕ) → nets ≤ k → cut_family b nets v k ≡ 0
cut_past b nets v k ge = ap (λ t. cond t (v (b + k)) 0) (le-ltb k nets ge)

pub kept_in : (m : Module) (k : ℕ) → is_reg m k ≡ true → k < length m.nets
kept_in m k e = ⊎_elim (λ lt. lt) (λ ge. absurd (false≢true (sym (ap net_kept (slice_get_past m.nets k ge)) ∙ e))) (cases_lt k (length m.nets))

abbrev cuts : ℕ → ℕ → Module → Contents → Contents
cuts b c inner x = cut_contents b (length inner.nets) c (length inner.mems) x

abbrev cutv : ℕ → Module → Family → Family
cutv b inner v = cut_family b (length inner.nets) v

module _ (b c : ℕ) (inner n : Module) (s : Sits b c inner n) (x : Contents) (v : Family) where
  at : (k : ℕ) → k < length inner.nets → v (b + k) ≡ cutv b inner v k
  at k lt = sym (cut_at b (length inner.nets) v k lt)

  pub value_cut : (w : ℕ) (e : Expr) → IsFormedExpr inner e → value n x v w (relocated_expr b c e) ≡ value inner (cuts b c inner x) (cutv b inner v) w e
  value_cut w (Plain k) f = at k (f.nets k (0, refl))
  value_cut w (Literal y) f = refl
  value_cut w (Not k) f = ap (λ y. 2 ^ w - 1 - y) (at k (f.nets k (0, refl)))
  value_cut w (Binary o i j) f = ap (λ y. combined o w y (v (b + j))) (at i (f.nets i (0, refl))) ∙ ap (λ y. combined o w (cutv b inner v i) y) (at j (f.nets j (1, refl)))
  value_cut w (Concat i j) f =
      ap (λ y. y * 2 ^ width_of n (b + j) + v (b + j)) (at i (f.nets i (0, refl)))
      ∙ ap (λ y. cutv b inner v i * 2 ^ y + v (b + j)) (s.widths j (f.nets j (1, refl)))
      ∙ ap (λ y. cutv b inner v i * 2 ^ width_of inner j + y) (at j (f.nets j (1, refl)))
  value_cut w (Repeat t k) f =
      ap (λ y. repeated t y (v (b + k))) (s.widths k (f.nets k (0, refl))) ∙ ap (λ y. repeated t (width_of inner k) y) (at k (f.nets k (0, refl)))
  value_cut w (Part k hi lo) f = ap (λ y. (y / 2 ^ lo) % 2 ^ (hi + 1 - lo)) (at k (f.nets k (0, refl)))
  value_cut w (Choose k i j) f =
      ap (λ y. cond (eqb y 1) (v (b + i)) (v (b + j))) (at k (f.nets k (0, refl)))
      ∙ ap (λ y. cond (eqb (cutv b inner v k) 1) y (v (b + j))) (at i (f.nets i (1, refl)))
      ∙ ap (λ y. cond (eqb (cutv b inner v k) 1) (cutv b inner v i) y) (at j (f.nets j (2, refl)))
  value_cut w (Cell k i) f =
      ap (λ y. cond (ltb y (depth_of n (c + k))) (x.cells (c + k) y) 0) (at i (f.nets i (0, refl)))
      ∙ ap (λ y. cond (ltb (cutv b inner v i) y) (x.cells (c + k) (cutv b inner v i)) 0) (s.depths k (f.mem k refl))
      ∙ ap (λ y. cond (ltb (cutv b inner v i) (depth_of inner k)) y 0) (sym (ap (λ t. cond t (x.cells (c + k) (cutv b inner v i)) 0) (lt-ltb k (length inner.mems) (f.mem k refl))))

  pub fits_cut : Ranged inner → Fits n x v → Fits inner (cuts b c inner x) (cutv b inner v)
  fits_cut r f =
      record {
        words = λ k. ⊎_elim (word k) (past k) (cases_lt k (length inner.nets));
        assigned = assigned_of inner (cuts b c inner x) (cutv b inner v) inner.assigns assigned;
        kept = λ k e. ap (λ y. cond (ltb k (length inner.nets)) y 0) (f.kept (b + k) (s.regs k (kept_in inner k e) ∙ e));
      }
    where
      word : (k : ℕ) → k < length inner.nets → cutv b inner v k < 2 ^ width_of inner k
      word k lt = subst (λ (y : ℕ). y < 2 ^ width_of inner k) (at k lt) (subst (λ (y : ℕ). v (b + k) < 2 ^ y) (s.widths k lt) (f.words (b + k)))

      past : (k : ℕ) → length inner.nets ≤ k → cutv b inner v k < 2 ^ width_of inner k
      past k ge = subst (λ (y : ℕ). y < 2 ^ width_of inner k) (sym (cut_past b (length inner.nets) v k ge)) (pow_pos (width_of inner k))

      assigned : (j : ℕ) (a : Assign) → slice_get inner.assigns j ≡ Some a → cutv b inner v a.target ≡ value inner (cuts b c inner x) (cutv b inner v) (width_of inner a.target) a.expr
      assigned j a h =
          let q = s.assigns j a h in
          let g = r.assigns j a h in
          sym (at a.target g.target)
          ∙ assigned_at n x v n.assigns q.0 (relocated_assign b c a) f.assigned q.1
          ∙ ap (λ w. value n x v w (relocated_expr b c a.expr)) (s.widths a.target g.target)
          ∙ value_cut (width_of inner a.target) a.expr g.expr
