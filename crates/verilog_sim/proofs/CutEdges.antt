-- An edge of a module does to a part of it what the part's own updates do.
use Rattle.std.proofs.Common.{◌≡◌, ℕ, suc, ◌+◌, ◌%◌, ◌^◌, ◌<◌, ◌≤◌, Bool, true, false, ◌&&◌, cond, eqb, ltb, List, [], ◌∷◌, ◌++◌, map, length, Some, refl, sym, ap, ◌∙◌, ⊎_elim, arith}
use Rattle.std.specs.Prelude.{slice_get}
use mathlib.Core.Path.{fun_ext}
use Rattle.std.proofs.lemmas.Bool.{cases_lt, cases_eq, lt-ltb, le-ltb, eq-eqb, ne_eqb}
use Rattle.std.proofs.lemmas.Option.{slice_get_past}
use Rattle.rtl_ir.specs.declared.design.Module.{Module}
use Rattle.rtl_ir.specs.declared.design.Update.{Update}
use Rattle.rtl_ir.specs.declared.design.Target.{Target}
use Rattle.rtl_ir.specs.declared.design.Target.TheVariants.{Reg, Cell as Place}
use Rattle.rtl_ir.specs.Value.{Family, Contents, width_of, is_reg, net_kept, depth_of, mem_depth}
use Rattle.rtl_ir.specs.Edge.{with_reg, with_cell, written, updated, updated_all, after_edge}
use Rattle.rtl_ir.specs.Operands.{target_net, target_mem}
use Rattle.rtl_ir.specs.Typed.{word_width}
use Rattle.rtl_ir.specs.Formed.{IsFormedUpdate}
use Rattle.verilog_sim.specs.Relocation.{relocated_target, relocated_update}
use Rattle.verilog_sim.proofs.ByPath.{cut_family, cut_contents}
use Rattle.verilog_sim.specs.Start.{filled_part}
use Rattle.verilog_sim.proofs.Cutting.{IsOutside, AreOutside, Sits, Ranged, cut_at}

-- under a test of range values are the same where they are so in range
pub under : (k n a b : ℕ) → (k < n → a ≡ b) → cond (ltb k n) a 0 ≡ cond (ltb k n) b 0
under k n a b h = ⊎_elim (λ lt. ap (λ y. cond (ltb k n) y 0) (h lt)) (λ ge. ap (λ t. cond t a 0) (le-ltb k n ge) ∙ sym (ap (λ t. cond t b 0) (le-ltb k n ge))) (cases_lt k n)

same_moved : (b k r : ℕ) → eqb (b + k) (b + r) ≡ eqb k r
same_moved b k r = ⊎_elim (λ e. eq-eqb (b + k) (b + r) (ap (λ i. b + i) e) ∙ sym (eq-eqb k r e)) (λ ne. ne_eqb (b + k) (b + r) (λ e. ne (omega arith)) ∙ sym (ne_eqb k r ne)) (cases_eq k r)

choose_moved : (b n k r y x : ℕ) (f : Bool → Bool) → f false ≡ false → r < n → cond (ltb k n) (cond (f (eqb (b + k) (b + r))) y x) 0 ≡ cond (f (eqb k r)) y (cond (ltb k n) x 0)
choose_moved b n k r y x f h lt = ⊎_elim within past (cases_lt k n)
  where
    within : k < n → cond (ltb k n) (cond (f (eqb (b + k) (b + r))) y x) 0 ≡ cond (f (eqb k r)) y (cond (ltb k n) x 0)
    within less =
        ap (λ t. cond t (cond (f (eqb (b + k) (b + r))) y x) 0) (lt-ltb k n less)
        ∙ ap (λ t. cond (f t) y x) (same_moved b k r)
        ∙ sym (ap (λ t. cond (f (eqb k r)) y (cond t x 0)) (lt-ltb k n less))

    past : n ≤ k → cond (ltb k n) (cond (f (eqb (b + k) (b + r))) y x) 0 ≡ cond (f (eqb k r)) y (cond (ltb k n) x 0)
    past ge =
        ap (λ t. cond t (cond (f (eqb (b + k) (b + r))) y x) 0) (le-ltb k n ge)
        ∙ sym (ap (λ t. cond (f t) y (cond (ltb k n) x 0)) (ne_eqb k r (λ e. absurd (omega arith))) ∙ ap (λ t. cond t y (cond (ltb k n) x 0)) h ∙ ap (λ t. cond t x 0) (le-ltb k n ge))

abbrev made : (ℕ → ℕ) → (ℕ → ℕ → ℕ) → Contents
made regs cells = record { regs = regs; cells = cells }

pub same_contents : (x y : Contents) → ((k : ℕ) → x.regs k ≡ y.regs k) → ((k a : ℕ) → x.cells k a ≡ y.cells k a) → x ≡ y
same_contents x y h g = ap (λ (r : ℕ → ℕ). made r x.cells) (fun_ext h) ∙ ap (made y.regs) (fun_ext (λ k. fun_ext (g k)))

pub updated_append : (m : Module) (v : Family) (us ws : List Update) (x : Contents) → updated_all m v (us ++ ws) x ≡ updated_all m v ws (updated_all m v us x)
updated_append m v [] ws x = refl
updated_append m v (u ∷ us) ws x = updated_append m v us ws (updated m v u x)

module _ (b nets c mems : ℕ) (n : Module) (v : Family) where
  outside_written : (t : Target) (y : ℕ) (x : Contents) → IsOutside b nets c mems t → cut_contents b nets c mems (written n v t y x) ≡ cut_contents b nets c mems x
  outside_written (Reg r) y x h =
      same_contents (cut_contents b nets c mems (with_reg r y x)) (cut_contents b nets c mems x)
      (λ k. under k nets (cond (eqb (b + k) r) y (x.regs (b + k))) (x.regs (b + k)) (λ lt. ap (λ t. cond t y (x.regs (b + k))) (ne_eqb (b + k) r (h k lt))))
      (λ k a. refl)
  outside_written (Place j a) y x h = by_depth (ltb (v a) (depth_of n j))
    where
      by_depth : (t : Bool) → cut_contents b nets c mems (cond t (with_cell j (v a) y x) x) ≡ cut_contents b nets c mems x
      by_depth false = refl
      by_depth true =
          same_contents (cut_contents b nets c mems (with_cell j (v a) y x)) (cut_contents b nets c mems x)
          (λ k. refl)
          (λ k i. under k mems (cond (eqb (c + k) j
          && eqb i (v a)) y (x.cells (c + k) i)) (x.cells (c + k) i) (λ lt. ap (λ t. cond (t
          && eqb i (v a)) y (x.cells (c + k) i)) (ne_eqb (c + k) j (h k lt))))

  outside_updated : (u : Update) (x : Contents) → IsOutside b nets c mems u.target → cut_contents b nets c mems (updated n v u x) ≡ cut_contents b nets c mems x
  outside_updated u x h = by_enable (eqb (v u.enable) 1)
    where
      by_enable : (t : Bool) → cut_contents b nets c mems (cond t (written n v u.target (v u.value) x) x) ≡ cut_contents b nets c mems x
      by_enable false = refl
      by_enable true = outside_written u.target (v u.value) x h

  pub outside_all : (us : List Update) (x : Contents) → AreOutside b nets c mems us → cut_contents b nets c mems (updated_all n v us x) ≡ cut_contents b nets c mems x
  outside_all [] x h = refl
  outside_all (u ∷ us) x h = outside_all us (updated n v u x) (λ j w e. h (suc j) w e) ∙ outside_updated u x (h 0 u refl)

module _ (b c : ℕ) (inner n : Module) (s : Sits b c inner n) (v : Family) where
  read_in : (k : ℕ) → k < length inner.nets → v (b + k) ≡ cut_family b (length inner.nets) v k
  read_in k lt = sym (cut_at b (length inner.nets) v k lt)

  written_in : (t : Target) (y : ℕ) (x : Contents) → target_net t < length inner.nets
      → ((k : ℕ) → target_mem t ≡ Some k → k < length inner.mems)
      → cut_contents b (length inner.nets) c (length inner.mems)
      (written n v (relocated_target b c t) y x) ≡ written inner
      (cut_family b (length inner.nets) v) t y (cut_contents b (length inner.nets) c
      (length inner.mems) x)
  written_in (Reg r) y x net mem =
      same_contents (cut_contents b (length inner.nets) c (length inner.mems) (with_reg (b + r) y x)) (with_reg r y (cut_contents b (length inner.nets) c (length inner.mems) x))
      (λ k. choose_moved b (length inner.nets) k r y (x.regs (b + k)) (λ t. t) refl net)
      (λ k a. refl)
  written_in (Place j a) y x net mem =
      ap (λ q. cut_contents b (length inner.nets) c (length inner.mems) (cond (ltb q (depth_of n (c + j))) (with_cell (c + j) q y x) x)) (read_in a net)
      ∙ ap (λ q. cut_contents b (length inner.nets) c (length inner.mems)
      (cond (ltb (cut_family b (length inner.nets) v a) q)
      (with_cell (c + j) (cut_family b (length inner.nets) v a) y x) x))
      (s.depths j (mem j refl))
      ∙ by_depth (cut_family b (length inner.nets) v a) (ltb (cut_family b (length inner.nets) v a) (depth_of inner j))
    where
      by_depth : (q : ℕ) (t : Bool) → cut_contents b (length inner.nets) c (length inner.mems)
          (cond t (with_cell (c + j) q y x) x) ≡ cond t
          (with_cell j q y (cut_contents b (length inner.nets) c (length inner.mems) x))
          (cut_contents b (length inner.nets) c (length inner.mems) x)
      by_depth q false = refl
      by_depth q true =
          same_contents (cut_contents b (length inner.nets) c (length inner.mems) (with_cell (c + j) q y x)) (with_cell j q y (cut_contents b (length inner.nets) c (length inner.mems) x))
          (λ k. refl)
          (λ k i. choose_moved c (length inner.mems) k j y (x.cells (c + k) i) (λ t. t && eqb i q) refl (mem j refl))

  updated_in : (u : Update) (x : Contents) → IsFormedUpdate inner u
      → cut_contents b (length inner.nets) c (length inner.mems)
      (updated n v (relocated_update b c u) x) ≡ updated inner
      (cut_family b (length inner.nets) v) u (cut_contents b (length inner.nets) c
      (length inner.mems) x)
  updated_in u x f =
      ap (λ q. cut_contents b (length inner.nets) c (length inner.mems) (cond (eqb q 1) (written n v (relocated_target b c u.target) (v (b + u.value)) x) x)) (read_in u.enable f.enable)
      ∙ ap (λ q. cut_contents b (length inner.nets) c (length inner.mems)
      (cond (eqb (cut_family b (length inner.nets) v u.enable) 1)
      (written n v (relocated_target b c u.target) q x) x)) (read_in u.value f.value)
      ∙ by_enable (cut_family b (length inner.nets) v u.value) (eqb (cut_family b (length inner.nets) v u.enable) 1)
    where
      by_enable : (q : ℕ) (t : Bool) → cut_contents b (length inner.nets) c (length inner.mems)
          (cond t (written n v (relocated_target b c u.target) q x) x) ≡ cond t
          (written inner (cut_family b (length inner.nets) v) u.target q
          (cut_contents b (length inner.nets) c (length inner.mems) x))
          (cut_contents b (length inner.nets) c (length inner.mems) x)
      by_enable q false = refl
      by_enable q true = written_in u.target q x f.net f.mem

  all_in : (us : List Update) (x : Contents) → ((k : ℕ) (u : Update) → slice_get us k ≡ Some u
      → IsFormedUpdate inner u) → cut_contents b (length inner.nets) c (length inner.mems)
      (updated_all n v (map (relocated_update b c) us) x) ≡ updated_all inner
      (cut_family b (length inner.nets) v) us (cut_contents b (length inner.nets) c
      (length inner.mems) x)
  all_in [] x f = refl
  all_in (u ∷ us) x f =
      all_in us (updated n v (relocated_update b c u) x) (λ k w e. f (suc k) w e)
      ∙ ap (updated_all inner (cut_family b (length inner.nets) v) us) (updated_in u x (f 0 u refl))

  pub edge_cut : Ranged inner → (x : Contents)
      → cut_contents b (length inner.nets) c (length inner.mems) (after_edge n x v)
      ≡ after_edge inner (cut_contents b (length inner.nets) c (length inner.mems) x)
      (cut_family b (length inner.nets) v)
  edge_cut r x =
      let moved = map (relocated_update b c) inner.updates in
      let cut : Contents → Contents = λ y. cut_contents b (length inner.nets) c (length inner.mems) y in
      ap (λ us. cut (updated_all n v us x)) s.updates
      ∙ ap cut (updated_append n v s.before (moved ++ s.behind) x)
      ∙ ap cut (updated_append n v moved s.behind (updated_all n v s.before x))
      ∙ outside_all b (length inner.nets) c (length inner.mems) n v s.behind (updated_all n v moved (updated_all n v s.before x)) s.apart_behind
      ∙ all_in inner.updates (updated_all n v s.before x) r.updates
      ∙ ap (updated_all inner (cut_family b (length inner.nets) v) inner.updates) (outside_all b (length inner.nets) c (length inner.mems) n v s.before x s.apart)

-- what stands there at first
pub filled_cut : (b c : ℕ) (inner n : Module) → Sits b c inner n → (fill : ℕ) → cut_contents b (length inner.nets) c (length inner.mems) (filled_part (Some n) fill) ≡ filled_part (Some inner) fill
filled_cut b c inner n s fill =
    same_contents (cut_contents b (length inner.nets) c (length inner.mems) (filled_part (Some n) fill)) (filled_part (Some inner) fill)
    (λ k. ⊎_elim (reg k) (reg_past k) (cases_lt k (length inner.nets)))
    (λ k a. ⊎_elim (cell k a) (cell_past k a) (cases_lt k (length inner.mems)))
  where
    reg : (k : ℕ) → k < length inner.nets → cond (ltb k (length inner.nets)) (cond (is_reg n (b + k)) (fill % 2 ^ width_of n (b + k)) 0) 0 ≡ cond (is_reg inner k) (fill % 2 ^ width_of inner k) 0
    reg k lt =
        ap (λ t. cond t (cond (is_reg n (b + k)) (fill % 2 ^ width_of n (b + k)) 0) 0) (lt-ltb k (length inner.nets) lt)
        ∙ ap (λ t. cond t (fill % 2 ^ width_of n (b + k)) 0) (s.regs k lt)
        ∙ ap (λ w. cond (is_reg inner k) (fill % 2 ^ w) 0) (s.widths k lt)

    reg_past : (k : ℕ) → length inner.nets ≤ k → cond (ltb k (length inner.nets)) (cond (is_reg n (b + k)) (fill % 2 ^ width_of n (b + k)) 0) 0 ≡ cond (is_reg inner k) (fill % 2 ^ width_of inner k) 0
    reg_past k ge =
        ap (λ t. cond t (cond (is_reg n (b + k)) (fill % 2 ^ width_of n (b + k)) 0) 0) (le-ltb k (length inner.nets) ge)
        ∙ sym (ap (λ o. cond (net_kept o) (fill % 2 ^ width_of inner k) 0) (slice_get_past inner.nets k ge))

    cell : (k a : ℕ) → k < length inner.mems
        → cond (ltb k (length inner.mems)) (cond (ltb a (depth_of n (c + k)))
        (fill % 2 ^ word_width n (c + k)) 0) 0 ≡ cond (ltb a (depth_of inner k))
        (fill % 2 ^ word_width inner k) 0
    cell k a lt =
        ap (λ t. cond t (cond (ltb a (depth_of n (c + k))) (fill % 2 ^ word_width n (c + k)) 0) 0) (lt-ltb k (length inner.mems) lt)
        ∙ ap (λ q. cond (ltb a q) (fill % 2 ^ word_width n (c + k)) 0) (s.depths k lt)
        ∙ ap (λ w. cond (ltb a (depth_of inner k)) (fill % 2 ^ w) 0) (s.word_widths k lt)

    cell_past : (k a : ℕ) → length inner.mems ≤ k
        → cond (ltb k (length inner.mems)) (cond (ltb a (depth_of n (c + k)))
        (fill % 2 ^ word_width n (c + k)) 0) 0 ≡ cond (ltb a (depth_of inner k))
        (fill % 2 ^ word_width inner k) 0
    cell_past k a ge =
        ap (λ t. cond t (cond (ltb a (depth_of n (c + k))) (fill % 2 ^ word_width n (c + k)) 0) 0) (le-ltb k (length inner.mems) ge)
        ∙ sym (ap (λ o. cond (ltb a (mem_depth o)) (fill % 2 ^ word_width inner k) 0) (slice_get_past inner.mems k ge) ∙ ap (λ t. cond t (fill % 2 ^ word_width inner k) 0) (le-ltb a 0 (omega arith)))
