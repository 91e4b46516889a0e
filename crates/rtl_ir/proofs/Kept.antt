-- An edge leaves words of their widths in registers and memories.
use Rattle.std.proofs.Common.{◌≡◌, ℕ, suc, ◌<◌, ◌^◌, Bool, true, false, ◌&&◌, cond, eqb, ltb, List, [], ◌∷◌, Option, Some, refl, sym, ◌∙◌, subst}
use Rattle.std.specs.Prelude.{slice_get}
use Rattle.std.proofs.lemmas.Bool.{false≢true, eqb-true}
use Rattle.rtl_ir.specs.declared.design.Design.{Design}
use Rattle.rtl_ir.specs.declared.design.Module.{Module}
use Rattle.rtl_ir.specs.declared.design.Instance.{Instance}
use Rattle.rtl_ir.specs.declared.design.Update.{Update}
use Rattle.rtl_ir.specs.declared.design.Target.{Target}
use Rattle.rtl_ir.specs.declared.design.Target.TheVariants.{Reg, Cell}
use Rattle.rtl_ir.specs.Value.{Family, Contents, width_of, depth_of}
use Rattle.rtl_ir.specs.Edge.{with_cell, written, updated, updated_all}
use Rattle.rtl_ir.specs.Flat.{Path, AllContents, Families, FitsFlat, part_of, module_at, after_part, after_flat}
use Rattle.rtl_ir.specs.Typed.{IsUpdateTyped, target_width, word_width}
use Rattle.rtl_ir.specs.Rules.{IsAccepted, HoldsWords, AllHold}
use Rattle.rtl_ir.proofs.Accepted.{sound_at}
use Rattle.rtl_ir.proofs.Parts.{From, from_some}

-- a choice is a word where both branches are
either : (b : Bool) (w x y : ℕ) → (b ≡ true → x < 2 ^ w) → y < 2 ^ w → cond b x y < 2 ^ w
either true w x y h k = h refl
either false w x y h k = k

both_true : (a b : Bool) → a && b ≡ true → a ≡ true
both_true true b e = refl
both_true false b e = absurd (false≢true e)

written_words : (m : Module) (v : Family) (t : Target) (x : ℕ) (c : Contents) → x < 2 ^ target_width m t → HoldsWords m c → HoldsWords m (written m v t x c)
written_words m v (Reg n) x c lt h =
    record {
      regs = λ k reg. either (eqb k n) (width_of m k) x (c.regs k) (λ e. subst (λ (i : ℕ). x < 2 ^ width_of m i) (sym (eqb-true k n e)) lt) (h.regs k reg);
      cells = h.cells;
    }
written_words m v (Cell k a) x c lt h = by_depth (ltb (v a) (depth_of m k))
  where
    by_depth : (b : Bool) → HoldsWords m (cond b (with_cell k (v a) x c) c)
    by_depth false = h
    by_depth true =
        record {
          regs = h.regs;
          cells = λ j i. either (eqb j k && eqb i (v a)) (word_width m j) x (c.cells j i)
              (λ e. subst (λ (n : ℕ). x < 2 ^ word_width m n)
              (sym (eqb-true j k (both_true (eqb j k) (eqb i (v a)) e))) lt) (h.cells j i);
        }

pub updated_words : (m : Module) (v : Family) → ((n : ℕ) → v n < 2 ^ width_of m n)
    → (us : List Update) → ((j : ℕ) (u : Update) → slice_get us j ≡ Some u → IsUpdateTyped m u)
    → (c : Contents) → HoldsWords m c → HoldsWords m (updated_all m v us c)
updated_words m v words [] typed c h = h
updated_words m v words (u ∷ us) typed c h =
    updated_words m v words us (λ j w e. typed (suc j) w e) (updated m v u c) (by_enable (eqb (v u.enable) 1))
  where
    by_enable : (b : Bool) → HoldsWords m (cond b (written m v u.target (v u.value) c) c)
    by_enable false = h
    by_enable true =
        written_words m v u.target (v u.value) c (subst (λ (w : ℕ). v u.value < 2 ^ w) ((typed 0 u refl).value) (words u.value)) h

-- a part is a module of the design
part_number : (d : Design) (m : Module) (number : ℕ) → slice_get d.modules number ≡ Some m → (p : Path) (part : Module) → module_at d m p ≡ Some part → (n : ℕ) × (slice_get d.modules n ≡ Some part)
part_number d m number e [] part at = (number, e ∙ at)
part_number d m number e (k ∷ p) part at =
    let a : From (λ (inner : Module). module_at d inner p) (part_of d m k) part = from_some (λ inner. module_at d inner p) (part_of d m k) part at in
    let b : From (λ (i : Instance). slice_get d.modules i.module) (slice_get m.instances k) a.item = from_some (λ i. slice_get d.modules i.module) (slice_get m.instances k) a.item a.was in
    part_number d a.item b.item.module b.gives p part a.gives

pub words_kept : (d : Design) → IsAccepted d → (number : ℕ) (m : Module)
    → slice_get d.modules number ≡ Some m → (c : AllContents) → AllHold d m c → (v : Families)
    → FitsFlat d m c v → AllHold d m (after_flat d m c v)
words_kept d h number m e c held v f p part at =
    let n = part_number d m number e p part at in
    let s = sound_at h n.0 part n.1 in
    let P : Option Module → Type 0 = λ o. HoldsWords part (after_part o (c p) (v p)) in
    subst P (sym at) (updated_words part (v p) (f.each p part at).words part.updates s.widths.updates (c p) (held p part at))
