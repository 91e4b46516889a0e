-- Updates of different targets don't disturb each other, and more of them leave what was.
use Rattle.std.proofs.Common.{◌≡◌, ℕ, zero, suc, ◌<◌, Bool, true, false, cond, ◌&&◌, ◌||◌, eqb, ltb, List, [], ◌∷◌, ◌++◌, length, refl, sym, ap, ◌∙◌, subst, arith}
use Rattle.std.proofs.lemmas.Bool.{false≢true}
use Rattle.std.specs.Prelude.{slice_get}
use Rattle.rtl_ir.specs.declared.design.Module.{Module}
use Rattle.rtl_ir.specs.declared.design.Update.{Update}
use Rattle.rtl_ir.specs.declared.design.Mem.{Mem}
use Rattle.rtl_ir.specs.declared.design.Target.{Target}
use Rattle.rtl_ir.specs.declared.design.Target.TheVariants.{Reg, Cell}
use Rattle.rtl_ir.specs.Value.{Family, Contents, depth_of, mem_depth}
use Rattle.rtl_ir.specs.Edge.{Fits, updated, updated_all, written, with_reg, with_cell, after_edge, Edges}
use Rattle.rtl_ir.specs.Grow.{Grows}
use Rattle.rtl_ir.proofs.Grow.{holds_before, fits_holds}
use Rattle.rtl_delays.specs.Steps.{MovedTo, MovesAll, Step, Steps, is_target, is_mem_target, writes_reg, writes_mem, IsFree, Apart, IsTargetIn, UpdatesIn, IsSound}

or_false : (a b : Bool) → a || b ≡ false → (a ≡ false) × (b ≡ false)
or_false true b h = absurd (false≢true (sym h))
or_false false b h = (refl, h)

-- an update that doesn't write a register leaves it
regs_left : (m : Module) (v : Family) (u : Update) (c : Contents) (n : ℕ) → is_target n u.target ≡ false → (updated m v u c).regs n ≡ c.regs n
regs_left m v u c n h = by_on (eqb (v u.enable) 1)
  where
    by_target : (t : Target) → is_target n t ≡ false → (written m v t (v u.value) c).regs n ≡ c.regs n
    by_target (Reg k) h = let e : eqb n k ≡ false = grind (arith, h) in ap (λ b. cond b (v u.value) (c.regs n)) e
    by_target (Cell k a) h = by_depth (ltb (v a) (depth_of m k))
      where
        by_depth : (b : Bool) → (cond b (with_cell k (v a) (v u.value) c) c).regs n ≡ c.regs n
        by_depth true = refl
        by_depth false = refl

    by_on : (b : Bool) → (cond b (written m v u.target (v u.value) c) c).regs n ≡ c.regs n
    by_on true = by_target u.target h
    by_on false = refl

cells_left : (m : Module) (v : Family) (u : Update) (c : Contents) (j i : ℕ) → is_mem_target j u.target ≡ false → (updated m v u c).cells j i ≡ c.cells j i
cells_left m v u c j i h = by_on (eqb (v u.enable) 1)
  where
    by_target : (t : Target) → is_mem_target j t ≡ false → (written m v t (v u.value) c).cells j i ≡ c.cells j i
    by_target (Reg k) h = refl
    by_target (Cell k a) h = by_depth (ltb (v a) (depth_of m k))
      where
        other : eqb j k ≡ false
        other = grind (arith, h)

        by_depth : (b : Bool) → (cond b (with_cell k (v a) (v u.value) c) c).cells j i ≡ c.cells j i
        by_depth true = ap (λ b. cond (b && eqb i (v a)) (v u.value) (c.cells j i)) other
        by_depth false = refl

    by_on : (b : Bool) → (cond b (written m v u.target (v u.value) c) c).cells j i ≡ c.cells j i
    by_on true = by_target u.target h
    by_on false = refl

all_regs_left : (m : Module) (v : Family) (us : List Update) (c : Contents) (n : ℕ) → writes_reg n us ≡ false → (updated_all m v us c).regs n ≡ c.regs n
all_regs_left m v [] c n h = refl
all_regs_left m v (u ∷ us) c n h =
    let q = or_false (is_target n u.target) (writes_reg n us) h in
    all_regs_left m v us (updated m v u c) n q.1 ∙ regs_left m v u c n q.0

all_cells_left : (m : Module) (v : Family) (us : List Update) (c : Contents) (j i : ℕ) → writes_mem j us ≡ false → (updated_all m v us c).cells j i ≡ c.cells j i
all_cells_left m v [] c j i h = refl
all_cells_left m v (u ∷ us) c j i h =
    let q = or_false (is_mem_target j u.target) (writes_mem j us) h in
    all_cells_left m v us (updated m v u c) j i q.1 ∙ cells_left m v u c j i q.0

-- what an update writes, whatever is written elsewhere
here : (m : Module) (v : Family) (u : Update) (us : List Update) (c : Contents) (t : Target)
    → u.target ≡ t → IsFree us t → MovedTo m c v (updated_all m v us (updated m v u c))
    (eqb (v u.enable) 1) (v u.value) t
here m v u us c (Reg n) e free =
    let x = v u.value in
    all_regs_left m v us (updated m v u c) n free
    ∙ ap (λ t. (cond (eqb (v u.enable) 1) (written m v t x c) c).regs n) e
    ∙ by_on (eqb (v u.enable) 1)
  where
    same : eqb n n ≡ true
    same = grind arith

    by_on : (b : Bool) → (cond b (with_reg n (v u.value) c) c).regs n ≡ cond b (v u.value) (c.regs n)
    by_on true = ap (λ b. cond b (v u.value) (c.regs n)) same
    by_on false = refl
here m v u us c (Cell k a) e free = λ i.
    let x = v u.value in
    all_cells_left m v us (updated m v u c) k i free
    ∙ ap (λ t. (cond (eqb (v u.enable) 1) (written m v t x c) c).cells k i) e
    ∙ by_on (eqb (v u.enable) 1) (ltb (v a) (depth_of m k)) i
  where
    same : eqb k k ≡ true
    same = grind arith

    by_on : (b within : Bool) (i : ℕ) → (cond b (cond within (with_cell k (v a) (v u.value) c) c) c).cells k i
        ≡ cond (b && (within && eqb i (v a))) (v u.value) (c.cells k i)
    by_on true true i = ap (λ b. cond (b && eqb i (v a)) (v u.value) (c.cells k i)) same
    by_on true false i = refl
    by_on false within i = refl

-- the same contents before, where they are written
from_other : (m : Module) (v : Family) (c e d : Contents) (on : Bool) (x : ℕ) (t : Target)
    → ((n : ℕ) → is_target n t ≡ true → e.regs n ≡ c.regs n) → ((k i : ℕ) → is_mem_target k t ≡ true → e.cells k i ≡ c.cells k i)
    → MovedTo m e v d on x t → MovedTo m c v d on x t
from_other m v c e d on x (Reg n) r s h = let q : eqb n n ≡ true = grind arith in h ∙ ap (cond on x) (r n q)
from_other m v c e d on x (Cell k a) r s h = let q : eqb k k ≡ true = grind arith in λ i. h i ∙ ap (cond (on && (ltb (v a) (depth_of m k) && eqb i (v a))) x) (s k i q)

moves : (m : Module) (v : Family) (us : List Update) (c : Contents) → Apart us → MovesAll m c v (updated_all m v us c) us
moves m v [] c h = tt
moves m v (u ∷ us) c h = (here m v u us c u.target refl h.0, later us (updated_all m v us (updated m v u c)) u.target refl h.0 (moves m v us (updated m v u c) h.1))
  where
    later : (ws : List Update) (d : Contents) (t : Target) → u.target ≡ t → IsFree ws t → MovesAll m (updated m v u c) v d ws → MovesAll m c v d ws
    later [] d t e free q = tt
    later (w ∷ ws) d (Reg n) e free q =
        let o = or_false (is_target n w.target) (writes_reg n ws) free in (
          from_other m v c (updated m v u c) d (eqb (v w.enable) 1) (v w.value) w.target
              (λ k f. regs_left m v u c k (ap (is_target k) e ∙ apart_reg w.target k o.0 f))
              (λ k i f. cells_left m v u c k i (ap (is_mem_target k) e))
              q.0,
          later ws d (Reg n) e o.1 q.1,
        )
      where
        apart_reg : (t : Target) (k : ℕ) → is_target n t ≡ false → is_target k t ≡ true → eqb n k ≡ false
        apart_reg (Reg j) k h f = grind (arith, h, f)
        apart_reg (Cell j a) k h f = absurd (false≢true f)
    later (w ∷ ws) d (Cell j a) e free q =
        let o = or_false (is_mem_target j w.target) (writes_mem j ws) free in (
          from_other m v c (updated m v u c) d (eqb (v w.enable) 1) (v w.value) w.target
              (λ k f. regs_left m v u c k (ap (is_target k) e))
              (λ k i f. cells_left m v u c k i (ap (is_mem_target k) e ∙ apart_mem w.target k o.0 f))
              q.0,
          later ws d (Cell j a) e o.1 q.1,
        )
      where
        apart_mem : (t : Target) (k : ℕ) → is_mem_target j t ≡ false → is_mem_target k t ≡ true → eqb j k ≡ false
        apart_mem (Reg i) k h f = absurd (false≢true f)
        apart_mem (Cell i b) k h f = grind (arith, h, f)

-- an edge of a module is a step of it
pub edge_steps : (m : Module) (c : Contents) (v : Family) → IsSound m → Fits m c v → Step m c v (after_edge m c v)
edge_steps m c v s f = record { holds = fits_holds m c v f; moves = moves m v m.updates c s.apart }

pub edges_step : (m : Module) (c : Contents) (vs : List Family) → IsSound m → Edges m c vs → Steps m c vs
edges_step m c [] s h = tt
edges_step m c (v ∷ vs) s h = (after_edge m c v, (edge_steps m c v s h.0, edges_step m (after_edge m c v) vs s h.1))

get_left : {A : Type 0} (xs ys : List A) (n : ℕ) → n < length xs → slice_get (xs ++ ys) n ≡ slice_get xs n
get_left [] ys n h = absurd (omega arith)
get_left (x ∷ xs) ys zero h = refl
get_left (x ∷ xs) ys (suc n) h = get_left xs ys n (omega arith)

depth_kept : (m n : Module) → Grows m n → (k : ℕ) → k < length m.mems → depth_of n k ≡ depth_of m k
depth_kept m n g k h = ap (λ (l : List Mem). mem_depth (slice_get l k)) g.mems ∙ ap mem_depth (get_left m.mems g.more_mems k h)

moved_before : (m n : Module) → Grows m n
    → (c : Contents) (v : Family) (d : Contents) (on : Bool) (x : ℕ) (t : Target)
    → IsTargetIn (length m.nets) (length m.mems) t → MovedTo n c v d on x t → MovedTo m c v d on x t
moved_before m n g c v d on x (Reg k) i h = h
moved_before m n g c v d on x (Cell k a) i h = λ j. h j ∙ ap (λ w. cond (on && (ltb (v a) w && eqb j (v a))) x (c.cells k j)) (depth_kept m n g k i.0)

moves_before : (m n : Module) → Grows m n
    → (c : Contents) (v : Family) (d : Contents) (us more : List Update)
    → UpdatesIn (length m.nets) (length m.mems) us → MovesAll n c v d (us ++ more)
    → MovesAll m c v d us
moves_before m n g c v d [] more i h = tt
moves_before m n g c v d (u ∷ us) more i h = (moved_before m n g c v d (eqb (v u.enable) 1) (v u.value) u.target i.0 h.0, moves_before m n g c v d us more i.1 h.1)

-- a step of a larger module is a step of the smaller one
pub step_before : (m n : Module) → Grows m n → IsSound m → (c : Contents) (v : Family) (d : Contents) → Step n c v d → Step m c v d
step_before m n g s c v d h = record {
  holds = holds_before m n g s.range c v h.holds;
  moves = moves_before m n g c v d m.updates g.more_updates s.updates (subst (MovesAll n c v d) g.updates h.moves);
}

pub steps_before : (m n : Module) → Grows m n → IsSound m → (c : Contents) (vs : List Family) → Steps n c vs → Steps m c vs
steps_before m n g s c [] h = tt
steps_before m n g s c (v ∷ vs) h = (h.0, (step_before m n g s c v h.0 h.1.0, steps_before m n g s h.0 vs h.1.1))
