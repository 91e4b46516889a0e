-- The number of cells that a table of all modules gives is the one that recursion over instances gives.
use Rattle.std.proofs.Common.{◌≡◌, ℕ, zero, suc, ◌+◌, ◌-◌, ◌<◌, List, [], ◌∷◌, length, get_or, Some, refl, ap, ◌∙◌, subst, arith}
use Rattle.std.specs.Prelude.{slice_get, sum_by}
use Rattle.std.proofs.lemmas.List.{length-take}
use Rattle.std.proofs.lemmas.Option.{slice_get_within}
use Rattle.rtl_ir.specs.declared.design.Design.{Design}
use Rattle.rtl_ir.specs.declared.design.Module.{Module}
use Rattle.rtl_ir.specs.declared.design.Instance.{Instance}
use Rattle.rtl_ir.specs.Flat.{top_of}
use Rattle.rtl_ir.specs.Formed.{IsFormed}
use Rattle.verilog_sim.specs.Start.{cells_of, cells_with, cells_after, all_cells}
use Rattle.verilog_sim.specs.CellSums.{HasCells, PartsHave, counted, none, more}
use Rattle.verilog_sim.proofs.CellNumbers.{cells_at}
use Rattle.verilog_sim.proofs.CellTotals.{sum_cons, total_top}

abbrev cells_in : Design → List ℕ
cells_in d = cells_after [] d.modules

abbrev cells_by : Design → Instance → ℕ
cells_by d = λ (i : Instance). get_or (cells_in d) i.«module» 0

mutual
  only : (d : Design) → IsFormed d.modules → (m : Module) (n : ℕ) → HasCells d m n → n ≡ cells_with (cells_in d) m
  only d f m _ (counted {parts = parts} h) = ap (λ n. cells_of m + n) (only_parts d f m.instances parts h)

  only_parts : (d : Design) → IsFormed d.modules → (is : List Instance) (n : ℕ) → PartsHave d is n → n ≡ sum_by (cells_by d) is
  only_parts d f _ _ none = refl
  only_parts d f _ _ (more {i = i} {is = is} {n = n} {parts = parts} inner at h hs) =
      omega (arith, only d f inner n h, only_parts d f is parts hs, cells_at d f i.«module» inner at, sum_cons (cells_by d) i is)

there : {A : Type 0} (xs : List A) (k : ℕ) → k < length xs → (x : A) × (slice_get xs k ≡ Some x)
there [] k lt = absurd (omega arith)
there (x ∷ xs) zero lt = (x, refl)
there (x ∷ xs) (suc k) lt = there xs k (omega arith)

-- where the modules before a number have theirs, instances of them have theirs together
parts_have : (d : Design) → IsFormed d.modules → (bound : ℕ) → ((k : ℕ) (m : Module) → k < bound → slice_get d.modules k ≡ Some m → HasCells d m (cells_with (cells_in d) m))
    → (is : List Instance) → ((j : ℕ) (i : Instance) → slice_get is j ≡ Some i → (i.«module» < bound) × (i.«module» < length d.modules)) → PartsHave d is (sum_by (cells_by d) is)
parts_have d f bound earlier [] within = none
parts_have d f bound earlier (i ∷ is) within =
    let w = within 0 i refl in
    let inner = there d.modules i.«module» w.1 in
    let n = cells_with (cells_in d) inner.0 in
    let here : HasCells d inner.0 n = earlier i.«module» inner.0 w.0 inner.1 in
    let rest = parts_have d f bound earlier is (λ j k at. within (suc j) k at) in
    let total : n + sum_by (cells_by d) is ≡ sum_by (cells_by d) (i ∷ is) = omega (arith, cells_at d f i.«module» inner.0 inner.1, sum_cons (cells_by d) i is) in
    subst (PartsHave d (i ∷ is)) total (more inner.0 inner.1 here rest)

before : (d : Design) → IsFormed d.modules → (bound k : ℕ) (m : Module) → k < bound → slice_get d.modules k ≡ Some m → HasCells d m (cells_with (cells_in d) m)
before d f zero k m lt at = absurd (omega arith)
before d f (suc bound) k m lt at =
    let size = slice_get_within d.modules k m at in
    counted (parts_have d f bound (before d f bound) m.instances
    (λ j i is. let e = ((f.each k m at).instances j i is).is_earlier in (
      omega (
        arith,
        e,
        length-take k d.modules,
      ),
      omega (arith, e, length-take k d.modules),
    )))

pub has_cells : (d : Design) (m : Module) → IsFormed d.modules → top_of d ≡ Some m → HasCells d m (all_cells d)
has_cells d m f at = subst (HasCells d m) (total_top d f m at) (before d f (length d.modules) (length d.modules - 1) m (omega (arith, slice_get_within d.modules (length d.modules - 1) m at)) at)

pub only_cells : (d : Design) (m : Module) (n : ℕ) → IsFormed d.modules → top_of d ≡ Some m → HasCells d m n → n ≡ all_cells d
only_cells d m n f at h = only d f m n h ∙ total_top d f m at
