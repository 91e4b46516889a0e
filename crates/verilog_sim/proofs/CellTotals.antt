-- The number of cells stays the same while instances become parts, and bounds the numbers of nets and memories.
use Rattle.std.proofs.Common.{◌≡◌, ℕ, suc, ◌+◌, ◌-◌, ◌≤◌, List, [], ◌∷◌, ◌++◌, map, length, get_or, Some, refl, sym, ap, ◌∙◌, arith, length-append}
use Rattle.std.specs.Prelude.{slice_get, sum_by}
use Rattle.std.proofs.lemmas.List.{length-map}
use Rattle.std.proofs.lemmas.List.Sums.{sum_by-append}
use Rattle.rtl_ir.specs.declared.design.Design.{Design}
use Rattle.rtl_ir.specs.declared.design.Module.{Module}
use Rattle.rtl_ir.specs.declared.design.Mem.{Mem}
use Rattle.rtl_ir.specs.declared.design.Instance.{Instance}
use Rattle.rtl_ir.specs.Flat.{top_of}
use Rattle.rtl_ir.specs.Formed.{IsFormed}
use Rattle.verilog_sim.specs.declared.scope.Scope.{Scope}
use Rattle.verilog_sim.specs.Relocation.{bare_net, bare_mem, relocated_instance}
use Rattle.verilog_sim.specs.Runnable.{IsSizedMem}
use Rattle.verilog_sim.specs.Flattened.{IsCopied, IsJoined, Joins, start, join}
use Rattle.verilog_sim.specs.Start.{cells_of, cells_with, cells_after, all_cells}
use Rattle.verilog_sim.proofs.CellNumbers.{cells_at}

pub sum_cons : {A : Type 0} (f : A → ℕ) (x : A) (xs : List A) → sum_by f (x ∷ xs) ≡ f x + sum_by f xs
sum_cons f x xs = omega (arith, sum_by-append f (x ∷ []) xs)

bare_depths : (xs : List Mem) → sum_by (λ (x : Mem). x.depth) (map bare_mem xs) ≡ sum_by (λ (x : Mem). x.depth) xs
bare_depths [] = refl
bare_depths (x ∷ xs) = omega (arith, sum_cons (λ (x : Mem). x.depth) (bare_mem x) (map bare_mem xs), sum_cons (λ (x : Mem). x.depth) x xs, bare_depths xs)

pub relocated_cells : (cells : List ℕ) (b : ℕ) (is : List Instance)
    → sum_by (λ (i : Instance). get_or cells i.«module» 0) (map (relocated_instance b) is) ≡ sum_by
    (λ (i : Instance). get_or cells i.«module» 0) is
relocated_cells cells b [] = refl
relocated_cells cells b (i ∷ is) = omega (
  arith,
  sum_cons (λ (i : Instance). get_or cells i.«module» 0) (relocated_instance b i)
      (map (relocated_instance b) is),
  sum_cons (λ (i : Instance). get_or cells i.«module» 0) i is,
  relocated_cells cells b is,
)

pub total_copied : (cells : List ℕ) {m n : Module} → IsCopied m n → cells_with cells n ≡ cells_with cells m
total_copied cells {m = m} {n = n} j =
    omega (
      arith,
      ap length j.nets,
      length-map m.nets bare_net,
      ap (sum_by (λ (x : Mem). x.depth)) j.mems,
      bare_depths m.mems,
      ap (sum_by (λ (i : Instance). get_or cells i.«module» 0)) j.instances,
      relocated_cells cells 0 m.instances,
    )

-- the cells of the instance that becomes a part
part_cells : (d : Design) → IsFormed d.modules → {m n : Module} {s : Scope} (j : IsJoined d m s n) → get_or (cells_after [] d.modules) j.part.«module» 0 ≡ cells_with (cells_after [] d.modules) j.inner
part_cells d f j = cells_at d f j.part.«module» j.inner j.is

total_joined : (d : Design) → IsFormed d.modules → {m n : Module} {s : Scope} (j : IsJoined d m s n) → cells_with (cells_after [] d.modules) n ≡ cells_with (cells_after [] d.modules) m
total_joined d f {m = m} {n = n} j =
    let cells = cells_after [] d.modules in
    let of : Instance → ℕ = λ i. get_or cells i.«module» 0 in
    omega (
      arith,
      ap length j.nets,
      length-append m.nets (map bare_net j.inner.nets),
      length-map j.inner.nets bare_net,
      ap (sum_by (λ (x : Mem). x.depth)) j.mems,
      sum_by-append (λ (x : Mem). x.depth) m.mems (map bare_mem j.inner.mems),
      bare_depths j.inner.mems,
      ap (sum_by of) j.instances,
      sum_by-append of j.rest (map (relocated_instance (length m.nets)) j.inner.instances),
      relocated_cells cells (length m.nets) j.inner.instances,
      ap (sum_by of) j.was,
      sum_by-append of j.rest (j.part ∷ []),
      sum_cons of j.part [],
      part_cells d f j,
    )

pub total_joins : (d : Design) → IsFormed d.modules → {m n : Module} {ss : List Scope} → Joins d m ss n → cells_with (cells_after [] d.modules) n ≡ cells_with (cells_after [] d.modules) m
total_joins d f start = refl
total_joins d f (join js j) = total_joined d f j ∙ total_joins d f js

pub total_top : (d : Design) → IsFormed d.modules → (m : Module) → top_of d ≡ Some m → cells_with (cells_after [] d.modules) m ≡ all_cells d
total_top d f m e = sym (cells_at d f (length d.modules - 1) m e)

-- a memory has a word at least
mems_le : (xs : List Mem) → ((k : ℕ) (x : Mem) → slice_get xs k ≡ Some x → 1 ≤ x.depth) → length xs ≤ sum_by (λ (x : Mem). x.depth) xs
mems_le [] h = omega arith
mems_le (x ∷ xs) h = omega (arith, sum_cons (λ (x : Mem). x.depth) x xs, h 0 x refl, mems_le xs (λ k y e. h (suc k) y e))

pub own_mems : (cells : List ℕ) (m : Module) → ((k : ℕ) (x : Mem) → slice_get m.mems k ≡ Some x → IsSizedMem x) → length m.mems ≤ cells_of m
own_mems cells m h = omega (arith, mems_le m.mems (λ k x e. (h k x e).words))

-- what an instance adds is counted
pub with_last : (d : Design) → IsFormed d.modules
    → (m : Module) (rest : List Instance) (part : Instance) (inner : Module)
    → m.instances ≡ rest ++ part ∷ [] → slice_get d.modules part.«module» ≡ Some inner
    → cells_of m + cells_of inner ≤ cells_with (cells_after [] d.modules) m
with_last d f m rest part inner was is =
    let of : Instance → ℕ = λ i. get_or (cells_after [] d.modules) i.«module» 0 in
    omega (arith, ap (sum_by of) was, sum_by-append of rest (part ∷ []), sum_cons of part [], cells_at d f part.«module» inner is)
