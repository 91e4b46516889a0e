-- The numbers of cells of the modules of a design.
use Rattle.std.proofs.Common.{◌≡◌, ℕ, zero, suc, ◌+◌, ◌<◌, List, [], ◌∷◌, ◌++◌, take, length, get_or, Some, refl, sym, ap, ◌∙◌, arith, length-append}
use Rattle.std.specs.Prelude.{slice_get, sum_by}
use Rattle.std.proofs.lemmas.List.{length-take, get_or_append_left, get_or-append-add}
use Rattle.std.proofs.lemmas.List.Sums.{sum_by-append}
use Rattle.rtl_ir.specs.declared.design.Design.{Design}
use Rattle.rtl_ir.specs.declared.design.Module.{Module}
use Rattle.rtl_ir.specs.declared.design.Instance.{Instance}
use Rattle.rtl_ir.specs.Formed.{IsFormed}
use Rattle.verilog_sim.specs.Start.{cells_of, cells_with, cells_after}

pub cells_length : (cells : List ℕ) (ms : List Module) → length (cells_after cells ms) ≡ length cells + length ms
cells_length cells [] = omega arith
cells_length cells (m ∷ ms) = omega (arith, cells_length (cells ++ cells_with cells m ∷ []) ms, length-append cells (cells_with cells m ∷ []))

pub cells_suc : (cells : List ℕ) (ms : List Module) (k : ℕ) (x : Module) → k < length ms
    → cells_after cells (take (suc k) ms) ≡ cells_after cells (take k ms)
    ++ cells_with (cells_after cells (take k ms)) (get_or ms k x) ∷ []
cells_suc cells [] k x lt = absurd (omega arith)
cells_suc cells (m ∷ ms) zero x lt = refl
cells_suc cells (m ∷ ms) (suc k) x lt = cells_suc (cells ++ cells_with cells m ∷ []) ms k x (omega arith)

-- the numbers of the modules before stay
cells_kept : (cells : List ℕ) (ms : List Module) (i : ℕ) → i < length cells → get_or (cells_after cells ms) i 0 ≡ get_or cells i 0
cells_kept cells [] i lt = refl
cells_kept cells (m ∷ ms) i lt = cells_kept (cells ++ cells_with cells m
    ∷ []) ms i (omega (
      arith,
      length-append cells (cells_with cells m
          ∷ []),
    )) ∙ get_or_append_left cells (cells_with cells m ∷ []) 0 i lt

sum_same : (all cells : List ℕ) (is : List Instance) → ((k : ℕ) (i : Instance)
    → slice_get is k ≡ Some i → get_or all i.«module» 0 ≡ get_or cells i.«module» 0)
    → sum_by (λ (i : Instance). get_or all i.«module» 0) is ≡ sum_by
    (λ (i : Instance). get_or cells i.«module» 0) is
sum_same all cells [] h = refl
sum_same all cells (i ∷ is) h =
    sum_by-append (λ (i : Instance). get_or all i.«module» 0) (i ∷ []) is
    ∙ ap (λ n. 0 + n + sum_by (λ (i : Instance). get_or all i.«module» 0) is) (h 0 i refl)
    ∙ ap (λ n. 0 + get_or cells i.«module» 0 + n) (sum_same all cells is (λ k x e. h (suc k) x e))
    ∙ sym (sum_by-append (λ (i : Instance). get_or cells i.«module» 0) (i ∷ []) is)

-- the number of a module is the sum of its own cells and the numbers of its instances' modules
cells_at' : (cells : List ℕ) (ms : List Module) (k : ℕ) (m : Module) → slice_get ms k ≡ Some m
    → ((j : ℕ) (i : Instance) → slice_get m.instances j ≡ Some i
    → i.«module» < length cells + k)
    → get_or (cells_after cells ms) (length cells + k) 0 ≡ cells_with (cells_after cells ms) m
cells_at' cells [] k m e h = absurd (cc)
cells_at' cells (x ∷ ms) zero m e h =
    let same : x ≡ m = cc in
    let more = cells ++ cells_with cells x ∷ [] in
    cells_kept more ms (length cells + 0) (omega (arith, length-append cells (cells_with cells x ∷ [])))
    ∙ get_or-append-add cells (cells_with cells x ∷ []) 0 0
    ∙ ap (cells_with cells) same
    ∙ ap (λ n. cells_of m + n) (sym (sum_same (cells_after more ms) cells m.instances
    (λ j i at. cells_kept more ms i.«module» (omega (
      arith,
      h j i at,
      length-append cells (cells_with cells x
          ∷ []),
    )) ∙ get_or_append_left cells (cells_with cells x
    ∷ []) 0 i.«module» (omega (arith, h j i at)))))
cells_at' cells (x ∷ ms) (suc k) m e h =
    let more = cells ++ cells_with cells x ∷ [] in
    let size : length more + k ≡ length cells + suc k = omega (arith, length-append cells (cells_with cells x ∷ [])) in
    ap (λ i. get_or (cells_after more ms) i 0) (sym size) ∙ cells_at' more ms k m e (λ j i at. omega (arith, h j i at, length-append cells (cells_with cells x ∷ [])))

pub cells_at : (d : Design) → IsFormed d.modules → (k : ℕ) (m : Module) → slice_get d.modules k ≡ Some m → get_or (cells_after [] d.modules) k 0 ≡ cells_with (cells_after [] d.modules) m
cells_at d h k m e =
    let zero_size : 0 + k ≡ k = omega arith in
    ap (λ i. get_or (cells_after [] d.modules) i 0) (sym zero_size)
    ∙ cells_at' [] d.modules k m e (λ j i at. (let lt = ((h.each k m e).instances j i at).is_earlier in omega (arith, lt, length-take k d.modules)))
