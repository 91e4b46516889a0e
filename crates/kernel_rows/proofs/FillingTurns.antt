-- Turns of filling leave the same to be made.
use Rattle.std.proofs.Common.{◌≡◌, ℕ, zero, suc, ◌+◌, ◌-◌, ◌<◌, ◌≤◌, List, [], ◌∷◌, ◌++◌, refl, ap}
use Rattle.std.proofs.Common.{sym, ◌∙◌, subst, arith, Ok, Err, Some, None, length, length-append}
use Rattle.std.proofs.Common.{length-drop, append_assoc, append-nil, drop, take, drop-cons}
use Rattle.std.proofs.Common.{slice_index}
use Rattle.std.specs.Prelude.{Option, Result}
use Rattle.std.proofs.Math.Seq.{take-append_seam, take-length}
use Rattle.std.proofs.lemmas.List.{length-take}
use Rattle.kernel_meaning.specs.declared.value.Declared.{Declared}
use Rattle.kernel_meaning.specs.declared.value.Value.{Value}
use Rattle.kernel_meaning.specs.declared.value.Value.TheVariants as V
use Rattle.kernel_meaning.specs.Arrays.{Grown, added, many, new_array}
use Rattle.mx_base.specs.declared.error.NoMemory.{NoMemory}
use Rattle.kernel_rows.specs.declared.filling.Filling.{Filling}
use Rattle.kernel_rows.specs.Filling.{filled, filled_at, around, IsWithin, IsTurn, IsClosed, full_value}

-- one of the elements that are lacking comes
many_one : (m : ℕ) (one : List (List Value) → Grown) (elements : List Value)
    (arrays : List (List Value)) →
    ◌≡◌ {A = Grown} (record {
      values = elements ++ (many (suc m) one arrays).values;
      arrays = (many (suc m) one arrays).arrays;
    }) (record {
      values = (elements ++ (one arrays).values) ++ (many m one (one arrays).arrays).values;
      arrays = (many m one (one arrays).arrays).arrays;
    })
many_one m one elements arrays =
    ap (λ (values : List Value). record {
      values = values;
      arrays = (many m one (one arrays).arrays).arrays;
    }) (sym (append_assoc elements (one arrays).values (many m one (one arrays).arrays).values))

-- the elements, with those that come to so many more
with_many : ℕ → (List (List Value) → Grown) → List Value → List (List Value) → Grown
with_many m one elements arrays = record {
  values = elements ++ (many m one arrays).values;
  arrays = (many m one arrays).arrays;
}

one_comes : (size : ℕ) (one : List (List Value) → Grown) (elements : List Value)
    (arrays : List (List Value)) → length elements < size → length (one arrays).values ≡ 1
    → with_many (size - length elements) one elements arrays
    ≡ with_many (size - length (elements ++ (one arrays).values)) one
    (elements ++ (one arrays).values) (one arrays).arrays
unfolding with_many
one_comes size one elements arrays l o =
    let m = size - suc (length elements) in
    let before : size - length elements ≡ suc m = omega arith in
    let long = length-append elements (one arrays).values in
    let after : size - length (elements ++ (one arrays).values) ≡ m = omega arith in
    ap (λ n. with_many n one elements arrays) before ∙ (many_one m one elements arrays
    ∙ ap (λ n. with_many n one (elements ++ (one arrays).values) (one arrays).arrays) (sym after))

filled_more : (of : Declared) (size : ℕ) (inner : List ℕ) (elements : List Value)
    (arrays : List (List Value)) (g : Grown) → length elements < size → new_array of inner arrays ≡ g
    → length g.values ≡ 1
    → filled of size inner elements arrays ≡ filled of size inner (elements ++ g.values) g.arrays
unfolding with_many
filled_more of size inner elements arrays g l e o =
    let one = new_array of inner in
    let h = one_comes size one elements arrays l (ap (λ (g : Grown). length g.values) e ∙ o) in
    let d : Declared = record { base = of.base; rank = of.rank + length inner } in
    ap (added d) h
    ∙ ap (λ (g : Grown). filled of size inner (elements ++ g.values) g.arrays) e

filled_full : (of : Declared) (size : ℕ) (inner : List ℕ) (elements : List Value)
    (arrays : List (List Value)) → size ≤ length elements
    → filled of size inner elements arrays ≡ added
    (record { base = of.base; rank = of.rank + length inner })
    (record { values = elements; arrays = arrays })
filled_full of size inner elements arrays l =
    let none : size - length elements ≡ 0 = omega arith in
    let d : Declared = record { base = of.base; rank = of.rank + length inner } in
    ap (λ n. added d (record {
      values = elements ++ (many n (new_array of inner) arrays).values;
      arrays = (many n (new_array of inner) arrays).arrays;
    })) none
    ∙ ap (λ (values : List Value). added d (record { values = values; arrays = arrays }))
    (append-nil elements)

none : List ℕ
none = []

drop_none : (n : ℕ) → drop n none ≡ none
unfolding none
drop_none zero = refl
drop_none (suc n) = refl

-- no size stands below
none_below : (sizes : List ℕ) (depth : ℕ) → length sizes - depth - 1 ≡ 0
    → drop (suc depth) sizes ≡ []
unfolding none
none_below [] depth e = drop_none (suc depth)
none_below (size ∷ []) depth e = drop_none depth
none_below (size ∷ more ∷ sizes) zero e = absurd (omega arith)
none_below (size ∷ more ∷ sizes) (suc depth) e = none_below (more ∷ sizes) depth (omega arith)

begun_one : (of : Declared) (size : ℕ) (inner : List ℕ) (arrays : List (List Value))
    → new_array of (size ∷ inner) arrays ≡ filled of size inner [] arrays
begun_one of size inner arrays =
    let d : Declared = record { base = of.base; rank = of.rank + length inner } in
    let whole : size ≡ size - 0 = omega arith in
    ap (λ n. added d (many n (new_array of inner) arrays)) whole

-- where a size stands below, it is that of arrays that begin
begun : (of : Declared) (sizes : List ℕ) (depth : ℕ) (arrays : List (List Value))
    → suc depth < length sizes
    → new_array of (drop (suc depth) sizes) arrays ≡ filled_at of sizes (suc depth) [] arrays
begun of sizes depth arrays l =
    ap (λ (inner : List ℕ). new_array of inner arrays) (drop-cons sizes (suc depth) 0 l)
    ∙ begun_one of (slice_index sizes (suc depth)) (drop (suc (suc depth)) sizes) arrays

pub nothing_turned : (of : Declared) (sizes : List ℕ) (outer : List (List Value))
    (elements more : List Value) (arrays : List (List Value))
    → length elements < slice_index sizes (length outer) → length sizes - length outer - 1 ≡ 0
    → more ≡ elements ++ V.Nothing ∷ []
    → around of sizes outer (filled_at of sizes (length outer) more arrays)
    ≡ around of sizes outer (filled_at of sizes (length outer) elements arrays)
nothing_turned of sizes outer elements more arrays l z e =
    let depth = length outer in
    let g : Grown = record { values = V.Nothing ∷ []; arrays = arrays } in
    let one : new_array of (drop (suc depth) sizes) arrays ≡ g =
    ap (λ (inner : List ℕ). new_array of inner arrays) (none_below sizes depth z) in
    let step = filled_more of (slice_index sizes depth) (drop (suc depth) sizes) elements arrays g l
    one refl in
    ap (λ (x : List Value). around of sizes outer (filled_at of sizes depth x arrays)) e
    ∙ ap (around of sizes outer) (sym step)

pub begun_turned : (of : Declared) (sizes : List ℕ) (outer : List (List Value))
    (elements : List Value) (arrays : List (List Value))
    → length elements < slice_index sizes (length outer) → suc (length outer) < length sizes
    → around of sizes (elements ∷ outer) (filled_at of sizes (suc (length outer)) [] arrays)
    ≡ around of sizes outer (filled_at of sizes (length outer) elements arrays)
begun_turned of sizes outer elements arrays l z =
    let depth = length outer in
    let g = filled_at of sizes (suc depth) [] arrays in
    ap (around of sizes outer) (sym (filled_more of (slice_index sizes depth)
    (drop (suc depth) sizes) elements arrays g l (begun of sizes depth arrays z) refl))

pub full_turned : (of : Declared) (sizes : List ℕ) (outer : List (List Value))
    (elements : List Value) (arrays : List (List Value)) (below : ℕ)
    → slice_index sizes (length outer) ≤ length elements → length outer < length sizes
    → below ≡ length sizes - length outer - 1
    → around of sizes outer (filled_at of sizes (length outer) elements arrays)
    ≡ around of sizes outer (record {
      values = V.Array (length arrays) (record { base = of.base; rank = of.rank + below }) ∷ [];
      arrays = arrays ++ elements ∷ [];
    })
full_turned of sizes outer elements arrays below l w b =
    let depth = length outer in
    let long = length-drop (suc depth) sizes in
    let same : length (drop (suc depth) sizes) ≡ below = omega arith in
    ap (around of sizes outer) (filled_full of (slice_index sizes depth) (drop (suc depth) sizes)
    elements arrays l)
    ∙ ap (λ n. around of sizes outer (record {
      values = V.Array (length arrays) (record { base = of.base; rank = of.rank + n }) ∷ [];
      arrays = arrays ++ elements ∷ [];
    })) same

-- the next element is nothing
pub nothing_comes : (of : Declared) (sizes : List ℕ) (old new : Filling)
    → length old.elements < slice_index sizes (length old.outer)
    → length sizes - length old.outer - 1 ≡ 0 → IsWithin sizes old → new.outer ≡ old.outer
    → new.elements ≡ old.elements ++ V.Nothing ∷ [] → new.arrays ≡ old.arrays
    → IsTurn of sizes old new (Ok None)
nothing_comes of sizes old new l z w o e a = (
  ap (λ (outer : List (List Value)). around of sizes outer
      (filled_at of sizes (length outer) new.elements new.arrays)) o
      ∙ (ap (λ (arrays : List (List Value)). around of sizes old.outer
      (filled_at of sizes (length old.outer) new.elements arrays)) a
      ∙ nothing_turned of sizes old.outer old.elements new.elements old.arrays l z e),
  subst (λ (outer : List (List Value)). length outer < length sizes) (sym o) w,
)

-- an array begins that is the next element
pub array_comes : (of : Declared) (sizes : List ℕ) (old new : Filling)
    → length old.elements < slice_index sizes (length old.outer)
    → suc (length old.outer) < length sizes → new.outer ≡ old.elements ∷ old.outer
    → new.elements ≡ [] → new.arrays ≡ old.arrays → IsTurn of sizes old new (Ok None)
array_comes of sizes old new l z o e a = (
  ap (λ (outer : List (List Value)). around of sizes outer
      (filled_at of sizes (length outer) new.elements new.arrays)) o
      ∙ (ap (λ (elements : List Value). around of sizes (old.elements ∷ old.outer)
      (filled_at of sizes (suc (length old.outer)) elements new.arrays)) e
      ∙ (ap (λ (arrays : List (List Value)). around of sizes (old.elements ∷ old.outer)
      (filled_at of sizes (suc (length old.outer)) [] arrays)) a
      ∙ begun_turned of sizes old.outer old.elements old.arrays l z)),
  subst (λ (outer : List (List Value)). length outer < length sizes) (sym o) z,
)

pub closed_turned : (of : Declared) (sizes : List ℕ) (old new : Filling) (below : ℕ)
    (result : Result (Option Value) NoMemory)
    → slice_index sizes (length old.outer) ≤ length old.elements → IsWithin sizes old
    → below ≡ length sizes - length old.outer - 1
    → IsClosed old new (full_value of below old) result → IsTurn of sizes old new result
closed_turned of sizes old new below (Ok (Some value)) l w b h =
    let full = full_turned of sizes old.outer old.elements old.arrays below l w b in
    full ∙ (ap (λ (outer : List (List Value)). around of sizes outer (record {
      values = full_value of below old ∷ [];
      arrays = old.arrays ++ old.elements ∷ [];
    })) h.1
    ∙ (ap (λ (v : Value). record {
      values = v ∷ [];
      arrays = old.arrays ++ old.elements ∷ [];
    }) (sym h.0)
    ∙ ap (λ (arrays : List (List Value)). record { values = value ∷ []; arrays = arrays })
    (sym h.2)))
closed_turned of sizes old new below (Ok None) l w b h =
    let full = full_turned of sizes old.outer old.elements old.arrays below l w b in
    let count : length old.outer ≡ suc (length new.outer) = ap length h.1 in (
      sym (full ∙ (ap (λ (outer : List (List Value)). around of sizes outer (record {
        values = full_value of below old ∷ [];
        arrays = old.arrays ++ old.elements ∷ [];
      })) h.1
          ∙ (ap (λ (elements : List Value). around of sizes new.outer
          (filled_at of sizes (length new.outer) elements (old.arrays ++ old.elements ∷ []))) (sym h.2)
          ∙ ap (λ (arrays : List (List Value)). around of sizes new.outer
          (filled_at of sizes (length new.outer) new.elements arrays)) (sym h.3)))),
      omega arith,
    )
closed_turned of sizes old new below (Err e) l w b h = tt

pub extended_by : (old new more : List (List Value)) → new ≡ old ++ more → take (length old) new ≡ old
extended_by old new more e = ap (take (length old)) e ∙ take-append_seam old more

pub extended_same : (old new : List (List Value)) → new ≡ old → take (length old) new ≡ old
extended_same old new e = ap (take (length old)) e ∙ take-length old

take_less : (n m : ℕ) (xs : List (List Value)) → n ≤ m → take n (take m xs) ≡ take n xs
take_less zero m xs l = refl
take_less (suc n) zero xs l = absurd (omega arith)
take_less (suc n) (suc m) [] l = refl
take_less (suc n) (suc m) (x ∷ xs) l = ap (λ (ys : List (List Value)). x ∷ ys)
    (take_less n m xs (omega arith))

-- what extends a list that extends another
pub extended_on : (first second third : List (List Value)) → take (length first) second ≡ first
    → take (length second) third ≡ second → take (length first) third ≡ first
extended_on first second third e f =
    let short : length (take (length first) second) ≡ length first = ap length e in
    let cut = length-take (length first) second in
    let fits : length first ≤ length second = omega arith in
    sym (take_less (length first) (length second) third fits)
    ∙ (ap (take (length first)) f ∙ e)
