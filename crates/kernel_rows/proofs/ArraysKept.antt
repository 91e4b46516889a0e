-- New arrays have at most 65,536 elements, and these are fit.
use Rattle.std.proofs.Common.{◌≡◌, ℕ, ℤ, pos, negsuc, zero, suc, ◌-◌, ◌≤◌, List, [], ◌∷◌, ◌++◌, refl, subst, arith, true, false, Some, None, length, length-append}
use Rattle.std.specs.Prelude.{Option, Bool, unsigned_abs, nat_le, slice_get, map}
use Rattle.std.specs.List.{list_all}
use Rattle.std.proofs.lemmas.Bool.Decides.{nat_tests}
use Rattle.kernel_meaning.specs.declared.value.Declared.{Declared}
use Rattle.kernel_meaning.specs.declared.value.Value.{Value}
use Rattle.kernel_meaning.specs.declared.state.State.{State}
use Rattle.kernel_meaning.specs.declared.error.EvalError.TheVariants as E
use Rattle.kernel_meaning.specs.Answer.{Fails, Does}
use Rattle.kernel_meaning.specs.Arrays.{array_of, element, nested, new_array, Grown, many}
use Rattle.kernel_meaning.specs.ArrayRows
use Rattle.kernel_meaning.proofs.TypingLaws.{both_left, both_right}
use Rattle.kernel_rows.specs.Fit.{IsFit, AreFit}
use Rattle.kernel_rows.specs.Kept.{AreArrays, IsKept}
use Rattle.kernel_rows.proofs.OperationKept.{KeptOutcome, kept_if}

pub elements_fit : (arrays : List (List Value)) (n : ℕ) → AreArrays arrays
    → AreFit (array_of arrays n)
elements_fit [] n h = tt
elements_fit (vs ∷ arrays) zero h = h.1
elements_fit (vs ∷ arrays) (suc n) h = elements_fit arrays n h.2

pub few_elements : (arrays : List (List Value)) (n : ℕ) → AreArrays arrays
    → length (array_of arrays n) ≤ 65536
few_elements [] n h = omega arith
few_elements (vs ∷ arrays) zero h = h.0
few_elements (vs ∷ arrays) (suc n) h = few_elements arrays n h.2

at_fit : (values : List Value) (place : ℕ) (value : Value) → AreFit values
    → slice_get values place ≡ Some value → IsFit value
at_fit [] place value v e = absurd (cc)
at_fit (w ∷ ws) zero value v e = let p : w ≡ value = cc in subst IsFit p v.0
at_fit (w ∷ ws) (suc place) value v e = at_fit ws place value v.1 e

pub element_fit : (arrays : List (List Value)) (n : ℕ) (place : ℤ) (value : Value)
    → AreArrays arrays → element arrays n place ≡ Some value → IsFit value
element_fit arrays n (pos place) value h e =
    at_fit (array_of arrays n) place value (elements_fit arrays n h) e
element_fit arrays n (negsuc place) value h e = absurd (cc)

-- arrays that are made, of so many values
record Held (count : ℕ) (g : Grown) : Type 0 where
  pub many : length g.values ≡ count
  pub values : AreFit g.values
  pub arrays : AreArrays g.arrays

joined_fit : (vs ws : List Value) → AreFit vs → AreFit ws → AreFit (vs ++ ws)
joined_fit [] ws p q = q
joined_fit (v ∷ vs) ws p q = (p.0, joined_fit vs ws p.1 q)

filled_one : (arrays : List (List Value)) (values : List Value) → length values ≤ 65536
    → AreFit values → AreArrays arrays → AreArrays (arrays ++ values ∷ [])
filled_one [] values l v h = (l, v, tt)
filled_one (w ∷ ws) values l v h = (h.0, h.1, filled_one ws values l v h.2)

one_more : (vs ws : List Value) (n : ℕ) → length vs ≡ 1 → length ws ≡ n
    → length (vs ++ ws) ≡ suc n
one_more vs ws n e f = let l = length-append vs ws in omega arith

many_held : (n : ℕ) (one : List (List Value) → Grown) (arrays : List (List Value))
    → ((arrays : List (List Value)) → AreArrays arrays → Held 1 (one arrays)) → AreArrays arrays
    → Held n (many n one arrays)
many_held zero one arrays h a = record { many = refl; values = tt; arrays = a }
many_held (suc n) one arrays h a =
    let first = h arrays a in
    let others = many_held n one (one arrays).arrays h first.arrays in
    record {
      many = one_more (one arrays).values _ n first.many others.many;
      values = joined_fit (one arrays).values _ first.values others.values;
      arrays = others.arrays;
    }

abbrev pub AreSizes : List ℕ → Type 0
AreSizes [] = Unit {0}
AreSizes (size ∷ sizes) = (size ≤ 65536) × AreSizes sizes

array_held : (of : Declared) (sizes : List ℕ) (arrays : List (List Value)) → AreSizes sizes
    → AreArrays arrays → Held 1 (new_array of sizes arrays)
array_held of [] arrays z a = record { many = refl; values = (tt, tt); arrays = a }
array_held of (size ∷ sizes) arrays z a =
    let m = many_held size (new_array of sizes) arrays
    (λ arrays a. array_held of sizes arrays z.1 a) a in
    let l = m.many in
    let limit = z.0 in
    record {
      many = refl;
      values = (tt, tt);
      arrays = filled_one _ _ (omega arith) m.values m.arrays;
    }

first_fit : (values : List Value) → AreFit values → IsFit (ArrayRows.first_of_all values)
first_fit [] v = tt
first_fit (value ∷ values) v = v.0

arrays_kept : (of : Declared) (sizes : List ℕ) (state : State) → IsKept state → AreSizes sizes
    → KeptOutcome state (ArrayRows.new_arrays of sizes state)
arrays_kept of sizes state s z =
    let g = array_held of sizes state.arrays z s.arrays in
    kept_if (nat_le (nested sizes) state.left) E.StepLimit state
    (Does [] (ArrayRows.first_of_all (new_array of sizes state.arrays).values)
    (record state {
      arrays = (new_array of sizes state.arrays).arrays;
      left = state.left - nested sizes;
    }))
    (λ e. record {
      holds = (
        first_fit _ g.values,
        record {
          kept = record {
            variables = s.variables;
            fields = s.fields;
            arrays = g.arrays;
            digits = s.digits;
          };
          variables = refl;
          fields = refl;
          left = omega arith;
        },
      );
    })

size_is : (n : ℤ) → ArrayRows.is_size n ≡ true → unsigned_abs n ≤ 65536
size_is (pos n) e = grind (arith, nat_tests)
size_is (negsuc n) e = absurd (cc)

are_sizes : (sizes : List ℤ) → list_all ArrayRows.is_size sizes ≡ true
    → AreSizes (map unsigned_abs sizes)
are_sizes [] e = tt
are_sizes (n ∷ sizes) e = (
  size_is n (both_left (ArrayRows.is_size n) _ e),
  are_sizes sizes (both_right (ArrayRows.is_size n) _ e),
)

by_sizes : (at : ℕ) (of : Declared) (sizes : List ℤ) (state : State) (b : Bool) → IsKept state
    → list_all ArrayRows.is_size sizes ≡ b
    → KeptOutcome state
    (elim b [
      | true ↦ ArrayRows.new_arrays of (map unsigned_abs sizes) state
      | false ↦ Fails (E.ArrayRange at)
    ])
by_sizes at of sizes state true s e = arrays_kept of _ state s (are_sizes sizes e)
by_sizes at of sizes state false s e = record { holds = tt }

pub arrays_by_kept : (at : ℕ) (of : Declared) (sizes : Option (List ℤ)) (state : State)
    → IsKept state → KeptOutcome state (ArrayRows.arrays_by at of sizes state)
arrays_by_kept at of None state s = record { holds = tt }
arrays_by_kept at of (Some sizes) state s =
    by_sizes at of sizes state (list_all ArrayRows.is_size sizes) s refl
