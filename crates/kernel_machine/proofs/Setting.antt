-- What is set keeps what holds of a run.
use Rattle.std.proofs.Common.{
  ◌≡◌,
  ◌∙◌,
  ◌<◌,
  ◌≤◌,
  ◌++◌,
  ℕ,
  zero,
  suc,
  List,
  [],
  ◌∷◌,
  length,
  Some,
  None,
  true,
  false,
  refl,
  ap,
  sym,
  arith,
}
use Rattle.std.specs.Prelude.{Option, Bool, Result, Ok, Err, IfOk, slice_get, slice_index_or, slice_set, nat_eq, if◌then◌else◌}
use Rattle.std.proofs.Common.{subst}
use Rattle.std.specs.Str.{bytes_eq}
use Rattle.kernel_meaning.specs.declared.state.Binding.{Binding}
use Rattle.kernel_meaning.specs.declared.value.Value.{Value}
use Rattle.kernel_meaning.specs.declared.state.State.{State}
use Rattle.kernel_meaning.specs.Names.{bound_in, assigned, or_else, with_variable}
use Rattle.kernel_meaning.specs.Arrays.{value_of, array_of, with_element}
use Rattle.kernel_rows.specs.Fit.{IsFit, AreFit}
use Rattle.kernel_rows.specs.Kept.{AreBoundFit, AreArrays}
use Rattle.kernel_meaning.specs.Places.{place_in, bound_at, assigned_at}
use Rattle.kernel_meaning.proofs.PlaceLaws.{
  place-bound,
  no-place-unbound,
  assigned-place,
  no-place-assigned,
}

pub copied-fit : {E : Type 0} (r : Result Value E) (value : Value)
    → IfOk r (λ other. other ≡ value) → IsFit value → IfOk r IsFit
copied-fit (Ok other) value e h = subst IsFit (sym e) h
copied-fit (Err e) value h k = tt

-- what is assigned is fit
assigned-if : (test : Bool) (b : Binding) (value : Value) (others bs : List Binding) → IsFit value
    → IsFit b.value → AreBoundFit bs → AreBoundFit others
    → AreBoundFit (if test then record { name = b.name; of = b.of; value = value } ∷ bs
    else b ∷ others)
assigned-if true b value others bs v h k l = (v, k)
assigned-if false b value others bs v h k l = (h, l)

pub assigned-at-fit : (place : ℕ) (value : Value) (bs : List Binding) → IsFit value
    → AreBoundFit bs → AreBoundFit (assigned_at place value bs)
assigned-at-fit place value [] v h = tt
assigned-at-fit place value (b ∷ bs) v h =
    assigned-if (nat_eq (length bs) place) b value (assigned_at place value bs) bs v h.0 h.1
    (assigned-at-fit place value bs v h.1)

-- the binding of a name is fit
abbrev pub IsFitFound : Option Binding → Type 0
IsFitFound None = Unit {0}
IsFitFound (Some b) = IsFit b.value

found-if : (test : Bool) (b : Binding) (o : Option Binding) → IsFit b.value → IsFitFound o
    → IsFitFound (if test then Some b else o)
found-if true b o h k = h
found-if false b o h k = k

bound-fit : (name : List ℕ) (bs : List Binding) → AreBoundFit bs → IsFitFound (bound_in name bs)
bound-fit name [] h = tt
bound-fit name (b ∷ bs) h =
    found-if (bytes_eq b.name name) b (bound_in name bs) h.0 (bound-fit name bs h.1)

at-fit : (place : ℕ) (bs : List Binding) → AreBoundFit bs → IsFitFound (bound_at place bs)
at-fit place [] h = tt
at-fit place (b ∷ bs) h =
    found-if (nat_eq (length bs) place) b (bound_at place bs) h.0 (at-fit place bs h.1)

fit-value : (o : Option Binding) → IsFitFound o → IsFit (value_of o)
fit-value None h = tt
fit-value (Some b) h = h

pub field-fit : (place : ℕ) (fields : List Binding) → AreBoundFit fields
    → IsFit (value_of (bound_at place fields))
field-fit place fields h = fit-value (bound_at place fields) (at-fit place fields h)

either-fit : (o other : Option Binding) → IsFitFound o → IsFitFound other
    → IsFitFound (or_else o other)
either-fit None other h k = k
either-fit (Some b) other h k = h

pub variable-fit : (name : List ℕ) (variables fields : List Binding)
    → AreBoundFit variables → AreBoundFit fields
    → IsFit (value_of (or_else (bound_in name variables) (bound_in name fields)))
variable-fit name variables fields h k =
    fit-value (or_else (bound_in name variables) (bound_in name fields))
    (either-fit (bound_in name variables) (bound_in name fields)
    (bound-fit name variables h) (bound-fit name fields k))

-- elements that are set are fit, and as many
set-length : (values : List Value) (place : ℕ) (value : Value)
    → length (slice_set values place value) ≡ length values
set-length [] zero value = refl
set-length [] (suc place) value = refl
set-length (w ∷ ws) zero value = refl
set-length (w ∷ ws) (suc place) value = ap suc (set-length ws place value)

set-fit : (values : List Value) (place : ℕ) (value : Value) → IsFit value → AreFit values
    → AreFit (slice_set values place value)
set-fit [] zero value v h = tt
set-fit [] (suc place) value v h = tt
set-fit (w ∷ ws) zero value v h = (v, h.1)
set-fit (w ∷ ws) (suc place) value v h = (h.0, set-fit ws place value v h.1)

pub element-kept : (arrays : List (List Value)) (n place : ℕ) (value : Value) → IsFit value
    → AreArrays arrays → AreArrays (with_element arrays n place value)
element-kept [] zero place value v h = tt
element-kept [] (suc n) place value v h = tt
element-kept (vs ∷ arrays) zero place value v h = (
  subst (λ n. n ≤ 65536) (sym (set-length vs place value)) h.0,
  set-fit vs place value v h.1,
  h.2,
)
element-kept (vs ∷ arrays) (suc n) place value v h =
    (h.0, h.1, element-kept arrays n place value v h.2)

pub element-is-fit : (values : List Value) (place : ℕ) (value : Value) → AreFit values
    → slice_get values place ≡ Some value → IsFit value
element-is-fit [] place value v e = absurd (cc)
element-is-fit (w ∷ ws) zero value v e = subst IsFit (is e) v.0
  where
    is : Some w ≡ Some value → w ≡ value
    is e = cc
element-is-fit (w ∷ ws) (suc place) value v e = element-is-fit ws place value v.1 e

pub array-fit : (arrays : List (List Value)) (n : ℕ) → AreArrays arrays
    → AreFit (array_of arrays n)
array-fit [] n h = tt
array-fit (vs ∷ arrays) zero h = h.1
array-fit (vs ∷ arrays) (suc n) h = array-fit arrays n h.2

pub arrays-more : (arrays : List (List Value)) (values : List Value) → length values ≤ 65536
    → AreFit values → AreArrays arrays → AreArrays (arrays ++ values ∷ [])
arrays-more [] values l v h = (l, v, tt)
arrays-more (w ∷ ws) values l v h = (h.0, h.1, arrays-more ws values l v h.2)

pub values-more : (values : List Value) (value : Value) → AreFit values → IsFit value
    → AreFit (values ++ value ∷ [])
values-more [] value h v = (v, tt)
values-more (w ∷ ws) value h v = (h.0, values-more ws value h.1 v)

-- a variable of a name is set: one of the method, or else a field, or none
pub set-variable : (name : List ℕ) (value : Value) (state : State) (new : List Binding)
    (place : ℕ) → place_in name state.variables ≡ Some place
    → new ≡ assigned_at place value state.variables
    → record state { variables = new } ≡ with_variable name value state
set-variable name value state new place at e =
    rw (
      place-bound name state.variables place at,
      e,
      assigned-place name value state.variables place
          at,
    ) refl

pub set-field : (name : List ℕ) (value : Value) (state : State) (new : List Binding)
    (place : ℕ) → place_in name state.variables ≡ None
    → place_in name state.fields ≡ Some place → new ≡ assigned_at place value state.fields
    → record state { fields = new } ≡ with_variable name value state
set-field name value state new place none at e =
    rw (
      no-place-unbound name state.variables none,
      e,
      assigned-place name value state.fields place
          at,
    ) refl

pub set-nowhere : (name : List ℕ) (value : Value) (state : State)
    → place_in name state.variables ≡ None → place_in name state.fields ≡ None
    → state ≡ with_variable name value state
set-nowhere name value state none nowhere =
    rw (no-place-unbound name state.variables none, no-place-assigned name value state.fields nowhere)
    refl

-- an array that is taken out and put back with another element
pub element-put : (arrays : List (List Value)) (n place : ℕ) (value : Value)
    (gap now new : List Value) → n < length arrays → now ≡ slice_index_or arrays n now
    → new ≡ slice_set now place value
    → slice_set (slice_set arrays n gap) n new ≡ with_element arrays n place value
element-put [] n place value gap now new h at e = absurd (omega arith)
element-put (vs ∷ arrays) zero place value gap now new h at e =
    ap (λ l. l ∷ arrays) (e ∙ ap (λ l. slice_set l place value) at)
element-put (vs ∷ arrays) (suc n) place value gap now new h at e =
    ap (λ l. vs ∷ l) (element-put arrays n place value gap now new (omega arith) at e)

pub element-past : (arrays : List (List Value)) (n place : ℕ) (value : Value)
    → length arrays ≤ n → arrays ≡ with_element arrays n place value
element-past [] zero place value h = refl
element-past [] (suc n) place value h = refl
element-past (vs ∷ arrays) zero place value h = absurd (omega arith)
element-past (vs ∷ arrays) (suc n) place value h =
    ap (λ l. vs ∷ l) (element-past arrays n place value (omega arith))
