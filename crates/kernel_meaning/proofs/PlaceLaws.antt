-- What the place of a name's binding says.
use Rattle.std.proofs.Common.{
  ◌≡◌,
  ◌∙◌,
  ◌<◌,
  ◌≤◌,
  ℕ,
  suc,
  List,
  [],
  ◌∷◌,
  length,
  Some,
  None,
  Bool,
  true,
  false,
  refl,
  ap,
  sym,
  arith,
}
use Rattle.std.specs.Prelude.{is_some, nat_eq, if◌then◌else◌}
use Rattle.std.specs.Str.{bytes_eq}
use Rattle.std.proofs.lemmas.Bool.Decides.{nat_tests}
use Rattle.kernel_meaning.specs.declared.state.Binding.{Binding}
use Rattle.kernel_meaning.specs.declared.value.Value.{Value}
use Rattle.kernel_meaning.specs.Names.{bound_in, assigned}
use Rattle.kernel_meaning.specs.Places.{place_in, assigned_at}

some-is : {n m : ℕ} → Some n ≡ Some m → n ≡ m
some-is e = cc

pub nat-same : (n : ℕ) → nat_eq n n ≡ true
nat-same n = grind (arith, nat_tests)

pub nat-other : (n m : ℕ) → m < n → nat_eq n m ≡ false
nat-other n m h = grind (arith, nat_tests)

-- a place lies among the bindings
pub place-below : (name : List ℕ) (bs : List Binding) (place : ℕ)
    → place_in name bs ≡ Some place → place < length bs
place-below name [] place e = absurd (cc)
place-below name (b ∷ bs) place e = by (bytes_eq b.name name) (place-below name bs place) e
  where
    by : (t : Bool) → (place_in name bs ≡ Some place → place < length bs)
        → (if t then Some (length bs) else place_in name bs) ≡ Some place → place < suc (length bs)
    by true older f = let same = some-is f in omega (arith, same)
    by false older f = let below = older f in omega (arith, below)

-- a name with a place has a binding
pub place-bound : (name : List ℕ) (bs : List Binding) (place : ℕ)
    → place_in name bs ≡ Some place → is_some (bound_in name bs) ≡ true
place-bound name [] place e = absurd (cc)
place-bound name (b ∷ bs) place e = by (bytes_eq b.name name) (place-bound name bs place) e
  where
    by : (t : Bool) → (place_in name bs ≡ Some place → is_some (bound_in name bs) ≡ true)
        → (if t then Some (length bs) else place_in name bs) ≡ Some place
        → is_some (if t then Some b else bound_in name bs) ≡ true
    by true older f = refl
    by false older f = older f

-- a name without a place has none
pub no-place-unbound : (name : List ℕ) (bs : List Binding) → place_in name bs ≡ None
    → bound_in name bs ≡ None
no-place-unbound name [] e = refl
no-place-unbound name (b ∷ bs) e = by (bytes_eq b.name name) (no-place-unbound name bs) e
  where
    by : (t : Bool) → (place_in name bs ≡ None → bound_in name bs ≡ None)
        → (if t then Some (length bs) else place_in name bs) ≡ None
        → (if t then Some b else bound_in name bs) ≡ None
    by true older f = absurd (cc)
    by false older f = older f

-- the binding at the place of a name has the value
pub assigned-place : (name : List ℕ) (value : Value) (bs : List Binding) (place : ℕ)
    → place_in name bs ≡ Some place → assigned_at place value bs ≡ assigned name value bs
assigned-place name value [] place e = absurd (cc)
assigned-place name value (b ∷ bs) place e =
    by (bytes_eq b.name name) (assigned-place name value bs place) e
  where
    new : Binding
    new = record { name = b.name; of = b.of; value = value }

    by : (t : Bool)
        → (place_in name bs ≡ Some place → assigned_at place value bs ≡ assigned name value bs)
        → (if t then Some (length bs) else place_in name bs) ≡ Some place
        → assigned_at place value (b ∷ bs) ≡ (if t then new ∷ bs else b ∷ assigned name value bs)
    by true older f =
        let here : nat_eq (length bs) place ≡ true =
        ap (nat_eq (length bs)) (sym (some-is f)) ∙ nat-same (length bs) in
        ap (λ t. if t then new ∷ bs else b ∷ assigned_at place value bs) here
    by false older f =
        let below : nat_eq (length bs) place ≡ false =
        nat-other (length bs) place (place-below name bs place f) in
        ap (λ t. if t then new ∷ bs else b ∷ assigned_at place value bs) below
        ∙ ap (λ l. b ∷ l) (older f)

-- where a name has no place, nothing is assigned
pub no-place-assigned : (name : List ℕ) (value : Value) (bs : List Binding)
    → place_in name bs ≡ None → assigned name value bs ≡ bs
no-place-assigned name value [] e = refl
no-place-assigned name value (b ∷ bs) e =
    by (bytes_eq b.name name) (no-place-assigned name value bs) e
  where
    new : Binding
    new = record { name = b.name; of = b.of; value = value }

    by : (t : Bool) → (place_in name bs ≡ None → assigned name value bs ≡ bs)
        → (if t then Some (length bs) else place_in name bs) ≡ None
        → (if t then new ∷ bs else b ∷ assigned name value bs) ≡ b ∷ bs
    by true older f = absurd (cc)
    by false older f = ap (λ l. b ∷ l) (older f)

-- past the last place nothing is assigned
pub past-assigned : (place : ℕ) (value : Value) (bs : List Binding) → length bs ≤ place
    → assigned_at place value bs ≡ bs
past-assigned place value [] h = refl
past-assigned place value (b ∷ bs) h =
    let other : nat_eq (length bs) place ≡ false = grind (arith, nat_tests) in
    ap (λ t. if t then record { name = b.name; of = b.of; value = value } ∷ bs
    else b ∷ assigned_at place value bs) other
    ∙ ap (λ l. b ∷ l) (past-assigned place value bs (omega arith))
