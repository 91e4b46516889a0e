-- How lawfulness goes through the ways of the run that are its own.
use Rattle.std.proofs.Common.{
  ◌≡◌,
  ℕ,
  pos,
  negsuc,
  zero,
  suc,
  ◌-◌,
  List,
  [],
  ◌∷◌,
  ◌++◌,
  refl,
  sym,
  true,
  false,
  Ok,
  Err,
  Some,
  None,
  subst,
  length,
}
use Rattle.std.specs.Prelude.{
  Option,
  Bool,
  Result,
  if◌then◌else◌,
  is_some,
  slice_get,
  slice_set,
  nat_eq,
  nat_le,
}
use Rattle.std.specs.Str.{bytes_eq}
use Rattle.kernel_meaning.specs.declared.value.Declared.{Declared}
use Rattle.kernel_meaning.specs.declared.value.Value.{Value}
use Rattle.kernel_meaning.specs.declared.value.Value.TheVariants as V
use Rattle.kernel_meaning.specs.declared.value.Spot.{Spot}
use Rattle.kernel_meaning.specs.declared.value.Spot.TheVariants.{Variable, Field, Element}
use Rattle.kernel_meaning.specs.declared.state.Binding.{Binding}
use Rattle.kernel_meaning.specs.declared.state.State.{State}
use Rattle.kernel_meaning.specs.declared.error.EvalError.TheVariants as E
use Rattle.kernel_meaning.specs.Names.{bound_in, or_else, declared, assigned, assigned_in}
use Rattle.kernel_meaning.specs.Arrays.{array_of, content, with_content, value_of}
use Rattle.kernel_meaning.specs.Places.{bound_at, assigned_at}
use Rattle.kernel_meaning.specs.Answer.{Answer, Then, Next}
use Rattle.kernel_meaning.specs.Ways.{
  picked,
  parted,
  first_decides,
  flag_alone,
  turns,
  stored_at,
  put,
  type_at,
  spot_in,
  introduced,
  given_back,
  formed,
  Form,
  Choice,
  Short,
  All_operands,
  braced,
  braces,
  braces_by,
  typed,
}
use Rattle.kernel_meaning.specs.Plans.{Library}
use Rattle.kernel_meaning.proofs.Kept.{History, IsHeld, AreHeld, AreBound, AreFilled, Sound, Good}
use Rattle.kernel_meaning.proofs.Later.{Later, at_once, and_later, sound_later}
use Rattle.kernel_meaning.proofs.Going.{
  GoodNext,
  GoodThen,
  next_later,
  with_left,
  with_vars,
  good_needs,
  good_chosen,
}

pub good_picked : (at : ℕ) (value : Value) {library : Library} (so_far : History library)
    (state : State) (next : Then)
    → IsHeld so_far value → Sound so_far state → GoodThen so_far next
    → Good so_far (picked at value state next)
good_picked at V.Nothing so_far state next v s h = record { lawful = tt {0}; plan = tt {0}; told = tt {0} }
good_picked at (V.Literal negative digits tens) so_far state next v s h =
    record { lawful = tt {0}; plan = tt {0}; told = tt {0} }
good_picked at value so_far state next v s h = h so_far (at_once so_far) value state v s

pub good_parted : (at : ℕ) (value : Value) {library : Library} (so_far : History library)
    (state : State)
    (first_way second_way : Next) (stream : Value → Next) → IsHeld so_far value
    → Sound so_far state → GoodNext so_far first_way → GoodNext so_far second_way
    → GoodThen so_far stream → Good so_far (parted at value state first_way second_way stream)
good_parted at V.Nothing so_far state first_way second_way stream v s y n h =
    record { lawful = tt {0}; plan = tt {0}; told = tt {0} }
good_parted at (V.Flag true) so_far state first_way second_way stream v s y n h =
    y so_far (at_once so_far) state s
good_parted at (V.Flag false) so_far state first_way second_way stream v s y n h =
    n so_far (at_once so_far) state s
good_parted at (V.Stream k t feed) so_far state first_way second_way stream v s y n h =
    h so_far (at_once so_far) (V.Stream k t feed) state v s
good_parted at _ so_far state first_way second_way stream v s y n h =
    record { lawful = tt {0}; plan = tt {0}; told = tt {0} }

pub good_first : (either : Bool) (at : ℕ) (value : Value) {library : Library}
    (so_far : History library) (state : State)
    (next : Then) (second : Next) → Sound so_far state → GoodThen so_far next
    → GoodNext so_far second → Good so_far (first_decides either at value state next second)
good_first true at (V.Flag true) so_far state next second s h n =
    h so_far (at_once so_far) (V.Flag true) state tt s
good_first true at (V.Flag false) so_far state next second s h n = n so_far (at_once so_far) state s
good_first false at (V.Flag true) so_far state next second s h n = n so_far (at_once so_far) state s
good_first false at (V.Flag false) so_far state next second s h n =
    h so_far (at_once so_far) (V.Flag false) state tt s
good_first true at _ so_far state next second s h n = record { lawful = tt {0}; plan = tt {0}; told = tt {0} }
good_first false at _ so_far state next second s h n = record { lawful = tt {0}; plan = tt {0}; told = tt {0} }

pub good_flag : (at : ℕ) (value : Value) {library : Library} (so_far : History library)
    (state : State) (next : Then)
    → Sound so_far state → GoodThen so_far next → Good so_far (flag_alone at value state next)
good_flag at (V.Flag b) so_far state next s h = h so_far (at_once so_far) (V.Flag b) state tt s
good_flag at V.Nothing so_far state next s h = record { lawful = tt {0}; plan = tt {0}; told = tt {0} }
good_flag at _ so_far state next s h = record { lawful = tt {0}; plan = tt {0}; told = tt {0} }

pub good_formed : (form : Form) {library : Library} (so_far : History library) (state : State)
    (choose : Next)
    (shorten : Bool → Next) (all : Next) → Sound so_far state → GoodNext so_far choose
    → ((b : Bool) → GoodNext so_far (shorten b)) → GoodNext so_far all
    → Good so_far (formed form state choose shorten all)
good_formed Choice so_far state choose shorten all s a b c = a so_far (at_once so_far) state s
good_formed (Short either) so_far state choose shorten all s a b c =
    b either so_far (at_once so_far) state s
good_formed All_operands so_far state choose shorten all s a b c = c so_far (at_once so_far) state s

-- a condition and a body whose ways are lawful
abbrev pub GoodCondition : {library : Library} → History library → (State → Then → Answer) → Type 0
GoodCondition {library} so_far run = (later : History library) → Later so_far later →
    (state : State) (next : Then)
    → Sound later state → GoodThen later next → Good later (run state next)

abbrev pub GoodBody : {library : Library} → History library → (State → Next → Answer) → Type 0
GoodBody {library} so_far run = (later : History library) → Later so_far later → (state : State)
    (next : Next)
    → Sound later state → GoodNext later next → Good later (run state next)

condition_later : {library : Library} (so_far later : History library) (run : State → Then → Answer)
    → Later so_far later
    → GoodCondition so_far run → GoodCondition later run
condition_later so_far later run l h = λ after m. h after (and_later so_far later after l m)

body_later : {library : Library} (so_far later : History library) (run : State → Next → Answer)
    → Later so_far later
    → GoodBody so_far run → GoodBody later run
body_later so_far later run l h = λ after m. h after (and_later so_far later after l m)

pub good_turns : (condition : State → Then → Answer) (body : State → Next → Answer) (at more : ℕ)
    {library : Library} (so_far : History library) (state : State) (next : Next)
    → GoodCondition so_far condition
    → GoodBody so_far body → Sound so_far state → GoodNext so_far next
    → Good so_far (turns condition body at more state next)
unfolding turns
good_turns condition body at zero so_far state next c b s h =
    record { lawful = tt {0}; plan = tt {0}; told = tt {0} }
good_turns condition body at (suc more) so_far state next c b s h =
    c so_far (at_once so_far) state _ s (λ after l value state2 v s2.
    good_chosen at value after state2 _ _ s2
    (λ after3 l3 state3 s3. b after3 (and_later so_far after after3 l l3) state3 _ s3
    (λ after4 l4 state4 s4.
    let m = and_later so_far after3 after4 (and_later so_far after after3 l l3) l4 in
    good_turns condition body at more after4 state4 next
    (condition_later so_far after4 condition m c) (body_later so_far after4 body m b) s4
    (next_later so_far after4 next m h)))
    (next_later so_far after next l h))

-- Variables and elements.

found : {library : Library} (so_far : History library) (name : List ℕ) (bs : List Binding)
    → AreBound so_far bs
    → IsHeld so_far (value_of (bound_in name bs))
found so_far name [] h = tt
found so_far name (b ∷ bs) h =
    elim (bytes_eq b.name name) as (λ t.
    IsHeld so_far (value_of (if t then Some b else bound_in name bs)))
    [ true ↦ h.0 | false ↦ found so_far name bs h.1 ]

found_at : {library : Library} (so_far : History library) (place : ℕ) (bs : List Binding)
    → AreBound so_far bs
    → IsHeld so_far (value_of (bound_at place bs))
found_at so_far place [] h = tt
found_at so_far place (b ∷ bs) h =
    elim (nat_eq (length bs) place) as (λ t.
    IsHeld so_far (value_of (if t then Some b else bound_at place bs)))
    [ true ↦ h.0 | false ↦ found_at so_far place bs h.1 ]

found_else : {library : Library} (so_far : History library) (first second : Option Binding)
    → IsHeld so_far (value_of first)
    → IsHeld so_far (value_of second) → IsHeld so_far (value_of (or_else first second))
found_else so_far (Some b) second f g = f
found_else so_far None second f g = g

at_place : {library : Library} (so_far : History library) (values : List Value) (place : ℕ)
    → AreHeld so_far values
    → (found : Option Value) → found ≡ slice_get values place
    → IsHeld so_far (elim found [ None ↦ V.Nothing | Some value ↦ value ])
at_place so_far [] place h None e = tt
at_place so_far [] place h (Some value) e = absurd (cc)
at_place so_far (v ∷ vs) zero h None e = tt
at_place so_far (v ∷ vs) zero h (Some value) e = let p : value ≡ v =
    cc in subst (IsHeld so_far) (sym p) h.0
at_place so_far (v ∷ vs) (suc place) h found e = at_place so_far vs place h.1 found e

pub array_sound : {library : Library} (so_far : History library) (arrays : List (List Value))
    (n : ℕ)
    → AreFilled so_far arrays → AreHeld so_far (array_of arrays n)
array_sound so_far [] n h = tt
array_sound so_far (vs ∷ arrays) zero h = h.0
array_sound so_far (vs ∷ arrays) (suc n) h = array_sound so_far arrays n h.1

pub content_sound : {library : Library} (so_far : History library) (spot : Spot) (state : State)
    → Sound so_far state
    → IsHeld so_far (content spot state)
content_sound so_far (Variable name) state s =
    found_else so_far (bound_in name state.variables) (bound_in name state.fields)
    (found so_far name state.variables s.variables) (found so_far name state.fields s.fields)
content_sound so_far (Field place) state s = found_at so_far place state.fields s.fields
content_sound so_far (Element n place of) state s =
    at_place so_far (array_of state.arrays n) place (array_sound so_far state.arrays n s.arrays)
    (slice_get (array_of state.arrays n) place) refl

assigned_sound : {library : Library} (so_far : History library) (name : List ℕ) (value : Value)
    (bs : List Binding)
    → IsHeld so_far value → AreBound so_far bs → AreBound so_far (assigned name value bs)
assigned_sound so_far name value [] v h = tt
assigned_sound so_far name value (b ∷ bs) v h =
    elim (bytes_eq b.name name) as (λ t.
    AreBound so_far (if t then record { name = b.name; of = b.of; value = value } ∷ bs else b
    ∷ assigned name value bs)) [
      | true ↦ (v, h.1)
      | false ↦ (h.0, assigned_sound so_far name value bs v h.1)
    ]

assigned_at_sound : {library : Library} (so_far : History library) (place : ℕ) (value : Value)
    (bs : List Binding)
    → IsHeld so_far value → AreBound so_far bs → AreBound so_far (assigned_at place value bs)
assigned_at_sound so_far place value [] v h = tt
assigned_at_sound so_far place value (b ∷ bs) v h =
    elim (nat_eq (length bs) place) as (λ t.
    AreBound so_far (if t then record { name = b.name; of = b.of; value = value } ∷ bs else b
    ∷ assigned_at place value bs)) [
      | true ↦ (v, h.1)
      | false ↦ (h.0, assigned_at_sound so_far place value bs v h.1)
    ]

variable_sound : {library : Library} (so_far : History library) (own : Bool) (name : List ℕ)
    (value : Value) (state : State)
    → IsHeld so_far value → Sound so_far state → Sound so_far (assigned_in own name value state)
variable_sound so_far true name value state v s =
    record {
      made = s.made;
      variables =
          assigned_sound so_far name value state.variables v s.variables;
      fields = s.fields;
      arrays =
          s.arrays;
      digits = s.digits;
      plan = s.plan;
    }
variable_sound so_far false name value state v s =
    record {
      made = s.made;
      variables = s.variables;
      fields =
          assigned_sound so_far name value state.fields v s.fields;
      arrays = s.arrays;
      digits = s.digits;
      plan = s.plan;
    }

set_sound : {library : Library} (so_far : History library) (values : List Value) (place : ℕ)
    (value : Value)
    → IsHeld so_far value → AreHeld so_far values → AreHeld so_far (slice_set values place value)
set_sound so_far [] place value v h = tt
set_sound so_far (w ∷ ws) zero value v h = (v, h.1)
set_sound so_far (w ∷ ws) (suc place) value v h = (h.0, set_sound so_far ws place value v h.1)

filled_sound : {library : Library} (so_far : History library) (arrays : List (List Value)) (n : ℕ)
    (values : List Value)
    → AreHeld so_far values → AreFilled so_far arrays
    → AreFilled so_far (slice_set arrays n values)
filled_sound so_far [] n values v h = tt
filled_sound so_far (w ∷ ws) zero values v h = (v, h.1)
filled_sound so_far (w ∷ ws) (suc n) values v h = (h.0, filled_sound so_far ws n values v h.1)

pub stored_sound : {library : Library} (so_far : History library) (spot : Spot) (value : Value)
    (state : State)
    → IsHeld so_far value → Sound so_far state → Sound so_far (with_content spot value state)
stored_sound so_far (Variable name) value state v s =
    variable_sound so_far (is_some (bound_in name state.variables)) name value state v s
stored_sound so_far (Field place) value state v s = record {
  made = s.made;
  variables = s.variables;
  fields = assigned_at_sound so_far place value state.fields v s.fields;
  arrays = s.arrays;
  digits = s.digits;
  plan = s.plan;
}
stored_sound so_far (Element n place of) value state v s = record {
  made = s.made;
  variables = s.variables;
  fields = s.fields;
  arrays = filled_sound so_far state.arrays n (slice_set (array_of state.arrays n) place value)
      (set_sound so_far (array_of state.arrays n) place value v
      (array_sound so_far state.arrays n s.arrays)) s.arrays;
  digits = s.digits;
  plan = s.plan;
}

good_stored : (at : ℕ) (of : Option Declared) (spot : Spot) (value : Value) {library : Library}
    (so_far : History library)
    (state : State) (next : Next) → IsHeld so_far value → Sound so_far state → GoodNext so_far next
    → Good so_far (stored_at at of spot value state next)
good_stored at None spot value so_far state next v s h = record { lawful = tt {0}; plan = tt {0}; told = tt {0} }
good_stored at (Some of) spot value so_far state next v s h =
    good_needs _ _ so_far state _ tt s (λ later l state2 s2.
    h later l (with_content spot value state2)
    (stored_sound later spot value state2 (sound_later so_far later value l v) s2))

pub good_put : (at : ℕ) (spot : Spot) (value : Value) {library : Library} (so_far : History library)
    (state : State)
    (next : Next) → IsHeld so_far value → Sound so_far state → GoodNext so_far next
    → Good so_far (put at spot value state next)
good_put at spot value so_far state next v s h =
    good_stored at (type_at spot state) spot value so_far state next v s h

pub good_spot : (at : ℕ) (array index : Value) {library : Library} (so_far : History library)
    (state : State)
    (next : Spot → Next) → Sound so_far state → ((spot : Spot) → GoodNext so_far (next spot))
    → Good so_far (spot_in at array index state next)
good_spot at (V.Array n of) (V.Int (pos place)) so_far state next s h =
    good_needs _ _ so_far state _ tt s (h (Element n place of))
good_spot at (V.Array n of) (V.Int (negsuc place)) so_far state next s h =
    record { lawful = tt {0}; plan = tt {0}; told = tt {0} }
good_spot at _ _ so_far state next s h = record { lawful = tt {0}; plan = tt {0}; told = tt {0} }

pub good_introduced : (at : ℕ) (name : List ℕ) (of : Result Declared ℕ) {library : Library}
    (so_far : History library)
    (state : State) (next : Declared → Next) → Sound so_far state
    → ((of : Declared) → GoodNext so_far (next of)) → Good so_far (introduced at name of state next)
good_introduced at name (Err place) so_far state next s h =
    record { lawful = tt {0}; plan = tt {0}; told = tt {0} }
good_introduced at name (Ok of) so_far state next s h =
    good_needs _ _ so_far state _ tt s (λ later l state2 s2.
    h of later l (record state2 { variables = declared name of state2.variables })
    (with_vars later state2 (declared name of state2.variables) (tt, s2.variables) s2))

pub good_back : (at : ℕ) (of : Option Declared) (value : Value) {library : Library}
    (so_far : History library) (state : State)
    (back : Then) → IsHeld so_far value → Sound so_far state → GoodThen so_far back
    → Good so_far (given_back at of value state back)
good_back at None value so_far state back v s h = record { lawful = tt {0}; plan = tt {0}; told = tt {0} }
good_back at (Some of) value so_far state back v s h =
    good_needs _ _ so_far state _ tt s (λ later l state2 s2.
    h later l value state2 (sound_later so_far later value l v) s2)

pub good_typed : (of : Result Declared ℕ) {library : Library} (so_far : History library)
    (state : State)
    (next : Declared → Next) → Sound so_far state → ((of : Declared) → GoodNext so_far (next of))
    → Good so_far (typed of state next)
good_typed (Err at) so_far state next s h = record { lawful = tt {0}; plan = tt {0}; told = tt {0} }
good_typed (Ok of) so_far state next s h = h of so_far (at_once so_far) state s

-- Braces.

filled_more : {library : Library} (so_far : History library) (arrays : List (List Value))
    (values : List Value)
    → AreHeld so_far values → AreFilled so_far arrays → AreFilled so_far (arrays ++ values ∷ [])
filled_more so_far [] values v h = (v, tt)
filled_more so_far (w ∷ ws) values v h = (h.0, filled_more so_far ws values v h.1)

pub good_braced : (of : Declared) (values : List Value) {library : Library}
    (so_far : History library) (state : State)
    (next : Then) → AreHeld so_far values → Sound so_far state → GoodThen so_far next
    → Good so_far (braced of values state next)
good_braced of values so_far state next v s h =
    h so_far (at_once so_far) (V.Array (length state.arrays) of)
    (record state { arrays = state.arrays ++ values ∷ [] }) tt
    (record {
      made = s.made;
      variables = s.variables;
      fields = s.fields;
      arrays =
          filled_more so_far state.arrays values v s.arrays;
      digits = s.digits;
      plan = s.plan;
    })

good_braces_by : (at : ℕ) (of : Option Declared) (count : ℕ) {library : Library}
    (so_far : History library) (state : State)
    (next : Declared → Next) → Sound so_far state → ((of : Declared) → GoodNext so_far (next of))
    → Good so_far (braces_by at of count state next)
good_braces_by at None count so_far state next s h = record { lawful = tt {0}; plan = tt {0}; told = tt {0} }
good_braces_by at (Some inner) count so_far state next s h =
    good_needs (nat_le count 65536) (E.ArrayRange at) so_far state _ tt s
    (λ later l state2 s2. good_needs (nat_le count state2.left) E.StepLimit later state2 _ tt s2
    (λ after m state3 s3.
    h inner after (and_later so_far later after l m) (record state3 { left = state3.left - count })
    (with_left after state3 (state3.left - count) s3)))

pub good_braces : (at : ℕ) (of : Declared) (count : ℕ) {library : Library}
    (so_far : History library) (state : State)
    (next : Declared → Next) → Sound so_far state → ((of : Declared) → GoodNext so_far (next of))
    → Good so_far (braces at of count state next)
good_braces at of count so_far state next s h = good_braces_by at _ count so_far state next s h

pub more_sound : {library : Library} (so_far : History library) (values : List Value)
    (value : Value) → AreHeld so_far values
    → IsHeld so_far value → AreHeld so_far (values ++ value ∷ [])
more_sound so_far [] value h v = (v, tt)
more_sound so_far (w ∷ ws) value h v = (h.0, more_sound so_far ws value h.1 v)
