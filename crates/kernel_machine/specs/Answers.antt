-- What small answers of the machine's functions say.
use Rattle.std.specs.Prelude.{
  ◌≡◌,
  ◌<◌,
  ◌≤◌,
  ◌⊎◌,
  ◌&&◌,
  ◌++◌,
  ◌∷◌,
  [],
  ℕ,
  suc,
  List,
  codes,
  is_none,
  Bool,
  true,
  false,
  Result,
  Ok,
  Err,
  length,
  Option,
  Some,
  None,
}
use Rattle.kernel_meaning.specs.declared.error.EvalError.{EvalError}
use Rattle.kernel_meaning.specs.declared.error.EvalError.TheVariants as E
use Rattle.kernel_meaning.specs.declared.state.State.{State}
use Rattle.kernel_meaning.specs.declared.value.Value.{Value}
use Rattle.kernel_meaning.specs.declared.value.Value.TheVariants as V
use Rattle.kernel_meaning.specs.declared.value.Spot.{Spot}
use Rattle.kernel_meaning.specs.Ways.{spot_in, introduced}
use Rattle.kernel_meaning.specs.Values.{has_kind}
use Rattle.kernel_meaning.specs.declared.value.Declared.{Declared}
use Rattle.std.specs.Str.{bytes_eq}
use Rattle.maxj_syntax.specs.Cells.{Cell}
use Rattle.maxj_syntax.specs.Tree.{Trees, Cons}
use Rattle.maxj_syntax.specs.declared.tree.NodeKind.TheVariants as N
use Rattle.kernel_plans.specs.declared.branch.Branch.{Branch}
use Rattle.kernel_meaning.specs.Answer.{Answer, Next, Then, Refused, chosen, needs, used}
use Rattle.kernel_meaning.specs.Constructors.{set_fields}
use Rattle.kernel_meaning.specs.Methods.{params_of}
use Rattle.kernel_meaning.specs.Plans.{number_of_trees}
use Rattle.kernel_meaning.specs.Run.{Place, named}
use Rattle.kernel_plans.specs.Classes.{ClassView, members}
use Rattle.kernel_plans.specs.Trees.{branch_tree}
use Rattle.kernel_machine.specs.Left.{from_place}
use Rattle.kernel_machine.specs.declared.machine.Machine.{Machine}

-- a step is counted, where one is left
abbrev pub IsCounted : Machine → Bool → Machine → Type 0
IsCounted old true new =
    (old.state.left ≡ suc new.state.left)
    × (new ≡ record old { state = record old.state { left = new.state.left } })
IsCounted old false new = (old.state.left ≡ 0) × (new ≡ old)

-- whether a condition of the host holds, or why it is none
abbrev pub IsCondition : ℕ → Value → Result Bool EvalError → Type 0
IsCondition at value (Ok holds) = value ≡ V.Flag holds
IsCondition at value (Err e) =
    (state : State) (first_way second_way : Next) →
    chosen at value state first_way second_way ≡ Refused e

-- a value that is set, or why there is none
abbrev pub IsPresent : ℕ → Value → Result Value EvalError → Type 0
IsPresent at value (Ok present) =
    (present ≡ value)
    × ((state : State) (next : Then) → used at value state next ≡ next present state)
IsPresent at value (Err e) =
    (state : State) (next : Then) → used at value state next ≡ Refused e

-- why a value that must be set isn't there; want of memory says nothing
abbrev pub IsUnset : ℕ → Value → EvalError → Type 0
IsUnset at value E.NoMemory = Unit {0}
IsUnset at value e = (state : State) (next : Then) → used at value state next ≡ Refused e

-- a value that is set, or why there is none
abbrev pub IsSet : ℕ → Value → Result Value EvalError → Type 0
IsSet at value (Ok set) =
    (set ≡ value)
    × ((state : State) (next : Then) → used at value state next ≡ next set state)
IsSet at value (Err e) = IsUnset at value e

-- values with one more that is set behind them, or why there is none
abbrev pub AreMore : ℕ → Value → List Value → Result (List Value) EvalError → Type 0
AreMore at value values (Ok more) =
    (more ≡ values ++ value ∷ [])
    × ((state : State) (next : Then) → used at value state next ≡ next value state)
AreMore at value values (Err e) = IsUnset at value e

-- a value that is set and of a type
abbrev pub typed : ℕ → Declared → Value → State → Then → Answer
typed at of value state next =
    used at value state (λ value state.
    needs (has_kind of value) (E.WrongKind at) state (λ state. next value state))

-- the same, or why there is none
abbrev pub IsTyped : ℕ → Declared → Value → Result Value EvalError → Type 0
IsTyped at of value (Ok known) =
    (known ≡ value)
    × ((state : State) (next : Then) → typed at of value state next ≡ next known state)
IsTyped at of value (Err e) =
    (state : State) (next : Then) → typed at of value state next ≡ Refused e

-- a variable without a value stands, or why there is none; want of memory says nothing
abbrev pub IsIntroduced : ℕ → List ℕ → Declared → State → Result (Unit {0}) EvalError → State → Type 0
IsIntroduced at name of old (Ok _) new =
    (next : Declared → Next) → introduced at name (Ok of) old next ≡ next of new
IsIntroduced at name of old (Err E.NoMemory) new = Unit {0}
IsIntroduced at name of old (Err e) new =
    (next : Declared → Next) → introduced at name (Ok of) old next ≡ Refused e

-- the name of a kernel, or why there is none; want of memory says nothing
abbrev pub IsNamed : ℕ → List Value → Result (List ℕ) EvalError → Type 0
IsNamed at values (Ok name) =
    (state : State) (next : List ℕ → Next) → named at values state next ≡ next name state
IsNamed at values (Err E.NoMemory) = Unit {0}
IsNamed at values (Err e) =
    (state : State) (next : List ℕ → Next) → named at values state next ≡ Refused e

-- `makeKernelParameters`, which none of these members hides
abbrev pub are_settings : Trees → List ℕ → Bool
are_settings members word =
    bytes_eq word (codes "makeKernelParameters") && is_none (params_of members word)

-- whether an argument is the call that names a kernel
abbrev pub NamesKernel : Trees → Branch → Bool → Type 0
NamesKernel members argument true =
    (argument.kind ≡ N.Call) × (are_settings members argument.word.now ≡ true)
NamesKernel members argument false =
    (argument.kind ≡ N.Call → ⊥)
    ⊎ (argument.kind ≡ N.Call) × (are_settings members argument.word.now ≡ false)

-- the spot of an element, or why there is none
abbrev pub IsSpot : ℕ → Value → Value → State → Result Spot EvalError → Type 0
IsSpot at array index state (Ok spot) =
    (next : Spot → Next) → spot_in at array index state next ≡ next spot state
IsSpot at array index state (Err e) =
    (next : Spot → Next) → spot_in at array index state next ≡ Refused e

-- the same of an index that must be set
abbrev pub IsSpotOf : ℕ → Value → Value → State → Result Spot EvalError → Type 0
IsSpotOf at array index state (Ok spot) =
    (next : Spot → Next)
    → used at index state (λ index state. spot_in at array index state next) ≡ next spot state
IsSpotOf at array index state (Err e) =
    (next : Spot → Next)
    → used at index state (λ index state. spot_in at array index state next) ≡ Refused e

-- a member is a field with its type, or it is passed over
abbrev pub IsField : Branch → Bool → Type 0
IsField member true = (member.kind ≡ N.Field) × (0 < length member.children.now)
IsField member false =
    (cells : List Cell) (here : Place) (before : ℕ) (others : Trees) (state : State)
    (next : Next) → set_fields here before (Cons (branch_tree cells member) others) state next
    ≡ set_fields here before others state next

-- the next field from a place on, with the place behind it; those before it are none
abbrev pub IsNextField : ClassView → ℕ → Option (ℕ × Branch) → Type 0
IsNextField class from None =
    (here : Place) (before : ℕ) (state : State) (next : Next) →
    set_fields here before (from_place from (members class)) state next ≡ next state
IsNextField class from (Some (behind, member)) =
    (from < behind)
    × (behind ≤ number_of_trees (members class))
    × (member.kind ≡ N.Field)
    × (0 < length member.children.now)
    × ((here : Place) (before : ℕ) (state : State) (next : Next) →
    set_fields here before (from_place from (members class)) state next
    ≡ set_fields here before
    (Cons (branch_tree class.cells member) (from_place behind (members class))) state next)
