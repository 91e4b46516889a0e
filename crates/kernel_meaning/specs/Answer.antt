-- What a building run does: its calls in order, and how it ends.
use Rattle.std.specs.Prelude.{
  ℕ,
  ◌-◌,
  zero,
  suc,
  List,
  [],
  ◌∷◌,
  length,
  Bool,
  true,
  false,
  Result,
  Ok,
  Err,
  drop,
}
use Rattle.kernel_calls.specs.declared.call.Call.{Call}
use Rattle.kernel_meaning.specs.declared.error.EvalError.{EvalError}
use Rattle.kernel_meaning.specs.declared.value.Value.{Value}
use Rattle.kernel_meaning.specs.declared.state.State.{State}
use Rattle.kernel_meaning.specs.declared.state.Binding.{Binding}
use Rattle.kernel_meaning.specs.declared.plan.Plan.{Plan}
use Rattle.kernel_meaning.specs.declared.error.EvalError.TheVariants as E
use Rattle.kernel_meaning.specs.declared.value.Value.TheVariants as V

-- a run ends in a state, or is refused, or makes a call and goes on
pub data Answer : Type 0 where
  Finished : State → Answer
  Refused : EvalError → Answer
  Calls : Call → Answer → Answer

-- the calls, in their order
abbrev pub calls_of : Answer → List Call
calls_of (Finished state) = []
calls_of (Refused e) = []
calls_of (Calls call answer) = call ∷ calls_of answer

-- how the run ends
abbrev pub end_of : Answer → Result (Unit {0}) EvalError
end_of (Finished state) = Ok tt
end_of (Refused e) = Err e
end_of (Calls call answer) = end_of answer

-- what a manager has built where the run ends well
abbrev pub plan_at_end : Answer → Result Plan EvalError
plan_at_end (Finished state) = Ok state.plan
plan_at_end (Refused e) = Err e
plan_at_end (Calls call answer) = plan_at_end answer

-- what a run does once a production has its value, or has ended
abbrev pub Then : Type 0
Then = Value → State → Answer

abbrev pub Next : Type 0
Next = State → Answer

-- what is done with the values of operands: a refusal, or calls, a value and a state
pub data Outcome : Type 0 where
  Fails : EvalError → Outcome
  Does : List Call → Value → State → Outcome

-- the calls come, and then what is next
abbrev pub after_calls : List Call → Value → State → Then → Answer
after_calls [] value state next = next value state
after_calls (call ∷ calls) value state next = Calls call (after_calls calls value state next)

abbrev pub does : Outcome → Then → Answer
does (Fails e) next = Refused e
does (Does calls value state) next = after_calls calls value state next

-- a step is counted, unless it is one too many
abbrev pub counted_from : ℕ → State → Next → Answer
counted_from zero state next = Refused E.StepLimit
counted_from (suc left) state next = next (record state { left = left })

abbrev pub counted : State → Next → Answer
counted state next = counted_from state.left state next

-- a production uses a value, which must be there
abbrev pub used : ℕ → Value → State → Then → Answer
used at V.Nothing state next = Refused (E.Unset at)
used at value state next = next value state

-- a condition of the host
abbrev pub chosen : ℕ → Value → State → Next → Next → Answer
chosen at (V.Flag true) state first_way second_way = first_way state
chosen at (V.Flag false) state first_way second_way = second_way state
chosen at V.Nothing state first_way second_way = Refused (E.Unset at)
chosen at _ state first_way second_way = Refused (E.WrongKind at)

-- what is tested holds, or the run is refused
abbrev pub needs : Bool → EvalError → State → Next → Answer
needs true e state next = next state
needs false e state next = Refused e

-- one of two ways, by a test
abbrev pub decided : Bool → State → Next → Next → Answer
decided true state first_way second_way = first_way state
decided false state first_way second_way = second_way state

-- a part of the run, unless it is absent
abbrev pub unless_absent : Bool → State → (Next → Answer) → Next → Answer
unless_absent true state run next = next state
unless_absent false state run next = run next

-- only so many variables of the method are left
abbrev pub leave : ℕ → State → State
leave count state = record state {
  variables =
      drop (length state.variables - count) state.variables;
}

-- the variables of the caller again
abbrev pub back_in : List Binding → State → State
back_in variables state = record state { variables = variables }
