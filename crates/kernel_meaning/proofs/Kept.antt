-- What a run keeps: its values and states speak only of nodes that were made, and under a manager
-- only of ends that the manager has.
use Rattle.std.proofs.Common.{◌≡◌, ◌<◌, ℕ, List, [], ◌∷◌, true, Some, length}
use Rattle.std.specs.Prelude.{All, IfOk}
use Rattle.kernel_calls.specs.declared.call.Call.{Call}
use Rattle.kernel_calls.specs.Calls.{count_of, bits_in}
use Rattle.kernel_calls.specs.Laws.{AreLawful}
use Rattle.kernel_meaning.specs.declared.error.EvalError.{EvalError}
use Rattle.kernel_meaning.specs.declared.error.EvalError.TheVariants as E
use Rattle.kernel_meaning.specs.declared.plan.End.{End}
use Rattle.kernel_meaning.specs.declared.plan.Plan.{Plan}
use Rattle.kernel_meaning.specs.declared.plan.Side.{Side}
use Rattle.kernel_meaning.specs.declared.value.Value.{Value}
use Rattle.kernel_meaning.specs.declared.value.Value.TheVariants as V
use Rattle.kernel_meaning.specs.declared.state.State.{State}
use Rattle.kernel_meaning.specs.declared.state.Binding.{Binding}
use Rattle.kernel_meaning.specs.LibraryRows.{bits_of}
use Rattle.kernel_meaning.specs.Answer.{Answer, Finished, Refused, Calls, calls_of, plan_at_end}
use Rattle.kernel_meaning.specs.Plans.{Library, OfKernel, OfManager}
use Rattle.kernel_meaning.specs.Sound.{IsSound}
use Rattle.kernel_meaning.specs.SoundPlans.{IsEndOf, IsAdded, IsJoined}

-- what a run with this library has done so far: its calls, of which the newest is first, and what
-- was built
pub record History (library : Library) : Type 0 where
  pub calls : List Call
  pub plan : Plan

-- a call more
abbrev pub with_call : {library : Library} → Call → History library → History library
with_call call so_far = record so_far { calls = call ∷ so_far.calls }

-- the calls, newest first, before those so far
abbrev newest_first : List Call → List Call → List Call
newest_first [] so_far = so_far
newest_first (call ∷ calls) so_far = newest_first calls (call ∷ so_far)

abbrev pub onto : {library : Library} → List Call → History library → History library
onto calls so_far = record so_far { calls = newest_first calls so_far.calls }

-- another plan
abbrev pub with_built : {library : Library} → History library → Plan → History library
with_built so_far plan = record so_far { plan = plan }

-- Of a kernel's run nothing is asked that only managers can do.

abbrev pub IsBlock : Library → Plan → ℕ → Type 0
IsBlock OfKernel plan number = Unit {0}
IsBlock (OfManager kernels) plan number = number < length plan.kernels

abbrev pub IsLink : Library → Plan → Side → End → Type 0
IsLink OfKernel plan side end = Unit {0}
IsLink (OfManager kernels) plan side end = IsEndOf plan side end

-- a class that the manager may add has this number
abbrev pub IsClassOf : Library → ℕ → Type 0
IsClassOf OfKernel number = Unit {0}
IsClassOf (OfManager kernels) number = (name : List ℕ) × (kernels name ≡ Some number)

-- a manager's plan that can be carried out
pub record IsManaged (library : Library) (plan : Plan) : Type 0 where
  pub manager : plan.manager ≡ true
  pub kernels : All (IsAdded (IsClassOf library)) plan.kernels
  pub joined : IsJoined plan

abbrev pub EndsWell : Library → Plan → Type 0
EndsWell OfKernel plan = Unit {0}
EndsWell (OfManager kernels) plan = IsManaged (OfManager kernels) plan

pub record IsPlanOf (library : Library) (so_far plan : Plan) : Type 0 where
  pub same : plan ≡ so_far
  pub managed : IsManaged library plan

abbrev pub IsFollowed : Library → Plan → Plan → Type 0
IsFollowed OfKernel so_far plan = Unit {0}
IsFollowed (OfManager kernels) so_far plan = IsPlanOf (OfManager kernels) so_far plan

abbrev pub IsHeld : {library : Library} → History library → Value → Type 0
IsHeld {library} so_far (V.Block number) = IsBlock library so_far.plan number
IsHeld {library} so_far (V.Link end side) = IsLink library so_far.plan side end
IsHeld {library} so_far value = IsSound so_far.calls value

abbrev pub AreHeld : {library : Library} → History library → List Value → Type 0
AreHeld so_far [] = Unit {0}
AreHeld so_far (value ∷ values) = IsHeld so_far value × AreHeld so_far values

abbrev pub AreBound : {library : Library} → History library → List Binding → Type 0
AreBound so_far [] = Unit {0}
AreBound so_far (b ∷ bs) = IsHeld so_far b.value × AreBound so_far bs

abbrev pub AreFilled : {library : Library} → History library → List (List Value) → Type 0
AreFilled so_far [] = Unit {0}
AreFilled so_far (values ∷ arrays) = AreHeld so_far values × AreFilled so_far arrays

pub record Sound {library : Library} (so_far : History library) (state : State) : Type 0 where
  pub made : state.made ≡ count_of so_far.calls
  pub variables : AreBound so_far state.variables
  pub fields : AreBound so_far state.fields
  pub arrays : AreFilled so_far state.arrays
  pub digits : (chain : ℕ) → bits_of state.digits chain ≡ bits_in so_far.calls chain
  pub plan : IsFollowed library so_far.plan state.plan

-- a refusal that a source can get: memory is the program's want, and never a source's
abbrev pub IsTold : EvalError → Type 0
IsTold E.NoMemory = ⊥
IsTold _ = Unit {0}

abbrev pub EndsTold : Answer → Type 0
EndsTold (Finished state) = Unit {0}
EndsTold (Refused e) = IsTold e
EndsTold (Calls call answer) = EndsTold answer

-- Each call of the rest of a run may come after those before it; where a manager's run ends, its
-- plan can be carried out; and where it is refused, not for want of memory.
pub record Good {library : Library} (so_far : History library) (answer : Answer) : Type 0 where
  pub lawful : AreLawful so_far.calls (calls_of answer)
  pub plan : IfOk (plan_at_end answer) (EndsWell library)
  pub told : EndsTold answer
