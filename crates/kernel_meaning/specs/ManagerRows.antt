-- The calls of a manager: kernels that are added, their ports, streams from and to the CPU, and
use Rattle.std.specs.Prelude.{ℕ, List, [], ◌∷◌, ◌++◌, length, Option, Some, None}
use Rattle.kernel_meaning.specs.declared.value.Value.{Value}
use Rattle.kernel_meaning.specs.declared.state.State.{State}
use Rattle.kernel_meaning.specs.declared.plan.Arg.{Arg}
use Rattle.kernel_meaning.specs.declared.plan.End.{End}
use Rattle.kernel_meaning.specs.declared.plan.Plan.{Plan}
use Rattle.kernel_meaning.specs.declared.value.Value.TheVariants as V
use Rattle.kernel_meaning.specs.declared.plan.Arg.TheVariants as A
use Rattle.kernel_meaning.specs.declared.plan.End.TheVariants as P
use Rattle.kernel_meaning.specs.declared.plan.Side.TheVariants as W
use Rattle.kernel_meaning.specs.Answer.{Outcome}
use Rattle.kernel_meaning.specs.Outcomes.{gives, wrong, with_name}

-- joins.

-- the state with this plan
abbrev pub with_plan : State → Plan → State
with_plan state plan = record state { plan = plan }

-- two ends are joined
abbrev pub joined : End → End → State → Outcome
joined left right state =
    gives V.Nothing (with_plan state (record state.plan {
      joins = state.plan.joins ++ record { left = left; right = right } ∷ [];
    }))

-- a stream from the CPU, which is the right end of a join
abbrev pub stream_from_cpu : ℕ → List Value → State → Outcome
stream_from_cpu at (V.Str name ∷ []) state =
    with_name at name (gives (V.Link (P.Cpu name) W.Right) (with_plan state (record state.plan {
      from_cpu = state.plan.from_cpu ++ name ∷ [];
    })))
stream_from_cpu at _ state = wrong at

-- a stream to the CPU, which is the left end of a join
abbrev pub stream_to_cpu : ℕ → List Value → State → Outcome
stream_to_cpu at (V.Str name ∷ []) state =
    with_name at name (gives (V.Link (P.Cpu name) W.Left) (with_plan state (record state.plan {
      to_cpu = state.plan.to_cpu ++ name ∷ [];
    })))
stream_to_cpu at _ state = wrong at

-- an input of a kernel, which is a left end
abbrev pub kernel_input : ℕ → List Value → State → Outcome
kernel_input at (V.Block kernel ∷ V.Str name ∷ []) state =
    with_name at name (gives (V.Link (P.Kernel kernel name) W.Left) state)
kernel_input at _ state = wrong at

-- an output of a kernel, which is a right end
abbrev pub kernel_output : ℕ → List Value → State → Outcome
kernel_output at (V.Block kernel ∷ V.Str name ∷ []) state =
    with_name at name (gives (V.Link (P.Kernel kernel name) W.Right) state)
kernel_output at _ state = wrong at

-- the arguments for a kernel's further parameters, where each is a number, a boolean or a type
abbrev pub with_arg : Arg → Option (List Arg) → Option (List Arg)
with_arg arg None = None
with_arg arg (Some args) = Some (arg ∷ args)

abbrev pub args_of : List Value → Option (List Arg)
args_of [] = Some []
args_of (V.Int n ∷ values) = with_arg (A.Int n) (args_of values)
args_of (V.Flag b ∷ values) = with_arg (A.Flag b) (args_of values)
args_of (V.«Type» t ∷ values) = with_arg (A.Stream t) (args_of values)
args_of (_ ∷ values) = None

-- a kernel of a class, with a name and arguments, is added, for `new` at a place
abbrev pub kernel_by : ℕ → List ℕ → ℕ → Option (List Arg) → State → Outcome
kernel_by at name class None state = wrong at
kernel_by at name class (Some args) state =
    gives (V.Block (length state.plan.kernels)) (with_plan state (record state.plan {
      kernels = state.plan.kernels ++ record { name = name; class = class; args = args } ∷ [];
    }))

abbrev pub kernel_added : ℕ → List ℕ → ℕ → List Value → State → Outcome
kernel_added at name class values state = kernel_by at name class (args_of values) state
