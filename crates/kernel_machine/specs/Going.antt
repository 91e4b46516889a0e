-- What is left of a building run, of a machine on its way.
use Rattle.std.specs.Prelude.{◌≡◌, ◌-◌, suc, List, [], ◌∷◌, ◌++◌, length, Option, Result, Ok, Err}
use Rattle.kernel_calls.specs.declared.call.Call.{Call}
use Rattle.kernel_meaning.specs.declared.error.EvalError.{EvalError}
use Rattle.kernel_meaning.specs.declared.error.EvalError.TheVariants.{NoMemory}
use Rattle.kernel_meaning.specs.declared.row.Row.TheVariants as R
use Rattle.kernel_meaning.specs.declared.state.State.{State}
use Rattle.kernel_meaning.specs.declared.value.Declared.{Declared}
use Rattle.kernel_meaning.specs.declared.value.Value.{Value}
use Rattle.kernel_meaning.specs.declared.value.Value.TheVariants as V
use Rattle.kernel_meaning.specs.Answer.{
  Answer,
  Finished,
  Refused,
  Calls,
  Then,
  Next,
  does,
  used,
  chosen,
  back_in,
}
use Rattle.kernel_meaning.specs.Names.{place_of}
use Rattle.kernel_meaning.specs.Rows.{row_of}
use Rattle.kernel_meaning.specs.Run.{Place, expr, exec, block, branches, call_to}
use Rattle.kernel_meaning.specs.Ways.{picked, first_decides, flag_alone, put, given_back}
use Rattle.kernel_plans.specs.Trees.{tree_of}
use Rattle.kernel_plans.specs.Classes.{ClassView, members, library_of}
use Rattle.kernel_machine.specs.declared.task.Task.{Task}
use Rattle.kernel_machine.specs.declared.task.Task.TheVariants as T
use Rattle.kernel_machine.specs.declared.machine.Frame.{Frame}
use Rattle.kernel_machine.specs.declared.machine.Now.{Now}
use Rattle.kernel_machine.specs.declared.machine.Now.TheVariants as N
use Rattle.kernel_machine.specs.declared.machine.Event.{Event}
use Rattle.kernel_machine.specs.declared.machine.Event.TheVariants.{On, Makes, Ended}
use Rattle.kernel_machine.specs.declared.machine.Machine.{Machine}
use Rattle.kernel_machine.specs.Left.{
  parts,
  from_place,
  operands_left,
  with_condition,
  with_second,
  step_of,
  turns_left,
  turn_on,
  combine_at,
  indexed_at,
  word_of,
  initial_at,
  braces_run,
  element_at,
  fields_left,
}

-- where productions stand, with so many methods waiting, in a method with this result
abbrev pub here : ClassView → List Frame → Option Declared → Place
here class callers wanted = record {
  library = library_of class.library;
  members = members class;
  call = call_to (library_of class.library) (members class) (64 - length callers);
  wanted = wanted;
}

-- the tasks go on with a value; `back` leaves the method
unfoldable pub go : ClassView → Place → List Task → Value → State → Then → Answer
go class here [] value state back = back V.Nothing state
go class here (T.Operands node at place count purpose values ∷ tasks) value state back =
    used at value state (λ value state.
    operands_left class.cells here purpose at node place count (values ++ value ∷ []) state
    (λ value state. go class here tasks value state back))
go class here (T.Choice at first second ∷ tasks) value state back =
    with_condition here at (tree_of class.cells first) (tree_of class.cells second) value state
    (λ value state. go class here tasks value state back)
go class here (T.Picked at ∷ tasks) value state back =
    picked at value state (λ value state. go class here tasks value state back)
go class here (T.ChooseFirst at second test ∷ tasks) value state back =
    used at value state (λ value state.
    with_second here at (tree_of class.cells second) test value state
    (λ value state. go class here tasks value state back))
go class here (T.ChooseSecond at test first ∷ tasks) value state back =
    used at value state (λ value state.
    does (row_of R.Choose at (test ∷ first ∷ value ∷ []) state)
    (λ value state. go class here tasks value state back))
go class here (T.Short at either second ∷ tasks) value state back =
    first_decides either at value state (λ value state. go class here tasks value state back)
    (λ state. expr here (tree_of class.cells second) state
    (λ value state. flag_alone at value state
    (λ value state. go class here tasks value state back)))
go class here (T.FlagAlone at ∷ tasks) value state back =
    flag_alone at value state (λ value state. go class here tasks value state back)
go class here (T.Statements node place count ∷ tasks) value state back =
    block here count (from_place place (parts (tree_of class.cells node))) state
    (λ state. go class here tasks V.Nothing state back) back
go class here (T.Test at node place body ∷ tasks) value state back =
    chosen at value state
    (λ state. exec here (tree_of class.cells body) state
    (λ state. go class here tasks V.Nothing state back) back)
    (λ state. branches here at (from_place place (parts (tree_of class.cells node))) state
    (λ state. go class here tasks V.Nothing state back) back)
go class here (T.LoopBegin loop ∷ tasks) value state back =
    turns_left class.cells here back loop (suc state.left) state
    (λ state. go class here tasks V.Nothing state back)
go class here (T.LoopTurn loop more ∷ tasks) value state back =
    turn_on class.cells here back loop more value state
    (λ state. go class here tasks V.Nothing state back)
go class here (T.LoopBody loop more ∷ tasks) value state back =
    step_of class.cells here back loop.step state (λ state.
    turns_left class.cells here back loop more state
    (λ state. go class here tasks V.Nothing state back))
go class here (T.LoopAgain loop more ∷ tasks) value state back =
    turns_left class.cells here back loop more state
    (λ state. go class here tasks V.Nothing state back)
go class here (T.Discard ∷ tasks) value state back = go class here tasks V.Nothing state back
go class here (T.GiveBack at ∷ tasks) value state back =
    used at value state (λ value state. given_back at here.wanted value state back)
go class here (T.Initial at of spot ∷ tasks) value state back =
    initial_at at of spot value state (λ state. go class here tasks V.Nothing state back)
go class here (T.Elements node of values ∷ tasks) value state back =
    element_at class.cells here node of values value state
    (λ value state. go class here tasks value state back)
go class here (T.Indexed node array pending ∷ tasks) value state back =
    indexed_at class.cells here (tree_of class.cells node) array pending value state
    (λ state. go class here tasks V.Nothing state back)
go class here (T.Assign at spot ∷ tasks) value state back =
    used at value state (λ value state. put at spot value state
    (λ state. go class here tasks V.Nothing state back))
go class here (T.Combine node old spot ∷ tasks) value state back =
    combine_at (place_of (tree_of class.cells node)) (word_of (tree_of class.cells node)) old spot
    value state (λ state. go class here tasks V.Nothing state back)
go class here (T.Store at spot ∷ tasks) value state back =
    put at spot value state (λ state. go class here tasks V.Nothing state back)
go class here (T.Fields place before body variables ∷ tasks) value state back =
    fields_left class here place before body variables state
    (λ state. go class here tasks V.Nothing state back) back

-- the callers go on with a value
unfoldable pub back_of : ClassView → List Frame → Then
back_of class [] value state = Finished state
back_of class (frame ∷ frames) value state =
    go class (here class frames frame.wanted) frame.tasks value (back_in frame.variables state)
    (back_of class frames)

-- what comes after the machine's production has a value
abbrev pub rest : ClassView → Machine → Then
rest class machine value state =
    go class (here class machine.callers machine.wanted) machine.tasks value state
    (back_of class machine.callers)

-- where its productions stand
abbrev pub standing : ClassView → Machine → Place
standing class machine = here class machine.callers machine.wanted

-- how its method is left
abbrev pub leaving : ClassView → Machine → Then
leaving class machine = back_of class machine.callers

-- and what comes after its statement has ended
abbrev pub after : ClassView → Machine → Next
after class machine state = rest class machine V.Nothing state

abbrev pub answer_from : ClassView → Machine → Now → Answer
answer_from class machine (N.Eval part) =
    expr (standing class machine) (tree_of class.cells part) machine.state (rest class machine)
answer_from class machine (N.Exec part) =
    exec (standing class machine) (tree_of class.cells part) machine.state (after class machine)
    (leaving class machine)
answer_from class machine (N.Braces part of) =
    braces_run (standing class machine) of (tree_of class.cells part) machine.state
    (rest class machine)
answer_from class machine (N.Give value) = rest class machine value machine.state

-- what is left of the run
abbrev pub answer_of : ClassView → Machine → Answer
answer_of class machine = answer_from class machine machine.now

-- calls come, and then the answer
abbrev pub with_calls : List Call → Answer → Answer
with_calls [] answer = answer
with_calls (call ∷ calls) answer = Calls call (with_calls calls answer)

-- a step does the first of what is left; want of memory says nothing
abbrev pub Leads : ClassView → Answer → Result Event EvalError → Machine → Type 0
Leads class answer (Ok On) new = answer ≡ answer_of class new
Leads class answer (Ok (Makes calls)) new = answer ≡ with_calls calls (answer_of class new)
Leads class answer (Ok Ended) new = answer ≡ Finished new.state
Leads class answer (Err NoMemory) new = Unit {0}
Leads class answer (Err e) new = answer ≡ Refused e

-- the run is what is left of the machine, or a refusal; want of memory says nothing
abbrev pub Starts : ClassView → Answer → Result Machine EvalError → Type 0
Starts class run (Ok machine) = run ≡ answer_of class machine
Starts class run (Err NoMemory) = Unit {0}
Starts class run (Err e) = run ≡ Refused e
