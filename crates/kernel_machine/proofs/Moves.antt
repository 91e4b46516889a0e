-- What the first move of a production is.
use Rattle.std.proofs.Common.{
  ◌≡◌,
  ◌∙◌,
  ◌≢◌,
  ℕ,
  ◌-◌,
  ◌+◌,
  ◌<◌,
  ◌≤◌,
  ◌++◌,
  zero,
  suc,
  List,
  [],
  ◌∷◌,
  length,
  drop,
  Some,
  None,
  true,
  false,
  refl,
  ap,
  sym,
  Ok,
  Err,
  inl,
  inr,
  arith,
  subst,
}
use Rattle.std.specs.Prelude.{◌⊎◌, Option, Bool, Result, IsErr, IsErrAnd}
use Rattle.maxj_syntax.specs.Cells.{Cell}
use Rattle.maxj_syntax.specs.Tree.{Tree, Node, Trees, Nil, Cons}
use Rattle.kernel_calls.specs.declared.call.Call.{Call}
use Rattle.kernel_meaning.specs.declared.error.EvalError.{EvalError}
use Rattle.kernel_meaning.specs.declared.error.EvalError.TheVariants as E
use Rattle.kernel_meaning.specs.declared.state.State.{State}
use Rattle.kernel_meaning.specs.declared.state.Binding.{Binding}
use Rattle.kernel_meaning.specs.declared.value.Value.{Value}
use Rattle.kernel_meaning.specs.Answer.{
  Answer,
  Calls,
  Refused,
  Then,
  Next,
  Outcome,
  Does,
  after_calls,
  leave,
  chosen,
  counted,
  used,
  does,
  unless_absent,
}
use Rattle.kernel_meaning.specs.Methods.{Body, entered, method_of}
use Rattle.kernel_meaning.specs.Rows.{row_of}
use Rattle.kernel_meaning.specs.declared.row.Row.{Row}
use Rattle.kernel_meaning.specs.declared.row.Row.TheVariants as R
use Rattle.kernel_meaning.specs.Plans.{Library, Reads, number_of_trees, plan_of}
use Rattle.kernel_meaning.specs.Run.{
  Place,
  expr,
  exec,
  choice,
  short,
  block,
  branches,
  operands,
  operate,
  block_of,
  call_to,
}
use Rattle.kernel_meaning.specs.Names.{is_mute, mute_place}
use Rattle.kernel_meaning.specs.Ways.{
  Form,
  Choice,
  Short,
  All_operands,
  form_of,
  formed,
  turns,
  given_back,
  is_absent,
}
use Rattle.mx_base.specs.declared.span.Span.{Span}
use Rattle.maxj_syntax.specs.declared.tree.NodeKind.{NodeKind}
use Rattle.maxj_syntax.specs.declared.tree.NodeKind.TheVariants as N
use Rattle.kernel_plans.specs.Called.{IsBody}
use Rattle.kernel_plans.specs.Classes.{ClassView, library_of, members, scope}
use Rattle.kernel_plans.specs.declared.branch.Branch.{Branch}
use Rattle.kernel_plans.specs.Trees.{tree_of, trees_of, branch_tree}
use Rattle.kernel_rows.specs.Kept.{AreBoundFit, IsKept}
use Rattle.kernel_machine.specs.declared.machine.Event.{Event}
use Rattle.kernel_machine.specs.declared.machine.Event.TheVariants as Event_
use Rattle.kernel_machine.specs.Falls.{CostsBelow}
use Rattle.kernel_machine.specs.declared.machine.Frame.{Frame}
use Rattle.kernel_machine.specs.declared.machine.Machine.{Machine}
use Rattle.kernel_machine.specs.Going.{
  Leads,
  with_calls,
  go,
  back_of,
  rest,
  standing,
  after,
  leaving,
}
use Rattle.kernel_meaning.specs.declared.value.Value.TheVariants as V
use Rattle.kernel_machine.specs.declared.task.Task.{Task}
use Rattle.kernel_machine.specs.declared.task.Task.TheVariants as T
use Rattle.kernel_machine.specs.declared.task.Loop.{Loop}
use Rattle.kernel_machine.specs.declared.task.Condition.{Condition}
use Rattle.kernel_machine.specs.declared.task.Condition.TheVariants as C
use Rattle.kernel_machine.specs.Answers.{IsCounted}
use Rattle.kernel_machine.specs.declared.task.Purpose.TheVariants as P
use Rattle.kernel_machine.specs.Left.{from_place, turns_left, turn_on, body_of, planned_at, operands_left}
use Rattle.kernel_machine.specs.Positions.{IsTest, IsStep}

pub leads-by : (class : ClassView) (a b : Answer) (r : Result Event EvalError) (new : Machine)
    → a ≡ b
    → Leads class b r new → Leads class a r new
leads-by class a b r new e h = rw e h

pub calls-first : (calls : List Call) (value : Value) (state : State) (next : Then)
    → after_calls calls value state next ≡ with_calls calls (next value state)
calls-first [] value state next = refl
calls-first (call ∷ calls) value state next =
    ap (Calls call) (calls-first calls value state next)

-- `?:`, `&&` and `||` of the wrong number of parts
pub choice-odd : (here : Place) (at : ℕ) (trees : Trees) (state : State) (next : Then)
    → number_of_trees trees ≢ 3 → choice here at trees state next ≡ Refused (E.WrongKind at)
unfolding expr
choice-odd here at Nil state next h = refl
choice-odd here at (Cons a Nil) state next h = refl
choice-odd here at (Cons a (Cons b Nil)) state next h = refl
choice-odd here at (Cons a (Cons b (Cons c Nil))) state next h = absurd (h refl)
choice-odd here at (Cons a (Cons b (Cons c (Cons d trees)))) state next h = refl

pub short-odd : (here : Place) (either : Bool) (at : ℕ) (trees : Trees) (state : State)
    (next : Then) → number_of_trees trees ≢ 2
    → short here either at trees state next ≡ Refused (E.WrongKind at)
unfolding expr
short-odd here either at Nil state next h = refl
short-odd here either at (Cons a Nil) state next h = refl
short-odd here either at (Cons a (Cons b Nil)) state next h = absurd (h refl)
short-odd here either at (Cons a (Cons b (Cons c trees))) state next h = refl

-- blocks and `if`
pub block-end : (here : Place) (count : ℕ) (trees : Trees) (state : State) (next : Next)
    (back : Then) → trees ≡ Nil → block here count trees state next back ≡ next (leave count state)
unfolding expr
block-end here count trees state next back e = rw e refl

pub branches-end : (here : Place) (at : ℕ) (trees : Trees) (state : State) (next : Next)
    (back : Then) → trees ≡ Nil → branches here at trees state next back ≡ next state
unfolding expr
branches-end here at trees state next back e = rw e refl

pub branches-last : (here : Place) (at : ℕ) (trees : Trees) (tree : Tree) (state : State)
    (next : Next) (back : Then) → trees ≡ Cons tree Nil
    → branches here at trees state next back ≡ exec here tree state next back
unfolding expr
branches-last here at trees tree state next back e = rw e refl

pub branches-next : (here : Place) (at : ℕ) (trees others : Trees) (test body : Tree)
    (state : State) (next : Next) (back : Then) → trees ≡ Cons test (Cons body others)
    → branches here at trees state next back
    ≡ expr here test state (λ value state. chosen at value state
    (λ state. exec here body state next back) (λ state. branches here at others state next back))
unfolding expr
branches-next here at trees others test body state next back e = rw e refl

-- variables that are left
fewer-fit : (n : ℕ) (bs : List Binding) → AreBoundFit bs → AreBoundFit (drop n bs)
fewer-fit zero bs h = h
fewer-fit (suc n) [] h = h
fewer-fit (suc n) (b ∷ bs) h = fewer-fit n bs h.1

pub kept-left : (count : ℕ) (state : State) → IsKept state → IsKept (leave count state)
kept-left count state h = record {
  variables = fewer-fit (length state.variables - count) state.variables h.variables;
  fields = h.fields;
  arrays = h.arrays;
  digits = h.digits;
}

-- an expression, and a statement, for which a task waits
abbrev pub evaluated : ClassView → Machine → Task → Option ℕ → Answer
evaluated class machine task part =
    expr (standing class machine) (tree_of class.cells part) machine.state
    (λ value state. go class (standing class machine) (task ∷ machine.tasks) value state
    (leaving class machine))

abbrev pub executed : ClassView → Machine → Task → Option ℕ → Answer
executed class machine task part =
    exec (standing class machine) (tree_of class.cells part) machine.state
    (λ state. go class (standing class machine) (task ∷ machine.tasks) V.Nothing state
    (leaving class machine)) (leaving class machine)

-- a turn of a loop with a condition, and one without
pub turns-holds : (cells : List Cell) (here : Place) (back : Then) (repeat : Loop)
    (part : Option ℕ) (more fewer : ℕ) (state : State) (next : Next)
    → repeat.condition ≡ C.Holds part → more ≡ suc fewer
    → turns_left cells here back repeat more state next
    ≡ expr here (tree_of cells part) state
    (λ value state. turn_on cells here back repeat fewer value state next)
unfolding turns
turns-holds cells here back repeat part more fewer state next e f = rw (e, f) refl

pub turns-always : (cells : List Cell) (here : Place) (back : Then) (repeat : Loop)
    (more fewer : ℕ) (state : State) (next : Next) → repeat.condition ≡ C.Always → more ≡ suc fewer
    → turns_left cells here back repeat more state next
    ≡ body_of cells here back repeat state
    (λ state. turns_left cells here back repeat fewer state next)
unfolding turns
turns-always cells here back repeat more fewer state next e f = rw (e, f) refl

-- a step is counted
pub counted-go : (state : State) (left : ℕ) (next : Next) → state.left ≡ suc left
    → counted state next ≡ next (record state { left = left })
counted-go state left next e = rw e refl

pub counted-to : (old new : Machine) (next : Next)
    → (old.state.left ≡ suc new.state.left)
    × (new ≡ record old { state = record old.state { left = new.state.left } })
    → counted old.state next ≡ next new.state
counted-to old new next h =
    counted-go old.state new.state.left next h.0 ∙ ap (λ (m : Machine). next m.state) (sym h.1)

pub counted-stop : (state : State) (next : Next) → state.left ≡ 0
    → counted state next ≡ Refused E.StepLimit
counted-stop state next e = rw e refl

-- a refusal that isn't want of memory
pub leads-refused : (class : ClassView) (cells : List Cell) (body : Result Body EvalError)
    (answer : Answer) (e : EvalError) (new : Machine) → IsBody cells body (Err e)
    → (body ≡ Err e → answer ≡ Refused e) → Leads class answer (Err e) new
leads-refused class cells body answer E.NoMemory new h f = tt
leads-refused class cells body answer _ new h f = f h

-- a statement of a kind
pub as-kind : (cells : List Cell) (here : Place) (b : Branch) (kind : NodeKind) (state : State)
    (next : Next) (back : Then) → b.kind ≡ kind
    → exec here (branch_tree cells b) state next back
    ≡ exec here (Node kind b.word.now b.span (trees_of cells b.id b.children.now)) state next back
as-kind cells here b kind state next back e =
    ap (λ k. exec here (Node k b.word.now b.span (trees_of
    cells b.id b.children.now)) state next back) e

-- calls that are statements, and returns
pub run-odd : (here : Place) (word : List ℕ) (span : Span) (trees : Trees) (state : State)
    (next : Next) (back : Then) → number_of_trees trees ≢ 1
    → exec here (Node N.Run word span trees) state next back ≡ Refused (E.WrongKind span.from)
unfolding expr
run-odd here word span Nil state next back h = refl
run-odd here word span (Cons a Nil) state next back h = absurd (h refl)
run-odd here word span (Cons a (Cons b trees)) state next back h = refl

pub run-one : (here : Place) (word : List ℕ) (span : Span) (trees : Trees) (tree : Tree)
    (state : State) (next : Next) (back : Then) → trees ≡ Cons tree Nil
    → exec here (Node N.Run word span trees) state next back
    ≡ counted state (λ state. expr here tree state (λ _ state. next state))
unfolding expr
run-one here word span trees tree state next back e = rw e refl

pub return-odd : (here : Place) (word : List ℕ) (span : Span) (trees : Trees) (state : State)
    (next : Next) (back : Then) → number_of_trees trees ≢ 0 → number_of_trees trees ≢ 1
    → exec here (Node N.Return word span trees) state next back ≡ Refused (E.WrongKind span.from)
unfolding expr
return-odd here word span Nil state next back h k = absurd (h refl)
return-odd here word span (Cons a Nil) state next back h k = absurd (k refl)
return-odd here word span (Cons a (Cons b trees)) state next back h k = refl

pub return-one : (here : Place) (word : List ℕ) (span : Span) (trees : Trees) (tree : Tree)
    (state : State) (next : Next) (back : Then) → trees ≡ Cons tree Nil
    → exec here (Node N.Return word span trees) state next back
    ≡ counted state (λ state. expr here tree state (λ value state. used span.from value state
    (λ value state. given_back span.from here.wanted value state back)))
unfolding expr
return-one here word span trees tree state next back e = rw e refl

-- loops
pub while-odd : (here : Place) (word : List ℕ) (span : Span) (trees : Trees) (state : State)
    (next : Next) (back : Then) → number_of_trees trees ≢ 2
    → exec here (Node N.While word span trees) state next back ≡ Refused (E.WrongKind span.from)
unfolding expr
while-odd here word span Nil state next back h = refl
while-odd here word span (Cons a Nil) state next back h = refl
while-odd here word span (Cons a (Cons b Nil)) state next back h = absurd (h refl)
while-odd here word span (Cons a (Cons b (Cons c trees))) state next back h = refl

pub while-two : (cells : List Cell) (here : Place) (word : List ℕ) (span : Span) (trees : Trees)
    (test body : Option ℕ) (state : State) (next : Next) (back : Then)
    → trees ≡ Cons (tree_of cells test) (Cons (tree_of cells body) Nil)
    → exec here (Node N.While word span trees) state next back
    ≡ counted state (λ state. turns_left cells here back (record {
      at = span.from;
      condition = C.Holds test;
      step = None;
      body = body;
      count = None;
    }) (suc state.left) state next)
unfolding expr
while-two cells here word span trees test body state next back e = rw e refl

pub for-odd : (here : Place) (word : List ℕ) (span : Span) (trees : Trees) (state : State)
    (next : Next) (back : Then) → number_of_trees trees ≢ 4
    → exec here (Node N.For word span trees) state next back ≡ Refused (E.WrongKind span.from)
unfolding expr
for-odd here word span Nil state next back h = refl
for-odd here word span (Cons a Nil) state next back h = refl
for-odd here word span (Cons a (Cons b Nil)) state next back h = refl
for-odd here word span (Cons a (Cons b (Cons c Nil))) state next back h = refl
for-odd here word span (Cons a (Cons b (Cons c (Cons d Nil)))) state next back h = absurd (h refl)
for-odd here word span (Cons a (Cons b (Cons c (Cons d (Cons e trees))))) state next back h = refl

abbrev pub for_loop : Span → Condition → Option ℕ → Option ℕ → ℕ → Loop
for_loop span condition step body count = record {
  at = span.from;
  condition = condition;
  step = step;
  body = body;
  count = Some count;
}

abbrev pub for_run : List Cell → Place → Option ℕ → Loop → State → Next → Then → Answer
for_run cells here first repeat state next back =
    unless_absent (is_absent (tree_of cells first)) state
    (λ next. exec here (tree_of cells first) state next back)
    (λ state. turns_left cells here back repeat (suc state.left) state next)

for-by : (cells : List Cell) (here : Place) (word : List ℕ) (span : Span)
    (first test step body : Option ℕ) (condition : Condition) (kept : Option ℕ) (state : State)
    (next : Next) (back : Then) → IsTest cells test condition → IsStep cells step kept
    → exec here (Node N.For word span (Cons (tree_of cells first) (Cons (tree_of cells test)
    (Cons (tree_of cells step) (Cons (tree_of cells body) Nil))))) state next back
    ≡ counted state (λ state. for_run cells here first
    (for_loop span condition kept body (length state.variables)) state next back)
unfolding expr
for-by cells here word span first test step body C.Always None state next back t s =
    rw (t, s) refl
for-by cells here word span first test step body (C.Holds part) None state next back t s =
    rw (t.0, t.1, s) refl
for-by cells here word span first test step body C.Always (Some n) state next back t s =
    rw (t, s.0, s.1) refl
for-by cells here word span first test step body (C.Holds part) (Some n) state next back t s =
    rw (t.0, t.1, s.0, s.1) refl

pub for-four : (cells : List Cell) (here : Place) (word : List ℕ) (span : Span) (trees : Trees)
    (first test step body : Option ℕ) (condition : Condition) (kept : Option ℕ) (state : State)
    (next : Next) (back : Then) → IsTest cells test condition → IsStep cells step kept
    → trees ≡ Cons (tree_of cells first) (Cons (tree_of cells test) (Cons (tree_of cells step)
    (Cons (tree_of cells body) Nil)))
    → exec here (Node N.For word span trees) state next back
    ≡ counted state (λ state. for_run cells here first
    (for_loop span condition kept body (length state.variables)) state next back)
for-four cells here word span trees first test step body condition kept state next back t s e =
    rw e (for-by cells here word span first test step body condition kept state next back t s)

-- calls of methods
below : (n : ℕ) → n < 64 → 64 - n ≡ suc (64 - suc n)
below n h = omega arith

above : (n : ℕ) → 64 ≤ n → 64 - n ≡ 0
above n h = omega arith

pub call-refused : (library : Library) (members : Trees) (depth : ℕ) (name : List ℕ) (at : ℕ)
    (values : List Value) (state : State) (next : Then) (e : EvalError)
    → entered at values (method_of name members) ≡ Err e
    → call_to library members depth name at values state next ≡ Refused e
unfolding call_to
call-refused library members zero name at values state next e h = rw h refl
call-refused library members (suc depth) name at values state next e h = rw h refl

pub call-deep : (library : Library) (members : Trees) (count : ℕ) (name : List ℕ) (at : ℕ)
    (values : List Value) (state : State) (next : Then) (body : Body) → 64 ≤ count
    → entered at values (method_of name members) ≡ Ok body
    → call_to library members (64 - count) name at values state next ≡ Refused (E.CallDepth at)
unfolding call_to
call-deep library members count name at values state next body h is = rw (above count h, is) refl

pub call-entered : (class : ClassView) (old new : Machine) (name : List ℕ) (at : ℕ)
    (values : List Value) (body : Body) (frame : Frame) → length old.callers < 64
    → entered at values (method_of name (members class)) ≡ Ok body
    → new.callers ≡ frame ∷ old.callers → new.tasks ≡ [] → new.wanted ≡ body.wanted
    → new.state ≡ record old.state { variables = body.variables }
    → frame ≡ record {
      tasks = old.tasks;
      variables = old.state.variables;
      wanted = old.wanted;
    }
    → call_to (library_of class.library) (members class)
    (64 - length old.callers) name at values old.state
    (rest class old)
    ≡ block_of (standing class new) body.block new.state (after class new) (leaving class new)
unfolding call_to go back_of
call-entered class old new name at values body frame h is callers tasks wanted state of =
    rw (below (length old.callers) h, is, callers, tasks, wanted, state, of) refl

-- rows
pub operate-row : (here : Place) (row : Row) (at : ℕ) (values : List Value) (state : State)
    (next : Then) → ((name : List ℕ) → row ≢ R.OwnMethod name)
    → operate here row at values state next ≡ does (row_of row at values state) next
operate-row here (R.OwnMethod name) at values state next h = absurd (h name refl)
operate-row here _ at values state next h = refl

-- operands
pub operands-end : (here : Place) (at place count : ℕ) (trees : Trees) (values : List Value)
    (state : State) (next : List Value → Next) → count ≡ 0 ⊎ from_place place trees ≡ Nil
    → operands here at place count trees values state next ≡ next values state
unfolding expr
operands-end here at zero count Nil values state next h = refl
operands-end here at (suc place) count Nil values state next h = refl
operands-end here at (suc place) count (Cons tree trees) values state next h =
    operands-end here at place count trees values state next h
operands-end here at zero zero (Cons tree trees) values state next h = refl
operands-end here at zero (suc count) (Cons tree trees) values state next (inl e) = absurd (cc)
operands-end here at zero (suc count) (Cons tree trees) values state next (inr e) = absurd (cc)

pub operands-next : (here : Place) (at place count : ℕ) (trees others : Trees) (tree : Tree)
    (values : List Value) (state : State) (next : List Value → Next)
    → from_place place trees ≡ Cons tree others
    → operands here at place (suc count) trees values state next
    ≡ expr here tree state (λ value state. used at value state (λ value state.
    operands here at (suc place) count trees (values ++ value ∷ []) state next))
unfolding expr
operands-next here at zero count Nil others tree values state next e = absurd (cc)
operands-next here at (suc place) count Nil others tree values state next e = absurd (cc)
operands-next here at (suc place) count (Cons a trees) others tree values state next e =
    operands-next here at place count trees others tree values state next e
operands-next here at zero count (Cons a trees) others tree values state next e =
    ap (λ t. expr here t state (λ value state. used at value state (λ value state.
    operands here at 0 count trees (values ++ value ∷ []) state next))) (head-of e)
  where
    head-of : Cons a trees ≡ Cons tree others → a ≡ tree
    head-of e = cc

pub costs-more : (class : ClassView) (low high : ℕ) (r : Result Event EvalError) (new : Machine)
    → low ≤ high → CostsBelow class low r new → CostsBelow class high r new
costs-more class low high (Ok Event_.Ended) new le h = tt
costs-more class low high (Ok Event_.On) new le h = omega arith
costs-more class low high (Ok (Event_.Makes calls)) new le h = omega arith
costs-more class low high (Err e) new le h = tt

pub does-calls : (outcome : Outcome) (calls : List Call) (value : Value) (state : State)
    (next : Then) → outcome ≡ Does calls value state
    → does outcome next ≡ after_calls calls value state next
does-calls outcome calls value state next e = rw e refl

pub operands-one : (here : Place) (at place count fewer : ℕ) (trees others : Trees) (tree : Tree)
    (values : List Value) (state : State) (next : List Value → Next) → count ≡ suc fewer
    → from_place place trees ≡ Cons tree others
    → operands here at place count trees values state next
    ≡ expr here tree state (λ value state. used at value state (λ value state.
    operands here at (suc place) fewer trees (values ++ value ∷ []) state next))
operands-one here at place count fewer trees others tree values state next c e =
    rw c (operands-next here at place fewer trees others tree values state next e)

pub next-place : (n : ℕ) → n + 1 ≡ suc n
next-place n = omega arith

-- a `for` without a first part, and one with it
pub for-absent : (cells : List Cell) (here : Place) (first : Option ℕ) (repeat other : Loop)
    (state : State) (next : Next) (back : Then) → other ≡ repeat
    → is_absent (tree_of cells first) ≡ true
    → for_run cells here first other state next back
    ≡ turns_left cells here back repeat (suc state.left) state next
for-absent cells here first repeat other state next back e h = rw (e, h) refl

pub for-present : (cells : List Cell) (here : Place) (first : Option ℕ) (repeat other : Loop)
    (state : State) (next : Next) (back : Then) → other ≡ repeat
    → is_absent (tree_of cells first) ≡ false
    → for_run cells here first other state next back
    ≡ exec here (tree_of cells first) state
    (λ state. turns_left cells here back repeat (suc state.left) state next) back
for-present cells here first repeat other state next back e h = rw (e, h) refl

-- an expression begins
pub expr-mute : (here : Place) (kind : NodeKind) (word : List ℕ) (span : Span) (trees : Trees)
    (state : State) (next : Then) → is_mute state (Node kind word span trees) ≡ true
    → expr here (Node kind word span trees) state next
    ≡ Refused (E.UnknownName (mute_place (Node kind word span trees)))
unfolding expr
expr-mute here kind word span trees state next h = rw h refl

abbrev pub by_form : Place → Form → Tree → State → Then → Answer
by_form here form (Node kind word span trees) state next =
    formed form state
    (λ state. choice here span.from trees state next)
    (λ either state. short here either span.from trees state next)
    (λ state. planned_at here (Node kind word span trees) state next)

pub expr-formed : (here : Place) (kind : NodeKind) (word : List ℕ) (span : Span) (trees : Trees)
    (state : State) (next : Then) (form : Form) → is_mute state (Node kind word span trees) ≡ false
    → form_of kind word ≡ form
    → expr here (Node kind word span trees) state next
    ≡ counted state (λ state. by_form here form (Node kind word span trees) state next)
unfolding expr
expr-formed here kind word span trees state next form h f = rw (h, f) refl

pub tree-mute : (cells : List Cell) (here : Place) (part : Option ℕ) (b : Branch) (state : State)
    (next : Then) → tree_of cells part ≡ branch_tree cells b
    → is_mute state (tree_of cells part) ≡ true
    → expr here (tree_of cells part) state next
    ≡ Refused (E.UnknownName (mute_place (tree_of cells part)))
tree-mute cells here part b state next e h =
    rw e (expr-mute here b.kind b.word.now b.span (trees_of cells b.id b.children.now) state next
    (rw e at h))

pub tree-formed : (cells : List Cell) (here : Place) (part : Option ℕ) (b : Branch)
    (state : State) (next : Then) (form : Form) → tree_of cells part ≡ branch_tree cells b
    → is_mute state (tree_of cells part) ≡ false → form_of b.kind b.word.now ≡ form
    → expr here (tree_of cells part) state next
    ≡ counted state (λ state. by_form here form (tree_of cells part) state next)
tree-formed cells here part b state next form e h f =
    rw e (expr-formed here b.kind b.word.now b.span (trees_of cells b.id b.children.now) state next
    form (rw e at h) f)

-- an expression that is a node, once its step is counted
pub begins-choice : (class : ClassView) (old new : Machine) (part : Option ℕ) (b : Branch)
    → tree_of class.cells part ≡ branch_tree class.cells b
    → is_mute old.state (tree_of class.cells part) ≡ false
    → form_of b.kind b.word.now ≡ Choice → IsCounted old true new
    → expr (standing class old) (tree_of class.cells part) old.state (rest class old)
    ≡ choice (standing class new) b.span.from (trees_of class.cells b.id b.children.now) new.state
    (rest class new)
begins-choice class old new part b e h f counted =
    tree-formed class.cells (standing class old) part b old.state (rest class old) Choice e h f
    ∙ (counted-to old new _ counted ∙ rw (e, counted.1) refl)

pub begins-short : (class : ClassView) (old new : Machine) (part : Option ℕ) (b : Branch)
    (either : Bool) → tree_of class.cells part ≡ branch_tree class.cells b
    → is_mute old.state (tree_of class.cells part) ≡ false
    → form_of b.kind b.word.now ≡ Short either → IsCounted old true new
    → expr (standing class old) (tree_of class.cells part) old.state (rest class old)
    ≡ short (standing class new) either b.span.from (trees_of class.cells b.id b.children.now)
    new.state (rest class new)
begins-short class old new part b either e h f counted =
    tree-formed class.cells (standing class old) part b old.state (rest class old) (Short either) e
    h f
    ∙ (counted-to old new _ counted ∙ rw (e, counted.1) refl)

pub begins-all : (class : ClassView) (old new : Machine) (part : Option ℕ) (b : Branch)
    → tree_of class.cells part ≡ branch_tree class.cells b
    → is_mute old.state (tree_of class.cells part) ≡ false
    → form_of b.kind b.word.now ≡ All_operands → IsCounted old true new
    → expr (standing class old) (tree_of class.cells part) old.state (rest class old)
    ≡ planned_at (standing class new) (tree_of class.cells part) new.state (rest class new)
begins-all class old new part b e h f counted =
    tree-formed class.cells (standing class old) part b old.state (rest class old) All_operands e h
    f
    ∙ (counted-to old new _ counted ∙ rw (e, counted.1) refl)

-- an expression reads its operands
pub planned-reads : (class : ClassView) (machine : Machine) (part : Option ℕ) (b : Branch)
    (row : Row) (from count : ℕ) → branch_tree class.cells b ≡ tree_of class.cells part
    → plan_of (scope class) machine.state b.kind b.word.now b.span.from
    (trees_of class.cells b.id b.children.now)
    ≡ Reads row from count
    → planned_at (standing class machine) (tree_of class.cells part) machine.state
    (rest class machine)
    ≡ operands_left class.cells (standing class machine) (P.ForRow row) b.span.from part from count
    [] machine.state (rest class machine)
planned-reads class machine part b row from count e p = rw (sym e, p) refl

pub leads-error : (class : ClassView) (answer : Answer) (e : EvalError) (new : Machine)
    → answer ≡ Refused e → Leads class answer (Err e) new
leads-error class answer E.NoMemory new h = tt
leads-error class answer _ new h = h

-- an error that is handed on
pub leads-on : (class : ClassView) (answer : Answer) (r : Result Event EvalError) (e : EvalError)
    (new : Machine) → IsErr r → IsErrAnd r (λ x. x ≡ e) → answer ≡ Refused e
    → Leads class answer r new
leads-on class answer (Ok event) e new is same refused = absurd (cc)
leads-on class answer (Err x) e new is same refused =
    leads-error class answer x new (refused ∙ ap Refused (sym same))

-- once a step is counted, a call that is a statement is evaluated, and a `for` begins
pub discarded : (class : ClassView) (old mid : Machine) (part : Option ℕ)
    → mid ≡ record old { state = record old.state { left = mid.state.left } }
    → expr (standing class old) (tree_of class.cells part) mid.state
    (λ value state. after class old state)
    ≡ evaluated class mid T.Discard part
unfolding go
discarded class old mid part e =
    subst (λ (m : Machine). expr (standing class old) (tree_of class.cells part) m.state
    (λ value state. after class old state) ≡ evaluated class m T.Discard part) (sym e) refl

pub looped : (class : ClassView) (old mid : Machine) (loop : Loop) (part : Option ℕ)
    → mid ≡ record old { state = record old.state { left = mid.state.left } }
    → exec (standing class old) (tree_of class.cells part) mid.state
    (λ state. turns_left class.cells (standing class old) (leaving class old) loop
    (suc state.left) state (after class old)) (leaving class old)
    ≡ executed class mid (T.LoopBegin loop) part
unfolding go
looped class old mid loop part e =
    subst (λ (m : Machine). exec (standing class old) (tree_of class.cells part) m.state
    (λ state. turns_left class.cells (standing class old) (leaving class old) loop
    (suc state.left) state (after class old)) (leaving class old)
    ≡ executed class m (T.LoopBegin loop) part) (sym e) refl
