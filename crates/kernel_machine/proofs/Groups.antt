-- What is left, where a task or a statement isn't of a group.
use Rattle.std.proofs.Common.{◌≡◌, ◌≢◌, ℕ, List, refl, true, false}
use Rattle.std.specs.Prelude.{Option, Bool}
use Rattle.kernel_meaning.specs.declared.state.Binding.{Binding}
use Rattle.kernel_meaning.specs.declared.value.Declared.{Declared}
use Rattle.kernel_meaning.specs.declared.value.Spot.{Spot}
use Rattle.kernel_meaning.specs.declared.value.Value.{Value}
use Rattle.kernel_machine.specs.declared.task.Loop.{Loop}
use Rattle.kernel_machine.specs.declared.task.Purpose.{Purpose}
use Rattle.kernel_machine.specs.declared.task.Task.{Task}
use Rattle.kernel_machine.specs.declared.task.Task.TheVariants as T
use Rattle.kernel_machine.specs.Groups.{is_alone, is_of_expression, is_of_statement}
use Rattle.maxj_syntax.specs.Tree.{Tree, Node, Trees}
use Rattle.maxj_syntax.specs.declared.tree.NodeKind.{NodeKind}
use Rattle.maxj_syntax.specs.declared.tree.NodeKind.TheVariants as N
use Rattle.mx_base.specs.declared.span.Span.{Span}
use Rattle.kernel_meaning.specs.declared.error.EvalError.TheVariants as E
use Rattle.kernel_meaning.specs.declared.state.State.{State}
use Rattle.kernel_meaning.specs.Answer.{Next, Refused, Then}
use Rattle.kernel_meaning.specs.Run.{Place, expr, exec}

-- no task of an expression
pub other-than-expression : (t : Task)
    → ((node : Option ℕ) (at : ℕ) (place : ℕ) (count : ℕ) (purpose : Purpose) (values : List
    Value) → t ≢ T.Operands node at place count purpose values)
    → ((at : ℕ) (first : Option ℕ) (second : Option ℕ) → t ≢ T.Choice at first second)
    → ((at : ℕ) → t ≢ T.Picked at)
    → ((at : ℕ) (second : Option ℕ) (test : Value) → t ≢ T.ChooseFirst at second test)
    → ((at : ℕ) (test : Value) (first : Value) → t ≢ T.ChooseSecond at test first)
    → ((at : ℕ) (either : Bool) (second : Option ℕ) → t ≢ T.Short at either second)
    → ((at : ℕ) → t ≢ T.FlagAlone at)
    → is_of_expression t ≡ false
other-than-expression (T.Operands node at place count purpose values) h _ _ _ _ _ _ =
    absurd (h node at place count purpose values refl)
other-than-expression (T.Choice at first second) _ h _ _ _ _ _ = absurd (h at first second refl)
other-than-expression (T.Picked at) _ _ h _ _ _ _ = absurd (h at refl)
other-than-expression (T.ChooseFirst at second test) _ _ _ h _ _ _ = absurd (h at second test refl)
other-than-expression (T.ChooseSecond at test first) _ _ _ _ h _ _ = absurd (h at test first refl)
other-than-expression (T.Short at either second) _ _ _ _ _ h _ = absurd (h at either second refl)
other-than-expression (T.FlagAlone at) _ _ _ _ _ _ h = absurd (h at refl)
other-than-expression _ _ _ _ _ _ _ _ = refl

-- no task of a statement
pub other-than-statement : (t : Task)
    → ((node : Option ℕ) (place : ℕ) (count : ℕ) → t ≢ T.Statements node place count)
    → ((at : ℕ) (node : Option ℕ) (place : ℕ) (body : Option ℕ) → t ≢ T.Test at node place body)
    → ((repeat : Loop) → t ≢ T.LoopBegin repeat)
    → ((repeat : Loop) (more : ℕ) → t ≢ T.LoopTurn repeat more)
    → ((repeat : Loop) (more : ℕ) → t ≢ T.LoopBody repeat more)
    → ((repeat : Loop) (more : ℕ) → t ≢ T.LoopAgain repeat more)
    → (t ≢ T.Discard)
    → ((at : ℕ) → t ≢ T.GiveBack at)
    → ((place before : ℕ) (body : Option ℕ) (variables : List Binding)
    → t ≢ T.Fields place before body variables)
    → is_of_statement t ≡ false
other-than-statement (T.Statements node place count) h _ _ _ _ _ _ _ _ =
    absurd (h node place count refl)
other-than-statement (T.Test at node place body) _ h _ _ _ _ _ _ _ =
    absurd (h at node place body refl)
other-than-statement (T.LoopBegin repeat) _ _ h _ _ _ _ _ _ = absurd (h repeat refl)
other-than-statement (T.LoopTurn repeat more) _ _ _ h _ _ _ _ _ = absurd (h repeat more refl)
other-than-statement (T.LoopBody repeat more) _ _ _ _ h _ _ _ _ = absurd (h repeat more refl)
other-than-statement (T.LoopAgain repeat more) _ _ _ _ _ h _ _ _ = absurd (h repeat more refl)
other-than-statement T.Discard _ _ _ _ _ _ h _ _ = absurd (h refl)
other-than-statement (T.GiveBack at) _ _ _ _ _ _ _ h _ = absurd (h at refl)
other-than-statement (T.Fields place before body variables) _ _ _ _ _ _ _ _ h =
    absurd (h place before body variables refl)
other-than-statement _ _ _ _ _ _ _ _ _ _ = refl

-- nor what a variable is set to
pub no-other : (t : Task)
    → is_of_expression t ≡ false
    → is_of_statement t ≡ false
    → ((at : ℕ) (of : Declared) (spot : Spot) → t ≢ T.Initial at of spot)
    → ((node : Option ℕ) (of : Declared) (values : List Value) → t ≢ T.Elements node of values)
    → ((node : Option ℕ) (array : Value) (pending : List (Option ℕ)) → t ≢ T.Indexed node array
    pending)
    → ((at : ℕ) (spot : Spot) → t ≢ T.Assign at spot)
    → ((node : Option ℕ) (old : Value) (spot : Spot) → t ≢ T.Combine node old spot)
    → ((at : ℕ) (spot : Spot) → t ≢ T.Store at spot)
    → ⊥
no-other (T.Initial at of spot) _ _ h _ _ _ _ _ = absurd (h at of spot refl)
no-other (T.Elements node of values) _ _ _ h _ _ _ _ = absurd (h node of values refl)
no-other (T.Indexed node array pending) _ _ _ _ h _ _ _ = absurd (h node array pending refl)
no-other (T.Assign at spot) _ _ _ _ _ h _ _ = absurd (h at spot refl)
no-other (T.Combine node old spot) _ _ _ _ _ _ h _ = absurd (h node old spot refl)
no-other (T.Store at spot) _ _ _ _ _ _ _ h = absurd (h at spot refl)
no-other (T.Operands _ _ _ _ _ _) e _ _ _ _ _ _ _ = absurd (cc)
no-other (T.Choice _ _ _) e _ _ _ _ _ _ _ = absurd (cc)
no-other (T.Picked _) e _ _ _ _ _ _ _ = absurd (cc)
no-other (T.ChooseFirst _ _ _) e _ _ _ _ _ _ _ = absurd (cc)
no-other (T.ChooseSecond _ _ _) e _ _ _ _ _ _ _ = absurd (cc)
no-other (T.Short _ _ _) e _ _ _ _ _ _ _ = absurd (cc)
no-other (T.FlagAlone _) e _ _ _ _ _ _ _ = absurd (cc)
no-other (T.Statements _ _ _) _ e _ _ _ _ _ _ = absurd (cc)
no-other (T.Test _ _ _ _) _ e _ _ _ _ _ _ = absurd (cc)
no-other (T.LoopBegin _) _ e _ _ _ _ _ _ = absurd (cc)
no-other (T.LoopTurn _ _) _ e _ _ _ _ _ _ = absurd (cc)
no-other (T.LoopBody _ _) _ e _ _ _ _ _ _ = absurd (cc)
no-other (T.LoopAgain _ _) _ e _ _ _ _ _ _ = absurd (cc)
no-other T.Discard _ e _ _ _ _ _ _ = absurd (cc)
no-other (T.GiveBack _) _ e _ _ _ _ _ _ = absurd (cc)
no-other (T.Fields _ _ _ _) _ e _ _ _ _ _ _ = absurd (cc)

-- no statement without statements inside
pub other-than-alone : (kind : NodeKind)
    → kind ≢ N.Empty
    → kind ≢ N.Local
    → kind ≢ N.Set
    → kind ≢ N.Connect
    → kind ≢ N.Run
    → kind ≢ N.Return
    → is_alone kind ≡ false
other-than-alone N.Empty h _ _ _ _ _ = absurd (h refl)
other-than-alone N.Local _ h _ _ _ _ = absurd (h refl)
other-than-alone N.Set _ _ h _ _ _ = absurd (h refl)
other-than-alone N.Connect _ _ _ h _ _ = absurd (h refl)
other-than-alone N.Run _ _ _ _ h _ = absurd (h refl)
other-than-alone N.Return _ _ _ _ _ h = absurd (h refl)
other-than-alone _ _ _ _ _ _ _ = refl

-- nor one with statements inside
pub no-statement : (here : Place) (kind : NodeKind) (word : List ℕ) (span : Span) (trees : Trees)
    (state : State) (next : Next) (back : Then) → is_alone kind ≡ false
    → kind ≢ N.Block → kind ≢ N.If → kind ≢ N.While → kind ≢ N.For
    → exec here (Node kind word span trees) state next back ≡ Refused (E.WrongKind span.from)
unfolding expr
no-statement here N.Empty word span trees state next back e _ _ _ _ = absurd (cc)
no-statement here N.Local word span trees state next back e _ _ _ _ = absurd (cc)
no-statement here N.Set word span trees state next back e _ _ _ _ = absurd (cc)
no-statement here N.Connect word span trees state next back e _ _ _ _ = absurd (cc)
no-statement here N.Run word span trees state next back e _ _ _ _ = absurd (cc)
no-statement here N.Return word span trees state next back e _ _ _ _ = absurd (cc)
no-statement here N.Block word span trees state next back _ h _ _ _ = absurd (h refl)
no-statement here N.If word span trees state next back _ _ h _ _ = absurd (h refl)
no-statement here N.While word span trees state next back _ _ _ h _ = absurd (h refl)
no-statement here N.For word span trees state next back _ _ _ _ h = absurd (h refl)
no-statement here _ word span trees state next back _ _ _ _ _ = refl
