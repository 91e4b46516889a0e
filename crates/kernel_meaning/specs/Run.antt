-- What a production does: one case for each.
use Rattle.std.specs.Prelude.{
  ◌==◌,
  ◌&&◌,
  ℕ,
  zero,
  suc,
  List,
  [],
  ◌∷◌,
  ◌++◌,
  length,
  Bool,
  true,
  Option,
  Some,
  None,
  Result,
  Ok,
  Err,
  codes,
  is_some,
  is_none,
}
use Rattle.std.specs.Str.{bytes_eq}
use Rattle.kernel_calls.specs.Laws.{is_port_name}
use Rattle.maxj_syntax.specs.Tree.{Tree, Node, Trees, Nil, Cons}
use Rattle.maxj_syntax.specs.declared.tree.NodeKind.TheVariants as N
use Rattle.kernel_meaning.specs.declared.error.EvalError.{EvalError}
use Rattle.kernel_meaning.specs.declared.row.Row.{Row}
use Rattle.kernel_meaning.specs.declared.value.Spot.TheVariants.{Variable}
use Rattle.kernel_meaning.specs.declared.value.Value.{Value}
use Rattle.kernel_meaning.specs.declared.value.Spot.{Spot}
use Rattle.kernel_meaning.specs.declared.state.State.{State}
use Rattle.kernel_meaning.specs.declared.value.Declared.{Declared}
use Rattle.kernel_meaning.specs.declared.error.EvalError.TheVariants as E
use Rattle.kernel_meaning.specs.declared.row.Row.TheVariants as R
use Rattle.kernel_meaning.specs.declared.value.Value.TheVariants as V
use Rattle.kernel_meaning.specs.Names.{variable, is_mute, mute_place}
use Rattle.kernel_meaning.specs.Methods.{method_of, params_of, Body, entered}
use Rattle.kernel_meaning.specs.Plans.{
  Library,
  OfKernel,
  OfManager,
  Scope,
  number_of_trees,
  plan_of,
}
use Rattle.kernel_meaning.specs.Ways.{
  picked,
  parted,
  first_decides,
  flag_alone,
  turns,
  put,
  combined,
  stepped,
  spot_in,
  introduced,
  given_back,
  is_absent,
  form_of,
  braced,
  braces,
  formed,
  planned,
}
use Rattle.kernel_meaning.specs.Arrays.{content, with_content}
use Rattle.kernel_meaning.specs.Answer.{
  Answer,
  Refused,
  Then,
  Next,
  does,
  counted,
  used,
  chosen,
  needs,
  decided,
  unless_absent,
  leave,
  back_in,
}
use Rattle.kernel_meaning.specs.Values.{has_kind, declared_by}
use Rattle.kernel_meaning.specs.ManagerRows.{kernel_added}
use Rattle.kernel_meaning.specs.Rows.{row_of}

-- what a method is called with, and what is done with its value
abbrev pub Callee : Type 0
Callee = List ℕ → ℕ → List Value → State → Then → Answer

-- where a production stands: the library, the members of the class, what a call of a method does,
-- and the result
-- that the running method is to give
pub record Place : Type 0 where
  pub library : Library
  pub members : Trees
  pub call : Callee
  pub wanted : Option Declared

-- what a call may name here
abbrev pub scope_of : Place → Scope
scope_of here = record { library = here.library; methods = params_of here.members }

-- what is done with the values of an expression's operands
abbrev pub operate : Place → Row → ℕ → List Value → State → Then → Answer
operate here (R.OwnMethod name) at values state next = here.call name at values state next
operate here row at values state next = does (row_of row at values state) next

-- `makeKernelParameters`, which no method of the own class hides
abbrev pub is_settings : Place → List ℕ → Bool
is_settings here word =
    bytes_eq word (codes "makeKernelParameters") && is_none (params_of here.members word)

-- the number of a class that a manager may add
abbrev pub class_by : ℕ → Option ℕ → State → (ℕ → Next) → Answer
class_by at None state next = Refused (E.UnknownName at)
class_by at (Some number) state next = next number state

abbrev pub classed : Library → ℕ → List ℕ → State → (ℕ → Next) → Answer
classed OfKernel at class state next = Refused (E.UnknownName at)
classed (OfManager kernels) at class state next = class_by at (kernels class) state next

-- the name of a kernel
abbrev pub named : ℕ → List Value → State → (List ℕ → Next) → Answer
named at (V.Str name ∷ []) state next =
    needs (is_port_name name) (E.BadPortName at) state (next name)
named at _ state next = Refused (E.WrongKind at)

unfoldable mutual
  -- an expression is evaluated, and then comes what is done with its value
  pub expr : Place → Tree → State → Then → Answer
  expr here (Node kind word span trees) state next =
      decided (is_mute state (Node kind word span trees)) state
      (λ state. Refused (E.UnknownName (mute_place (Node kind word span trees)))) (λ state.
      counted state (λ state. formed (form_of kind word) state
      (λ state. choice here span.from trees state next)
      (λ either state. short here either span.from trees state next)
      (λ state. planned (plan_of (scope_of here) state kind word span.from trees) state
      (λ row from count state. operands here span.from from count trees [] state
      (λ values state. operate here row span.from values state next))
      (λ state. addition here span.from trees state next))))

  -- the parts from a place on, so many of them, are evaluated from left to right
  pub operands : Place → ℕ → ℕ → ℕ → Trees → List Value → State → (List Value → Next) → Answer
  operands here at from count Nil values state next = next values state
  operands here at (suc from) count (Cons tree trees) values state next =
      operands here at from count trees values state next
  operands here at zero zero (Cons tree trees) values state next = next values state
  operands here at zero (suc count) (Cons tree trees) values state next =
      expr here tree state (λ value state.
      used at value state (λ value state.
      operands here at zero count trees (values ++ value ∷ []) state next))

  -- `?:`
  pub choice : Place → ℕ → Trees → State → Then → Answer
  choice here at (Cons test (Cons first (Cons second Nil))) state next =
      expr here test state (λ value state. parted at value state
      (λ state. expr here first state (λ value state. picked at value state next))
      (λ state. expr here second state (λ value state. picked at value state next))
      (λ value state. expr here first state
      (λ a state. used at a state
      (λ a state. expr here second state (λ b state. used at b state (λ b state.
      does (row_of R.Choose at (value ∷ a ∷ b ∷ []) state) next))))))
  choice here at _ state next = Refused (E.WrongKind at)

  -- `&&`, or with `either` `||`
  pub short : Place → Bool → ℕ → Trees → State → Then → Answer
  short here either at (Cons first (Cons second Nil)) state next =
      expr here first state (λ value state. first_decides either at value state next
      (λ state. expr here second state (λ value state. flag_alone at value state next)))
  short here either at _ state next = Refused (E.WrongKind at)

  -- `addKernel` of `new K(makeKernelParameters(name), ..)`
  pub addition : Place → ℕ → Trees → State → Then → Answer
  addition here at (Cons (Node N.New class span (Cons (Node N.Call word inner names) trees)) Nil)
      state next =
      counted state (λ state. classed here.library span.from class state (λ number state.
      decided (is_settings here word) state
      (λ state. counted state (λ state.
      needs (number_of_trees names == 1) (E.UnknownName inner.from) state (λ state.
      operands here inner.from 0 1 names [] state (λ found state.
      named inner.from found state (λ name state.
      operands here span.from 0 (number_of_trees trees) trees [] state (λ values state.
      does (kernel_added span.from name number values state) next))))))
      (λ state.
      operands here span.from 0 (suc (number_of_trees trees))
      (Cons (Node N.Call word inner names) trees) [] state
      (λ values state. Refused (E.WrongKind span.from)))))
  addition here at (Cons (Node N.New class span Nil) Nil) state next =
      counted state (λ state. classed here.library span.from class state (λ number state.
      Refused (E.UnknownName span.from)))
  addition here at (Cons (Node N.New class span trees) Nil) state next =
      counted state (λ state. classed here.library span.from class state (λ number state.
      operands here span.from 0 (number_of_trees trees) trees [] state
      (λ values state. Refused (E.WrongKind span.from))))
  addition here at _ state next = Refused (E.WrongKind at)

  -- a statement is run; `next` goes on behind it, `back` leaves the method with a value
  pub exec : Place → Tree → State → Next → Then → Answer
  exec here (Node N.Empty word span trees) state next back = counted state next
  exec here (Node N.Block word span trees) state next back =
      counted state (λ state. block here (length state.variables) trees state next back)
  exec here (Node N.Local name span (Cons type trees)) state next back =
      counted state (λ state. introduced span.from name (declared_by type) state
      (λ of state. initial here span.from of (Variable name) trees state next))
  exec here (Node N.Set sign span (Cons place Nil)) state next back =
      counted state (λ state. target here span.from place state (λ spot state.
      used span.from (content spot state) state
      (λ old state. does (stepped sign span.from old state)
      (λ value state. put span.from spot value state next))))
  exec here (Node N.Set sign span (Cons place (Cons value Nil))) state next back =
      counted state (λ state. target here span.from place state (λ spot state.
      decided (bytes_eq sign (codes "=")) state
      (λ state. expr here value state
      (λ value state. used span.from value state
      (λ value state. put span.from spot value state next)))
      (λ state. used span.from (content spot state) state
      (λ old state. expr here value state
      (λ value state. used span.from value state (λ value state.
      does (combined sign span.from old value state)
      (λ value state. put span.from spot value state next)))))))
  exec here (Node N.Connect word span trees) state next back =
      counted state (λ state. operands here span.from 0 2 trees [] state
      (λ values state. does (row_of R.Connect span.from values state) (λ _ state. next state)))
  exec here (Node N.Run word span (Cons call Nil)) state next back =
      counted state (λ state. expr here call state (λ _ state. next state))
  exec here (Node N.Return word span Nil) state next back = counted state (back V.Nothing)
  exec here (Node N.Return word span (Cons value Nil)) state next back =
      counted state (λ state. expr here value state
      (λ value state. used span.from value state
      (λ value state. given_back span.from here.wanted value state back)))
  exec here (Node N.If word span trees) state next back =
      counted state (λ state. branches here span.from trees state next back)
  exec here (Node N.While word span (Cons condition (Cons body Nil))) state next back =
      counted state (λ state. turns (λ state next. expr here condition state next)
      (λ state next. exec here body state next back) span.from (suc state.left) state next)
  exec here (Node N.For word span (Cons first (Cons condition (Cons step (Cons body Nil))))) state
      next back =
      counted state (λ state. unless_absent (is_absent first) state
      (λ next. exec here first state next back) (λ state'. turns
      (λ state next. decided (is_absent condition) state (next (V.Flag true))
      (λ state. expr here condition state next))
      (λ state next. exec here body state
      (λ state. unless_absent (is_absent step) state (λ next. exec here step state next back)
      next) back)
      span.from (suc state'.left) state'
      (λ state''. next (leave (length state.variables) state''))))
  exec here (Node _ word span trees) state next back = Refused (E.WrongKind span.from)

  -- the statements of a block, after which only so many variables are left
  pub block : Place → ℕ → Trees → State → Next → Then → Answer
  block here count Nil state next back = next (leave count state)
  block here count (Cons tree trees) state next back =
      exec here tree state (λ state. block here count trees state next back) back

  -- each condition and its body in turn, and last the `else`
  pub branches : Place → ℕ → Trees → State → Next → Then → Answer
  branches here at Nil state next back = next state
  branches here at (Cons tree Nil) state next back = exec here tree state next back
  branches here at (Cons test (Cons body trees)) state next back =
      expr here test state (λ value state.
      chosen at value state (λ state. exec here body state next back)
      (λ state. branches here at trees state next back))

  -- where the value of a `Set` goes
  pub target : Place → ℕ → Tree → State → (Spot → Next) → Answer
  target here user (Node N.Name name span trees) state next =
      needs (is_some (variable name state)) (E.UnknownName span.from) state (next (Variable name))
  target here user (Node N.Index word span (Cons base (Cons index Nil))) state next =
      target here user base state (λ outer state.
      used user (content outer state) state (λ array state.
      expr here index state (λ value state.
      used user value state (λ value state. spot_in user array value state next))))
  target here user (Node _ word span trees) state next = Refused (E.WrongKind span.from)

  -- a variable of this type gets its initial value, where there is one, for the production at a
  -- place
  pub initial : Place → ℕ → Declared → Spot → Trees → State → Next → Answer
  initial here user of spot Nil state next = next state
  initial here user of spot (Cons (Node N.Braces word span parts) trees) state next =
      braces span.from of (number_of_trees parts) state
      (λ inner state. inits here span.from inner parts [] state (λ values state.
      braced inner values state (λ value state. next (with_content spot value state))))
  initial here user of spot (Cons (Node kind word span parts) trees) state next =
      expr here (Node kind word span parts) state
      (λ value state. used user value state (λ value state.
      needs (has_kind of value) (E.WrongKind user) state
      (λ state. next (with_content spot value state))))

  -- the elements in braces, of this type
  pub inits : Place → ℕ → Declared → Trees → List Value → State → (List Value → Next) → Answer
  inits here at of Nil values state next = next values state
  inits here at of (Cons (Node N.Braces word span parts) trees) values state next =
      braces span.from of (number_of_trees parts) state
      (λ inner state. inits here span.from inner parts [] state (λ others state.
      braced inner others state (λ value state. inits here at of trees (values ++ value ∷ []) state
      next)))
  inits here at of (Cons (Node kind word span parts) trees) values state next =
      expr here (Node kind word span parts) state
      (λ value state. used at value state (λ value state.
      needs (has_kind of value) (E.WrongKind at) state
      (λ state. inits here at of trees (values ++ value ∷ []) state next)))

-- the statements of a method or constructor, whose block is no statement
abbrev pub block_of : Place → Tree → State → Next → Then → Answer
block_of here (Node N.Block word span trees) state next back = block here 0 trees state next back
block_of here (Node _ word span trees) state next back = Refused (E.WrongKind span.from)

-- the place of a class, with what calls of its methods do
abbrev pub in_class : Library → Trees → Callee → Place
in_class library members call = record {
  library = library;
  members = members;
  call = call;
  wanted = None;
}

-- a method is run: its arguments are its only variables, and afterwards the caller's are there
-- again
abbrev pub run_body : Place → Body → State → Then → Answer
run_body here body state next =
    block_of (record here { wanted = body.wanted }) body.block
    (record state { variables = body.variables })
    (λ state'. next V.Nothing (back_in state.variables state'))
    (λ value state'. next value (back_in state.variables state'))

abbrev pub called : (Body → State → Then → Answer) → Result Body EvalError → State → Then → Answer
called run (Err e) state next = Refused e
called run (Ok body) state next = run body state next

-- a call of a method, where calls may stand so much deeper
unfoldable pub call_to : Library → Trees → ℕ → Callee
call_to library members zero name at values state next =
    called (λ _ _ _. Refused (E.CallDepth at)) (entered at values (method_of name members)) state
    next
call_to library members (suc deeper) name at values state next =
    called (λ body state next. run_body
    (in_class library members (call_to library members deeper)) body state next)
    (entered at values (method_of name members)) state next

-- calls from the constructor may stand 64 deep
abbrev pub in_constructor : Library → Trees → Place
in_constructor library members = in_class library members (call_to library members 64)
