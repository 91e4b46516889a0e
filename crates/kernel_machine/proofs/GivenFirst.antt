-- Initial values, in braces and otherwise.
use Rattle.std.proofs.Common.{◌≡◌, ◌∙◌, ◌≢◌, ℕ, ◌+◌, ◌-◌, ◌<◌, ◌≤◌, ◌++◌, zero, suc, List, [], ◌∷◌, length, true, false, refl, ap, arith}
use Rattle.std.proofs.Common.{length-append}
use Rattle.std.specs.Prelude.{◌==◌, ◌&&◌, Option, Bool, Result, Ok, Err, nat_le}
use Rattle.mx_base.specs.declared.span.Span.{Span}
use Rattle.maxj_syntax.specs.Cells.{Cell}
use Rattle.maxj_syntax.specs.Tree.{Tree, Node, Trees, Nil, Cons}
use Rattle.maxj_syntax.specs.declared.tree.NodeKind.{NodeKind}
use Rattle.maxj_syntax.specs.declared.tree.NodeKind.TheVariants as N
use Rattle.kernel_meaning.specs.declared.error.EvalError.TheVariants as E
use Rattle.kernel_meaning.specs.declared.state.State.{State}
use Rattle.kernel_meaning.specs.declared.value.Base.{Base}
use Rattle.kernel_meaning.specs.declared.value.Declared.{Declared}
use Rattle.kernel_meaning.specs.declared.value.Spot.{Spot}
use Rattle.kernel_meaning.specs.declared.value.Value.{Value}
use Rattle.kernel_meaning.specs.Answer.{Refused, Then, Next, counted, used, needs}
use Rattle.kernel_meaning.specs.Names.{place_of}
use Rattle.kernel_meaning.specs.Plans.{number_of_trees}
use Rattle.kernel_meaning.specs.Run.{Place, expr, exec, initial, inits}
use Rattle.kernel_meaning.specs.Values.{same_declared, number_of, has_kind, declared_by}
use Rattle.kernel_meaning.specs.declared.value.Spot.TheVariants.{Variable}
use Rattle.std.proofs.lemmas.Bool.Decides.{nat_tests}
use Rattle.kernel_meaning.specs.Arrays.{with_content}
use Rattle.kernel_meaning.specs.Ways.{braces, braced, introduced}
use Rattle.kernel_plans.specs.Trees.{tree_of, branch_tree}
use Rattle.kernel_plans.specs.declared.branch.Branch.{Branch}
use Rattle.kernel_meaning.specs.declared.error.EvalError.{EvalError}
use Rattle.kernel_plans.specs.Classes.{ClassView}
use Rattle.kernel_machine.specs.Answers.{IsIntroduced, typed}
use Rattle.kernel_machine.specs.declared.machine.Machine.{Machine}
use Rattle.kernel_machine.specs.Going.{Leads}
use Rattle.kernel_machine.specs.Left.{
  parts,
  from_place,
  braces_run,
  value_run,
  elements_left,
  element_at,
  initial_at,
}

same-number : (n : ℕ) → (n == n) ≡ true
same-number n = grind (arith, nat_tests)

rank-above : (n : ℕ) → n + 1 ≡ suc n
rank-above n = omega arith

both-true : (a b : Bool) → a ≡ true → b ≡ true → (a && b) ≡ true
both-true a b e f = rw (e, f) refl

own-array : (base : Base) (rank : ℕ)
    → same_declared (record { base = base; rank = suc rank }) (record {
      base = base;
      rank = rank + 1;
    }) ≡ true
own-array base rank =
    both-true _ _ (same-number (number_of base)) (same-rank (suc rank) (rank + 1) (rank-above rank))
  where
    same-rank : (n m : ℕ) → m ≡ n → (n == m) ≡ true
    same-rank n m e = ap (λ k. n == k) e ∙ same-number n

-- the array that braces make is of the type that they stand for
abbrev checked : ℕ → Declared → Then → Then
checked user of next value state =
    used user value state (λ value state.
    needs (has_kind of value) (E.WrongKind user) state (λ state. next value state))

checked-by : (here : Place) (at user : ℕ) (base : Base) (rank : ℕ) (trees : Trees)
    (state : State) (next : Then)
    → braces at (record { base = base; rank = rank }) (number_of_trees trees) state
    (λ inner state. inits here at inner trees [] state
    (λ values state. braced inner values state next))
    ≡ braces at (record { base = base; rank = rank }) (number_of_trees trees) state
    (λ inner state. inits here at inner trees [] state
    (λ values state. braced inner values state (checked user (record {
      base = base;
      rank = rank;
    }) next)))
checked-by here at user base zero trees state next = refl
checked-by here at user base (suc rank) trees state next = rw (own-array base rank) refl

pub braces-checked : (here : Place) (at user : ℕ) (of : Declared) (trees : Trees)
    (state : State) (next : Then)
    → braces at of (number_of_trees trees) state
    (λ inner state. inits here at inner trees [] state
    (λ values state. braced inner values state next))
    ≡ braces at of (number_of_trees trees) state
    (λ inner state. inits here at inner trees [] state
    (λ values state. braced inner values state (checked user of next)))
braces-checked here at user of trees state next =
    checked-by here at user of.base of.rank trees state next

-- an initial value
pub initial-none : (here : Place) (user : ℕ) (of : Declared) (spot : Spot) (trees : Trees)
    (state : State) (next : Next) → trees ≡ Nil
    → initial here user of spot trees state next ≡ next state
unfolding expr
initial-none here user of spot trees state next e = rw e refl

abbrev tree_by : NodeKind → List ℕ → Span → Trees → Tree
tree_by kind word span trees = Node kind word span trees

value-other : (here : Place) (of : Declared) (kind : NodeKind) (word : List ℕ) (span : Span)
    (inner : Trees) (state : State) (next : Then) → kind ≢ N.Braces
    → value_run here of (Node kind word span inner) state next
    ≡ expr here (Node kind word span inner) state next
value-other here of N.Braces word span inner state next h = absurd (h refl)
value-other here of _ word span inner state next h = refl

pub value-expr : (here : Place) (of : Declared) (tree : Tree) (kind : NodeKind) (word : List ℕ)
    (span : Span) (inner : Trees) (state : State) (next : Then) → tree ≡ Node kind word span inner
    → kind ≢ N.Braces → value_run here of tree state next ≡ expr here tree state next
value-expr here of tree kind word span inner state next e h =
    rw e (value-other here of kind word span inner state next h)

pub value-braces : (here : Place) (of : Declared) (tree : Tree) (kind : NodeKind) (word : List ℕ)
    (span : Span) (inner : Trees) (state : State) (next : Then) → tree ≡ Node kind word span inner
    → kind ≡ N.Braces → value_run here of tree state next ≡ braces_run here of tree state next
value-braces here of tree kind word span inner state next e h = rw (e, h) refl

-- an initial value, whatever stands for it
initial-any : (here : Place) (user : ℕ) (of : Declared) (spot : Spot) (kind : NodeKind)
    (word : List ℕ) (span : Span) (inner others : Trees) (state : State) (next : Next)
    → initial here user of spot (Cons (Node kind word span inner) others) state next
    ≡ value_run here of (Node kind word span inner) state
    (λ value state. initial_at user of spot value state next)
unfolding expr
initial-any here user of spot N.Braces word span inner others state next =
    braces-checked here span.from user of inner state
    (λ value state. next (with_content spot value state))
initial-any here user of spot _ word span inner others state next = refl

pub initial-some : (here : Place) (user : ℕ) (of : Declared) (spot : Spot) (trees others : Trees)
    (tree : Tree) (state : State) (next : Next) → trees ≡ Cons tree others
    → initial here user of spot trees state next
    ≡ value_run here of tree state (λ value state. initial_at user of spot value state next)
initial-some here user of spot trees others (Node kind word span inner) state next e =
    rw e (initial-any here user of spot kind word span inner others state next)

-- the elements of braces
pub elements-end : (here : Place) (of : Declared) (tree : Tree) (place : ℕ) (values : List Value)
    (state : State) (next : Then) → from_place place (parts tree) ≡ Nil
    → elements_left here of tree place values state next ≡ braced of values state next
unfolding expr
elements-end here of tree place values state next e = rw e refl

elements-any : (cells : List Cell) (here : Place) (node : Option ℕ) (of : Declared)
    (values : List Value) (kind : NodeKind) (word : List ℕ) (span : Span) (inner others : Trees)
    (state : State) (next : List Value → Next)
    → inits here (place_of (tree_of cells node)) of (Cons (Node kind word span inner) others) values
    state next
    ≡ value_run here of (Node kind word span inner) state (λ value state.
    used (place_of (tree_of cells node)) value state (λ value state.
    needs (has_kind of value) (E.WrongKind (place_of (tree_of cells node))) state (λ state.
    inits here (place_of (tree_of cells node)) of others (values ++ value ∷ []) state next)))
unfolding expr
elements-any cells here node of values N.Braces word span inner others state next =
    braces-checked here span.from (place_of (tree_of cells node)) of inner state
    (λ value state. inits here (place_of (tree_of cells node)) of others (values ++ value ∷ [])
    state next)
elements-any cells here node of values _ word span inner others state next = refl

pub elements-some : (cells : List Cell) (here : Place) (node : Option ℕ) (of : Declared)
    (values : List Value) (tree : Tree) (state : State) (next : Then)
    → from_place (length values) (parts (tree_of cells node))
    ≡ Cons tree (from_place (suc (length values)) (parts (tree_of cells node)))
    → elements_left here of (tree_of cells node) (length values) values state next
    ≡ value_run here of tree state
    (λ value state. element_at cells here node of values value state next)
elements-some cells here node of values (Node kind word span inner) state next e =
    rw e (elements-any cells here node of values kind word span inner
    (from_place (suc (length values)) (parts (tree_of cells node))) state _)

le-true : (n m : ℕ) → n ≤ m → nat_le n m ≡ true
le-true n m h = grind (arith, nat_tests)

le-false : (n m : ℕ) → m < n → nat_le n m ≡ false
le-false n m h = grind (arith, nat_tests)

pub place-at : (cells : List Cell) (tree : Tree) (b : Branch) → tree ≡ branch_tree cells b
    → place_of tree ≡ b.span.from
place-at cells tree b e = rw e refl

-- braces that are too long, or of too many steps, and others
pub braces-many : (here : Place) (of : Declared) (tree : Tree) (state : State) (next : Then)
    (rank : ℕ) → of.rank ≡ suc rank → 65536 < number_of_trees (parts tree)
    → braces_run here of tree state next ≡ Refused (E.ArrayRange (place_of tree))
braces-many here of tree state next rank e many =
    rw (e, le-false (number_of_trees (parts tree)) 65536 many) refl

pub braces-limit : (here : Place) (of : Declared) (tree : Tree) (state : State) (next : Then)
    (rank : ℕ) → of.rank ≡ suc rank → number_of_trees (parts tree) ≤ 65536
    → state.left < number_of_trees (parts tree)
    → braces_run here of tree state next ≡ Refused E.StepLimit
braces-limit here of tree state next rank e few more =
    rw (
      e,
      le-true (number_of_trees (parts tree)) 65536 few,
      le-false (number_of_trees (parts tree)) state.left more,
    ) refl

pub braces-go : (here : Place) (of : Declared) (tree : Tree) (state : State) (next : Then)
    (rank left : ℕ) → of.rank ≡ suc rank → number_of_trees (parts tree) ≤ 65536
    → number_of_trees (parts tree) ≤ state.left → left ≡ state.left - number_of_trees (parts tree)
    → braces_run here of tree state next
    ≡ elements_left here (record { base = of.base; rank = rank }) tree 0 []
    (record state { left = left }) next
braces-go here of tree state next rank left e few enough is =
    rw (
      e,
      is,
      le-true (number_of_trees (parts tree)) 65536 few,
      le-true (number_of_trees (parts tree)) state.left enough,
    ) refl

-- an element is set and of the type
pub element-set : (cells : List Cell) (here : Place) (node : Option ℕ) (of : Declared)
    (values : List Value) (value present : Value) (longer : List Value) (state : State)
    (next : Then) → ((then : Then) → typed (place_of (tree_of cells node)) of value state then
    ≡ then present state)
    → longer ≡ values ++ present ∷ []
    → element_at cells here node of values value state next
    ≡ elements_left here of (tree_of cells node) (length longer) longer state next
element-set cells here node of values value present longer state next is pushed =
    is _ ∙ rw (pushed, length-append values (present ∷ []), rank-above (length values)) refl

pub element-refused : (cells : List Cell) (here : Place) (node : Option ℕ) (of : Declared)
    (values : List Value) (value : Value) (state : State) (next : Then) (e : EvalError)
    → ((then : Then) → typed (place_of (tree_of cells node)) of value state then ≡ Refused e)
    → element_at cells here node of values value state next ≡ Refused e
element-refused cells here node of values value state next e is = is _

pub one-longer : (values longer : List Value) (value : Value) → longer ≡ values ++ value ∷ []
    → suc (length values) ≡ length longer
one-longer values longer value e =
    rw (e, length-append values (value ∷ []), rank-above (length values)) refl

-- a local variable
pub local-none : (here : Place) (word : List ℕ) (span : Span) (trees : Trees) (state : State)
    (next : Next) (back : Then) → trees ≡ Nil
    → exec here (Node N.Local word span trees) state next back ≡ Refused (E.WrongKind span.from)
unfolding expr
local-none here word span trees state next back e = rw e refl

pub local-some : (here : Place) (name : List ℕ) (span : Span) (trees others : Trees) (tree : Tree)
    (state : State) (next : Next) (back : Then) → trees ≡ Cons tree others
    → exec here (Node N.Local name span trees) state next back
    ≡ counted state (λ state. introduced span.from name (declared_by tree) state
    (λ of state. initial here span.from of (Variable name) others state next))
unfolding expr
local-some here name span trees others tree state next back e = rw e refl

pub introduced-by : (at : ℕ) (name : List ℕ) (result : Result Declared ℕ) (of : Declared)
    (state after : State) (next : Declared → Next) → result ≡ Ok of
    → ((next : Declared → Next) → introduced at name (Ok of) state next ≡ next of after)
    → introduced at name result state next ≡ next of after
introduced-by at name result of state after next e stands = rw e (stands next)

pub not-introduced : (class : ClassView) (at : ℕ) (name : List ℕ) (of : Declared)
    (old after : State) (e : EvalError) (new : Machine) (next : Declared → Next)
    → IsIntroduced at name of old (Err e) after
    → Leads class (introduced at name (Ok of) old next) (Err e) new
not-introduced class at name of old after E.NoMemory new next h = tt
not-introduced class at name of old after _ new next h = h next
