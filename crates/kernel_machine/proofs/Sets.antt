-- Assignments, and where their values go.
use Rattle.std.proofs.Common.{◌≡◌, ◌∙◌, ◌≢◌, ℕ, List, ◌∷◌, length, true, false, refl, ap, sym, codes}
use Rattle.std.specs.Prelude.{◌⊎◌, Option, Result, Ok, Err, IfOk, IsErr, IsErrAnd, is_some}
use Rattle.std.proofs.Common.{subst}
use Rattle.kernel_rows.specs.Fit.{IsFit}
use Rattle.kernel_meaning.specs.Names.{place_of}
use Rattle.kernel_plans.specs.Classes.{ClassView}
use Rattle.kernel_machine.specs.Answers.{IsPresent, IsSet, IsUnset}
use Rattle.kernel_machine.specs.Going.{Leads}
use Rattle.kernel_machine.specs.declared.machine.Event.{Event}
use Rattle.kernel_machine.specs.declared.machine.Machine.{Machine}
use Rattle.std.proofs.Common.{inl, inr, None, ◌<◌, ◌≤◌, arith}
use Rattle.std.specs.Str.{bytes_eq}
use Rattle.mx_base.specs.declared.span.Span.{Span}
use Rattle.maxj_syntax.specs.Cells.{Cell}
use Rattle.maxj_syntax.specs.Tree.{Tree, Node, Trees, Nil, Cons}
use Rattle.maxj_syntax.specs.declared.tree.NodeKind.{NodeKind}
use Rattle.maxj_syntax.specs.declared.tree.NodeKind.TheVariants as N
use Rattle.kernel_meaning.specs.declared.error.EvalError.TheVariants as E
use Rattle.kernel_meaning.specs.declared.state.State.{State}
use Rattle.kernel_meaning.specs.declared.value.Spot.{Spot}
use Rattle.kernel_meaning.specs.declared.value.Spot.TheVariants.{Variable}
use Rattle.kernel_meaning.specs.declared.value.Value.{Value}
use Rattle.kernel_calls.specs.declared.call.Call.{Call}
use Rattle.kernel_meaning.specs.declared.error.EvalError.{EvalError}
use Rattle.kernel_meaning.specs.Answer.{Refused, Then, Next, Does, after_calls, counted, used}
use Rattle.kernel_meaning.specs.Names.{variable}
use Rattle.kernel_meaning.specs.Plans.{number_of_trees}
use Rattle.kernel_meaning.specs.Run.{Place, expr, exec, target}
use Rattle.kernel_meaning.specs.Arrays.{content}
use Rattle.kernel_meaning.specs.Ways.{combined, stepped, put}
use Rattle.kernel_plans.specs.declared.branch.Branch.{Branch}
use Rattle.kernel_plans.specs.Trees.{tree_of, trees_of, branch_tree}
use Rattle.kernel_machine.specs.Left.{
  resolved,
  resolve_at,
  indexed_at,
  set_at,
  stepped_at,
  assign_at,
  combine_at,
  word_of,
}
use Rattle.kernel_machine.specs.Positions.{IsPart}
use Rattle.kernel_machine.proofs.Places.{how-many}

-- an assignment of the wrong number of parts, and one of one or two
pub set-odd : (here : Place) (word : List ℕ) (span : Span) (trees : Trees) (state : State)
    (next : Next) (back : Then) → number_of_trees trees ≢ 1 → number_of_trees trees ≢ 2
    → exec here (Node N.Set word span trees) state next back ≡ Refused (E.WrongKind span.from)
unfolding expr
set-odd here word span Nil state next back h k = refl
set-odd here word span (Cons a Nil) state next back h k = absurd (h refl)
set-odd here word span (Cons a (Cons b Nil)) state next back h k = absurd (k refl)
set-odd here word span (Cons a (Cons b (Cons c trees))) state next back h k = refl

pub set-begins : (here : Place) (word : List ℕ) (span : Span) (place : Tree) (others : Trees)
    (state : State) (next : Next) (back : Then) → others ≡ Nil ⊎ ((value : Tree) × (others ≡ Cons value Nil))
    → exec here (Node N.Set word span (Cons place others)) state next back
    ≡ counted state (λ state. target here span.from place state
    (λ spot state. set_at here (Node N.Set word span (Cons place others)) spot state next))
unfolding expr
set-begins here word span place others state next back (inl e) = rw e refl
set-begins here word span place others state next back (inr (value, e)) = rw e refl

-- the place of an assignment
pub target-index : (cells : List Cell) (here : Place) (user : ℕ) (word : List ℕ) (span : Span)
    (trees : Trees) (base : Tree) (index : Option ℕ) (pending : List (Option ℕ)) (state : State)
    (next : Spot → Next) → trees ≡ Cons base (Cons (tree_of cells index) Nil)
    → target here user (Node N.Index word span trees) state
    (λ spot state. resolved cells here user pending spot state next)
    ≡ target here user base state
    (λ spot state. resolved cells here user (index ∷ pending) spot state next)
unfolding expr
target-index cells here user word span trees base index pending state next e = rw e refl

pub target-odd : (here : Place) (user : ℕ) (word : List ℕ) (span : Span) (trees : Trees)
    (state : State) (next : Spot → Next) → number_of_trees trees ≢ 2
    → target here user (Node N.Index word span trees) state next ≡ Refused (E.WrongKind span.from)
unfolding expr
target-odd here user word span Nil state next h = refl
target-odd here user word span (Cons a Nil) state next h = refl
target-odd here user word span (Cons a (Cons b Nil)) state next h = absurd (h refl)
target-odd here user word span (Cons a (Cons b (Cons c trees))) state next h = refl

pub target-other : (here : Place) (user : ℕ) (kind : NodeKind) (word : List ℕ) (span : Span)
    (trees : Trees) (state : State) (next : Spot → Next) → kind ≢ N.Name → kind ≢ N.Index
    → target here user (Node kind word span trees) state next ≡ Refused (E.WrongKind span.from)
unfolding expr
target-other here user N.Name word span trees state next h k = absurd (h refl)
target-other here user N.Index word span trees state next h k = absurd (k refl)
target-other here user _ word span trees state next h k = refl

pub target-unknown : (here : Place) (user : ℕ) (name : List ℕ) (span : Span) (trees : Trees)
    (state : State) (next : Spot → Next) → is_some (variable name state) ≡ false
    → target here user (Node N.Name name span trees) state next ≡ Refused (E.UnknownName span.from)
unfolding expr
target-unknown here user name span trees state next h = rw h refl

pub target-name : (here : Place) (user : ℕ) (name : List ℕ) (span : Span) (trees : Trees)
    (state : State) (next : Spot → Next) → is_some (variable name state) ≡ true
    → target here user (Node N.Name name span trees) state next ≡ next (Variable name) state
unfolding expr
target-name here user name span trees state next h = rw h refl

-- what is set, by the number of parts
pub set-one : (cells : List Cell) (here : Place) (tree : Tree) (b : Branch) (spot : Spot)
    (state : State) (next : Next) → tree ≡ branch_tree cells b → length b.children.now ≡ 1
    → set_at here tree spot state next ≡ stepped_at b.span.from b.word.now spot state next
set-one cells here tree b spot state next e one =
    rw e (by (trees_of cells b.id b.children.now) (how-many cells b.id b.children.now ∙ one))
  where
    by : (trees : Trees) → number_of_trees trees ≡ 1
        → set_at here (Node b.kind b.word.now b.span trees) spot state next
        ≡ stepped_at b.span.from b.word.now spot state next
    by Nil h = absurd (cc)
    by (Cons a Nil) h = refl
    by (Cons a (Cons c trees)) h = absurd (cc)

pub set-none : (cells : List Cell) (here : Place) (tree : Tree) (b : Branch) (spot : Spot)
    (state : State) (next : Next) → tree ≡ branch_tree cells b → length b.children.now ≢ 1
    → length b.children.now ≢ 2
    → set_at here tree spot state next ≡ Refused (E.WrongKind b.span.from)
set-none cells here tree b spot state next e one two =
    rw e (by (trees_of cells b.id b.children.now) (λ h. one (sym (how-many cells b.id
    b.children.now) ∙ h)) (λ h. two (sym (how-many cells b.id b.children.now) ∙ h)))
  where
    by : (trees : Trees) → number_of_trees trees ≢ 1 → number_of_trees trees ≢ 2
        → set_at here (Node b.kind b.word.now b.span trees) spot state next
        ≡ Refused (E.WrongKind b.span.from)
    by Nil h k = refl
    by (Cons a Nil) h k = absurd (h refl)
    by (Cons a (Cons c Nil)) h k = absurd (k refl)
    by (Cons a (Cons c (Cons d trees))) h k = refl

-- with a value
pub set-plain : (cells : List Cell) (here : Place) (tree : Tree) (b : Branch)
    (first second : Tree) (spot : Spot) (state : State) (next : Next)
    → tree ≡ branch_tree cells b
    → trees_of cells b.id b.children.now ≡ Cons first (Cons second Nil)
    → bytes_eq b.word.now (codes "=") ≡ true
    → set_at here tree spot state next ≡ assign_at here b.span.from second spot state next
set-plain cells here tree b first second spot state next e two plain = rw (e, two, plain) refl

pub set-compound : (cells : List Cell) (here : Place) (tree : Tree) (b : Branch)
    (first second : Tree) (spot : Spot) (old present : Value) (state : State) (next : Next)
    → tree ≡ branch_tree cells b
    → trees_of cells b.id b.children.now ≡ Cons first (Cons second Nil)
    → bytes_eq b.word.now (codes "=") ≡ false → old ≡ content spot state
    → ((then : Then) → used b.span.from old state then ≡ then present state)
    → set_at here tree spot state next
    ≡ expr here second state
    (λ value state. combine_at b.span.from b.word.now present spot value state next)
set-compound cells here tree b first second spot old present state next e two plain is set =
    rw (e, two, plain, ← is) (set _)

pub set-unset : (cells : List Cell) (here : Place) (tree : Tree) (b : Branch)
    (first second : Tree) (spot : Spot) (old : Value) (state : State) (next : Next)
    (error : EvalError) → tree ≡ branch_tree cells b
    → trees_of cells b.id b.children.now ≡ Cons first (Cons second Nil)
    → bytes_eq b.word.now (codes "=") ≡ false → old ≡ content spot state
    → ((then : Then) → used b.span.from old state then ≡ Refused error)
    → set_at here tree spot state next ≡ Refused error
set-unset cells here tree b first second spot old state next error e two plain is unset =
    rw (e, two, plain, ← is) (unset _)

pub word-at : (cells : List Cell) (tree : Tree) (b : Branch) → tree ≡ branch_tree cells b
    → word_of tree ≡ b.word.now
word-at cells tree b e = rw e refl

-- an operator, and then the value is put
pub combine-at : (at other : ℕ) (sign word : List ℕ) (old value : Value) (spot : Spot)
    (state : State) (next : Next) → at ≡ other → sign ≡ word
    → combine_at at sign old spot value state next ≡ combine_at other word old spot value state next
combine-at at other sign word old value spot state next e f = rw (e, f) refl

pub combine-by : (at : ℕ) (sign : List ℕ) (old value present : Value) (spot : Spot)
    (state after : State) (next : Next) (calls : List Call) (result : Value)
    → ((then : Then) → used at value state then ≡ then present state)
    → combined sign at old present state ≡ Does calls result after
    → combine_at at sign old spot value state next
    ≡ after_calls calls result after (λ value state. put at spot value state next)
combine-by at sign old value present spot state after next calls result set e = set _ ∙ rw e refl

pub stepped-by : (at : ℕ) (sign : List ℕ) (old present : Value) (spot : Spot)
    (state after : State) (next : Next) (calls : List Call) (result : Value)
    → old ≡ content spot state → ((then : Then) → used at old state then ≡ then present state)
    → stepped sign at present state ≡ Does calls result after
    → stepped_at at sign spot state next
    ≡ after_calls calls result after (λ value state. put at spot value state next)
stepped-by at sign old present spot state after next calls result is set e =
    let first = rw is at set in
    first _ ∙ rw e refl

-- what must be set, and isn't
pub set-by : (at : ℕ) (value other : Value) (r : Result Value EvalError) → value ≡ other
    → IsPresent at value r → IsSet at other r
set-by at value other (Ok v) e h = subst (λ w. IsSet at w (Ok v)) e h
set-by at value other (Err E.NoMemory) e h = tt
set-by at value other (Err x) e h =
    subst (λ w. (state : State) (next : Then) → used at w state next ≡ Refused x) e h

pub fit-by : (at : ℕ) (value : Value) (r : Result Value EvalError) → IsFit value
    → IsPresent at value r → IfOk r IsFit
fit-by at value (Ok v) fit h = subst IsFit (sym h.0) fit
fit-by at value (Err e) fit h = tt

pub not-present : (at : ℕ) (value : Value) (e : EvalError) → IsPresent at value (Err e)
    → IsUnset at value e
not-present at value E.NoMemory h = tt
not-present at value _ h = h

pub unset : (class : ClassView) (at : ℕ) (value : Value) (state : State) (next : Then)
    (e : EvalError) (new : Machine) → IsUnset at value e
    → Leads class (used at value state next) (Err e) new
unset class at value state next E.NoMemory new h = tt
unset class at value state next _ new h = h state next

pub unset-on : (class : ClassView) (at : ℕ) (value : Value) (state : State) (next : Then)
    (r : Result Event EvalError) (e : EvalError) (new : Machine) → IsErr r
    → IsErrAnd r (λ x. x ≡ e) → IsUnset at value e → Leads class (used at value state next) r new
unset-on class at value state next (Ok event) e new is same h = absurd (cc)
unset-on class at value state next (Err x) e new is same h =
    subst (λ y. Leads class (used at value state next) (Err y) new) (sym same)
    (unset class at value state next e new h)

-- an index into the array at a spot
pub index-unset : (class : ClassView) (here : Place) (tree : Tree) (index : Option ℕ)
    (rest : List (Option ℕ)) (spot : Spot) (at : ℕ) (state : State) (next : Next)
    (r : Result Event EvalError) (e : EvalError) (new : Machine) → place_of tree ≡ at → IsErr r
    → IsErrAnd r (λ x. x ≡ e) → IsUnset at (content spot state) e
    → Leads class (resolve_at class.cells here tree (index ∷ rest) spot state next) r new
index-unset class here tree index rest spot at state next r e new place is same h =
    subst (λ n. Leads class (resolved class.cells here n (index ∷ rest) spot state
    (λ spot state. set_at here tree spot state next)) r new) (sym place)
    (unset-on class at (content spot state) state _ r e new is same h)

pub index-go : (cells : List Cell) (here : Place) (tree : Tree) (index : Option ℕ)
    (rest : List (Option ℕ)) (spot : Spot) (at : ℕ) (array : Value) (state : State) (next : Next)
    → place_of tree ≡ at → IsSet at (content spot state) (Ok array)
    → resolve_at cells here tree (index ∷ rest) spot state next
    ≡ expr here (tree_of cells index) state
    (λ value state. indexed_at cells here tree array rest value state next)
index-go cells here tree index rest spot at array state next place h =
    let set = subst (λ n. (s : State) (then : Then) → used n (content spot state) s then
    ≡ then array s) (sym place) h.1 in
    set state _

pub set-by-unset : (class : ClassView) (here : Place) (tree : Tree) (b : Branch)
    (first second : Tree) (spot : Spot) (state : State) (next : Next) (error : EvalError)
    (new : Machine) → tree ≡ branch_tree class.cells b
    → trees_of class.cells b.id b.children.now ≡ Cons first (Cons second Nil)
    → bytes_eq b.word.now (codes "=") ≡ false → IsUnset b.span.from (content spot state) error
    → Leads class (set_at here tree spot state next) (Err error) new
set-by-unset class here tree b first second spot state next E.NoMemory new e two plain h = tt
set-by-unset class here tree b first second spot state next error new e two plain h =
    set-unset class.cells here tree b first second spot (content spot state) state next error e two
    plain refl (λ then. h state then)

pub stepped-unset : (at : ℕ) (sign : List ℕ) (old : Value) (spot : Spot) (state : State)
    (next : Next) (error : EvalError) → old ≡ content spot state
    → ((then : Then) → used at old state then ≡ Refused error)
    → stepped_at at sign spot state next ≡ Refused error
stepped-unset at sign old spot state next error is unset = rw (← is) (unset _)

-- where the place of an assignment was followed to, and what stands there
pub follow-odd : (cells : List Cell) (here : Place) (user : ℕ) (b : Branch) (state : State)
    (next : Spot → Next) → b.kind ≡ N.Index → length b.children.now ≢ 2
    → target here user (branch_tree cells b) state next ≡ Refused (E.WrongKind b.span.from)
follow-odd cells here user b state next kind odd =
    ap (λ k. target here user (Node k b.word.now b.span (trees_of cells b.id b.children.now)) state
    next) kind
    ∙ target-odd here user b.word.now b.span (trees_of cells b.id b.children.now) state next
    (λ h. odd (sym (how-many cells b.id b.children.now) ∙ h))

pub follow-index : (cells : List Cell) (here : Place) (user : ℕ) (b : Branch)
    (base index : Option ℕ) (pending : List (Option ℕ)) (state : State) (next : Spot → Next)
    → b.kind ≡ N.Index
    → trees_of cells b.id b.children.now
    ≡ Cons (tree_of cells base) (Cons (tree_of cells index) Nil)
    → target here user (branch_tree cells b) state
    (λ spot state. resolved cells here user pending spot state next)
    ≡ target here user (tree_of cells base) state
    (λ spot state. resolved cells here user (index ∷ pending) spot state next)
follow-index cells here user b base index pending state next kind two =
    ap (λ k. target here user (Node k b.word.now b.span (trees_of cells b.id b.children.now)) state
    (λ spot state. resolved cells here user pending spot state next)) kind
    ∙ target-index cells here user b.word.now b.span (trees_of cells b.id b.children.now)
    (tree_of cells base) index pending state next two

pub follow-other : (cells : List Cell) (here : Place) (user : ℕ) (b : Branch) (state : State)
    (next : Spot → Next) → b.kind ≢ N.Name → b.kind ≢ N.Index
    → target here user (branch_tree cells b) state next ≡ Refused (E.WrongKind b.span.from)
follow-other cells here user b state next name index =
    target-other here user b.kind b.word.now b.span (trees_of cells b.id b.children.now) state next
    name index

pub follow-missing : (cells : List Cell) (here : Place) (user : ℕ) (base : Option ℕ)
    (state : State) (next : Spot → Next) → base ≡ None
    → target here user (tree_of cells base) state next ≡ Refused (E.WrongKind 0)
unfolding expr
follow-missing cells here user base state next e = rw e refl

pub follow-name : (cells : List Cell) (here : Place) (user : ℕ) (b : Branch) (state : State)
    (next : Spot → Next) → b.kind ≡ N.Name → is_some (variable b.word.now state) ≡ true
    → target here user (branch_tree cells b) state next ≡ next (Variable b.word.now) state
follow-name cells here user b state next kind known =
    ap (λ k. target here user (Node k b.word.now b.span (trees_of cells b.id b.children.now)) state
    next) kind
    ∙ target-name here user b.word.now b.span (trees_of cells b.id b.children.now) state next known

pub follow-unknown : (cells : List Cell) (here : Place) (user : ℕ) (b : Branch) (state : State)
    (next : Spot → Next) → b.kind ≡ N.Name → is_some (variable b.word.now state) ≡ false
    → target here user (branch_tree cells b) state next ≡ Refused (E.UnknownName b.span.from)
follow-unknown cells here user b state next kind known =
    ap (λ k. target here user (Node k b.word.now b.span (trees_of cells b.id b.children.now)) state
    next) kind
    ∙ target-unknown here user b.word.now b.span (trees_of cells b.id b.children.now) state next
    known

-- an assignment begins
begins-by : (here : Place) (word : List ℕ) (span : Span) (trees others : Trees) (place : Tree)
    (state : State) (next : Next) (back : Then) → number_of_trees trees ≤ 2
    → trees ≡ Cons place others
    → exec here (Node N.Set word span trees) state next back
    ≡ counted state (λ state. target here span.from place state
    (λ spot state. set_at here (Node N.Set word span trees) spot state next))
begins-by here word span Nil others place state next back few e = absurd (cc)
begins-by here word span (Cons a Nil) others place state next back few e =
    set-begins here word span a Nil state next back (inl refl)
    ∙ ap (λ t. counted state (λ state. target here span.from t state
    (λ spot state. set_at here (Node N.Set word span (Cons a Nil)) spot state next))) (same e)
  where
    same : Cons a Nil ≡ Cons place others → a ≡ place
    same e = cc
begins-by here word span (Cons a (Cons b Nil)) others place state next back few e =
    set-begins here word span a (Cons b Nil) state next back (inr (b, refl))
    ∙ ap (λ t. counted state (λ state. target here span.from t state
    (λ spot state. set_at here (Node N.Set word span (Cons a (Cons b Nil))) spot state next)))
    (same e)
  where
    same : Cons a (Cons b Nil) ≡ Cons place others → a ≡ place
    same e = cc
begins-by here word span (Cons a (Cons b (Cons c trees))) others place state next back few e =
    absurd (omega arith)

pub set-go : (cells : List Cell) (here : Place) (b : Branch) (place : Option ℕ) (state : State)
    (next : Next) (back : Then) → b.kind ≡ N.Set → 0 < length b.children.now
    → length b.children.now ≤ 2 → IsPart b 0 place
    → exec here (branch_tree cells b) state next back
    ≡ counted state (λ state. target here b.span.from (tree_of cells place) state
    (λ spot state. set_at here (branch_tree cells b) spot state next))
set-go cells here b place state next back kind some few says =
    rw kind (begins-by here b.word.now b.span (trees_of cells b.id b.children.now) _
    (tree_of cells place) state next back (few-trees few) (says cells some))
  where
    few-trees : length b.children.now ≤ 2
        → number_of_trees (trees_of cells b.id b.children.now) ≤ 2
    few-trees h = let many = how-many cells b.id b.children.now in omega arith
