-- Parameters that get their values one after another, and fields.
use Rattle.std.proofs.Common.{◌≡◌, ◌<◌, ◌≤◌, ℕ, true, false, List, [], ◌∷◌, length, Some, None, Ok, Err, refl, sym, ap, subst, ◌∙◌, arith}
use Rattle.std.specs.Prelude.{Option, Result, slice_get, nat_lt, is_some, IsErr, IsErrAnd}
use Rattle.mx_base.specs.declared.span.Span.{Span}
use Rattle.maxj_syntax.specs.Cells.{Cell}
use Rattle.maxj_syntax.specs.Tree.{Tree, Node, Trees, Nil, Cons}
use Rattle.maxj_syntax.specs.declared.tree.NodeKind.{NodeKind}
use Rattle.maxj_syntax.specs.declared.tree.NodeKind.TheVariants as N
use Rattle.kernel_meaning.specs.declared.error.EvalError.{EvalError}
use Rattle.kernel_meaning.specs.declared.error.EvalError.TheVariants as E
use Rattle.kernel_meaning.specs.declared.state.Binding.{Binding}
use Rattle.kernel_meaning.specs.declared.value.Declared.{Declared}
use Rattle.kernel_meaning.specs.declared.value.Value.{Value}
use Rattle.kernel_meaning.specs.Constructors.{ahead, ahead_by}
use Rattle.kernel_meaning.specs.Methods.{Body, body_by, bound_by}
use Rattle.kernel_meaning.specs.Names.{bound_in}
use Rattle.kernel_meaning.specs.Nodes.{child_by, tree_at}
use Rattle.kernel_meaning.specs.Values.{declared_by, has_kind}
use Rattle.kernel_plans.specs.Called.{IsBound, IsBody}
use Rattle.kernel_plans.specs.Trees.{tree_of, trees_of}
use Rattle.kernel_plans.specs.declared.binding.Entered.{Entered}
use Rattle.kernel_plans.proofs.Parts.{child}

-- a parameter whose parts are its type alone, or others
one_step : (kind : NodeKind) (word : List ℕ) (span : Span) (type : Tree) (wanted : Option Declared)
    (user : ℕ) (trees : Trees) (value : Value) (values : List Value) (old : List Binding)
    → body_by wanted user (Cons (Node kind word span (Cons type Nil)) trees) (value ∷ values) (Ok old)
    ≡ body_by wanted user trees values
    (bound_by user span.from word value old (declared_by type))
one_step kind word span type wanted user Nil value values old = refl
one_step kind word span type wanted user (Cons t ts) value values old = refl

untyped : (kind : NodeKind) (word : List ℕ) (span : Span) (wanted : Option Declared) (user : ℕ)
    (trees : Trees) (value : Value) (values : List Value) (old : List Binding)
    → body_by wanted user (Cons (Node kind word span Nil) trees) (value ∷ values) (Ok old)
    ≡ Err (E.UnknownName user)
untyped kind word span wanted user Nil value values old = refl
untyped kind word span wanted user (Cons t ts) value values old = refl

two_types : (kind : NodeKind) (word : List ℕ) (span : Span) (a b : Tree) (more : Trees)
    (wanted : Option Declared) (user : ℕ) (trees : Trees) (value : Value) (values : List Value)
    (old : List Binding)
    → body_by wanted user (Cons (Node kind word span (Cons a (Cons b more))) trees) (value ∷ values)
    (Ok old) ≡ Err (E.UnknownName user)
two_types kind word span a b more wanted user Nil value values old = refl
two_types kind word span a b more wanted user (Cons t ts) value values old = refl

-- a parameter with one part, its type
pub step : (cells : List Cell) (kind : NodeKind) (word : List ℕ) (span : Span) (id : ℕ)
    (children : List ℕ) (r : Option ℕ) (wanted : Option Declared) (user : ℕ) (trees : Trees)
    (value : Value) (values : List Value) (old : List Binding) → length children ≡ 1
    → ((n : ℕ) → slice_get children 0 ≡ Some n → n < id → r ≡ Some n)
    → ((n : ℕ) → slice_get children 0 ≡ Some n → id ≤ n → r ≡ None)
    → body_by wanted user (Cons (Node kind word span (trees_of cells id children)) trees)
    (value ∷ values) (Ok old) ≡ body_by wanted user trees values
    (bound_by user span.from word value old (declared_by (tree_of cells r)))
step cells kind word span id [] r wanted user trees value values old one before past =
    absurd (omega arith)
step cells kind word span id (c ∷ d ∷ ds) r wanted user trees value values old one before past =
    absurd (omega arith)
step cells kind word span id (c ∷ []) r wanted user trees value values old one before past =
    one_step kind word span (child_by (tree_at cells) c (nat_lt c id)) wanted user trees value values
    old
    ∙ ap (λ t. body_by wanted user trees values
    (bound_by user span.from word value old (declared_by t)))
    (child cells id c r (before c refl) (past c refl))

-- a parameter with more parts, or none
pub no_step : (cells : List Cell) (kind : NodeKind) (word : List ℕ) (span : Span) (id : ℕ)
    (children : List ℕ) (wanted : Option Declared) (user : ℕ) (trees : Trees) (value : Value)
    (values : List Value) (old : List Binding) → (length children ≡ 1 → ⊥)
    → body_by wanted user (Cons (Node kind word span (trees_of cells id children)) trees)
    (value ∷ values) (Ok old) ≡ Err (E.UnknownName user)
no_step cells kind word span id [] wanted user trees value values old one =
    untyped kind word span wanted user trees value values old
no_step cells kind word span id (c ∷ []) wanted user trees value values old one =
    absurd (one refl)
no_step cells kind word span id (c ∷ d ∷ ds) wanted user trees value values old one =
    two_types kind word span (child_by (tree_at cells) c (nat_lt c id))
    (child_by (tree_at cells) d (nat_lt d id)) (trees_of cells id ds) wanted user trees value values
    old

-- after a refusal there is no body
pub failed : (wanted : Option Declared) (user : ℕ) (trees : Trees) (values : List Value)
    (e : EvalError) → body_by wanted user trees values (Err e) ≡ Err e
failed wanted user Nil values e = refl
failed wanted user (Cons t ts) values e = refl

-- what becomes of a parameter of this type
pub twice : (user at : ℕ) (name : List ℕ) (value : Value) (old : List Binding) (of : Declared)
    → is_some (bound_in name old) ≡ true → bound_by user at name value old (Ok of)
    ≡ Err (E.NameTwice at)
twice user at name value old of e = rw e refl

pub wrong : (user at : ℕ) (name : List ℕ) (value : Value) (old : List Binding) (of : Declared)
    → is_some (bound_in name old) ≡ false → has_kind of value ≡ false
    → bound_by user at name value old (Ok of) ≡ Err (E.WrongKind user)
wrong user at name value old of e f = rw (e, f) refl

pub right : (user at : ℕ) (name : List ℕ) (value : Value) (old : List Binding) (of : Declared)
    → is_some (bound_in name old) ≡ false → has_kind of value ≡ true
    → bound_by user at name value old (Ok of)
    ≡ Ok (record { name = name; of = of; value = value } ∷ old)
right user at name value old of e f = rw (e, f) refl

two_left : (a b : Tree) (more : Trees) (wanted : Option Declared) (user : ℕ)
    (variables : List Binding) → body_by wanted user (Cons a (Cons b more)) [] (Ok variables)
    ≡ Err (E.UnknownName user)
two_left (Node kind word span Nil) b more wanted user variables = refl
two_left (Node kind word span (Cons t Nil)) b more wanted user variables = refl
two_left (Node kind word span (Cons t (Cons u us))) b more wanted user variables = refl

-- the block alone is left, or something else
pub ended : (cells : List Cell) (id : ℕ) (rest : List ℕ) (wanted : Option Declared) (user : ℕ)
    (variables : List Binding) → (length rest ≡ 1 → ⊥)
    → body_by wanted user (trees_of cells id rest) [] (Ok variables) ≡ Err (E.UnknownName user)
ended cells id [] wanted user variables one = refl
ended cells id (c ∷ []) wanted user variables one = absurd (one refl)
ended cells id (c ∷ d ∷ ds) wanted user variables one =
    two_left (child_by (tree_at cells) c (nat_lt c id)) (child_by (tree_at cells) d (nat_lt d id))
    (trees_of cells id ds) wanted user variables

-- a list without length is empty
pub no_length : {A : Type 0} (xs : List A) → length xs ≡ 0 → xs ≡ []
no_length [] e = refl
no_length (x ∷ xs) e = absurd (omega arith)

-- a refusal of a parameter is one of the whole
pub refused : (cells : List Cell) (whole : Result Body EvalError) (wanted : Option Declared)
    (user : ℕ) (tree : Tree) (trees : Trees) (value : Value) (values : List Value)
    (old new : List Binding) (e : EvalError)
    → whole ≡ body_by wanted user (Cons tree trees) (value ∷ values) (Ok old)
    → IsBound user tree value old new (Err e) → IsBody cells whole (Err e)
refused cells whole wanted user tree trees value values old new E.NoMemory w h = tt
refused cells whole wanted user tree trees value values old new _ w h = w ∙ h wanted trees values

pub handed_on : (cells : List Cell) (whole : Result Body EvalError) (r : Result Entered EvalError)
    (e : EvalError) → IsErr r → IsErrAnd r (λ x. x ≡ e) → IsBody cells whole (Err e)
    → IsBody cells whole r
handed_on cells whole (Ok entered) e n h f = absurd (cc)
handed_on cells whole (Err x) e n h f = subst (λ x. IsBody cells whole (Err x)) (sym h) f

-- a field
pub ahead_field : (cells : List Cell) (kind : NodeKind) (word : List ℕ) (span : Span) (id : ℕ)
    (children : List ℕ) (r : Option ℕ) (fields : List Binding) → kind ≡ N.Field
    → (length children ≡ 0 → ⊥)
    → ((n : ℕ) → slice_get children 0 ≡ Some n → n < id → r ≡ Some n)
    → ((n : ℕ) → slice_get children 0 ≡ Some n → id ≤ n → r ≡ None)
    → ahead (Node kind word span (trees_of cells id children)) fields
    ≡ ahead_by word (declared_by (tree_of cells r)) fields
ahead_field cells kind word span id [] r fields k some before past = absurd (some refl)
ahead_field cells kind word span id (c ∷ cs) r fields k some before past =
    ap (λ k. ahead (Node k word span (trees_of cells id (c ∷ cs))) fields) k
    ∙ ap (λ t. ahead_by word (declared_by t) fields) (child cells id c r (before c refl) (past c refl))
