-- The members of a class, one after another.
use Rattle.std.proofs.Common.{
  ◌≡◌,
  ◌<◌,
  ◌≤◌,
  ℕ,
  List,
  [],
  ◌∷◌,
  drop,
  Some,
  None,
  Ok,
  Err,
  refl,
  sym,
  ap,
  ◌∙◌,
  ◌+◌,
  length,
  true,
  false,
  arith,
}
use Rattle.std.specs.Prelude.{◌==◌, Bool, Option, Result, slice_get}
use Rattle.std.proofs.lemmas.Bool.Decides.{nat_tests}
use Rattle.mx_base.specs.declared.span.Span.{Span}
use Rattle.maxj_syntax.specs.Cells.{Cell}
use Rattle.maxj_syntax.specs.Tree.{Tree, Node, Trees, Nil, Cons}
use Rattle.maxj_syntax.specs.declared.tree.NodeKind.{NodeKind}
use Rattle.maxj_syntax.specs.declared.tree.NodeKind.TheVariants as N
use Rattle.kernel_meaning.specs.declared.state.Binding.{Binding}
use Rattle.kernel_meaning.specs.declared.value.Declared.{Declared}
use Rattle.kernel_meaning.specs.Constructors.{ahead, ahead_by, ctor_of, members_of}
use Rattle.kernel_meaning.specs.declared.error.EvalError.TheVariants.{UnknownName}
use Rattle.kernel_meaning.specs.declared.value.Value.{Value}
use Rattle.kernel_meaning.specs.Methods.{body_by}
use Rattle.kernel_meaning.specs.Nodes.{missing}
use Rattle.kernel_meaning.specs.Plans.{number_of_trees}
use Rattle.kernel_meaning.specs.Values.{declared_by}
use Rattle.kernel_plans.specs.Called.{constructed}
use Rattle.kernel_rows.specs.Kept.{AreBoundFit}
use Rattle.kernel_plans.specs.Trees.{tree_of, trees_of}
use Rattle.kernel_plans.proofs.MethodTables.{count}
use Rattle.kernel_plans.proofs.Parts.{child}

pub ctor_found : (kind : NodeKind) (word : List ℕ) (span : Span) (trees members : Trees)
    → kind ≡ N.Ctor → ctor_of (Cons (Node kind word span trees) members) ≡ Some (span.from, trees)
ctor_found kind word span trees members k =
    ap (λ k. ctor_of (Cons (Node k word span trees) members)) k

pub no_ctor : (kind : NodeKind) (word : List ℕ) (span : Span) (trees members : Trees)
    → (kind ≡ N.Ctor → ⊥) → ctor_of (Cons (Node kind word span trees) members) ≡ ctor_of members
no_ctor N.Ctor word span trees members other = absurd (other refl)
no_ctor _ word span trees members other = refl

-- fields that are known ahead aren't set
set_none : (name : List ℕ) (type : Result Declared ℕ) (fields : List Binding)
    → AreBoundFit fields → AreBoundFit (ahead_by name type fields)
set_none name (Ok of) fields h = (tt, h)
set_none name (Err at) fields h = (tt, h)

pub fit_ahead : (tree : Tree) (fields : List Binding) → AreBoundFit fields
    → AreBoundFit (ahead tree fields)
fit_ahead (Node N.Field name span (Cons type trees)) fields h =
    set_none name (declared_by type) fields h
fit_ahead _ fields h = h

-- the parts of a method: its result, and its parameters with the block
first_of : Trees → Tree
first_of Nil = missing
first_of (Cons t ts) = t

others_of : Trees → Trees
others_of Nil = Nil
others_of (Cons t ts) = ts

pub method_parts : (cells : List Cell) (kind : NodeKind) (word : List ℕ) (span : Span) (id : ℕ)
    (children : List ℕ) (r : Option ℕ) (name : List ℕ) (at : Span) (result : Tree) (rest : Trees)
    → Node kind word span (trees_of cells id children) ≡ Node N.Method name at (Cons result rest)
    → ((n : ℕ) → slice_get children 0 ≡ Some n → n < id → r ≡ Some n)
    → ((n : ℕ) → slice_get children 0 ≡ Some n → id ≤ n → r ≡ None)
    → (result ≡ tree_of cells r) × (rest ≡ trees_of cells id (drop 1 children))
unfolding first_of others_of
method_parts cells kind word span id [] r name at result rest e before past =
    let none : Nil ≡ Cons result rest = ap members_of e in
    absurd (cc)
method_parts cells kind word span id (c ∷ cs) r name at result rest e before past = (
  sym (ap (λ t. first_of (members_of t)) e) ∙ child cells id c r (before c refl) (past c refl),
  sym (ap (λ t. others_of (members_of t)) e),
)

-- whether the constructor takes so many arguments
counted : (x y : ℕ) → (x == y) ≡ true → x ≡ y
counted x y e = grind (arith, nat_tests)

uncounted : (x y : ℕ) → x ≡ y → (x == y) ≡ true
uncounted x y e = grind (arith, nat_tests)

pub wrong_count : (cells : List Cell) (id : ℕ) (children : List ℕ) (args : List Value) (at : ℕ)
    → (length children ≡ length args + 1 → ⊥)
    → constructed args (Some (at, trees_of cells id children)) ≡ Err (UnknownName at)
wrong_count cells id children args at other =
    by_test (number_of_trees (trees_of cells id children) == length args + 1) refl
  where
    by_test : (b : Bool)
        → (number_of_trees (trees_of cells id children) == length args + 1) ≡ b
        → constructed args (Some (at, trees_of cells id children)) ≡ Err (UnknownName at)
    by_test true e =
        let n = counted (number_of_trees (trees_of cells id children)) (length args + 1) e in
        absurd (other (sym (count cells id children) ∙ n))
    by_test false e = rw e refl

pub right_count : (cells : List Cell) (id : ℕ) (children : List ℕ) (args : List Value) (at : ℕ)
    → length children ≡ length args + 1
    → constructed args (Some (at, trees_of cells id children))
    ≡ body_by None at (trees_of cells id children) args (Ok [])
right_count cells id children args at same =
    let e : (number_of_trees (trees_of cells id children) == length args + 1) ≡ true =
    uncounted (number_of_trees (trees_of cells id children)) (length args + 1)
    (count cells id children ∙ same) in
    rw e refl
