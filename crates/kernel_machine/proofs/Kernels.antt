-- What the first move of a kernel that a manager adds is.
use Rattle.std.proofs.Common.{
  ◌≡◌,
  ◌∙◌,
  ◌≢◌,
  ◌++◌,
  ℕ,
  suc,
  List,
  [],
  ◌∷◌,
  length,
  Some,
  true,
  false,
  refl,
  ap,
  sym,
  arith,
  inl,
  inr,
}
use Rattle.std.specs.Prelude.{◌==◌, Option}
use Rattle.std.proofs.lemmas.Bool.Decides.{nat_tests}
use Rattle.mx_base.specs.declared.span.Span.{Span}
use Rattle.maxj_syntax.specs.Cells.{Cell}
use Rattle.maxj_syntax.specs.Tree.{Tree, Node, Trees, Nil, Cons}
use Rattle.maxj_syntax.specs.declared.tree.NodeKind.{NodeKind}
use Rattle.maxj_syntax.specs.declared.tree.NodeKind.TheVariants as N
use Rattle.kernel_meaning.specs.declared.error.EvalError.TheVariants as E
use Rattle.kernel_meaning.specs.declared.state.State.{State}
use Rattle.kernel_meaning.specs.declared.value.Value.{Value}
use Rattle.kernel_meaning.specs.Answer.{Refused, Then, Next, used}
use Rattle.kernel_meaning.specs.Names.{place_of}
use Rattle.kernel_meaning.specs.Plans.{Library, OfKernel, OfManager, number_of_trees}
use Rattle.kernel_meaning.specs.Rows.{row_of}
use Rattle.kernel_meaning.specs.Run.{Place, addition, classed, expr, is_settings, operands}
use Rattle.kernel_plans.specs.Classes.{ClassView, kernel_in, members}
use Rattle.kernel_plans.specs.Trees.{tree_of, trees_of, branch_tree}
use Rattle.kernel_meaning.specs.declared.row.Row.TheVariants as R
use Rattle.kernel_plans.specs.declared.branch.Branch.{Branch}
use Rattle.kernel_machine.specs.declared.task.Purpose.TheVariants as P
use Rattle.kernel_machine.specs.Answers.{IsCounted, NamesKernel}
use Rattle.kernel_machine.specs.declared.machine.Machine.{Machine}
use Rattle.kernel_machine.specs.declared.task.Task.{Task}
use Rattle.kernel_machine.specs.declared.task.Task.TheVariants as T
use Rattle.kernel_machine.specs.Going.{go, rest, standing}
use Rattle.kernel_machine.specs.Left.{
  new_at,
  named_by,
  settings_at,
  first_argument_at,
  wrong_at,
  without_first,
  parts,
  operands_left,
  added,
}
use Rattle.kernel_machine.proofs.Moves.{counted-to, evaluated}
use Rattle.kernel_machine.proofs.Places.{how-many}

pub addition-odd : (here : Place) (at : ℕ) (trees : Trees) (state : State) (next : Then)
    → number_of_trees trees ≢ 1 → addition here at trees state next ≡ Refused (E.WrongKind at)
unfolding expr
addition-odd here at Nil state next h = refl
addition-odd here at (Cons a Nil) state next h = absurd (h refl)
addition-odd here at (Cons (Node N.New w s Nil) (Cons b trees)) state next h = refl
addition-odd here at (Cons (Node N.New w s (Cons (Node N.Call x y z) ts)) (Cons b trees)) state
    next h = refl
addition-odd here at (Cons (Node N.New w s (Cons (Node _ x y z) ts)) (Cons b trees)) state next
    h = refl
addition-odd here at (Cons (Node _ w s ts) (Cons b trees)) state next h = refl

new-by : (here : Place) (at : ℕ) (word : List ℕ) (span : Span) (trees : Trees) (state : State)
    (next : Then) → addition here at (Cons (Node N.New word span trees) Nil) state next
    ≡ new_at here (Node N.New word span trees) state next
unfolding expr
new-by here at word span Nil state next = refl
new-by here at word span (Cons (Node N.Call x y z) trees) state next = refl
new-by here at word span (Cons (Node _ x y z) trees) state next = refl

pub addition-new : (here : Place) (at : ℕ) (trees : Trees) (tree : Tree) (kind : NodeKind)
    (word : List ℕ) (span : Span) (below : Trees) (state : State) (next : Then)
    → trees ≡ Cons tree Nil → tree ≡ Node kind word span below → kind ≡ N.New
    → addition here at trees state next ≡ new_at here tree state next
addition-new here at trees tree kind word span below state next e f k =
    rw (e, f, k) (new-by here at word span below state next)

pub classed-some : (library : Library) (at : ℕ) (name : List ℕ) (number : ℕ) (state : State)
    (next : ℕ → Next) → kernel_in library name ≡ Some number
    → classed library at name state next ≡ next number state
classed-some OfKernel at name number state next h = absurd (cc)
classed-some (OfManager kernels) at name number state next h = rw h refl

-- the new object of a known class, with a first argument
pub begins-new : (class : ClassView) (old new : Machine) (tree settings : Tree) (kind : NodeKind)
    (word : List ℕ) (span : Span) (trees others : Trees) (number : ℕ)
    → tree ≡ Node kind word span trees → trees ≡ Cons settings others
    → kernel_in (standing class old).library word ≡ Some number → IsCounted old true new
    → new_at (standing class old) tree old.state (rest class old)
    ≡ settings_at (standing class new) tree number settings new.state (rest class new)
begins-new class old new tree settings kind word span trees others number e f k counted =
    step
    ∙ (classed-some (standing class old).library span.from word number new.state _ k
    ∙ rw (f, counted.1) refl)
  where
    step : new_at (standing class old) tree old.state (rest class old)
        ≡ classed (standing class old).library span.from word new.state
        (λ class' state. first_argument_at (standing class old) tree class' trees state (rest
        class old))
    step = rw e (counted-to old new _ counted)

pub settings-are : (here : Place) (new settings : Tree) (class : ℕ) (kind : NodeKind)
    (word : List ℕ) (span : Span) (names : Trees) (state : State) (next : Then)
    → settings ≡ Node kind word span names → kind ≡ N.Call → is_settings here word ≡ true
    → settings_at here new class settings state next
    ≡ named_by here new class span.from names state next
settings-are here new settings class kind word span names state next e k h = rw (e, k, h) refl

pub settings-not : (here : Place) (new settings : Tree) (class : ℕ) (kind : NodeKind)
    (word : List ℕ) (span : Span) (names : Trees) (state : State) (next : Then)
    → settings ≡ Node kind word span names → kind ≡ N.Call → is_settings here word ≡ false
    → settings_at here new class settings state next
    ≡ wrong_at here (place_of new) (parts new) state next
settings-not here new settings class kind word span names state next e k h = rw (e, k, h) refl

other-by : (here : Place) (new : Tree) (class : ℕ) (kind : NodeKind) (word : List ℕ) (span : Span)
    (names : Trees) (state : State) (next : Then) → kind ≢ N.Call
    → settings_at here new class (Node kind word span names) state next
    ≡ wrong_at here (place_of new) (parts new) state next
other-by here new class N.Call word span names state next h = absurd (h refl)
other-by here new class _ word span names state next h = refl

pub settings-other : (here : Place) (new settings : Tree) (class : ℕ) (kind : NodeKind)
    (word : List ℕ) (span : Span) (names : Trees) (state : State) (next : Then)
    → settings ≡ Node kind word span names → kind ≢ N.Call
    → settings_at here new class settings state next
    ≡ wrong_at here (place_of new) (parts new) state next
settings-other here new settings class kind word span names state next e h =
    rw e (other-by here new class kind word span names state next h)

-- the name of a kernel
pub is-one : (n : ℕ) → n ≡ 1 → (n == 1) ≡ true
is-one n e = rw e refl

pub isnt-one : (n : ℕ) → n ≢ 1 → (n == 1) ≡ false
isnt-one n h = grind (arith, nat_tests)

pub named-odd : (class : ClassView) (old new : Machine) (tree : Tree) (number at : ℕ)
    (names : Trees) → (number_of_trees names == 1) ≡ false → IsCounted old true new
    → named_by (standing class old) tree number at names old.state (rest class old)
    ≡ Refused (E.UnknownName at)
named-odd class old new tree number at names h counted =
    counted-to old new _ counted ∙ rw h refl

pub without-first : (cells : List Cell) (id : ℕ) (children : List ℕ) (fewer : ℕ)
    → length children ≡ suc fewer → without_first (trees_of cells id children) ≡ fewer
without-first cells id [] fewer h = absurd (omega arith)
without-first cells id (n ∷ ns) fewer h =
    how-many cells id ns ∙ (omega arith)

pub settings-none : (class : ClassView) (machine : Machine) (new settings : Tree) (number : ℕ)
    (b : Branch) (state : State) (next : Then) → settings ≡ branch_tree class.cells b
    → NamesKernel (members class) b false
    → settings_at (standing class machine) new number settings state next
    ≡ wrong_at (standing class machine) (place_of new) (parts new) state next
settings-none class machine new settings number b state next e (inl h) =
    settings-other (standing class machine) new settings number b.kind b.word.now b.span
    (trees_of class.cells b.id b.children.now) state next e h
settings-none class machine new settings number b state next e (inr h) =
    settings-not (standing class machine) new settings number b.kind b.word.now b.span
    (trees_of class.cells b.id b.children.now) state next e h.0 h.1

-- all operands of a new object of the wrong form
pub wrong-reads : (class : ClassView) (machine : Machine) (node : Option ℕ) (b : Branch)
    (count : ℕ) → tree_of class.cells node ≡ branch_tree class.cells b
    → count ≡ length b.children.now
    → wrong_at (standing class machine) (place_of (tree_of class.cells node))
    (parts (tree_of class.cells node)) machine.state (rest class machine)
    ≡ operands_left class.cells (standing class machine)
    (P.ForRow R.WrongArguments) b.span.from node
    0 count [] machine.state (rest class machine)
unfolding row_of
wrong-reads class machine node b count e h =
    let many = how-many class.cells b.id b.children.now in
    rw (e, h, ← many) refl

-- a kernel that has its name waits for its first argument
pub named-next : (class : ClassView) (old : Machine) (node : Option ℕ) (b : Branch)
    (part : Option ℕ) (number : ℕ) (name : List ℕ) (count : ℕ) (values : List Value)
    → tree_of class.cells node ≡ branch_tree class.cells b → values ≡ []
    → expr (standing class old) (tree_of class.cells part) old.state
    (λ value state. used (place_of (tree_of class.cells node)) value state
    (λ value state. operands (standing class old) (place_of (tree_of class.cells node)) 2 count
    (parts (tree_of class.cells node)) ([] ++ value ∷ []) state
    (λ values state. added (place_of (tree_of class.cells node)) number name values state (rest
    class old))))
    ≡ evaluated class old (T.Operands node b.span.from 2 count (P.ForKernel number name) values) part
unfolding go
named-next class old node b part number name count values e v =
    let at = sym (ap place_of e) in rw (v, at) refl
