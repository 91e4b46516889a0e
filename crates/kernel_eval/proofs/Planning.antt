-- What a source builds, by its classes.
use Rattle.std.proofs.Common.{◌≡◌, ◌∙◌, ℕ, List, [], ◌∷◌, Some, None, Err, true, false, refl, sym, ap, subst}
use Rattle.std.specs.Prelude.{Bool, Option, find, if◌then◌else◌}
use Rattle.maxj_syntax.specs.Cells.{Cell}
use Rattle.maxj_syntax.specs.Tree.{ClassTree, ClassIs, ClassesAre}
use Rattle.maxj_syntax.specs.declared.tree.Class.{Class}
use Rattle.kernel_calls.specs.Laws.{is_port_name}
use Rattle.kernel_meaning.specs.declared.error.EvalError.TheVariants as E
use Rattle.kernel_meaning.specs.Names.{place_of}
use Rattle.kernel_meaning.specs.Constructors.{run_of, members_of, ctor_of, step_limit}
use Rattle.kernel_meaning.specs.Managers.{kernel_number, manager_run, manager_of, alone_from, one_kernel}
use Rattle.kernel_meaning.specs.Plans.{OfManager}
use Rattle.kernel_meaning.proofs.NodeTrees.{read_tree}
use Rattle.kernel_plans.specs.Trees.{tree_of, branch_tree}
use Rattle.kernel_plans.specs.declared.branch.Branch.{Branch}
use Rattle.kernel_eval.specs.Runs.{run_with}

class-same : {a b : Class} → Some a ≡ Some b → a ≡ b
class-same e = cc

-- what the manager among classes and the one among their trees have to do with each other
abbrev IsManager : List Cell → List ClassTree → Class → Type 0
IsManager nodes ts c = (t : ClassTree) × (manager_of ts ≡ Some t) × ClassIs nodes c t

some-by : (nodes : List Cell) (d c : Class) (cs : List Class) (t : ClassTree) (ts : List ClassTree)
    (b : Bool) → d.manager ≡ b → ClassIs nodes d t
    → find (λ (x : Class). x.manager) (d ∷ cs) ≡ Some c
    → (find (λ (x : Class). x.manager) cs ≡ Some c → IsManager nodes ts c)
    → IsManager nodes (t ∷ ts) c
some-by nodes d c cs t ts true m is e rest =
    let found = subst (λ (b : Bool).
    (if b then Some d else find (λ (x : Class). x.manager) cs) ≡ Some c) m e in
    let same : d ≡ c = class-same found in
    (t, rw (sym is.manager ∙ m) refl, subst (λ x. ClassIs nodes x t) same is)
some-by nodes d c cs t ts false m is e rest =
    let behind = subst (λ (b : Bool).
    (if b then Some d else find (λ (x : Class). x.manager) cs) ≡ Some c) m e in
    let r = rest behind in
    (r.0, rw (sym is.manager ∙ m) r.1, r.2)

pub some-manager : (nodes : List Cell) (cs : List Class) (ts : List ClassTree) (c : Class)
    → ClassesAre nodes cs ts → find (λ (x : Class). x.manager) cs ≡ Some c
    → IsManager nodes ts c
some-manager nodes [] [] c h e = absurd (cc)
some-manager nodes [] (t ∷ ts) c h e = absurd h
some-manager nodes (d ∷ cs) [] c h e = absurd h
some-manager nodes (d ∷ cs) (t ∷ ts) c h e =
    some-by nodes d c cs t ts d.manager refl h.0 e (λ k. some-manager nodes cs ts c h.1 k)

none-by : (nodes : List Cell) (d : Class) (cs : List Class) (t : ClassTree) (ts : List ClassTree)
    (b : Bool) → d.manager ≡ b → ClassIs nodes d t
    → find (λ (x : Class). x.manager) (d ∷ cs) ≡ None
    → (find (λ (x : Class). x.manager) cs ≡ None → manager_of ts ≡ None)
    → manager_of (t ∷ ts) ≡ None
none-by nodes d cs t ts true m is e rest =
    let found = subst (λ (b : Bool).
    (if b then Some d else find (λ (x : Class). x.manager) cs) ≡ None) m e in
    absurd (cc)
none-by nodes d cs t ts false m is e rest =
    let behind = subst (λ (b : Bool).
    (if b then Some d else find (λ (x : Class). x.manager) cs) ≡ None) m e in
    rw (sym is.manager ∙ m) (rest behind)

pub no-manager : (nodes : List Cell) (cs : List Class) (ts : List ClassTree)
    → ClassesAre nodes cs ts → find (λ (x : Class). x.manager) cs ≡ None → manager_of ts ≡ None
no-manager nodes [] [] h e = refl
no-manager nodes [] (t ∷ ts) h e = absurd h
no-manager nodes (d ∷ cs) [] h e = absurd h
no-manager nodes (d ∷ cs) (t ∷ ts) h e =
    none-by nodes d cs t ts d.manager refl h.0 e (λ k. no-manager nodes cs ts h.1 k)

-- the run of a manager's class is that of its tree
pub manager-run : (cells : List Cell) (manager : Class) (trees : List ClassTree) (t : ClassTree)
    (kernels : List ℕ → Option ℕ) → ClassIs cells manager t → kernels ≡ kernel_number trees
    → run_with cells manager.node (OfManager kernels) [] ≡ manager_run trees t
manager-run cells manager trees t kernels is same =
    rw same (ap (λ u. run_of (OfManager (kernel_number trees)) (members_of u) [] step_limit
    (ctor_of (members_of u))) (read_tree cells manager.node t.tree is.node))

alone-by : (t : ClassTree) (ts : List ClassTree) (b : Bool) → t.manager ≡ b
    → manager_of (t ∷ ts) ≡ None → alone_from 0 (t ∷ ts) ≡ one_kernel 0 t
alone-by t ts true m none =
    let found = subst (λ (b : Bool).
    (if b then Some t else find (λ (x : ClassTree). x.manager) ts) ≡ None) m none in
    absurd (cc)
alone-by t ts false m none = rw m refl

-- without a manager the first class is the one that is built
pub first-alone : (t : ClassTree) (ts : List ClassTree) → manager_of (t ∷ ts) ≡ None
    → alone_from 0 (t ∷ ts) ≡ one_kernel 0 t
first-alone t ts none = alone-by t ts t.manager refl none

-- a class whose name no kernel has
pub bad-place : (cells : List Cell) (class : Class) (kernel : ClassTree) (b : Branch)
    → ClassIs cells class kernel → tree_of cells (Some class.node) ≡ branch_tree cells b
    → is_port_name kernel.name ≡ false
    → one_kernel 0 kernel ≡ Err (E.BadPortName b.span.from)
bad-place cells class kernel b is e plain =
    let same : kernel.tree ≡ branch_tree cells b =
    sym (read_tree cells class.node kernel.tree is.node) ∙ e in
    rw plain (ap (λ u. Err (E.BadPortName (place_of u))) same)
