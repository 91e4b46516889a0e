-- The plans of calls, by what stands in the tree.
use Rattle.std.proofs.Common.{
  ◌≡◌,
  ◌∙◌,
  ◌<◌,
  ◌≤◌,
  ◌==◌,
  ◌++◌,
  ℕ,
  List,
  [],
  ◌∷◌,
  ◌+◌,
  length,
  Some,
  None,
  true,
  false,
  refl,
  ap,
  sym,
  arith,
}
use Rattle.std.specs.Prelude.{Option, Bool, is_some, slice_get, codes, nat_lt, if◌then◌else◌}
use Rattle.maxj_syntax.specs.Cells.{Cell}
use Rattle.maxj_syntax.specs.Tree.{Tree, Trees}
use Rattle.maxj_syntax.specs.declared.tree.NodeKind.TheVariants as N
use Rattle.kernel_meaning.specs.Constructors.{is_manager}
use Rattle.kernel_meaning.specs.Names.{path_of, root_word, root_place, is_root}
use Rattle.kernel_meaning.specs.Nodes.{tree_at, child_by}
use Rattle.kernel_meaning.specs.Plans as Plans
use Rattle.kernel_meaning.specs.Values.{declared_by}
use Rattle.kernel_meaning.specs.declared.row.Row.TheVariants as R
use Rattle.kernel_meaning.specs.declared.state.State.{State}
use Rattle.kernel_plans.specs.Trees.{tree_of, trees_of}
use Rattle.kernel_plans.proofs.Parts.{child}
use Rattle.kernel_plans.proofs.Places.{number_of_trees-is}

-- a call of a method of the own class
pub own_call : (scope : Plans.Scope) (s : State) (word : List ℕ) (at : ℕ) (cells : List Cell)
    (id : ℕ) (children : List ℕ) (params count : ℕ) → scope.methods word ≡ Some params
    → count ≡ length children
    → Plans.plan_of scope s N.Call word at (trees_of cells id children)
    ≡ Plans.takes (params == count) at (Plans.Reads (R.OwnMethod word) 0 count)
unfolding Plans.plan_of
own_call scope s word at cells id children params count given e =
    let trees = trees_of cells id children in
    ap (λ n. Plans.call_plan scope.library s word at n trees (scope.methods word))
    (number_of_trees-is cells id children ∙ sym e)
    ∙ ap (Plans.call_plan scope.library s word at count trees) given

-- a call of the library by a name
pub library_call : (scope : Plans.Scope) (s : State) (word : List ℕ) (at : ℕ) (cells : List Cell)
    (id : ℕ) (children : List ℕ) (count : ℕ) → scope.methods word ≡ None
    → count ≡ length children
    → Plans.plan_of scope s N.Call word at (trees_of cells id children)
    ≡ Plans.named_plan scope.library s word at count (trees_of cells id children)
unfolding Plans.plan_of
library_call scope s word at cells id children count given e =
    let trees = trees_of cells id children in
    ap (λ n. Plans.call_plan scope.library s word at n trees (scope.methods word))
    (number_of_trees-is cells id children ∙ sym e)
    ∙ ap (Plans.call_plan scope.library s word at count trees) given

pub named_by_manager : (library : Plans.Library) (s : State) (word : List ℕ) (at count : ℕ)
    (trees : Trees) (sign : List ℕ) (adds : Bool) → is_manager library ≡ true
    → sign ≡ Plans.path_at s (Plans.part trees 2) → adds ≡ Plans.is_new (Plans.part trees 0)
    → Plans.named_plan library s word at count trees ≡ Plans.manager_plan word at count sign adds
named_by_manager Plans.OfKernel s word at count trees sign adds m e f = cc
named_by_manager (Plans.OfManager kernels) s word at count trees sign adds m e f =
    ap (λ p. Plans.manager_plan word at count p (Plans.is_new (Plans.part trees 0))) (sym e)
    ∙ ap (Plans.manager_plan word at count sign) (sym f)

pub named_by_kernel : (library : Plans.Library) (s : State) (word : List ℕ) (at count : ℕ)
    (trees : Trees) (sign : List ℕ) → is_manager library ≡ false
    → sign ≡ Plans.path_at s (Plans.part trees 2)
    → Plans.named_plan library s word at count trees ≡ Plans.type_plan word at count sign
named_by_kernel Plans.OfKernel s word at count trees sign m e =
    ap (Plans.type_plan word at count) (sym e)
named_by_kernel (Plans.OfManager kernels) s word at count trees sign m e = cc

pub method_of_kernel : (library : Plans.Library) (word : List ℕ) (at count : ℕ) (trees : Trees)
    → is_manager library ≡ false → Plans.method_plan library word at count trees
    ≡ Plans.stream_method_plan word at count (Plans.is_this_part (Plans.part trees 1))
method_of_kernel Plans.OfKernel word at count trees m = refl
method_of_kernel (Plans.OfManager kernels) word at count trees m = cc

-- a call behind a dot
pub dotted_call : (scope : Plans.Scope) (s : State) (word : List ℕ) (at : ℕ) (cells : List Cell)
    (id : ℕ) (children : List ℕ) (r : Option ℕ) (count : ℕ) → 1 ≤ length children
    → count + 1 ≡ length children
    → ((n : ℕ) → slice_get children 0 ≡ Some n → n < id → r ≡ Some n)
    → ((n : ℕ) → slice_get children 0 ≡ Some n → id ≤ n → r ≡ None)
    → Plans.plan_of scope s N.DotCall word at (trees_of cells id children)
    ≡ Plans.dotted_plan scope.library s word at count (tree_of cells r)
    (trees_of cells id children) (path_of s (tree_of cells r))
unfolding Plans.plan_of
dotted_call scope s word at cells id [] r count h e before after = absurd (omega (arith, h))
dotted_call scope s word at cells id (n ∷ ns) r count h e before after =
    let trees = trees_of cells id (n ∷ ns) in
    let base = child_by (tree_at cells) n (nat_lt n id) in
    let rest : length ns ≡ count = omega (arith, e) in
    ap (λ m. Plans.dotted_plan scope.library s word at m base trees (path_of s base))
    (number_of_trees-is cells id ns ∙ rest)
    ∙ ap (λ t. Plans.dotted_plan scope.library s word at count t trees (path_of s t))
    (child cells id n r (before n refl) (after n refl))

-- a method of a value
pub no_path : (library : Plans.Library) (s : State) (word : List ℕ) (at count : ℕ) (base : Tree)
    (trees : Trees) (path : Option (List ℕ)) → is_some path ≡ false
    → Plans.dotted_plan library s word at count base trees path
    ≡ Plans.method_plan library word at count trees
no_path library s word at count base trees None h = refl
no_path library s word at count base trees (Some path) h = cc

-- a path of which the first name isn't one of the library's
pub foreign_path : (library : Plans.Library) (s : State) (word : List ℕ) (at count : ℕ) (base : Tree)
    (trees : Trees) (path : Option (List ℕ)) → is_some path ≡ true
    → is_root (root_word base) ≡ false
    → Plans.dotted_plan library s word at count base trees path ≡ Plans.unknown (root_place base)
foreign_path library s word at count base trees None h e = cc
foreign_path library s word at count base trees (Some path) h e =
    ap (λ b. if b then Plans.path_plan library s (path ++ codes "." ++ word) at count trees
    else Plans.unknown (root_place base)) e

library_path_by : (library : Plans.Library) (s : State) (path : List ℕ) (at count : ℕ) (trees : Trees)
    → is_manager library ≡ true → Plans.path_plan library s path at count trees ≡ Plans.unknown at
library_path_by Plans.OfKernel s path at count trees m = cc
library_path_by (Plans.OfManager kernels) s path at count trees m = refl

-- a path of the library, in a manager
pub manager_path : (library : Plans.Library) (s : State) (word : List ℕ) (at count : ℕ) (base : Tree)
    (trees : Trees) (path : Option (List ℕ)) → is_some path ≡ true
    → is_root (root_word base) ≡ true → is_manager library ≡ true
    → Plans.dotted_plan library s word at count base trees path ≡ Plans.unknown at
manager_path library s word at count base trees None h e m = cc
manager_path library s word at count base trees (Some path) h e m =
    ap (λ b. if b then Plans.path_plan library s (path ++ codes "." ++ word) at count trees
    else Plans.unknown (root_place base)) e
    ∙ library_path_by library s (path ++ codes "." ++ word) at count trees m

path_of_kernel : (library : Plans.Library) (s : State) (path : List ℕ) (at count : ℕ) (trees : Trees)
    → is_manager library ≡ false → Plans.path_plan library s path at count trees
    ≡ Plans.library_plan path at count (Plans.path_at s (Plans.part trees 1))
path_of_kernel Plans.OfKernel s path at count trees m = refl
path_of_kernel (Plans.OfManager kernels) s path at count trees m = cc

-- a path of the library, in a kernel
pub kernel_path : (library : Plans.Library) (s : State) (word : List ℕ) (at count : ℕ) (base : Tree)
    (trees : Trees) (path : List ℕ) → is_root (root_word base) ≡ true
    → is_manager library ≡ false
    → Plans.dotted_plan library s word at count base trees (Some path)
    ≡ Plans.library_plan (path ++ codes "." ++ word) at count (Plans.path_at s (Plans.part trees 1))
kernel_path library s word at count base trees path e m =
    ap (λ b. if b then Plans.path_plan library s (path ++ codes "." ++ word) at count trees
    else Plans.unknown (root_place base)) e
    ∙ path_of_kernel library s (path ++ codes "." ++ word) at count trees m

pub is_path : (path : Option (List ℕ)) → is_some path ≡ true → (p : List ℕ) × (path ≡ Some p)
is_path None h = absurd (cc)
is_path (Some path) h = (path, refl)

-- the path that a tree is
pub path_text : (s : State) (tree : Tree) (path : List ℕ) → path_of s tree ≡ Some path
    → Plans.path_at s (Some tree) ≡ path
path_text s tree path e = ap (λ (o : Option (List ℕ)). elim o [ None ↦ [] | Some p ↦ p ]) e

no_text_by : (o : Option (List ℕ)) → is_some o ≡ false
    → ◌≡◌ {A = List ℕ} (elim o [ None ↦ [] | Some p ↦ p ]) []
no_text_by None h = refl
no_text_by (Some p) h = cc

pub no_text : (s : State) (tree : Tree) → is_some (path_of s tree) ≡ false
    → Plans.path_at s (Some tree) ≡ []
no_text s tree h = no_text_by (path_of s tree) h

-- a new array
pub array_call : (scope : Plans.Scope) (s : State) (word : List ℕ) (at : ℕ) (cells : List Cell)
    (id : ℕ) (children : List ℕ) (r : Option ℕ) (count : ℕ) → 1 ≤ length children
    → count + 1 ≡ length children
    → ((n : ℕ) → slice_get children 0 ≡ Some n → n < id → r ≡ Some n)
    → ((n : ℕ) → slice_get children 0 ≡ Some n → id ≤ n → r ≡ None)
    → Plans.plan_of scope s N.NewArray word at (trees_of cells id children)
    ≡ Plans.array_plan (declared_by (tree_of cells r)) count
unfolding Plans.plan_of
array_call scope s word at cells id [] r count h e before after = absurd (omega (arith, h))
array_call scope s word at cells id (n ∷ ns) r count h e before after =
    let base = child_by (tree_at cells) n (nat_lt n id) in
    let rest : length ns ≡ count = omega (arith, e) in
    ap (Plans.array_plan (declared_by base)) (number_of_trees-is cells id ns ∙ rest)
    ∙ ap (λ t. Plans.array_plan (declared_by t) count) (child cells id n r (before n refl) (after n refl))
