-- The kernels that a plan adds can be built, and have the plan's names.
use Rattle.std.proofs.Common.{◌≡◌, ◌∙◌, ℕ, ◌+◌, ◌<◌, List, [], ◌∷◌, ◌++◌, length, map, take, get_or, refl, ap, sym, subst}
use Rattle.std.specs.Prelude.{All}
use Rattle.std.proofs.lemmas.List.{take_more}
use Rattle.std.proofs.lemmas.List.Elements.{All-nil, All-cons}
use Rattle.kernel_eval.specs.Runs.{IsKernelAt, IsTyped}
use Rattle.kernel_meaning.specs.declared.plan.Arg.{Arg}
use Rattle.kernel_meaning.specs.declared.plan.Arg.TheVariants as A
use Rattle.kernel_meaning.specs.declared.plan.Made.{Made}
use Rattle.kernel_meaning.specs.Constructors.{value_of_arg}
use Rattle.kernel_meaning.specs.Sound.{AreSound}
use Rattle.kernel_meaning.specs.SoundPlans.{IsAdded, IsKernelClass}
use Rattle.manager_links.proofs.Pieces.{zip_push}
use Rattle.maxj_syntax.specs.Tree.{ClassTree, ProgramIs}
use Rattle.maxj_syntax.specs.declared.tree.Program.{Program}
use Rattle.project_build.specs.Building.{IsKernelFor, AreKernelsFor}
use Rattle.stream_graph.specs.declared.kernel.Kernel.{Kernel}

pub args_typed : (args : List Arg) → AreSound [] (map value_of_arg args) → All IsTyped args
args_typed [] h = All-nil IsTyped
args_typed (A.Int n ∷ args) h = All-cons IsTyped (A.Int n) args tt (args_typed args h.1)
args_typed (A.Flag b ∷ args) h = All-cons IsTyped (A.Flag b) args tt (args_typed args h.1)
args_typed (A.Stream t ∷ args) h = All-cons IsTyped (A.Stream t) args h.0 (args_typed args h.1)

-- the class of a kernel that is added is one of the program
pub class_at : (program : Program) (classes : List ClassTree) (made : Made)
    → ProgramIs program classes → (a : IsAdded (IsKernelClass classes) made)
    → IsKernelAt program made.class a.class.0
class_at program classes made is a =
    record { classes = classes; is = is; at = a.class.1; host = a.class.2 }

pub names_same : (classes : List ClassTree) (mades : List Made) (kernels : List Kernel)
    → AreKernelsFor classes mades kernels
    → map (λ (kernel : Kernel). kernel.name) kernels ≡ map (λ (made : Made). made.name) mades
names_same classes [] [] h = refl
names_same classes [] (kernel ∷ kernels) h = absurd h
names_same classes (made ∷ mades) [] h = absurd h
names_same classes (made ∷ mades) (kernel ∷ kernels) h =
    let first = h.0.built.named in
    let others = names_same classes mades kernels h.1 in
    cc

-- one kernel more, in the order of the plan
pub more_kernels : (classes : List ClassTree) (mades : List Made) (i : ℕ) (made : Made)
    (kernels new : List Kernel) (kernel : Kernel) → i < length mades → made ≡ get_or mades i made
    → AreKernelsFor classes (take i mades) kernels → IsKernelFor classes made kernel
    → new ≡ kernels ++ kernel ∷ [] → AreKernelsFor classes (take (i + 1) mades) new
more_kernels classes mades i made kernels new kernel lt is all one grown =
    let taken = ap (λ m. take i mades ++ m ∷ []) is ∙ sym (take_more mades i made lt) in
    subst (AreKernelsFor classes (take (i + 1) mades)) (sym grown)
    (subst (λ ms. AreKernelsFor classes ms (kernels ++ kernel ∷ [])) taken
    (zip_push (IsKernelFor classes) (take i mades) kernels made kernel all one))
