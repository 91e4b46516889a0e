-- A refusal of a part is the cause for which there is no project, or memory was short.
use Rattle.std.proofs.Common.{◌≡◌, ◌∙◌, ℕ, ◌<◌, List, Ok, Err, Some, length, map, take, get_or, ap, inl, inr, refl, sym, subst}
use Rattle.std.specs.Prelude.{Result}
use Rattle.std.proofs.lemmas.Option.{slice_get-get_or}
use Rattle.kernel_eval.specs.Building.{IsAnswer}
use Rattle.kernel_eval.specs.Built.{IsBuilt}
use Rattle.kernel_eval.specs.declared.building.BuildError.{BuildError}
use Rattle.kernel_eval.specs.declared.building.BuildError.TheVariants.{Eval, Graph}
use Rattle.kernel_meaning.specs.declared.error.EvalError.{EvalError}
use Rattle.kernel_meaning.specs.declared.error.EvalError.TheVariants as E
use Rattle.kernel_meaning.specs.declared.plan.Arg.{Arg}
use Rattle.kernel_meaning.specs.declared.plan.Made.{Made}
use Rattle.kernel_meaning.specs.declared.plan.Plan.{Plan}
use Rattle.kernel_meaning.specs.Constructors.{building_run, value_of_arg}
use Rattle.kernel_meaning.specs.Managers.{source_plan}
use Rattle.manager_links.specs.declared.error.LinkError.{LinkError}
use Rattle.manager_links.specs.declared.error.LinkError.TheVariants as L
use Rattle.manager_links.specs.Rules.{MayRefuse}
use Rattle.maxj_syntax.specs.Tree.{ClassTree}
use Rattle.project_build.specs.Building.{run_for, IsClassFor, AreKernelsFor}
use Rattle.project_build.specs.Causes.{LacksKernel, LacksOne, LacksProject, MayLackKernel, MayLackOne, MayLackProject}
use Rattle.project_build.specs.Errors.{of_plan, of_run, of_graph, of_links}
use Rattle.project_build.specs.declared.error.ProjectError.{ProjectError}
use Rattle.project_build.specs.declared.error.ProjectError.TheVariants as P
use Rattle.stream_graph.specs.declared.error.GraphError.{GraphError}
use Rattle.stream_graph.specs.declared.error.GraphError.TheVariants as G
use Rattle.stream_graph.specs.declared.kernel.Kernel.{Kernel}

-- the run of a kernel that is added, by its arguments
run_same : (made : Made) (class : ClassTree) (args : List Arg) (name : List ℕ)
    (result : Result Kernel BuildError) → args ≡ made.args
    → IsBuilt (building_run class (map value_of_arg args)) name result
    → IsBuilt (run_for class made) name result
run_same made class args name result e h =
    subst (λ a. IsBuilt (building_run class (map value_of_arg a)) name result) e h

run_refused : (classes : List ClassTree) (made : Made) (class : ClassTree) (name : List ℕ)
    (error : EvalError) → IsClassFor classes made class
    → IsBuilt (run_for class made) name (Err (Eval error))
    → MayLackKernel classes made (of_run error)
run_refused classes made class name E.NoMemory found h = inl refl
run_refused classes made class name error found h =
    inr (LacksKernel.run class error found h)

pub run_lacks : (classes : List ClassTree) (made : Made) (class : ClassTree) (args : List Arg)
    (name : List ℕ) (told : BuildError) (error : EvalError) → IsClassFor classes made class
    → args ≡ made.args → told ≡ Eval error
    → IsBuilt (building_run class (map value_of_arg args)) name (Err told)
    → MayLackKernel classes made (of_run error)
run_lacks classes made class args name told error found e is h =
    run_refused classes made class name error found
    (run_same made class args name (Err (Eval error)) e
    (subst (λ t. IsBuilt (building_run class (map value_of_arg args)) name (Err t)) is h))

graph_refused : (classes : List ClassTree) (made : Made) (class : ClassTree) (name : List ℕ)
    (error : GraphError) → IsClassFor classes made class
    → IsBuilt (run_for class made) name (Err (Graph error))
    → MayLackKernel classes made (of_graph made.name error)
graph_refused classes made class name G.NoMemory found h = inl refl
graph_refused classes made class name error found h =
    inr (LacksKernel.rule class error found h.0 h.1)

pub graph_lacks : (classes : List ClassTree) (made : Made) (class : ClassTree) (args : List Arg)
    (name own : List ℕ) (told : BuildError) (error : GraphError) → own ≡ made.name
    → IsClassFor classes made class → args ≡ made.args → told ≡ Graph error
    → IsBuilt (building_run class (map value_of_arg args)) name (Err told)
    → MayLackKernel classes made (of_graph own error)
graph_lacks classes made class args name own told error same found e is h =
    subst (λ n. MayLackKernel classes made (of_graph n error)) (sym same)
    (graph_refused classes made class name error found
    (run_same made class args name (Err (Graph error)) e
    (subst (λ t. IsBuilt (building_run class (map value_of_arg args)) name (Err t)) is h)))

-- the first kernel that isn't built
pub one_lacks : (classes : List ClassTree) (mades : List Made) (i : ℕ) (made : Made)
    (kernels : List Kernel) (error : ProjectError) → i < length mades
    → made ≡ get_or mades i made → AreKernelsFor classes (take i mades) kernels
    → MayLackKernel classes made error → MayLackOne classes mades error
one_lacks classes mades i made kernels error lt is before (inl none) = inl none
one_lacks classes mades i made kernels error lt is before (inr lacks) = inr (record {
  number = i;
  made = made;
  kernels = kernels;
  before = before;
  here = slice_get-get_or mades i made lt ∙ ap Some (sym is);
  lacks = lacks;
})

pub kernels_lack : (classes : List ClassTree) (plan : Plan) (mades : List Made)
    (error : ProjectError) → source_plan classes ≡ Ok plan → mades ≡ plan.kernels
    → MayLackOne classes mades error → MayLackProject classes error
kernels_lack classes plan mades error planned e (inl none) = inl none
kernels_lack classes plan mades error planned e (inr lacks) =
    inr (LacksProject.kernel plan planned (subst (λ ms. LacksOne classes ms error) e lacks))

pub plan_lacks : (classes : List ClassTree) (error : EvalError)
    → IsAnswer (source_plan classes) (Err error) → MayLackProject classes (of_plan error)
plan_lacks classes E.NoMemory h = inl refl
plan_lacks classes error h = inr (LacksProject.plan error h)

pub links_lack : (classes : List ClassTree) (plan : Plan) (kernels : List Kernel)
    (error : LinkError) → source_plan classes ≡ Ok plan
    → AreKernelsFor classes plan.kernels kernels → MayRefuse plan kernels error
    → MayLackProject classes (of_links error)
links_lack classes plan kernels L.NoMemory e k h = inl refl
links_lack classes plan kernels error e k (inl none) = absurd (cc)
links_lack classes plan kernels error e k (inr refused) =
    inr (LacksProject.links plan kernels error e k refused.0 refused.1)
