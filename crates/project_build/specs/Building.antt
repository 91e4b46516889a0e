-- The kernels that a plan asks for, and the project of a source.
use Rattle.std.specs.Prelude.{◌≡◌, true, List, map, Some, Ok, slice_get}
use Rattle.std.specs.List.{AllZip}
use Rattle.kernel_eval.specs.Built.{IsKernelOfRun}
use Rattle.kernel_meaning.specs.declared.plan.Made.{Made}
use Rattle.kernel_meaning.specs.Answer.{Answer}
use Rattle.kernel_meaning.specs.Constructors.{building_run, value_of_arg}
use Rattle.kernel_meaning.specs.Managers.{source_plan}
use Rattle.manager_links.specs.Hosts.{AreInputs, AreOutputs}
use Rattle.manager_links.specs.Rules.{MeetsRules}
use Rattle.manager_links.specs.declared.project.Project.{Project}
use Rattle.maxj_syntax.specs.Tree.{ClassTree}
use Rattle.stream_graph.specs.declared.kernel.Kernel.{Kernel}

-- the building run of a kernel that is added, of its class with its arguments
abbrev pub run_for : ClassTree → Made → Answer
run_for class made = building_run class (map value_of_arg made.args)

-- the class of a kernel that is added, among those of the source
abbrev pub IsClassFor : List ClassTree → Made → ClassTree → Type 0
IsClassFor classes made class = slice_get classes made.class ≡ Some class

-- the kernel is the one that was added: its building run makes it, under its name
pub record IsKernelFor (classes : List ClassTree) (made : Made) (kernel : Kernel) : Type 0 where
  pub class : ClassTree
  pub found : IsClassFor classes made class
  pub built : IsKernelOfRun (run_for class made) made.name kernel

-- one kernel for each that was added, in their order
abbrev pub AreKernelsFor : List ClassTree → List Made → List Kernel → Type 0
AreKernelsFor classes mades kernels = AllZip (IsKernelFor classes) mades kernels

-- the project of these classes: of what they build, with the kernels of that plan, and the streams
-- that it joins or, without a manager, one for each port; it meets the rules of joins where a manager
-- made it
pub record IsProjectOf (classes : List ClassTree) (project : Project) : Type 0 where
  pub planned : source_plan classes ≡ Ok project.plan
  pub kernels : AreKernelsFor classes project.plan.kernels project.kernels
  pub from_cpu : AreInputs project.plan project.kernels project.joints.inputs
  pub to_cpu : AreOutputs project.plan project.kernels project.joints.outputs
  pub rules : project.plan.manager ≡ true → MeetsRules project.plan project.kernels
