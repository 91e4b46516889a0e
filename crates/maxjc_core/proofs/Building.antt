-- The kernels of a project that a source builds have names that ports can have.
use Rattle.std.proofs.Common.{◌≡◌, ◌∙◌, ℕ, List, ap}
use Rattle.std.specs.Prelude.{All, true}
use Rattle.kernel_calls.specs.Laws.{is_port_name}
use Rattle.kernel_meaning.specs.SoundPlans.{IsAdded, IsKernelClass}
use Rattle.kernel_meaning.specs.declared.plan.Made.{Made}
use Rattle.latency_table.specs.declared.table.Table.{Table}
use Rattle.manager_links.specs.declared.project.Project.{Project}
use Rattle.project_build.specs.Building.{IsKernelFor}
use Rattle.project_build.proofs.Whole.{plan_sound}
use Rattle.project_netlists.specs.Netlists.{HasPortName}
use Rattle.stream_graph.specs.declared.kernel.Kernel.{Kernel}
use Rattle.maxjc_core.specs.Projects.{IsProjectOf}
use Rattle.maxjc_core.proofs.Lists.{zip_all, zip_right}

pub names_plain : (source table : List ℕ) (project : Project) (latencies : Table)
    → IsProjectOf source table project latencies → All HasPortName project.kernels
names_plain source table project latencies is =
    let law = IsAdded (IsKernelClass is.classes) in
    let mades = project.plan.kernels in
    zip_right
    (λ (made : Made) (kernel : Kernel). (is_port_name made.name ≡ true) × (kernel.name ≡ made.name))
    HasPortName mades project.kernels (λ made kernel both. ap is_port_name both.1 ∙ both.0)
    (zip_all law (IsKernelFor is.classes)
    (λ (made : Made) (kernel : Kernel). (is_port_name made.name ≡ true) × (kernel.name ≡ made.name))
    mades project.kernels (λ made kernel added of. (added.name, of.built.named))
    (plan_sound is.classes project.plan is.built.planned).kernels is.built.kernels)
