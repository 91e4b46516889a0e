use Rattle.std.proofs.Common.{◌≡◌, ℕ, ◌<◌, Some}
use Rattle.std.specs.Prelude.{slice_get}
use Rattle.stream_graph.specs.declared.kernel.Kernel.{Kernel}
use Rattle.kernel_family.specs.Laws.{HasOneFamily}
use Rattle.project_words.proofs.family.one_project_family.Given as goal

-- each kernel so far has one family
abbrev pub invariant-loop-kernel : goal.invariant-loop-kernel
invariant-loop-kernel l =
    (k : ℕ) (kernel : Kernel)
    → k < l.kernel-index
    → slice_get l.fn.project.kernels k ≡ Some kernel
    → HasOneFamily kernel.nodes
