use Rattle.std.proofs.Common.{◌≡◌, List, ◌++◌, map, take}
use Rattle.kernel_meaning.specs.declared.plan.Plan.{Plan}
use Rattle.stream_graph.specs.declared.kernel.Kernel.{Kernel}
use Rattle.manager_links.specs.Numbers.{Knows}
use Rattle.manager_links.specs.Terminals.{Terminal, ToCpu}
use Rattle.manager_links.proofs.terminals.Terminals.add_to_cpu.Given as goal

abbrev pub invariant-loop-place : goal.invariant-loop-place
invariant-loop-place l =
    (plan : Plan) (kernels : List Kernel) (ends : List Terminal) → l.names ≡ plan.to_cpu
    → Knows plan kernels ends l.initial.self
    → Knows plan kernels (ends ++ map ToCpu (take l.place l.names)) l.self
