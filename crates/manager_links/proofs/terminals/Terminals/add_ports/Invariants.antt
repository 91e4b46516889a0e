use Rattle.std.proofs.Common.{List, ◌++◌, take}
use Rattle.std.specs.List.{filter_map}
use Rattle.kernel_meaning.specs.declared.plan.Plan.{Plan}
use Rattle.manager_links.specs.Numbers.{Knows}
use Rattle.manager_links.specs.Terminals.{Terminal, terminal_of}
use Rattle.manager_links.proofs.terminals.Terminals.add_ports.Given as goal

abbrev pub invariant-loop-node : goal.invariant-loop-node
invariant-loop-node l =
    (plan : Plan) (ends : List Terminal) → Knows plan l.kernels ends l.initial.self
    → Knows plan l.kernels (ends ++ filter_map (terminal_of l.number) (take l.node l.kernel.nodes)) l.self
