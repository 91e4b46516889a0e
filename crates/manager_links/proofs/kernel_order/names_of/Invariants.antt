use Rattle.std.proofs.Common.{◌≡◌, map, take}
use Rattle.manager_links.specs.Terminals.{kernel_name}
use Rattle.manager_links.proofs.kernel_order.names_of.Given as goal

abbrev pub invariant-loop-number : goal.invariant-loop-number
invariant-loop-number l = l.names ≡ map (kernel_name l.kernels) (take l.number-index l.numbers)
