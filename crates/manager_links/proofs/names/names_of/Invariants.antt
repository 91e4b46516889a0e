use Rattle.std.proofs.Common.{◌≡◌, take}
use Rattle.manager_links.specs.Naming.{texts_of}
use Rattle.manager_links.specs.Rules.{kernel_names}
use Rattle.manager_links.proofs.names.names_of.Given as goal

abbrev pub invariant-loop-kernel : goal.invariant-loop-kernel
invariant-loop-kernel l = texts_of l.names.items ≡ kernel_names (take l.kernel-index l.kernels)
