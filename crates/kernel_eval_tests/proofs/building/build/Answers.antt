-- The class that was found is the kernel's.
use Rattle.std.proofs.Common.{rules}
use Rattle.kernel_eval_tests.proofs.Classes.{kernel-at}
use Rattle.kernel_eval_tests.proofs.building.build.Goals as goal

pub build_kernel-requires-clause-kernel : goal.build_kernel-requires-clause-kernel
build_kernel-requires-clause-kernel c =
    let found = c.is_kernel.ensures (search rules) in
    let program = c.args.program.now in
    let read = c.requires.read in
    let kernel = kernel-at program.tree program.classes read.0 c.args.class found.0 read.1 found.1 found.2 in
    (kernel.0, record { classes = read.0; is = read.1; at = kernel.1; host = kernel.2 })
