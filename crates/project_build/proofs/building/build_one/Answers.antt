-- The kernel can be built, and its refusals are the causes.
use Rattle.std.proofs.Common.{All, sym, subst}
use Rattle.kernel_eval.specs.Runs.{IsTyped}
use Rattle.project_build.specs.Causes.{MayLackKernel}
use Rattle.project_build.proofs.Kernels.{args_typed, class_at}
use Rattle.project_build.proofs.Refusals.{run_lacks, graph_lacks}
use Rattle.project_build.proofs.building.build_one.Goals as goal

pub build_kernel-requires-clause-typed : goal.build_kernel-requires-clause-typed
build_kernel-requires-clause-typed c =
    let added = c.requires.sound c.requires.read.0 c.requires.read.1 in
    subst (All IsTyped) (sym c.as_slice.ensures) (args_typed c.args.made.now.args added.args)

pub returns-in-Err-Eval-clause-err : goal.returns-in-Err-Eval-clause-err
returns-in-Err-Eval-clause-err c classes is =
    let made = c.args.made.now in
    let added = c.requires.sound classes is in
    let at = class_at c.args.program.now classes made is added in
    subst (MayLackKernel classes made) (sym c.run_refused.ensures)
    (run_lacks classes made added.class.0 c.as_slice.result.now c.in_ok-name.name
    c.in-Err-Eval.field-0 c.in-Err-Eval.error added.class.1 c.as_slice.ensures
    c.in-Err-Eval.field-0-is (c.in-Err-Eval.ensures added.class.0 at))

pub returns-in_ok-copy-in-Err-Graph-clause-err : goal.returns-in_ok-copy-in-Err-Graph-clause-err
returns-in_ok-copy-in-Err-Graph-clause-err c classes is =
    let made = c.args.made.now in
    let added = c.requires.sound classes is in
    let at = class_at c.args.program.now classes made is added in
    subst (MayLackKernel classes made) (sym c.graph_refused.ensures)
    (graph_lacks classes made added.class.0 c.as_slice.result.now c.in_ok-name.name
    c.in_ok-copy-in-Err-Graph.field-0 c.in-Err-Graph.field-0 c.in-Err-Graph.error
    c.in_ok-copy-in-Err-Graph.ensures added.class.1 c.as_slice.ensures
    c.in-Err-Graph.field-0-is (c.in-Err-Graph.ensures added.class.0 at))
