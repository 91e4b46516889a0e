-- The path is that of a call, which reads its operands.
use Rattle.std.proofs.Common.{rules}
use Rattle.std.specs.Prelude.{◌==◌, codes}
use Rattle.kernel_meaning.specs.declared.row.Row.TheVariants as R
use Rattle.kernel_rows.proofs.PlanSteps.{by_path, read_if}
use Rattle.kernel_rows.proofs.library_plans.library_plan.Goals as goal

pub returns-then-eq-3 : goal.returns-then-eq-3
returns-then-eq-3 c =
    let n = c.args.count in
    by_path (codes "io.scalarInput") c.args.path.now c.args.at n c.args.mode.now
    c.reads_if-then-eq-3.result (search rules)
    (read_if (n == 2) c.args.at R.ScalarInput 1 2 _ c.reads_if-then-eq-3.ensures)

pub returns-then-eq-4 : goal.returns-then-eq-4
returns-then-eq-4 c =
    let n = c.args.count in
    by_path (codes "constant.var") c.args.path.now c.args.at n c.args.mode.now
    c.reads_if-then-eq-4.result (search rules)
    (read_if (n == 2) c.args.at R.ConstantVar 1 2 _ c.reads_if-then-eq-4.ensures)

pub returns-then-eq-5 : goal.returns-then-eq-5
returns-then-eq-5 c =
    let n = c.args.count in
    by_path (codes "stream.offset") c.args.path.now c.args.at n c.args.mode.now
    c.reads_if-then-eq-5.result (search rules)
    (read_if (n == 2) c.args.at R.Offset 1 2 _ c.reads_if-then-eq-5.ensures)

pub returns-then-eq-8 : goal.returns-then-eq-8
returns-then-eq-8 c =
    let n = c.args.count in
    by_path (codes "control.count.makeCounterChain") c.args.path.now c.args.at n c.args.mode.now
    c.reads_if-then-eq-8.result (search rules)
    (read_if (n == 0) c.args.at R.MakeCounterChain 1 0 _ c.reads_if-then-eq-8.ensures)

pub returns-then-eq-9 : goal.returns-then-eq-9
returns-then-eq-9 c =
    let n = c.args.count in
    by_path (codes "Reductions.streamHold") c.args.path.now c.args.at n c.args.mode.now
    c.reads_if-then-eq-9.result (search rules)
    (read_if (n == 2) c.args.at R.StreamHold 1 2 _ c.reads_if-then-eq-9.ensures)

pub returns-then-eq-11 : goal.returns-then-eq-11
returns-then-eq-11 c =
    let n = c.args.count in
    by_path (codes "optimization.popRoundingMode") c.args.path.now c.args.at n c.args.mode.now
    c.reads_if-then-eq-11.result (search rules)
    (read_if (n == 0) c.args.at R.PopRounding 1 0 _ c.reads_if-then-eq-11.ensures)
