use Rattle.std.proofs.Common.{◌+◌, take, sym, subst}
use Rattle.std.specs.Prelude.{All}
use Rattle.std.proofs.lemmas.List.{take_all}
use Rattle.std.proofs.lemmas.List.Elements.{All-more}
use Rattle.project_check.specs.Checked.{IsProblemOf, AreProblems, HasProblem}
use Rattle.project_check.proofs.Pieces.{zip_made}
use Rattle.project_check.proofs.Refusing.{of_problem}
use Rattle.project_check.proofs.problems.problems.Goals as goal

pub returns-in-Err-clause-refused : goal.returns-in-Err-clause-refused
returns-in-Err-clause-refused c =
    of_problem c.args.table.now c.args.kernels.now c.loop-kernel.kernel-index c.kernel-item.result
    c.in-Err.error c.of_edges.result c.loop-kernel-test.true c.kernel-item.is
    c.loop-kernel.invariant.has c.in-Err.ensures.err c.of_edges.ensures

pub loop-kernel-preserved : goal.loop-kernel-preserved
loop-kernel-preserved c =
    let table = c.args.table.now in
    let kernels = c.args.kernels.now in
    let i = c.loop-kernel.kernel-index in
    let kernel = c.kernel-item.result in
    let made = c.in-Ok.ensures in
    record {
      made = subst (AreProblems table (take (i + 1) kernels)) (sym c.in_ok-push-in-Ok.ensures.items)
          (zip_made (IsProblemOf table) kernels c.loop-kernel.all.items i kernel c.in-Ok.problem
          c.loop-kernel-test.true c.kernel-item.is c.loop-kernel.invariant.made
          (record { is = made.problem; solvable = made.solvable; few = made.few; small = made.small }));
      has = All-more (HasProblem table) kernels i kernel c.loop-kernel-test.true
          c.loop-kernel.invariant.has
          (subst (HasProblem table) c.kernel-item.is
          (record { timed = made.timed; causal = made.causal }));
    }

pub returns-clause-has : goal.returns-clause-has
returns-clause-has c =
    subst (All (HasProblem c.args.table.now))
    (take_all c.loop-kernel.kernel-index c.args.kernels.now c.loop-kernel-test.false)
    c.loop-kernel.invariant.has
