use Rattle.std.proofs.Common.{ap}
use Rattle.verilog_sim.specs.Batches.{instructions_in}
use Rattle.verilog_sim.proofs.batch.Batch.add.Goals as goal

pub returns-in-Aliases-false-Copy : goal.returns-in-Aliases-false-Copy
returns-in-Aliases-false-Copy c = c.added.ensures c.args.self (ap instructions_in c.in-Aliases-false-Copy.is-0)

pub returns-in-Complements-false-Not : goal.returns-in-Complements-false-Not
returns-in-Complements-false-Not c = c.added-in-Complements-false-Not.ensures c.args.self (ap instructions_in c.in-Complements-false-Not.is-0)

pub returns-in-Sums-false-Add : goal.returns-in-Sums-false-Add
returns-in-Sums-false-Add c = c.added-in-Sums-false-Add.ensures c.args.self (ap instructions_in c.in-Sums-false-Add.is-0)

pub returns-in-Differences-false-Sub : goal.returns-in-Differences-false-Sub
returns-in-Differences-false-Sub c = c.added-in-Differences-false-Sub.ensures c.args.self (ap instructions_in c.in-Differences-false-Sub.is-0)

pub returns-in-Products-false-Mul : goal.returns-in-Products-false-Mul
returns-in-Products-false-Mul c = c.added-in-Products-false-Mul.ensures c.args.self (ap instructions_in c.in-Products-false-Mul.is-0)

pub returns-in-Conjunctions-false-And : goal.returns-in-Conjunctions-false-And
returns-in-Conjunctions-false-And c = c.added-in-Conjunctions-false-And.ensures c.args.self (ap instructions_in c.in-Conjunctions-false-And.is-0)

pub returns-in-Disjunctions-false-Or : goal.returns-in-Disjunctions-false-Or
returns-in-Disjunctions-false-Or c = c.added-in-Disjunctions-false-Or.ensures c.args.self (ap instructions_in c.in-Disjunctions-false-Or.is-0)

pub returns-in-ExclusiveOrs-false-Xor : goal.returns-in-ExclusiveOrs-false-Xor
returns-in-ExclusiveOrs-false-Xor c = c.added-in-ExclusiveOrs-false-Xor.ensures c.args.self (ap instructions_in c.in-ExclusiveOrs-false-Xor.is-0)

pub returns-in-Equalities-false-Eq : goal.returns-in-Equalities-false-Eq
returns-in-Equalities-false-Eq c = c.added-in-Equalities-false-Eq.ensures c.args.self (ap instructions_in c.in-Equalities-false-Eq.is-0)

pub returns-in-Orders-false-Lt : goal.returns-in-Orders-false-Lt
returns-in-Orders-false-Lt c = c.added-in-Orders-false-Lt.ensures c.args.self (ap instructions_in c.in-Orders-false-Lt.is-0)

pub returns-in-Concatenations-false-Concat : goal.returns-in-Concatenations-false-Concat
returns-in-Concatenations-false-Concat c = c.added-in-Concatenations-false-Concat.ensures c.args.self (ap instructions_in c.in-Concatenations-false-Concat.is-0)

pub returns-in-PartSelects-false-Part : goal.returns-in-PartSelects-false-Part
returns-in-PartSelects-false-Part c = c.added-in-PartSelects-false-Part.ensures c.args.self (ap instructions_in c.in-PartSelects-false-Part.is-0)

pub returns-in-Choices-false-Choose : goal.returns-in-Choices-false-Choose
returns-in-Choices-false-Choose c = c.added-in-Choices-false-Choose.ensures c.args.self (ap instructions_in c.in-Choices-false-Choose.is-0)

pub returns-in-MemoryReads-false-Cell : goal.returns-in-MemoryReads-false-Cell
returns-in-MemoryReads-false-Cell c = c.added-in-MemoryReads-false-Cell.ensures c.args.self (ap instructions_in c.in-MemoryReads-false-Cell.is-0)
