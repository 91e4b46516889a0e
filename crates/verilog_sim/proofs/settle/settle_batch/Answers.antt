use Rattle.std.proofs.Common.{ap}
use Rattle.verilog_sim.specs.declared.operations.Alias.{Alias}
use Rattle.verilog_sim.specs.declared.operations.Complement.{Complement}
use Rattle.verilog_sim.specs.declared.operations.Sum.{Sum}
use Rattle.verilog_sim.specs.declared.operations.Difference.{Difference}
use Rattle.verilog_sim.specs.declared.operations.Product.{Product}
use Rattle.verilog_sim.specs.declared.operations.Conjunction.{Conjunction}
use Rattle.verilog_sim.specs.declared.operations.Disjunction.{Disjunction}
use Rattle.verilog_sim.specs.declared.operations.ExclusiveOr.{ExclusiveOr}
use Rattle.verilog_sim.specs.declared.operations.Equality.{Equality}
use Rattle.verilog_sim.specs.declared.operations.Less.{Less}
use Rattle.verilog_sim.specs.declared.operations.Concatenation.{Concatenation}
use Rattle.verilog_sim.specs.declared.operations.PartSelect.{PartSelect}
use Rattle.verilog_sim.specs.declared.operations.Choice.{Choice}
use Rattle.verilog_sim.specs.declared.operations.MemoryRead.{MemoryRead}
use Rattle.verilog_sim.specs.declared.instruction.Step.TheVariants.{Copy, Not, Add, Sub, Mul, And, Or, Xor, Eq, Lt, Concat, Part, Choose, Cell}
use Rattle.verilog_sim.specs.Batches.{instructions_in}
use Rattle.verilog_sim.proofs.Batching.{batch_safe, batch_advances}
use Rattle.verilog_sim.proofs.settle.settle_batch.Goals as goal

pub settle-requires : goal.settle-requires
settle-requires c = record {
  safe = batch_safe (λ (s : Alias). Copy s.net) _ _ c.args.batch.now c.in-Aliases.entries.items
      c.as_slice-in-Aliases.result.now
      (ap instructions_in c.in-Aliases.is) c.as_slice-in-Aliases.ensures.value c.requires.safe;
}

pub returns-in-Aliases-clause-advances : goal.returns-in-Aliases-clause-advances
returns-in-Aliases-clause-advances c = batch_advances (λ
    (s : Alias). Copy s.net) c.args.memories.now c.args.values.now c.settle.new.self
    c.args.batch.now c.in-Aliases.entries.items c.as_slice-in-Aliases.result.now
    (ap instructions_in c.in-Aliases.is) c.as_slice-in-Aliases.ensures.value c.settle.ensures.advances

pub settle-requires-in-Complements : goal.settle-requires-in-Complements
settle-requires-in-Complements c = record {
  safe = batch_safe (λ (s : Complement). Not s.net) _ _ c.args.batch.now
      c.in-Complements.entries.items c.as_slice-in-Complements.result.now
      (ap instructions_in c.in-Complements.is) c.as_slice-in-Complements.ensures.value c.requires.safe;
}

pub returns-in-Complements-clause-advances : goal.returns-in-Complements-clause-advances
returns-in-Complements-clause-advances c = batch_advances
    (λ (s : Complement). Not s.net) c.args.memories.now c.args.values.now
    c.settle-in-Complements.new.self c.args.batch.now c.in-Complements.entries.items
    c.as_slice-in-Complements.result.now
    (ap instructions_in c.in-Complements.is) c.as_slice-in-Complements.ensures.value
    c.settle-in-Complements.ensures.advances

pub settle-requires-in-Sums : goal.settle-requires-in-Sums
settle-requires-in-Sums c = record {
  safe = batch_safe (λ (s : Sum). Add s.left s.right) _ _ c.args.batch.now
      c.in-Sums.entries.items c.as_slice-in-Sums.result.now
      (ap instructions_in c.in-Sums.is) c.as_slice-in-Sums.ensures.value c.requires.safe;
}

pub returns-in-Sums-clause-advances : goal.returns-in-Sums-clause-advances
returns-in-Sums-clause-advances c = batch_advances (λ
    (s : Sum). Add s.left s.right) c.args.memories.now c.args.values.now
    c.settle-in-Sums.new.self c.args.batch.now c.in-Sums.entries.items
    c.as_slice-in-Sums.result.now
    (ap instructions_in c.in-Sums.is) c.as_slice-in-Sums.ensures.value c.settle-in-Sums.ensures.advances

pub settle-requires-in-Differences : goal.settle-requires-in-Differences
settle-requires-in-Differences c = record {
  safe = batch_safe (λ (s : Difference). Sub s.left s.right) _ _ c.args.batch.now
      c.in-Differences.entries.items c.as_slice-in-Differences.result.now
      (ap instructions_in c.in-Differences.is) c.as_slice-in-Differences.ensures.value c.requires.safe;
}

pub returns-in-Differences-clause-advances : goal.returns-in-Differences-clause-advances
returns-in-Differences-clause-advances c = batch_advances
    (λ (s : Difference). Sub s.left s.right) c.args.memories.now c.args.values.now
    c.settle-in-Differences.new.self c.args.batch.now c.in-Differences.entries.items
    c.as_slice-in-Differences.result.now
    (ap instructions_in c.in-Differences.is) c.as_slice-in-Differences.ensures.value
    c.settle-in-Differences.ensures.advances

pub settle-requires-in-Products : goal.settle-requires-in-Products
settle-requires-in-Products c = record {
  safe = batch_safe (λ (s : Product). Mul s.left s.right) _ _ c.args.batch.now
      c.in-Products.entries.items c.as_slice-in-Products.result.now
      (ap instructions_in c.in-Products.is) c.as_slice-in-Products.ensures.value c.requires.safe;
}

pub returns-in-Products-clause-advances : goal.returns-in-Products-clause-advances
returns-in-Products-clause-advances c = batch_advances (λ
    (s : Product). Mul s.left s.right) c.args.memories.now c.args.values.now
    c.settle-in-Products.new.self c.args.batch.now c.in-Products.entries.items
    c.as_slice-in-Products.result.now
    (ap instructions_in c.in-Products.is) c.as_slice-in-Products.ensures.value
    c.settle-in-Products.ensures.advances

pub settle-requires-in-Conjunctions : goal.settle-requires-in-Conjunctions
settle-requires-in-Conjunctions c = record {
  safe = batch_safe (λ (s : Conjunction). And s.left s.right) _ _ c.args.batch.now
      c.in-Conjunctions.entries.items c.as_slice-in-Conjunctions.result.now
      (ap instructions_in c.in-Conjunctions.is) c.as_slice-in-Conjunctions.ensures.value c.requires.safe;
}

pub returns-in-Conjunctions-clause-advances : goal.returns-in-Conjunctions-clause-advances
returns-in-Conjunctions-clause-advances c = batch_advances
    (λ (s : Conjunction). And s.left s.right) c.args.memories.now c.args.values.now
    c.settle-in-Conjunctions.new.self c.args.batch.now c.in-Conjunctions.entries.items
    c.as_slice-in-Conjunctions.result.now
    (ap instructions_in c.in-Conjunctions.is) c.as_slice-in-Conjunctions.ensures.value
    c.settle-in-Conjunctions.ensures.advances

pub settle-requires-in-Disjunctions : goal.settle-requires-in-Disjunctions
settle-requires-in-Disjunctions c = record {
  safe = batch_safe (λ (s : Disjunction). Or s.left s.right) _ _ c.args.batch.now
      c.in-Disjunctions.entries.items c.as_slice-in-Disjunctions.result.now
      (ap instructions_in c.in-Disjunctions.is) c.as_slice-in-Disjunctions.ensures.value c.requires.safe;
}

pub returns-in-Disjunctions-clause-advances : goal.returns-in-Disjunctions-clause-advances
returns-in-Disjunctions-clause-advances c = batch_advances
    (λ (s : Disjunction). Or s.left s.right) c.args.memories.now c.args.values.now
    c.settle-in-Disjunctions.new.self c.args.batch.now c.in-Disjunctions.entries.items
    c.as_slice-in-Disjunctions.result.now
    (ap instructions_in c.in-Disjunctions.is) c.as_slice-in-Disjunctions.ensures.value
    c.settle-in-Disjunctions.ensures.advances

pub settle-requires-in-ExclusiveOrs : goal.settle-requires-in-ExclusiveOrs
settle-requires-in-ExclusiveOrs c = record {
  safe = batch_safe (λ (s : ExclusiveOr). Xor s.left s.right) _ _ c.args.batch.now
      c.in-ExclusiveOrs.entries.items c.as_slice-in-ExclusiveOrs.result.now
      (ap instructions_in c.in-ExclusiveOrs.is) c.as_slice-in-ExclusiveOrs.ensures.value c.requires.safe;
}

pub returns-in-ExclusiveOrs-clause-advances : goal.returns-in-ExclusiveOrs-clause-advances
returns-in-ExclusiveOrs-clause-advances c = batch_advances
    (λ (s : ExclusiveOr). Xor s.left s.right) c.args.memories.now c.args.values.now
    c.settle-in-ExclusiveOrs.new.self c.args.batch.now c.in-ExclusiveOrs.entries.items
    c.as_slice-in-ExclusiveOrs.result.now
    (ap instructions_in c.in-ExclusiveOrs.is) c.as_slice-in-ExclusiveOrs.ensures.value
    c.settle-in-ExclusiveOrs.ensures.advances

pub settle-requires-in-Equalities : goal.settle-requires-in-Equalities
settle-requires-in-Equalities c = record {
  safe = batch_safe (λ (s : Equality). Eq s.left s.right) _ _ c.args.batch.now
      c.in-Equalities.entries.items c.as_slice-in-Equalities.result.now
      (ap instructions_in c.in-Equalities.is) c.as_slice-in-Equalities.ensures.value c.requires.safe;
}

pub returns-in-Equalities-clause-advances : goal.returns-in-Equalities-clause-advances
returns-in-Equalities-clause-advances c = batch_advances
    (λ (s : Equality). Eq s.left s.right) c.args.memories.now c.args.values.now
    c.settle-in-Equalities.new.self c.args.batch.now c.in-Equalities.entries.items
    c.as_slice-in-Equalities.result.now
    (ap instructions_in c.in-Equalities.is) c.as_slice-in-Equalities.ensures.value
    c.settle-in-Equalities.ensures.advances

pub settle-requires-in-Orders : goal.settle-requires-in-Orders
settle-requires-in-Orders c = record {
  safe = batch_safe (λ (s : Less). Lt s.left s.right) _ _ c.args.batch.now
      c.in-Orders.entries.items c.as_slice-in-Orders.result.now
      (ap instructions_in c.in-Orders.is) c.as_slice-in-Orders.ensures.value c.requires.safe;
}

pub returns-in-Orders-clause-advances : goal.returns-in-Orders-clause-advances
returns-in-Orders-clause-advances c = batch_advances (λ
    (s : Less). Lt s.left s.right) c.args.memories.now c.args.values.now
    c.settle-in-Orders.new.self c.args.batch.now c.in-Orders.entries.items
    c.as_slice-in-Orders.result.now
    (ap instructions_in c.in-Orders.is) c.as_slice-in-Orders.ensures.value
    c.settle-in-Orders.ensures.advances

pub settle-requires-in-Concatenations : goal.settle-requires-in-Concatenations
settle-requires-in-Concatenations c = record {
  safe = batch_safe (λ (s : Concatenation). Concat s.high s.low s.low_width) _ _
      c.args.batch.now c.in-Concatenations.entries.items c.as_slice-in-Concatenations.result.now
      (ap instructions_in c.in-Concatenations.is) c.as_slice-in-Concatenations.ensures.value
      c.requires.safe;
}

pub returns-in-Concatenations-clause-advances : goal.returns-in-Concatenations-clause-advances
returns-in-Concatenations-clause-advances c = batch_advances
    (λ (s : Concatenation). Concat s.high s.low s.low_width) c.args.memories.now
    c.args.values.now c.settle-in-Concatenations.new.self c.args.batch.now
    c.in-Concatenations.entries.items c.as_slice-in-Concatenations.result.now
    (ap instructions_in c.in-Concatenations.is) c.as_slice-in-Concatenations.ensures.value
    c.settle-in-Concatenations.ensures.advances

pub settle-requires-in-PartSelects : goal.settle-requires-in-PartSelects
settle-requires-in-PartSelects c = record {
  safe = batch_safe (λ (s : PartSelect). Part s.net s.low_bit) _ _ c.args.batch.now
      c.in-PartSelects.entries.items c.as_slice-in-PartSelects.result.now
      (ap instructions_in c.in-PartSelects.is) c.as_slice-in-PartSelects.ensures.value c.requires.safe;
}

pub returns-in-PartSelects-clause-advances : goal.returns-in-PartSelects-clause-advances
returns-in-PartSelects-clause-advances c = batch_advances
    (λ (s : PartSelect). Part s.net s.low_bit) c.args.memories.now c.args.values.now
    c.settle-in-PartSelects.new.self c.args.batch.now c.in-PartSelects.entries.items
    c.as_slice-in-PartSelects.result.now
    (ap instructions_in c.in-PartSelects.is) c.as_slice-in-PartSelects.ensures.value
    c.settle-in-PartSelects.ensures.advances

pub settle-requires-in-Choices : goal.settle-requires-in-Choices
settle-requires-in-Choices c = record {
  safe = batch_safe (λ (s : Choice). Choose s.test s.one s.zero) _ _ c.args.batch.now
      c.in-Choices.entries.items c.as_slice-in-Choices.result.now
      (ap instructions_in c.in-Choices.is) c.as_slice-in-Choices.ensures.value c.requires.safe;
}

pub returns-in-Choices-clause-advances : goal.returns-in-Choices-clause-advances
returns-in-Choices-clause-advances c = batch_advances (λ
    (s : Choice). Choose s.test s.one s.zero) c.args.memories.now c.args.values.now
    c.settle-in-Choices.new.self c.args.batch.now c.in-Choices.entries.items
    c.as_slice-in-Choices.result.now
    (ap instructions_in c.in-Choices.is) c.as_slice-in-Choices.ensures.value
    c.settle-in-Choices.ensures.advances

pub settle-requires-in-MemoryReads : goal.settle-requires-in-MemoryReads
settle-requires-in-MemoryReads c = record {
  safe = batch_safe (λ (s : MemoryRead). Cell s.memory s.address) _ _ c.args.batch.now
      c.in-MemoryReads.entries.items c.as_slice-in-MemoryReads.result.now
      (ap instructions_in c.in-MemoryReads.is) c.as_slice-in-MemoryReads.ensures.value c.requires.safe;
}

pub returns-in-MemoryReads-clause-advances : goal.returns-in-MemoryReads-clause-advances
returns-in-MemoryReads-clause-advances c = batch_advances
    (λ (s : MemoryRead). Cell s.memory s.address) c.args.memories.now c.args.values.now
    c.settle-in-MemoryReads.new.self c.args.batch.now c.in-MemoryReads.entries.items
    c.as_slice-in-MemoryReads.result.now
    (ap instructions_in c.in-MemoryReads.is) c.as_slice-in-MemoryReads.ensures.value
    c.settle-in-MemoryReads.ensures.advances
