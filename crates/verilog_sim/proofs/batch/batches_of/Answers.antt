use Rattle.std.proofs.Common.{◌≡◌, ◌+◌, List, [], ◌∷◌, ◌++◌, take, sym, ap, subst, ◌∙◌, append_assoc}
use Rattle.std.proofs.lemmas.List.{take_more, take_all}
use Rattle.verilog_sim.specs.declared.batch.Batch.{Batch}
use Rattle.verilog_sim.specs.declared.instruction.Instruction.{Instruction}
use Rattle.verilog_sim.specs.Batches.{instructions_in, instructions_of_all, IsAddedInstruction}
use Rattle.verilog_sim.proofs.Batching.{instructions_more}
use Rattle.verilog_sim.proofs.batch.batches_of.Goals.{then-added, else-added+in_ok-push+in_ok-last}
use Rattle.verilog_sim.proofs.batch.batches_of.Goals as goal

-- one more instruction, in the last batch
in_last : (all before : List Instruction) (l : Instruction) (bs : List Batch) (old new : Batch)
    → instructions_of_all bs ++ instructions_in old ≡ before → instructions_in new ≡ instructions_in old ++ l ∷ []
    → all ≡ before ++ l ∷ [] → instructions_of_all bs ++ instructions_in new ≡ all
in_last all before l bs old new was more is =
    ap (λ x. instructions_of_all bs ++ x) more ∙ sym (append_assoc (instructions_of_all bs) (instructions_in old) (l ∷ [])) ∙ ap (λ x. x ++ l ∷ []) was ∙ sym is

-- one more instruction, in a batch of its own
in_new : (all before : List Instruction) (l : Instruction) (bs more : List Batch) (old same new : Batch)
    → instructions_of_all bs ++ instructions_in old ≡ before → instructions_in same ≡ instructions_in old → more ≡ bs
    ++ same ∷ [] → instructions_in new ≡ l ∷ [] → all ≡ before ++ l ∷ [] → instructions_of_all more
    ++ instructions_in new ≡ all
in_new all before l bs more old same new was kept pushed one is =
    ap (λ x. instructions_of_all x ++ instructions_in new) pushed
    ∙ ap (λ x. x ++ instructions_in new) (instructions_more bs same ∙ ap (λ x. instructions_of_all bs ++ x) kept ∙ was)
    ∙ ap (λ x. before ++ x) one
    ∙ sym is

pub loop-instruction-preserved : goal.loop-instruction-preserved
loop-instruction-preserved c =
    let instructions = c.args.instructions.now in
    let i = c.loop-instruction.instruction-index in
    let l = c.instruction-item.result in
    let all : take (i + 1) instructions ≡ take i instructions ++ l
    ∷ [] = take_more instructions i l c.loop-instruction-test.true ∙ ap
    (λ (x : Instruction). take i instructions ++ x ∷ []) (sym c.instruction-item.is) in
    elim c.if-added.branch [
      | then-added w ↦ (
          let done = subst (IsAddedInstruction l c.loop-instruction.last c.in_ok-batch.batch) w.if-added.true c.in_ok-batch.ensures in
          rw (w.batches-is, w.last-is) (in_last (take (i + 1) instructions)
          (take i instructions) l c.loop-instruction.batches.items c.loop-instruction.last
          c.in_ok-batch.batch c.loop-instruction.invariant done all))
      | else-added+in_ok-push+in_ok-last w ↦ (
          let done = subst (IsAddedInstruction l c.loop-instruction.last c.in_ok-batch.batch) w.if-added.false c.in_ok-batch.ensures in
          rw (w.batches-is, w.last-is) (in_new (take (i + 1) instructions)
          (take i instructions) l c.loop-instruction.batches.items w.push.new.self.items c.loop-instruction.last
          c.in_ok-batch.batch w.in_ok-last.last c.loop-instruction.invariant done
          w.in_ok-push.ensures.items w.in_ok-last.ensures all))
    ]

pub returns : goal.returns
returns c =
    ap instructions_of_all c.in_ok-push-2.ensures.items ∙ instructions_more c.loop-instruction.batches.items
    c.loop-instruction.last ∙ c.loop-instruction.invariant ∙ take_all c.loop-instruction.instruction-index
    c.args.instructions.now c.loop-instruction-test.false
