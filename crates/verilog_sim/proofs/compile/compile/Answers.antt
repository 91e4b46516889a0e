use Rattle.std.proofs.Common.{List, sym, subst}
use Rattle.std.proofs.lemmas.Result.{IfOk-weaker}
use Rattle.verilog_sim.specs.declared.instruction.Instruction.{Instruction}
use Rattle.verilog_sim.specs.declared.batch.Batch.{Batch}
use Rattle.verilog_sim.specs.Compiled.{AreInstructionsOf}
use Rattle.verilog_sim.specs.Batches.{instructions_of_all}
use Rattle.verilog_sim.proofs.compile.compile.Goals as goal

pub returns : goal.returns
returns c =
    IfOk-weaker c.batches_of.result _ _ (λ b same. subst (λ (l : List Instruction). AreInstructionsOf c.args.module.now c.args.order.now l)
    (sym same) (subst (λ (l : List Instruction). AreInstructionsOf c.args.module.now c.args.order.now l) (sym c.as_slice.ensures.value)
    c.in_ok-instructions.ensures)) c.batches_of.ensures
