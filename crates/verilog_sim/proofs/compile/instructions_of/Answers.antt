use Rattle.std.proofs.Common.{length, refl}
use Rattle.std.proofs.lemmas.Option.{slice_get_read}
use Rattle.verilog_sim.specs.declared.instruction.Instruction.{Instruction}
use Rattle.verilog_sim.proofs.Compiling.{none_compiled_at, one_compiled}
use Rattle.verilog_sim.proofs.compile.instructions_of.Goals as goal

pub step_of-requires : goal.step_of-requires
step_of-requires c =
    let at = slice_get_read c.args.order.now (length c.args.order.now) c.loop-assign.assign-index c.assign-item.result refl c.loop-assign-test.true c.assign-item.is in
    let from = c.requires.order.from c.loop-assign.assign-index c.assign-item.result at in
    record { formed = (c.requires.runnable.assigns from.0 c.assign-item.result from.1).expr }

pub loop-assign-init : goal.loop-assign-init
loop-assign-init c = rw c.new-instructions.ensures.items (none_compiled_at c.args.module.now c.args.order.now)

pub loop-assign-preserved : goal.loop-assign-preserved
loop-assign-preserved c =
    let i = c.loop-assign.assign-index in
    let a = c.assign-item.result in
    let instruction : Instruction = record { target = a.target; width = c.width-width.result; narrow = c.is_narrow.result; step = c.step_of.result } in
    let at = slice_get_read c.args.order.now (length c.args.order.now) i a refl c.loop-assign-test.true c.assign-item.is in
    rw c.in_ok-push.ensures.items
    (one_compiled c.args.module.now c.args.order.now c.loop-assign.instructions.items i a instruction at refl c.width-width.ensures c.is_narrow.ensures c.step_of.ensures c.loop-assign.invariant)
