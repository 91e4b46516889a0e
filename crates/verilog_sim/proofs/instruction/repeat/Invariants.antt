use Rattle.std.proofs.Common.{◌≡◌, ◌-◌}
use Rattle.verilog_sim.specs.Instructions.{again}
use Rattle.verilog_sim.proofs.instruction.repeat.Given as goal

abbrev pub invariant-loop-time : goal.invariant-loop-time
invariant-loop-time l = l.all ≡ again (l._time - 1) l.width l.word
