use Rattle.std.proofs.Common.{take}
use Rattle.verilog_sim.specs.Levels.{AreRanked}
use Rattle.verilog_sim.proofs.level.rank_all.Given as goal

abbrev pub invariant-loop-assign : goal.invariant-loop-assign
invariant-loop-assign l = AreRanked l.levels (take l.assign-index l.order) l.items.items
