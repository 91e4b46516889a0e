use Rattle.std.proofs.Common.{◌≡◌, arith, ap, ◌∙◌, ◌-◌}
use Rattle.verilog_sim.specs.Instructions.{again}
use Rattle.verilog_sim.proofs.instruction.repeat.Goals as goal

pub returns : goal.returns
returns c =
    let e : c.loop-time._time ≡ c.args.times = omega arith in
    c.loop-time.invariant ∙ ap (λ k. again (k - 1) c.args.width c.args.word) e
