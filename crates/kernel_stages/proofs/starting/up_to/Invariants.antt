use Rattle.std.proofs.Common.{◌≡◌}
use Rattle.kernel_stages.specs.Numbers.{up_to}
use Rattle.kernel_stages.proofs.starting.up_to.Given as goal

-- the numbers so far
abbrev pub invariant-loop-before : goal.invariant-loop-before
invariant-loop-before l = record {
  told : l.numbers ≡ up_to l.before;
}
