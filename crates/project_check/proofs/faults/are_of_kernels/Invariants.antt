use Rattle.std.proofs.Common.{◌≤◌, ◌+◌, ◌*◌, ◌^◌, ℕ, length, take, drop}
use Rattle.latency_table.specs.declared.table.Table.{Table}
use Rattle.project_check.specs.Checked.{AreJudged}
use Rattle.project_check.specs.Refused.{AreOf, IsFirstOther}
use Rattle.project_check.proofs.faults.are_of_kernels.Given as goal

-- the parts before this one are of their kernels, and what is none of the kernels stands behind them
abbrev pub invariant-loop-number : goal.invariant-loop-number
invariant-loop-number l = record {
  within : l.number ≤ length l.parts;
  small : l.line ≤ 2 + l.number * 2 ^ 34;
  of : (table : Table) → AreJudged table l.kernels l.parts l.judgements
      → AreOf table (take l.number l.kernels) (take l.number l.parts);
  behind : (table : Table) → AreJudged table l.kernels l.parts l.judgements → (line : ℕ)
      → IsFirstOther table l.line (drop l.number l.kernels) (drop l.number l.parts) line
      → IsFirstOther table 2 l.kernels l.parts line;
}
