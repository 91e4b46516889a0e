use Rattle.std.proofs.Common.{◌≡◌, ◌<◌, ◌≤◌, ℕ, true, List, Some, length}
use Rattle.std.specs.Prelude.{slice_get}
use Rattle.rtl_ir.specs.declared.design.Module.{Module}
use Rattle.rtl_ir.specs.Rules.{IsSound}
use Rattle.rtl_check.specs.Paths.{ArePathsOf}
use Rattle.rtl_check.proofs.check.Given as goal

abbrev pub invariant-loop-number : goal.invariant-loop-number
invariant-loop-number l = record {
  fresh : l.number ≤ l.again;
  count : length l.tables ≡ l.number;
  sound : (k : ℕ) (m : Module) → k < l.number → slice_get l.design.modules k ≡ Some m → IsSound l.design m;
  paths : (k : ℕ) (m : Module) → k < l.number → slice_get l.design.modules k ≡ Some m → slice_get l.wanted.items k ≡ Some true
      → (paths : List (List ℕ)) × (slice_get l.tables k ≡ Some paths) × ArePathsOf l.design m paths;
}
