-- The same is to be made as at the begin.
use Rattle.std.proofs.Common.{◌≡◌}
use Rattle.kernel_rows.specs.Filling.{completed, IsWithin, Extends}
use Rattle.kernel_rows.proofs.filling.Filling.complete.Given as goal

abbrev pub invariant-turns : goal.invariant-turns
invariant-turns l = record {
  within : IsWithin l.sizes l.self;
  same : completed l.of l.sizes l.self ≡ completed l.of l.sizes l.initial.self;
  more : Extends l.initial.self.arrays l.self.arrays;
}
