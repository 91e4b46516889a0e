use Rattle.std.proofs.Common.{◌≤◌, length, take}
use Rattle.std.specs.Prelude.{All}
use Rattle.kernel_meaning.specs.declared.plan.Join.{Join}
use Rattle.manager_links.specs.Joined.{AreJoined}
use Rattle.manager_links.specs.Rules.{HasTwoTypes}
use Rattle.manager_links.specs.Steps.{HaveOneType}
use Rattle.manager_links.proofs.joining.links_of.Given as goal

abbrev pub invariant-loop-number : goal.invariant-loop-number
invariant-loop-number l = record {
  joined : AreJoined l.kernels (take l.number l.joins) l.links;
  count : length l.links ≤ l.number;
  types : All (HaveOneType l.kernels) l.links;
  one : All (λ (join : Join). HasTwoTypes l.kernels join → ⊥) (take l.number l.joins);
}
