use Rattle.std.proofs.Common.{take}
use Rattle.std.specs.Prelude.{All}
use Rattle.kernel_meaning.specs.declared.plan.Join.{Join}
use Rattle.manager_links.specs.Rules.{IsHostToHost}
use Rattle.manager_links.proofs.joining.no_host_to_host.Given as goal

abbrev pub invariant-loop-join : goal.invariant-loop-join
invariant-loop-join l =
    All (λ (join : Join). IsHostToHost join → ⊥) (take l.join-index l.joins)
