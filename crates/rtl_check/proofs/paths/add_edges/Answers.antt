use Rattle.std.proofs.Common.{length, ◌⊎◌, inl, inr}
use Rattle.rtl_check.specs.Paths.{IsAssigned, IsParted}
use Rattle.rtl_check.proofs.Edges.{adds_both}
use Rattle.rtl_check.proofs.paths.add_edges.Goals as goal

pub returns-clause-added : goal.returns-clause-added
returns-clause-added c =
    let m = c.args.module.now in let tables = c.args.tables.now in
    adds_both (IsAssigned m (length m.assigns)) (IsParted m tables (length m.instances))
    (λ a b. IsAssigned m (length m.assigns) a b
    ⊎ IsParted m tables (length m.instances) a b) c.args.graph.now c.add_assigns.new.graph
    c.add_instances.new.graph (λ a b e. inl e) (λ a b e. inr e)
    (λ a b e. e) c.in_ok-add_assigns.ensures.added c.in_ok-add_instances.ensures.added

pub returns-clause-small : goal.returns-clause-small
returns-clause-small c = λ s. c.in_ok-add_instances.ensures.small (c.in_ok-add_assigns.ensures.small s)
