use Rattle.std.proofs.Common.{◌∙◌, map, ap, sym, subst}
use Rattle.cycle_find.specs.Constraints.{numbers_of, Solves, IsLeast}
use Rattle.cycle_find.specs.Search.{Refutes}
use Rattle.manager_links.specs.Starts.{AreStarts}
use Rattle.manager_links.specs.Waiting.{AreSmall, AreSmallNumbers, one_later}
use Rattle.manager_links.proofs.Waiting.{solvable, no_cycle, are_small, starts_small, are_starts}
use Rattle.manager_links.proofs.starting.least_starts.Goals as goal

pub solve-requires : goal.solve-requires
solve-requires c =
    solvable c.args.times.now c.args.links.now c.args.kernels c.in_ok-arcs.arcs
    c.in_ok-arcs.ensures.nodes c.in_ok-arcs.ensures.list c.requires.timed c.requires.lists
    c.requires.few c.requires.count

pub one_later-requires : goal.one_later-requires
one_later-requires c =
    subst AreSmallNumbers (sym c.as_slice.ensures.value)
    (are_small c.args.times.now c.args.links.now c.args.kernels c.in_ok-arcs.arcs
    c.in-Ok.least.items c.in_ok-arcs.ensures.nodes c.in_ok-arcs.ensures.list c.requires.timed
    c.requires.few c.in-Ok.ensures.least c.in-Ok.ensures.within)

pub unreachable-requires : goal.unreachable-requires
unreachable-requires c =
    let refuted = subst (Refutes c.in_ok-arcs.arcs.list) c.in-Err-Cycle.field-0-is
    c.in-Err-Cycle.ensures.cycle in
    no_cycle c.args.times.now c.args.links.now c.requires.timed c.requires.rising
    (λ x solves. refuted.1 x (subst (Solves x) (sym c.in_ok-arcs.ensures.list) solves))

pub returns-in-Ok-clause-small : goal.returns-in-Ok-clause-small
returns-in-Ok-clause-small c =
    subst AreSmall
    (sym (c.in_ok-one_later-in-Ok.ensures ∙ ap (map one_later) c.as_slice.ensures.value))
    (starts_small c.in-Ok.least.items
    (are_small c.args.times.now c.args.links.now c.args.kernels c.in_ok-arcs.arcs
    c.in-Ok.least.items c.in_ok-arcs.ensures.nodes c.in_ok-arcs.ensures.list c.requires.timed
    c.requires.few c.in-Ok.ensures.least c.in-Ok.ensures.within))

pub returns-in-Ok-clause-starts : goal.returns-in-Ok-clause-starts
returns-in-Ok-clause-starts c =
    subst (AreStarts c.args.times.now c.args.kernels c.args.links.now)
    (sym (c.in_ok-one_later-in-Ok.ensures ∙ ap (map one_later) c.as_slice.ensures.value))
    (are_starts c.args.times.now c.args.links.now c.args.kernels c.in-Ok.least.items
    c.requires.timed c.requires.lists (c.in-Ok.ensures.one_each ∙ c.in_ok-arcs.ensures.nodes)
    (subst (IsLeast (numbers_of c.in-Ok.least.items)) c.in_ok-arcs.ensures.list
    c.in-Ok.ensures.least))
