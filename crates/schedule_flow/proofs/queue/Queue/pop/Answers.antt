use Rattle.std.proofs.Common.{List, subst}
use Rattle.std.specs.BinaryHeap.{heap_items}
use Rattle.schedule_flow.specs.Queue.{Entry, IsNearest}
use Rattle.schedule_flow.proofs.Waiting.{nearest}
use Rattle.schedule_flow.proofs.queue.Queue.pop.Goals as goal

pub returns-clause-nearest : goal.returns-clause-nearest
returns-clause-nearest c =
    let old = heap_items c.self.inside.heap in
    let new = heap_items c.pop.new.self in
    let e : Entry = (c.in_ok-distance.field-0-0, c.in_ok-distance.node) in
    let P : List Entry → Type 0 = λ l. IsNearest l new e.0.0 e.1 in
    let h = c.in_ok-distance.ensures.heap_order c.self.invariant in
    subst P c.self.view_is (nearest old new e c.in_ok-distance.ensures.permutation h.1)
