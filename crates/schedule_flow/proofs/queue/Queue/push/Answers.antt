use Rattle.std.proofs.Common.{List, subst}
use Rattle.std.specs.BinaryHeap.{heap_items}
use Rattle.schedule_flow.specs.Queue.{Entry, IsQueued}
use Rattle.schedule_flow.proofs.Waiting.{queued}
use Rattle.schedule_flow.proofs.queue.Queue.push.Goals as goal

pub returns : goal.returns
returns c =
    let old = heap_items c.self.inside.heap in
    let new = heap_items c.push.new.self in
    let P : List Entry → Type 0 = λ l. IsQueued l new c.args.distance c.args.node in
    subst P c.self.view_is (queued old new _ c.in_ok-push.ensures.permutation)
