-- There is room for the call, since more nodes can be made.
use Rattle.std.proofs.Common.{arith}
use Rattle.kernel_eval.proofs.sending.send.Goals as goal

pub tell-requires-clause-room : goal.tell-requires-clause-room
tell-requires-clause-room g c =
    c.requires.room (omega (arith, c.requires.made, c.if-len.false, c.len.ensures))
