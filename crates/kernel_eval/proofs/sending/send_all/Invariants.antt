-- The calls so far are received, and there is room for the others.
use Rattle.std.proofs.Common.{◌≡◌, ◌+◌, length, take, drop}
use Rattle.kernel_calls.specs.Calls.{count_of}
use Rattle.kernel_calls.specs.Laws.{Received}
use Rattle.kernel_eval.specs.Sending.{AreNumbered, HasRoomBelow, AreSendable}
use Rattle.kernel_eval.proofs.sending.send_all.Given as goal

abbrev pub invariant-loop-call : goal.invariant-loop-call
invariant-loop-call g l = record {
  received :
      Received g.B.Builder.receives l.fn.builder (take l.call-index l.calls) l.builder;
  room :
      HasRoomBelow g.B.Builder.made g.B.Builder.has_room g.B.Builder.receives l.builder (drop l.call-index l.calls);
  sendable : AreSendable (length l.vars.items) (drop l.call-index l.calls);
  numbered : AreNumbered g.B.Var.Numbered.number l.vars.items;
  nodes : g.B.Builder.made l.builder ≡ length l.vars.items;
  more :
      length l.vars.items ≡ length l.fn.vars.items + count_of (take l.call-index l.calls);
}
