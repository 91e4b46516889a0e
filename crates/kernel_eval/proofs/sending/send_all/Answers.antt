-- One more call is received.
use Rattle.std.proofs.Common.{◌≡◌, length, refl, Some, subst}
use Rattle.std.specs.Prelude.{slice_get}
use Rattle.std.proofs.lemmas.Option.{slice_get_read}
use Rattle.kernel_eval.proofs.Sent
use Rattle.kernel_eval.proofs.sending.send_all.Goals as goal

pub loop-call-preserved : goal.loop-call-preserved
loop-call-preserved g c =
    let calls = c.args.calls.now in
    let place = c.loop-call.call-index in
    let call = c.call-item.result in
    let old = c.args.builder.now in
    let mid = c.loop-call.builder in
    let new = c.send.new.builder in
    let first = c.args.vars.now.items in
    let before = c.loop-call.vars.items in
    let after = c.send.new.vars.items in
    let receives = g.B.Builder.receives in
    let made = g.B.Builder.made in
    let number = g.B.Var.Numbered.number in
    let sent = c.in_ok-send.ensures in
    let inv = c.loop-call.invariant in
    let items = c.as_slice-call-items.result.now in
    let there : slice_get items place ≡ Some call =
    slice_get_read items (length items) place call refl c.loop-call-test.true c.call-item.is in
    let found : slice_get calls place ≡ Some call =
    subst (λ l. slice_get l place ≡ Some call) c.as_slice-call-items.ensures there in
    record {
      received =
          Sent.received_next receives made number calls call place found old mid new first before
          after sent inv.received;
      room =
          Sent.room_next receives made number calls call place found old mid new first before
          after sent g.B.Builder.has_room inv.room;
      sendable =
          Sent.sendable_next receives made number calls call place found old mid new first before
          after sent inv.sendable;
      numbered = sent.numbered;
      nodes = sent.nodes;
      more =
          Sent.more_next receives made number calls call place found old mid new first before
          after sent inv.more;
    }
