use Rattle.std.proofs.Common.{take, arith}
use Rattle.rtl_check.proofs.Places.{take_more_at}
use Rattle.rtl_check.proofs.Feeding.{input_marked, output_marked}
use Rattle.rtl_check.proofs.drivers.inputs.Goals as goal

pub loop-place-preserved-then-port : goal.loop-place-preserved-then-port
loop-place-preserved-then-port c =
    let ports = c.args.module.now.ports in let i = c.loop-place.place in let p = c.at-port.result.now in
    record {
      size = c.loop-place.invariant.size;
      marks = λ n mark at. rw (take_more_at ports i p c.at-port.ensures) (output_marked (take i ports) p n mark c.if-port.true (c.loop-place.invariant.marks n mark at));
    }

pub loop-place-preserved : goal.loop-place-preserved
loop-place-preserved c =
    let ports = c.args.module.now.ports in let i = c.loop-place.place in let p = c.at-port.result.now in
    let lt = c.requires i p c.at-port.ensures in
    rw c.index.ensures.number (record {
      size = c.loop-place.invariant.size;
      marks = λ n mark at. rw (take_more_at ports i p c.at-port.ensures)
          (input_marked c.loop-place.marks.items (take i ports) p c.if-port.false (omega (
            arith,
            c.loop-place.invariant.size,
          )) c.loop-place.invariant.marks n mark at);
    })
