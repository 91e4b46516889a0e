use Rattle.std.proofs.Common.{refl, arith}
use Rattle.std.proofs.lemmas.Result.{IfOk-weaker}
use Rattle.rtl_build.proofs.Growing.{same_value}
use Rattle.kernel_control.proofs.Bits.{after, served_is, bit_fits}
use Rattle.kernel_control.proofs.serving.served.Goals as goal

pub returns : goal.returns
returns c =
    let q = c.requires in
    let p = c.args.port in
    let t = c.args.test in
    let idle = c.in_ok-idle.ensures in
    let ready = c.in_ok-ready.ensures in
    IfOk-weaker _ _ _ (λ s made. same_value 3 1 _ (after idle (after ready made)) (omega arith) q.test.width (λ d v h.
    let h2 = made.before d v h in
    let h1 = ready.before d v h2 in
    let h0 = idle.before d v h1 in
    served_is _ _ _ (v p.due.net) (v p.waits_for.net) (v t.net) p.due.width
    (bit_fits q.port.due h0) (bit_fits q.port.waits_for h0) (bit_fits q.test h0)
    q.port.due.width refl (ready.value d v h2) (idle.value d v h1))) c.binary-2.ensures
