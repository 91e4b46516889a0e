use Rattle.std.proofs.Common.{◌≡◌, ℕ, length, ap, subst, arith}
use Rattle.std.proofs.lemmas.Option.{slice_get-get_or}
use Rattle.rtl_check.specs.Fed.{IsSeen, AreFed}
use Rattle.rtl_check.proofs.Places.{item_at}
use Rattle.rtl_check.proofs.Feeding.{assign_fed}
use Rattle.rtl_check.proofs.drivers.feed_assigns.Goals as goal

pub loop-assign-preserved : goal.loop-assign-preserved
loop-assign-preserved c = λ d fed.
    let m = c.args.module.now in let a = c.assign-item.result in let marks = c.loop-assign.marks in
    let at = item_at m.assigns _ c.loop-assign.assign-index a c.as_slice-assign-items.ensures (omega arith) c.assign-item.is in
    rw c.index-number.ensures.number
    (assign_fed d m marks c.loop-assign.assign-index a c.is_register-may.result _ _ at
    c.is_register-may.ensures (slice_get-get_or marks a.target _
    (let lt = c.requires c.loop-assign.assign-index a at in omega arith))
    (rw c.index-number.ensures.number at c.after.ensures) (c.loop-assign.invariant d fed))

pub returns : goal.returns
returns c = λ d fed.
    let m = c.args.module.now in
    let n : c.loop-assign.assign-index ≡ length m.assigns = omega (arith, ap length c.as_slice-assign-items.ensures) in
    subst (λ (k : ℕ). AreFed d m (IsSeen k 0 0 0) c.loop-assign.marks) n (c.loop-assign.invariant d fed)
