use Rattle.std.proofs.Common.{◌≡◌, ◌+◌, ◌*◌, ◌&&◌, not, eqb, length, refl, ap, ◌∙◌, arith}
use Rattle.std.proofs.lemmas.Result.{IfOk-weaker}
use Rattle.rtl_ir.specs.Value.{bit}
use Rattle.rtl_build.proofs.Growing.{same_value}
use Rattle.kernel_control.specs.Serving.{all_serve}
use Rattle.kernel_control.proofs.Bits.{after, both_free, test_bit, bit_fits}
use Rattle.kernel_control.proofs.Kept.{due_ports_kept}
use Rattle.kernel_control.proofs.control.advance.Goals as goal

pub all_served-requires-clause-test : goal.all_served-requires-clause-test
all_served-requires-clause-test c = record {
  signal = c.in_ok-both.ensures.signal;
  width = c.in_ok-both.ensures.width ∙ c.in_ok-free.ensures.width ∙ c.requires.hold.width;
}

pub all_served-requires-clause-ports : goal.all_served-requires-clause-ports
all_served-requires-clause-ports c = due_ports_kept
    (after c.in_ok-free.ensures (after c.in_ok-live.ensures c.in_ok-both.ensures)).adds.grows c.args.ports.now c.requires.ports

pub returns : goal.returns
returns c =
    let q = c.requires in
    let free = c.in_ok-free.ensures in
    let live = c.in_ok-live.ensures in
    let both = c.in_ok-both.ensures in
    let h = c.args.hold in
    let p = c.args.ended in
    let ports = c.args.ports.now in
    IfOk-weaker _ _ _ (λ s made. same_value (3 * length ports + 3) 1 _ (after free (after live (after both made))) (omega arith) refl (λ d v k.
    let h3 = made.before d v k in
    let h2 = both.before d v h3 in
    let h1 = live.before d v h2 in
    let h0 = free.before d v h1 in
    let first : v c.in_ok-both.both.net ≡ bit (not (eqb (v h.net) 1) && not (eqb (v p.net) 1)) =
    both_free _ (v c.in_ok-free.free.net) (v c.in_ok-live.live.net) (v h.net) (v p.net) h.width p.width
    (bit_fits q.hold h0) (bit_fits q.ended h0) q.hold.width q.ended.width
    (both.value d v h3) (free.value d v h1) (live.value d v h2) in
    let test : eqb (v c.in_ok-both.both.net) 1 ≡ not (eqb (v h.net) 1) && not (eqb (v p.net) 1) = ap (λ x. eqb x 1) first ∙ test_bit
    (not (eqb (v h.net) 1) && not (eqb (v p.net) 1)) in
    ap (λ b. bit (all_serve b ports v)) test)) c.all_served.ensures
