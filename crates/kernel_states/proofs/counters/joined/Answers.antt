use Rattle.std.proofs.Common.{refl, ap, ◌+◌, ◌*◌, ◌^◌, ◌∙◌, arith}
use Rattle.rtl_build.proofs.Growing.{same_value}
use Rattle.kernel_control.proofs.Bits.{after, bit_fits}
use Rattle.kernel_states.proofs.Wiring.{held, both_one}
use Rattle.kernel_states.proofs.counters.joined.Goals as goal

pub returns : goal.returns
returns c =
    let counter = c.args.counter in
    let later = c.args.later in
    let q = c.requires in
    let value = c.in_ok-value.ensures in
    let next = c.in_ok-next.ensures in
    let ended = c.in_ok-ended.ensures in
    let wide = value.width ∙ q.counter.next.width in
    record {
      next =
          same_value 3 _ _ (held 3 (after value next) ended (omega arith)) (omega arith) (ap (λ w. w + later.next.width) wide)
          (λ d v h.
          let h2 = ended.before d v h in
          let h1 = next.before d v h2 in
          ap (λ x. x * 2 ^ later.next.width + v later.next.net) (value.value d v h1));
      ended =
          same_value 3 1 _ (after value (after next ended)) (omega arith) q.counter.is_last.width (λ d v h.
          let h2 = ended.before d v h in
          let h1 = next.before d v h2 in
          let h0 = value.before d v h1 in
          both_one _ (v counter.is_last.net) (v later.ended.net) (bit_fits q.counter.is_last h0) (bit_fits q.later.ended h0) refl);
    }
