use Rattle.std.proofs.Common.{refl, ◌∙◌, arith}
use Rattle.rtl_build.proofs.Growing.{same_value}
use Rattle.kernel_control.proofs.Bits.{after}
use Rattle.kernel_states.specs.Stepping.{counter_in}
use Rattle.kernel_states.proofs.Wiring.{held, part_bits, part_is, last_is, next_is, masked, masked_fits}
use Rattle.kernel_states.proofs.counters.counter_wires.Goals as goal

pub overflow_sub-bits : goal.overflow_sub-bits
overflow_sub-bits c = c.chains_by_ticks.ensures.least c.args.digit c.requires.digit

pub part-requires-clause-within : goal.part-requires-clause-within
part-requires-clause-within c = let some = c.chains_by_ticks.ensures.least c.args.digit c.requires.digit in let w = c.requires.within in omega (arith, some, w)

pub new-requires-clause-some : goal.new-requires-clause-some
new-requires-clause-some c = c.chains_by_ticks.ensures.least c.args.digit c.requires.digit

pub new-requires-clause-fits : goal.new-requires-clause-fits
new-requires-clause-fits c = c.chains_by_ticks.ensures.inside c.args.digit c.requires.digit

pub new-requires-3-clause-fits : goal.new-requires-3-clause-fits
new-requires-3-clause-fits c =
    masked_fits c.from.result c.args.digit.inc c.from-2.result c.args.digit.bits c.from.ensures c.from-2.ensures
    (c.chains_by_ticks.ensures.most c.args.digit c.requires.digit)

pub returns : goal.returns
returns c =
    let digit = c.args.digit in
    let some = c.chains_by_ticks.ensures.least digit c.requires.digit in
    let most = c.chains_by_ticks.ensures.most digit c.requires.digit in
    let state = c.args.state.net in
    let low = c.args.low in
    let word = c.in_ok-word.ensures in
    let last = c.in_ok-last.ensures in
    let is_last = c.in_ok-is_last.ensures in
    let nothing = c.in_ok-zero.ensures in
    let step = c.in_ok-inc.ensures in
    let more = c.in_ok-more.ensures in
    let next = c.in_ok-next.ensures in
    let end = after nothing (after step (after more next)) in
    let wide = word.width ∙ part_bits low digit.bits some in
    record {
      word = held 7 (same_value 1 digit.bits _ word (omega arith) (part_bits low digit.bits some)
          (λ d v h. part_is _ (v state) low digit.bits some refl)) (after last (after is_last end)) (omega arith);
      is_last = held 7 (same_value 3 1 _ (after word (after last is_last)) (omega arith) refl (λ d v h.
          let h2 = is_last.before d v h in
          let h1 = last.before d v h2 in
          last_is _ (v c.in_ok-word.word.net) (v c.in_ok-last.last.net) (counter_in digit low (v state)) digit.last refl
          (last.value d v h2 ∙ c.new.ensures.bits) (part_is _ (v state) low digit.bits some (word.value d v h1)))) end (omega arith);
      next = same_value 7 digit.bits _ (after word (after last (after is_last end))) (omega arith) (nothing.width ∙ c.new-2.ensures.width) (λ d v h.
          let h6 = next.before d v h in
          let h5 = more.before d v h6 in
          let h4 = step.before d v h5 in
          let h3 = nothing.before d v h4 in
          let h2 = is_last.before d v h3 in
          let h1 = last.before d v h2 in
          let at = part_is _ (v state) low digit.bits some (word.value d v h1) in
          next_is _ (v c.in_ok-is_last.is_last.net) (v c.in_ok-zero.zero.net) (v c.in_ok-more.more.net) (v c.in_ok-word.word.net)
          (v c.in_ok-inc.inc.net) (counter_in digit low (v state)) digit.last digit.inc digit.bits c.in_ok-word.word.width refl
          (last_is _ (v c.in_ok-word.word.net) (v c.in_ok-last.last.net) (counter_in digit low (v state)) digit.last (is_last.value d v h3)
          (last.value d v h2 ∙ c.new.ensures.bits) at)
          (nothing.value d v h4 ∙ c.new-2.ensures.bits) (more.value d v h6) wide most
          (step.value d v h5 ∙ c.new-3.ensures.bits ∙ masked c.from.result digit.inc c.from-2.result digit.bits c.from.ensures c.from-2.ensures) at);
    }
