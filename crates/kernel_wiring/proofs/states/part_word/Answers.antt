use Rattle.std.proofs.Common.{◌≡◌, ◌∙◌, ◌+◌, ◌-◌, ◌/◌, ◌%◌, ◌^◌, ap, arith}
use Rattle.std.proofs.lemmas.Result.{IfOk-weaker}
use Rattle.rtl_build.proofs.Growing.{same_value}
use Rattle.counter_chains.proofs.Below.{bits_within}
use Rattle.kernel_wiring.proofs.states.part_word.Goals as goal

pub overflow_add-low : goal.overflow_add-low
overflow_add-low c =
    let d = c.requires.digit in
    let most = bits_within c.args.digits.now c.args.place d.0 d.1 in
    let bits = d.2 in
    let low = c.bits_below-low.ensures in
    let few = c.requires.few in
    omega (arith, most, bits, low, few)

pub part-requires-clause-within : goal.part-requires-clause-within
part-requires-clause-within c =
    let d = c.requires.digit in
    let most = bits_within c.args.digits.now c.args.place d.0 d.1 in
    let bits = d.2 in
    let low = c.bits_below-low.ensures in
    let some = c.requires.some in
    let wide = c.requires.wide in
    omega (arith, most, bits, low, some, wide)

pub returns : goal.returns
returns c =
    let low = c.bits_below-low.result in
    let bits = c.args.bits in
    let some = c.requires.some in
    let size : low + (bits - 1) + 1 - low ≡ bits = omega (arith, some) in
    IfOk-weaker _ _ _ (λ s made. same_value 1 bits _ made (omega arith) size (λ d v h.
    ap (λ w. v c.args.chain.net / 2 ^ low % 2 ^ w) size
    ∙ ap (λ k. v c.args.chain.net / 2 ^ k % 2 ^ bits) c.bits_below-low.ensures)) c.part.ensures
