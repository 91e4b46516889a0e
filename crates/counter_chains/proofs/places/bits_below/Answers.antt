use Rattle.std.proofs.Common.{◌≡◌, ◌∙◌, ◌+◌, ◌-◌, ◌<◌, List, ℕ, suc, length, get_or, take, drop, ap, arith}
use Rattle.std.proofs.lemmas.List.{take_rest}
use Rattle.counter_chains.specs.declared.digits.CounterDigit.{CounterDigit}
use Rattle.counter_chains.specs.Chains.{bits_of, bits_below}
use Rattle.counter_chains.proofs.Below.{bits_next, none_left, later_bits, below_most}
use Rattle.counter_chains.proofs.places.bits_below.Goals as goal

abbrev later_of : List CounterDigit → ℕ → List CounterDigit
later_of digits place = take (length digits - (place + 1)) (drop (place + 1) digits)

-- the later counters have the bits below
below : (digits : List CounterDigit) (place : ℕ) → place < length digits → bits_of (later_of digits place) ≡ bits_below digits place
below digits place h =
    let next : place + 1 ≡ suc place = omega arith in
    ap bits_of (take_rest digits (place + 1)) ∙ ap (λ i. bits_of (drop i digits)) next ∙ later_bits digits place h

step : (later : List CounterDigit) (i : ℕ) (d : CounterDigit) → i < length later
    → bits_of (drop i later) ≡ (get_or later i d).bits + bits_of (drop (i + 1) later)
step later i d h =
    let next : suc i ≡ i + 1 = omega arith in
    bits_next later i d h ∙ ap (λ j. (get_or later i d).bits + bits_of (drop j later)) next

pub loop-digit-preserved : goal.loop-digit-preserved
loop-digit-preserved c =
    let next = step (later_of c.args.digits.now c.args.place) c.loop-digit.digit-index (record { last = 0; inc = 0; bits = 0 })
    c.loop-digit-test.true in
    let told = c.loop-digit.invariant in
    omega (arith, next, told)

pub overflow_add-bits : goal.overflow_add-bits
overflow_add-bits c =
    let digits = c.args.digits.now in
    let place = c.args.place in
    let next = step (later_of digits place) c.loop-digit.digit-index (record { last = 0; inc = 0; bits = 0 }) c.loop-digit-test.true in
    let told = c.loop-digit.invariant in
    let all = below digits place c.requires.place in
    let most = below_most digits place in
    let few = c.requires.few in
    omega (arith, next, told, all, most, few)

pub returns : goal.returns
returns c =
    let digits = c.args.digits.now in
    let place = c.args.place in
    let told = c.loop-digit.invariant in
    let none = none_left (later_of digits place) c.loop-digit.digit-index c.loop-digit-test.false in
    let all = below digits place c.requires.place in
    omega (arith, told, none, all)
