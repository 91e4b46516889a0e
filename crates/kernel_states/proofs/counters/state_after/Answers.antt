use Rattle.std.proofs.Common.{◌≡◌, ◌-◌, ◌+◌, ◌*◌, drop, get_or, length, sym, ap, ◌∙◌, subst, arith}
use Rattle.rtl_build.proofs.Growing.{same_value, word_fits}
use Rattle.counter_chains.specs.declared.digits.CounterDigit.{CounterDigit}
use Rattle.counter_chains.specs.Chains.{bits_of}
use Rattle.kernel_states.proofs.Suffixes.{drop_front, AreStepped, last_counter, counter_before, drop_last, front_fits, whole}
use Rattle.kernel_states.specs.Stepping.{state_after, MakesCounter}
use Rattle.kernel_states.proofs.counters.state_after.Goals as goal

abbrev none : CounterDigit
none = record { last = 0; inc = 0; bits = 0 }

pub counter_wires-requires-clause-digit : goal.counter_wires-requires-clause-digit
counter_wires-requires-clause-digit c =
    c.requires.digits (length c.args.digits.now - 1) none (let some = c.requires.some in omega (arith, some))

pub counter_wires-requires-clause-within : goal.counter_wires-requires-clause-within
counter_wires-requires-clause-within c =
    let digits = c.args.digits.now in
    let fits = front_fits digits (length digits) none c.requires.some (omega arith) in
    let wide = c.requires.wide in
    omega (arith, fits, wide)

pub loop-place-init : goal.loop-place-init
loop-place-init c =
    let digits = c.args.digits.now in
    let m = c.args.netlist.now in
    let n = c.counter_wires.new.netlist in
    let net = c.args.state.net in
    let s = c.in_ok-counter.counter in
    let last = get_or digits (length digits - 1) none in
    let some = c.requires.some in
    let one : 10 * (length digits - (length digits - 1)) ≡ 10 = omega (arith, some) in
    let end = sym (drop_last digits none some) in
    record {
      made =
          subst (λ most. AreStepped m n most net (drop (length digits - 1) digits) (record { next = s.next; ended = s.is_last })) (sym one)
          (subst (λ ds. AreStepped m n 10 net ds (record { next = s.next; ended = s.is_last })) end (last_counter last net s c.in_ok-counter.ensures));
      low = let sum : last.bits ≡ last.bits + 0 = omega arith in sum ∙ ap bits_of end;
    }

pub counter_wires-requires-in-loop-place-clause-digit : goal.counter_wires-requires-in-loop-place-clause-digit
counter_wires-requires-in-loop-place-clause-digit c =
    let le = c.loop-place.auto.place in
    let lt = c.loop-place-test.true in
    c.requires.digits (c.loop-place.place - 1) none (omega (arith, le, lt))

pub counter_wires-requires-in-loop-place-clause-within : goal.counter_wires-requires-in-loop-place-clause-within
counter_wires-requires-in-loop-place-clause-within c =
    let le = c.loop-place.auto.place in
    let lt = c.loop-place-test.true in
    let fits = front_fits c.args.digits.now c.loop-place.place none (omega (arith, lt)) (omega (arith, le)) in
    let low = c.loop-place.invariant.low in
    let wide = c.requires.wide in
    omega (arith, fits, low, wide)

pub joined-requires-clause-width : goal.joined-requires-clause-width
joined-requires-clause-width c =
    let le = c.loop-place.auto.place in
    let lt = c.loop-place-test.true in
    let fits = front_fits c.args.digits.now c.loop-place.place none (omega (arith, lt)) (omega (arith, le)) in
    let word = c.in_ok-counter-2.ensures.word.width in
    let later = c.loop-place.invariant.made.next.width in
    let wide = c.requires.wide in
    let most = c.requires.state.at_most in
    omega (arith, fits, word, later, wide, most)

pub loop-place-preserved : goal.loop-place-preserved
loop-place-preserved c =
    let digits = c.args.digits.now in
    let k = c.loop-place.place in
    let i = c.loop-place.invariant in
    let l = c.args.netlist.now in
    let n = c.joined.new.netlist in
    let net = c.args.state.net in
    let s = c.in_ok-counter-2.counter in
    let d = get_or digits (k - 1) none in
    let ds = drop k digits in
    let later = c.in_ok-later.later in
    let le = c.loop-place.auto.place in
    let lt = c.loop-place-test.true in
    let front = sym (drop_front digits k none (omega (arith, lt)) (omega (arith, le))) in
    let more : 10 * (length digits - k) + 10 ≡ 10 * (length digits - (k - 1)) = omega (arith, le, lt) in
    let made : MakesCounter c.loop-place.netlist c.counter_wires-in-loop-place.new.netlist d (bits_of ds) net s =
    subst (λ low. MakesCounter c.loop-place.netlist c.counter_wires-in-loop-place.new.netlist d low net s) i.low c.in_ok-counter-2.ensures in
    record {
      made =
          subst (λ most. AreStepped l n most net (drop (k - 1) digits) later) more
          (subst (λ xs. AreStepped l n (10 * (length digits - k) + 10) net xs later) front
          (counter_before d ds net s c.loop-place.later later i.made made c.in_ok-later.ensures));
      low = let sum = i.low in let e = ap bits_of front in omega (arith, sum, e);
    }

pub returns : goal.returns
returns c =
    let digits = c.args.digits.now in
    let l = c.args.netlist.now in
    let n = c.loop-place.netlist in
    let net = c.args.state.net in
    let none' = c.loop-place-test.false in
    let first : c.loop-place.place ≡ 0 = omega (arith, none') in
    let nets : 10 * (length digits - 0) ≡ 10 * length digits = omega arith in
    let all : AreStepped l n (10 * length digits) net digits c.loop-place.later =
    subst (λ most. AreStepped l n most net digits c.loop-place.later) nets
    (subst (λ k. AreStepped l n (10 * (length digits - k)) net (drop k digits) c.loop-place.later) first c.loop-place.invariant.made) in
    same_value (10 * length digits) c.args.state.width _ all.next (omega arith) (sym c.requires.wide) (λ d v h.
    ap (state_after digits) (whole c.args.state digits (v net) c.requires.wide (word_fits c.args.state (all.next.keeps c.args.state c.requires.state) h)))
