use Rattle.std.proofs.Common.{◌≡◌, ◌<◌, ◌≤◌, subst, arith, ⊎_elim}
use Rattle.std.proofs.lemmas.Bool.{cases_lt}
use Rattle.kernel_words.specs.Guarded.{IsUnguarded}
use Rattle.kernel_words.specs.Streams.{values_of}
use Rattle.kernel_words.proofs.guarded.first_unguarded.Goals as goal

pub returns-then-count-eq0 : goal.returns-then-count-eq0
returns-then-count-eq0 c = λ place u.
    let node = u.node in
    let count = c.count.ensures in
    let none = c.if-count-eq0.true in
    omega (arith, node, count, none)

pub loop-number-preserved : goal.loop-number-preserved
loop-number-preserved c = record {
  earlier = c.loop-number.invariant.earlier;
  below = λ place t l u. ⊎_elim
      (λ (g : place.node < c.loop-number.number). c.loop-number.invariant.below place t g u)
      (λ (g : c.loop-number.number ≤ place.node).
      let at : place.node ≡ c.loop-number.number = omega (arith, g, l) in
      let same : place ≡ record { node = c.loop-number.number; tick = c.loop-tick.tick } = λ i. record { node = at i; tick = t i } in
      c.is_unguarded.ensures.no c.if-is_unguarded.false
      (subst (IsUnguarded c.args.kernel.now.nodes c.args.streams.now.ticks (values_of c.args.streams.now)) same u))
      (cases_lt place.node c.loop-number.number);
}

pub loop-tick-preserved : goal.loop-tick-preserved
loop-tick-preserved c = λ place l u. ⊎_elim
    (λ (g : place.tick < c.loop-tick.tick). c.loop-tick.invariant place g u)
    (λ (g : c.loop-tick.tick ≤ place.tick).
    let at : place.tick ≡ c.loop-tick.tick = omega (arith, g, l) in
    let node = u.node in
    let count = c.count-number-end.ensures in
    let done = c.loop-number-test.false in
    c.loop-number.invariant.below place at (omega (arith, node, count, done)) u)
    (cases_lt place.tick c.loop-tick.tick)

pub returns : goal.returns
returns c = λ place u.
    let tick = u.tick in
    let ticks = c.ticks-tick-end.ensures in
    let done = c.loop-tick-test.false in
    c.loop-tick.invariant place (omega (arith, tick, ticks, done)) u
