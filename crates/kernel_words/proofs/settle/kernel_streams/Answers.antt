use Rattle.std.proofs.Common.{◌≡◌, ◌∙◌, length, drop, sym, subst, arith}
use Rattle.kernel_words.specs.Filling.{IsFilling}
use Rattle.kernel_words.proofs.Finishing.{nothing_known, all_known, zeros, zeros_length, written_back, still_known, next_tick, next_node}
use Rattle.kernel_words.proofs.settle.kernel_streams.Goals as goal

pub loop-number-init : goal.loop-number-init
loop-number-init c =
    let zero_each = c.in_ok-taken.ensures.items_if_clones_equal (λ x e. e) in
    record {
      filling = nothing_known c.args.kernel.now.nodes c.args.run.now c.in_ok-streams.streams c.in_ok-taken.taken.items
          (c.in_ok-streams.ensures.nodes ∙ c.count.ensures) c.in_ok-streams.ensures.ticks
          (zeros_length _ _ zero_each ∙ c.count-2.ensures) (λ n. zeros _ _ n zero_each) c.in_ok-streams.ensures.unknown;
      known = λ b h l. absurd (omega (arith, l));
      empty = c.new-stack.ensures.items;
    }

pub loop-tick-init : goal.loop-tick-init
loop-tick-init c = record {
  filling = c.loop-number.invariant.filling;
  known = c.loop-number.invariant.known;
  so_far = λ b h e l. absurd (omega (arith, l));
  empty = c.loop-number.invariant.empty;
}

pub settle-requires-clause-place : goal.settle-requires-clause-place
settle-requires-clause-place c =
    let count = c.count-number-end.ensures in
    let test = c.loop-number-test.true in
    let timed = c.loop-tick.invariant.filling.timed in
    let tick = c.loop-tick-test.true in
    record { node = omega (arith, count, test); tick = omega (arith, timed, tick) }

pub loop-tick-preserved : goal.loop-tick-preserved
loop-tick-preserved c =
    let len : c.loop-tick.taken.len ≡ length c.settle.new.taken =
    c.loop-tick.taken.ok.0 ∙ c.loop-tick.invariant.filling.counts ∙ sym c.settle.ensures.filling.counts in
    record {
      filling = subst (λ xs. IsFilling c.args.kernel.now.nodes c.args.run.now c.settle.new.streams xs)
          (sym (written_back c.settle.new.taken (drop (length c.settle.new.taken) c.loop-tick.taken.items) c.loop-tick.taken.len len))
          c.settle.ensures.filling;
      known = still_known c.args.kernel.now.nodes c.loop-tick.streams c.settle.new.streams c.settle.ensures.ticks c.settle.ensures.kept c.loop-number.number
          c.loop-tick.invariant.known;
      so_far = next_tick c.args.kernel.now.nodes c.loop-tick.streams c.settle.new.streams c.settle.ensures.ticks c.settle.ensures.kept c.loop-number.number
          c.loop-tick.tick c.loop-tick.invariant.so_far c.in_ok-settle.ensures.known;
      empty = c.in_ok-settle.ensures.empty;
    }

pub loop-number-preserved : goal.loop-number-preserved
loop-number-preserved c =
    let timed = c.loop-tick.invariant.filling.timed in
    let done = c.loop-tick-test.false in
    record {
      filling = c.loop-tick.invariant.filling;
      known = next_node c.args.kernel.now.nodes c.loop-tick.streams c.loop-number.number c.loop-tick.tick (omega (arith, timed, done))
          c.loop-tick.invariant.known c.loop-tick.invariant.so_far;
      empty = c.loop-tick.invariant.empty;
    }

pub returns-clause-equations : goal.returns-clause-equations
returns-clause-equations c =
    let count = c.count-number-end.ensures in
    let last = c.loop-number.auto.number-end in
    let done = c.loop-number-test.false in
    all_known c.args.kernel.now.nodes c.args.run.now c.loop-number.streams c.loop-number.taken.items c.loop-number.invariant.filling
    (λ b h. c.loop-number.invariant.known b h (let l = h.node in omega (arith, l, count, done)))

pub returns-clause-words : goal.returns-clause-words
returns-clause-words c = c.loop-number.invariant.filling.words
