use Rattle.std.proofs.Common.{◌-◌, sym, ap, ◌∙◌, arith}
use Rattle.kernel_wiring.proofs.Stages.{stage_least, wait_among, late_ready, late_rest, rest_is}
use Rattle.kernel_wiring.specs.Words.{late_of}
use Rattle.kernel_wiring.proofs.taps.late_signal.Goals as goal

pub overflow_sub-wait : goal.overflow_sub-wait
overflow_sub-wait c =
    let least = stage_least c.args.latency c.args.waits.now c.args.behind c.if-latency-eq0.false c.requires.kept in
    let same = c.from.ensures in
    omega (arith, least, same)

pub returns-then-wait-eq0 : goal.returns-then-wait-eq0
returns-then-wait-eq0 c =
    let least = stage_least c.args.latency c.args.waits.now c.args.behind c.if-latency-eq0.false c.requires.kept in
    let same = c.from.ensures in
    let none = c.if-wait-eq0.true in
    sym (late_ready c.args.latency c.args.waits.now c.args.behind c.args.signals.now c.if-latency-eq0.false (omega (arith, least, same, none)) c.requires.same)

pub waiting_signal-requires-2-clause-kept : goal.waiting_signal-requires-2-clause-kept
waiting_signal-requires-2-clause-kept c =
    let least = stage_least c.args.latency c.args.waits.now c.args.behind c.if-latency-eq0.false c.requires.kept in
    let same = c.from.ensures in
    wait_among c.args.latency c.args.waits.now c.args.behind (c.args.behind - c.from.result) c.if-latency-eq0.false (omega (arith, least, same))
    c.if-wait-eq0.false c.requires.kept

pub returns : goal.returns
returns c =
    let least = stage_least c.args.latency c.args.waits.now c.args.behind c.if-latency-eq0.false c.requires.kept in
    let same = c.from.ensures in
    let wait = c.args.behind - c.from.result in
    c.waiting_signal-2.ensures
    ∙ ap (λ signals. late_of c.args.waits.now signals wait) (rest_is c.args.signals.now)
    ∙ sym (late_rest c.args.latency c.args.waits.now c.args.behind (c.args.behind - c.from.result) c.args.signals.now c.if-latency-eq0.false
    (omega (arith, least, same)) c.if-wait-eq0.false c.requires.same)
