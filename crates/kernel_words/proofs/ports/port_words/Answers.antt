use Rattle.std.proofs.Common.{◌≡◌, ◌∙◌, suc, ◌+◌, ◌∷◌, [], ◌++◌, cond, ap, arith}
use Rattle.std.specs.Prelude.{pos}
use Rattle.stream_equations.specs.Equations.{enabled}
use Rattle.stream_equations.specs.Words.{words_before}
use Rattle.kernel_words.specs.Streams.{values_of}
use Rattle.kernel_words.proofs.ports.port_words.Goals as goal

pub loop-tick-preserved : goal.loop-tick-preserved
loop-tick-preserved c =
    let next : suc c.loop-tick.tick ≡ c.loop-tick.tick + 1 = omega arith in
    c.in_ok-push_word.ensures
    ∙ ap (λ ws. cond (enabled c.args.kernel.now.nodes (values_of c.args.streams.now) c.args.node c.loop-tick.tick)
    (ws ++ values_of c.args.streams.now c.args.node (pos c.loop-tick.tick) ∷ []) ws) c.loop-tick.invariant
    ∙ ap (words_before (enabled c.args.kernel.now.nodes (values_of c.args.streams.now) c.args.node)
    (λ t. values_of c.args.streams.now c.args.node (pos t))) next

pub returns : goal.returns
returns c = λ run e.
    let ticks = c.ticks-tick-end.ensures in
    let most = c.loop-tick.auto.tick-end in
    let done = c.loop-tick-test.false in
    let last : c.loop-tick.tick ≡ run.ticks = omega (arith, ticks, most, done, e) in
    c.loop-tick.invariant
    ∙ ap (words_before (enabled c.args.kernel.now.nodes (values_of c.args.streams.now) c.args.node)
    (λ t. values_of c.args.streams.now c.args.node (pos t))) last
