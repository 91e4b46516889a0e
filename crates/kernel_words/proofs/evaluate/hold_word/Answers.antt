use Rattle.std.proofs.Common.{◌∙◌, ◌-◌, ap, sym}
use Rattle.std.specs.Prelude.{pos}
use Rattle.kernel_types.specs.Types.{is_like}
use Rattle.kernel_types.proofs.Typing.{typed}
use Rattle.kernel_words.specs.Streams.{values_of}
use Rattle.kernel_words.proofs.Holding.{hold_on, hold_first, hold_kept, one_back}
use Rattle.kernel_words.proofs.evaluate.hold_word.Goals as goal

pub operand-requires-clause-place : goal.operand-requires-clause-place
operand-requires-clause-place c =
    ((typed c.args.kernel.now.nodes c.args.kernel.now.made).firsts c.args.node c.requires.node (ap is_like c.requires.kind)).some

pub returns-then-is_enabled : goal.returns-then-is_enabled
returns-then-is_enabled c =
    let val = values_of c.args.streams.now in
    c.word.ensures ∙ ap (λ u. values_of c.args.streams.now u (pos c.args.tick)) c.operand.ensures.is
    ∙ hold_on c.args.kernel.now.nodes (values_of c.args.streams.now) c.args.node c.args.tick
    (sym c.is_enabled.ensures ∙ c.if-is_enabled.true)

pub returns-then-tick-eq0 : goal.returns-then-tick-eq0
returns-then-tick-eq0 c =
    hold_first c.args.kernel.now.nodes (values_of c.args.streams.now) c.args.node c.args.tick c.if-tick-eq0.true
    (sym c.is_enabled.ensures ∙ c.if-is_enabled.false)

pub returns : goal.returns
returns c =
    c.word-2.ensures ∙ c.requires.before (c.args.tick - 1) (one_back c.args.tick c.if-tick-eq0.false)
    ∙ hold_kept c.args.kernel.now.nodes (values_of c.args.streams.now) c.args.node c.args.tick c.if-tick-eq0.false
    (sym c.is_enabled.ensures ∙ c.if-is_enabled.false)
