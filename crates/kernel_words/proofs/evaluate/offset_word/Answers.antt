use Rattle.std.proofs.Common.{◌≡◌, ◌∙◌, None, ap, subst}
use Rattle.std.specs.Prelude.{ℤ, pos, ◌+ℤ◌, ◌<ℤ◌}
use Rattle.std.proofs.lemmas.Int.{to_z-of_z}
use mir.Val.{to_z, of_z}
use mir.Syntax.{w32}
use Rattle.stream_graph.specs.LookUps.{operand_at}
use Rattle.kernel_types.specs.Types.{is_like}
use Rattle.kernel_types.proofs.Typing.{typed}
use Rattle.kernel_words.specs.Streams.{values_of}
use Rattle.kernel_words.proofs.Holding.{before_run}
use Rattle.kernel_words.proofs.evaluate.offset_word.Goals as goal

pub returns-in_err-at : goal.returns-in_err-at
returns-in_err-at c =
    let none : c.from_residual.result ≡ None = c.from_residual.ensures in
    let same : to_z w32 (of_z w32 c.args.ticks) ≡ c.args.ticks = to_z-of_z w32 c.args.ticks c.ranges.ticks in
    none ∙ before_run c.args.streams.now (operand_at c.args.kernel.now.nodes c.args.node 0) (pos c.args.tick +ℤ c.args.ticks)
    (subst (λ (k : ℤ). (pos c.args.tick +ℤ k) <ℤ pos 0) same c.in_err-at.ensures.before)

pub operand-requires-clause-place : goal.operand-requires-clause-place
operand-requires-clause-place c =
    ((typed c.args.kernel.now.nodes c.args.kernel.now.made).firsts c.args.node c.requires.node (ap is_like c.requires.kind)).some

pub returns : goal.returns
returns c =
    let same : to_z w32 (of_z w32 c.args.ticks) ≡ c.args.ticks = to_z-of_z w32 c.args.ticks c.ranges.ticks in
    c.word.ensures ∙ ap (λ u. values_of c.args.streams.now u (pos c.in_ok-at.at)) c.operand.ensures.is
    ∙ ap (values_of c.args.streams.now (operand_at c.args.kernel.now.nodes c.args.node 0)) c.in_ok-at.ensures.ahead
    ∙ ap (λ (k : ℤ). values_of c.args.streams.now (operand_at c.args.kernel.now.nodes c.args.node 0) (pos c.args.tick +ℤ k)) same
