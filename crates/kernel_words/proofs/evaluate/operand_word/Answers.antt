use Rattle.std.proofs.Common.{◌<◌, ◌^◌, sym, subst}
use Rattle.std.specs.Prelude.{pos}
use Rattle.kernel_words.proofs.evaluate.operand_word.Goals as goal

pub new-requires-clause-fits : goal.new-requires-clause-fits
new-requires-clause-fits c =
    subst (λ w. c.in_ok-bits.bits < 2 ^ w) (sym c.width_of.ensures.is)
    (c.requires.words c.args.node (pos c.args.tick) c.in_ok-bits.bits c.requires.node (sym c.in_ok-bits.ensures))
