use Rattle.std.proofs.Common.{arith}
use Rattle.std.proofs.lemmas.Grind.{common_steps}
use Rattle.word_files.proofs.PartLemmas.{more_before}
use Rattle.word_files.proofs.parts.ListTuple2TextPart.read.Goals as goal

pub loop-key-preserved : goal.loop-key-preserved
loop-key-preserved g c = grind (arith, common_steps, more_before, c.loop-key.invariant)

pub returns-in_default-2 : goal.returns-in_default-2
returns-in_default-2 g c =
    rw (← c.in-Some.ensures) (grind (arith, common_steps, c.loop-key.invariant, c.in-Some-2.ensures.steps, c.in_ok-part.ensures, c.iter-key-items.ensures.rest, c.into_iter-key-iterator.ensures))

pub returns : goal.returns
returns g c =
    rw (← c.in-Some.ensures) (grind (arith, common_steps, c.loop-key.invariant, c.in-None.ensures.steps, c.iter-key-items.ensures.rest, c.into_iter-key-iterator.ensures))
