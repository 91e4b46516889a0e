use Rattle.std.proofs.Common.{arith}
use Rattle.std.proofs.lemmas.List.{length-take}
use Rattle.std.proofs.lemmas.Option.{slice_get_within}
use Rattle.rtl_check.proofs.parts.instanced.Goals as goal

pub mark_parts-requires : goal.mark_parts-requires
mark_parts-requires c = λ k i at.
    let lt = ((c.requires.each c.loop-number.number c.at.result.now c.at.ensures).instances k i at).is_earlier in
    omega (arith, length-take c.loop-number.number c.args.design.now.modules, c.as_mut_slice.ensures.len, c.loop-number.invariant.size)

pub returns-clause-marked : goal.returns-clause-marked
returns-clause-marked c = λ number k m i at_m at_i.
    c.loop-number.invariant.marked number k m i (omega (arith, slice_get_within c.args.design.now.modules number m at_m)) at_m at_i
