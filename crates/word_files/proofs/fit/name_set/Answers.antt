use Rattle.std.proofs.Common.{arith}
use Rattle.std.proofs.lemmas.List.{take_all}
use Rattle.word_files.proofs.KeyLemmas.{one_last, mapped_taken}
use Rattle.word_files.proofs.fit.name_set.Goals as goal

pub loop-item-preserved : goal.loop-item-preserved
loop-item-preserved g c =
    let taken = mapped_taken g.A.Named.name_of c.as_slice-item-items.result.now c.loop-item.item-index c.item-item.result (omega arith) c.item-item.is in
    rw taken (rw (← c.name.ensures) (one_last c.loop-item.set c.insert.new.self c.name.result _ c.in_ok-insert.ensures.updates c.loop-item.invariant))

pub returns : goal.returns
returns g c =
    let all = take_all c.loop-item.item-index c.as_slice-item-items.result.now (omega arith) in
    rw (← c.as_slice-item-items.ensures) (rw all at c.loop-item.invariant)
