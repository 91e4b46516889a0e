use Rattle.word_files.proofs.KeyLemmas.{same_decides}
use Rattle.word_files.proofs.fit.same_names.Goals as goal
use Rattle.word_files.proofs.fit.same_names.Goals.{then-within, else-within}

pub returns : goal.returns
returns g c =
    same_decides c.in_ok-left.left c.in_ok-right.right _ _ c.in_ok-left.ensures
    c.in_ok-right.ensures c.is_subset-within.result c.is_subset-around.result _
    c.is_subset-within.ensures c.is_subset-around.ensures
    (elim c.if-within.branch [ then-within w ↦ cc | else-within w ↦ cc ])
