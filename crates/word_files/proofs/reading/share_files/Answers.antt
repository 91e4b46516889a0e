use Rattle.std.proofs.Common.{◌+◌, ◌∷◌, drop, sym, ap, ◌∙◌, arith}
use Rattle.std.proofs.lemmas.List.{take_all}
use Rattle.word_files.specs.RunFiles.{files, is_shared}
use Rattle.word_files.proofs.KeyLemmas.{one_more, one_last, mapped_taken, files_left, shared_here, apart_here}
use Rattle.word_files.proofs.reading.share_files.Goals as goal

pub returns-then-not-branch : goal.returns-then-not-branch
returns-then-not-branch c =
    let l = c.loop-file-2 in
    let file = c.as_bytes-in-loop-file-2 in
    let left = files_left c.as_slice-file-items-2.result.now l.file-index c.loop-file-2-item.result (omega arith) c.loop-file-2-item.is in
    let here = shared_here l.taken file.result l.invariant.0
    (files (drop (l.file-index + 1) c.as_slice-file-items-2.result.now)) l.invariant.1
    (sym c.in_ok-insert-2.ensures.added ∙ c.if-not-branch.true) in
    sym (sym l.invariant.2 ∙ ap (is_shared l.invariant.0) (left ∙ ap (λ f. f ∷ files (drop (l.file-index + 1) c.as_slice-file-items-2.result.now)) (sym file.ensures)) ∙ here)

pub loop-file-preserved : goal.loop-file-preserved
loop-file-preserved c =
    let taken = mapped_taken (λ s. s.1) c.as_slice-file-items.result.now c.loop-file.file-index c.loop-file-item.result (omega arith) c.loop-file-item.is in
    rw taken (rw (← c.as_bytes.ensures) (one_last c.loop-file.taken c.insert.new.self c.as_bytes.result _ c.in_ok-insert.ensures.updates c.loop-file.invariant))

pub loop-file-2-init : goal.loop-file-2-init
loop-file-2-init c =
    let all = take_all c.loop-file.file-index c.as_slice-file-items.result.now (omega arith) in
    (files c.args.inputs.now, rw (← c.as_slice-file-items.ensures) (rw all at c.loop-file.invariant), ap (λ x. is_shared (files c.args.inputs.now) (files x)) c.as_slice-file-items-2.ensures)

pub loop-file-2-preserved : goal.loop-file-2-preserved
loop-file-2-preserved c =
    let l = c.loop-file-2 in
    let file = c.as_bytes-in-loop-file-2 in
    let left = files_left c.as_slice-file-items-2.result.now l.file-index c.loop-file-2-item.result (omega arith) c.loop-file-2-item.is in
    let here = apart_here l.taken file.result l.invariant.0
    (files (drop (l.file-index + 1) c.as_slice-file-items-2.result.now)) l.invariant.1
    (sym c.in_ok-insert-2.ensures.added ∙ c.if-not-branch.false) in (
      file.result.now ∷ l.invariant.0,
      one_more l.taken c.insert-in-loop-file-2.new.self file.result _ c.in_ok-insert-2.ensures.updates l.invariant.1,
      sym here ∙ ap (is_shared l.invariant.0) (ap (λ f. f ∷ files (drop (l.file-index + 1) c.as_slice-file-items-2.result.now)) file.ensures ∙ sym left) ∙ l.invariant.2,
    )
