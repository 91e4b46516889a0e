-- The taps are the sorted delays, each once, and the words are the last of them.
use Rattle.std.proofs.Common.{sym, ◌∙◌}
use Rattle.std.proofs.lemmas.List.Filters.{dedup_is}
use Rattle.fifo_sharing.proofs.Tapping.{chain_of, last_of, none_last, nothing_tapped}
use Rattle.fifo_sharing.proofs.chain.chain_for.Goals as goal

pub returns-in_err-words-clause-none : goal.returns-in_err-words-clause-none
returns-in_err-words-clause-none c =
    let moved = rw c.into_vec-taps.ensures at c.sort_unstable.ensures.permutation in
    let is = dedup_is _ _ _ c.dedup.ensures.filtered in
    rw c.from_residual.ensures (nothing_tapped _ _ _ moved is (none_last _ _ c.deref.ensures.value
    c.in_err-words.ensures.value))

pub returns-clause-chain : goal.returns-clause-chain
returns-clause-chain c =
    let moved = rw c.into_vec-taps.ensures at c.sort_unstable.ensures.permutation in
    let is = c.from_vec.ensures ∙ dedup_is _ _ _ c.dedup.ensures.filtered in
    let last = last_of _ _ _ (c.deref.ensures.value ∙ sym c.from_vec.ensures)
    c.in_ok-words.ensures.value in
    chain_of _ _ _ _ _ moved c.sort_unstable.ensures.sorted is last.0 last.1
