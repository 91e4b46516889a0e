use Rattle.text_scan.proofs.GapLemmas.{line_skipped, block_skipped, blank_skipped}
use Rattle.std.proofs.Common.{◌≡◌, true}
use Rattle.grammar.specs.Tokens.{is_blank}
use Rattle.text_scan.proofs.gap.skip_gap.Goals as goal

pub returns-in-Some-clause-some : goal.returns-in-Some-clause-some
returns-in-Some-clause-some c = line_skipped c.args.text.now c.in-Some.line.now
    c.split_front.result.front.now _ c.in-Some.ensures.some c.split_front.ensures.joined
    c.split_front.ensures.front c.split_front.ensures.rest

pub returns-in-Some-split_close-clause-some : goal.returns-in-Some-split_close-clause-some
returns-in-Some-split_close-clause-some c =
    block_skipped c.args.text.now c.in-Some-after.block.now c.in-Some-split_close.split.front.now _ c.in-Some-after.ensures.some c.in-Some-split_close.ensures.some c.in-Some-split_close.ensures.first

pub returns-in-Some-split_first-clause-some : goal.returns-in-Some-split_first-clause-some
returns-in-Some-split_first-clause-some c =
    let h : is_blank c.in-Some-split_first.first.now ≡ true = cc in
    blank_skipped c.args.text.now c.in-Some-split_first.first.now _ c.in-Some-split_first.ensures.cases.0 h
