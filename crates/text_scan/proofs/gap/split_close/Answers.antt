use Rattle.std.proofs.Common.{◌≡◌, length, take, drop, arith, sym}
use Rattle.std.proofs.lemmas.List.{take-append-drop}
use Rattle.std.proofs.Common.{length-take-le}
use Rattle.text_scan.proofs.GapLemmas.{no_close, no_close_at_all}
use Rattle.text_scan.proofs.gap.split_close.Goals as goal

pub returns-in-Some-clause-first : goal.returns-in-Some-clause-first
returns-in-Some-clause-first c =
    let n : length (take c.loop-at.at c.args.text.now) ≡ c.loop-at.at = length-take-le c.loop-at.at c.args.text.now (omega arith) in
    no_close c.args.text.now (take c.loop-at.at c.args.text.now) (drop c.loop-at.at c.args.text.now) (sym (take-append-drop c.loop-at.at c.args.text.now))
    (λ k h. c.loop-at.invariant k (omega arith))

pub returns-clause-none : goal.returns-clause-none
returns-clause-none c = no_close_at_all c.args.text.now (λ k h. c.loop-at.invariant k (omega arith))
