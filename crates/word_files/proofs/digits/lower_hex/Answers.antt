use Rattle.std.proofs.Common.{◌≡◌, ◌+◌, ◌-◌, ◌∙◌, arith}
use Rattle.std.proofs.lemmas.List.{length-set}
use Rattle.word_files.specs.Written.{lower_digits}
use Rattle.word_files.proofs.DigitLemmas.{one_lower}
use Rattle.word_files.proofs.digits.lower_hex.Goals as goal

pub loop-place-preserved : goal.loop-place-preserved
loop-place-preserved c =
    let l = c.loop-place in
    let n : l.place ≡ l.place - 1 + 1 = omega arith in
    record {
      within = omega (arith, l.invariant.within);
      size = length-set l.line (l.place - 1) c.digit.result ∙ l.invariant.size;
      digits = one_lower l.line c.args.count (l.place - 1) l.rest c.digit.result
          (lower_digits c.args.count c.args.value) (omega (
            arith,
            l.invariant.within,
          )) (omega (
            arith,
            l.invariant.size,
          )) c.digit.ensures (rw (← n) l.invariant.digits);
    }
