use Rattle.std.proofs.Common.{arith}
use Rattle.word_files.proofs.HexLemmas.{digit_fits}
use Rattle.word_files.proofs.hex.parse_word.Goals as goal

pub overflow_mul-value : goal.overflow_mul-value
overflow_mul-value c =
    omega (arith, digit_fits c.loop-byte.value 0 c.loop-byte.byte-index c.loop-byte.invariant.below (omega arith) (omega arith))

pub overflow_add-value : goal.overflow_add-value
overflow_add-value c =
    let fits = digit_fits c.loop-byte.value c.in_ok-digit.field-0 c.loop-byte.byte-index c.loop-byte.invariant.below c.in_ok-digit.ensures.below (omega arith) in
    omega (arith, fits)
