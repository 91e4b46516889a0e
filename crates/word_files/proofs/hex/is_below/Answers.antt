use Rattle.std.proofs.Common.{arith}
use Rattle.std.proofs.lemmas.Bool.Decides.{nat_tests}
use Rattle.word_files.proofs.HexLemmas.{below_wide, none_above}
use Rattle.word_files.proofs.hex.is_below.Goals as goal

pub returns-then-width-ge128 : goal.returns-then-width-ge128
returns-then-width-ge128 c = grind (arith, nat_tests, below_wide c.args.value c.args.width)

pub returns-else-width-ge128 : goal.returns-else-width-ge128
returns-else-width-ge128 c = none_above c.args.value c.args.width
