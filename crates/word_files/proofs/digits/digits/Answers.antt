use Rattle.std.proofs.Common.{sym, ap, ◌∙◌, arith}
use Rattle.std.proofs.lemmas.List.{take-replicate}
use Rattle.word_files.specs.Written.{digit_count, digits_of}
use Rattle.word_files.proofs.digits.digits.Goals as goal

pub returns-in-None : goal.returns-in-None
returns-in-None c = take-replicate (digit_count c.args.width) 33 120 (omega arith) ∙ ap (digits_of c.args.width) (sym c.in-None.is)
