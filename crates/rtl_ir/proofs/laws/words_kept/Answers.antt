use Rattle.rtl_ir.proofs.Kept.{words_kept}
use Rattle.rtl_ir.proofs.laws.words_kept.Goals as goal

pub returns : goal.returns
returns c = words_kept
