use Rattle.std.proofs.Common.{sym, ◌∙◌, arith}
use Rattle.kernel_stages.proofs.laws.followed_words.Goals as goal

pub returns : goal.returns
returns c = λ m widths words delays wide are u lu j d lj.
    let word = are u (omega (arith, lj)) in
    record { signal = word.0; width = word.1 ∙ sym (wide u lu j d lj) }
