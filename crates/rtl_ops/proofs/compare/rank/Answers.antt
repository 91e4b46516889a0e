use Rattle.std.proofs.Common.{◌+◌, ◌%◌, ◌^◌, ap, refl, arith, ◌∙◌}
use Rattle.std.proofs.lemmas.Result.{IfOk-weaker}
use Rattle.rtl_build.proofs.Growing.{goes_on, as_it_stands, word_fits}
use Rattle.rtl_ops.proofs.Ranks.{rank_of_unsigned, rank_by_half}
use Rattle.rtl_ops.proofs.compare.rank.Goals as goal

pub returns-then-not-is_signed : goal.returns-then-not-is_signed
returns-then-not-is_signed c =
    let a = c.args.a in
    as_it_stands a 2 _ c.requires.a (λ d v h. rank_of_unsigned c.args.t (v a.net) (cc))

pub returns : goal.returns
returns c =
    let a = c.args.a in
    let first = c.in_ok-half.ensures in
    IfOk-weaker _ _ _ (λ s made. goes_on 2 a.width _ first made (omega arith) refl (λ d v h e.
    ap (λ k. (v a.net + k) % 2 ^ a.width) e ∙ rank_by_half c.args.t (v a.net) a.width
    (cc) c.requires.a_type c.requires.a.some (word_fits a
    (made.keeps a (first.keeps a c.requires.a)) h))) c.binary.ensures
