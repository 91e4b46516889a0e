use Rattle.std.proofs.Common.{drop, sym, subst}
use Rattle.std.specs.Prelude.{IfOk}
use Rattle.std.proofs.lemmas.Result.{IfOk-weaker}
use Rattle.maxj_syntax.specs.Building.{Acts}
use Rattle.maxj_syntax.proofs.build.act.Goals as goal

pub returns-in-Keep-clause-trees : goal.returns-in-Keep-clause-trees
returns-in-Keep-clause-trees c =
    let tokens = c.args.tokens.now in
    subst (λ a. IfOk c.keep.result (λ _. Acts tokens a
    (drop c.args.at tokens) c.args.builder.now c.keep.new.builder)) (sym c.in-Keep.is)
    (IfOk-weaker c.keep.result _ _ (λ _ f. f (drop c.args.at tokens)) c.keep.ensures.trees)
