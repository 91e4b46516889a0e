use Rattle.std.proofs.Common.{◌∷◌, ap, ◌∙◌}
use Rattle.maxj_syntax.specs.declared.symbol.Rule.{Rule}
use Rattle.maxj_syntax.specs.Symbols.{Sub}
use Rattle.maxj_syntax.specs.Building.{todo}
use Rattle.maxj_syntax.proofs.Ranging.{start_ranged}
use Rattle.maxj_syntax.proofs.Exits.{start_file}
use Rattle.maxj_syntax.proofs.parser.build_classes.Goals as goal

pub read_tokens-requires-clause-reached : goal.read_tokens-requires-clause-reached
read_tokens-requires-clause-reached c =
    start_file c.args.tokens.now c.push_fixed.new.stack.items c.in_ok-builder.builder c.len.result
    (c.in_ok-push_fixed.ensures ∙ ap (λ l. Sub Rule.File ∷ todo l) c.new-stack.ensures.items)
    c.len.ensures.number c.in_ok-builder.ensures

pub read_tokens-requires-clause-ranged : goal.read_tokens-requires-clause-ranged
read_tokens-requires-clause-ranged c =
    start_ranged c.args.tokens.now (todo c.push_fixed.new.stack.items) c.in_ok-builder.builder c.len.result
    (c.in_ok-push_fixed.ensures ∙ ap (λ l. Sub Rule.File ∷ todo l) c.new-stack.ensures.items)
    c.len.ensures.number c.in_ok-builder.ensures
