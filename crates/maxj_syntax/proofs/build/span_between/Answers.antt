use Rattle.std.proofs.Common.{◌-◌}
use Rattle.maxj_syntax.proofs.SpanLemmas.{ends_at, span_view}
use Rattle.maxj_syntax.proofs.build.span_between.Goals as goal

pub end_of-requires : goal.end_of-requires
end_of-requires c = ends_at c.args.tokens.now (c.args.end - 1) _ c.at-last.ensures c.requires.ends

pub returns-then-start-end : goal.returns-then-start-end
returns-then-start-end c = span_view c.args.tokens.now c.args.start c.args.end _ _ c.end_of.result c.if-start-end.true c.requires.within c.at-first.ensures c.at-last.ensures c.end_of.ensures
