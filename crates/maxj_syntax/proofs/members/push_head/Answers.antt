use Rattle.std.proofs.Common.{[], ◌∷◌}
use Rattle.maxj_syntax.specs.declared.kind.Word.TheVariants as W
use Rattle.maxj_syntax.specs.declared.symbol.TokenClass.TheVariants as C
use Rattle.std.specs.Option.{option_map}
use Rattle.maxj_tokens.specs.Reading.{placed_view}
use Rattle.maxj_syntax.specs.Symbols.{inside_view}
use Rattle.maxj_syntax.proofs.Expansions.{head_name, head_void, head_word, asked}
use Rattle.maxj_syntax.proofs.members.push_head.Goals as goal

pub returns-in-Some : goal.returns-in-Some
returns-in-Some c =
    head_name (inside_view c.args.inside)
    (option_map placed_view c.args.next) c.in-Some.name.now c.is_own.result
    c.is_memory.result _ _ c.in-Some.ensures.0 c.in-Some.ensures.1 c.is_own.ensures
    c.is_memory.ensures c.in_ok-put_name.ensures

pub returns-then-admits : goal.returns-then-admits
returns-then-admits c = head_void (inside_view c.args.inside)
    (option_map placed_view c.args.next) _ _ c.in_default.ensures (asked (C.Word W.Void
    ∷ []) c.admits.ensures c.next_kind-kind.ensures c.if-admits.true) c.in_ok-put_void.ensures

pub returns-then-admits-2 : goal.returns-then-admits-2
returns-then-admits-2 c =
    head_word (inside_view c.args.inside)
    (option_map placed_view c.args.next) _ _ c.in_default.ensures (asked (C.Word W.Void
    ∷ []) c.admits.ensures c.next_kind-kind.ensures c.if-admits.false) (asked (C.TypeWord
    ∷ []) c.admits-2.ensures c.next_kind-kind.ensures c.if-admits-2.true)
    c.in_ok-put_word.ensures
