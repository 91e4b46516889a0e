use Rattle.std.proofs.Common.{[], ◌∷◌}
use Rattle.maxj_tokens.specs.declared.sign.Sign.TheVariants as S
use Rattle.maxj_syntax.specs.declared.symbol.TokenClass.TheVariants as C
use Rattle.std.specs.Option.{option_map}
use Rattle.maxj_tokens.specs.Reading.{placed_view}
use Rattle.maxj_syntax.specs.Symbols.{inside_view}
use Rattle.maxj_syntax.proofs.Expansions.{after_ctor, after_memory, after_type, asked_if}
use Rattle.maxj_syntax.proofs.members.push_after.Goals as goal

pub returns-then-admits_if : goal.returns-then-admits_if
returns-then-admits_if c = after_ctor (inside_view c.args.inside) c.args.first.own c.args.first.memory
    (option_map placed_view c.args.next) _ _ (asked_if c.args.first.own (C.Sign S.Open
    ∷ []) c.admits_if.ensures c.next_kind-kind.ensures c.if-admits_if.true) c.in_ok-put_ctor.ensures

pub returns-then-admits_if-2 : goal.returns-then-admits_if-2
returns-then-admits_if-2 c =
    after_memory (inside_view c.args.inside) c.args.first.own c.args.first.memory
    (option_map placed_view c.args.next) _ _ (asked_if c.args.first.own (C.Sign S.Open
    ∷ []) c.admits_if.ensures c.next_kind-kind.ensures c.if-admits_if.false)
    (asked_if c.args.first.memory (C.Sign S.Less
    ∷ []) c.admits_if-2.ensures c.next_kind-kind.ensures c.if-admits_if-2.true)
    c.in_ok-put_memory.ensures

pub returns : goal.returns
returns c =
    after_type (inside_view c.args.inside) c.args.first.own c.args.first.memory
    (option_map placed_view c.args.next) _ _ (asked_if c.args.first.own (C.Sign S.Open
    ∷ []) c.admits_if.ensures c.next_kind-kind.ensures c.if-admits_if.false)
    (asked_if c.args.first.memory (C.Sign S.Less
    ∷ []) c.admits_if-2.ensures c.next_kind-kind.ensures c.if-admits_if-2.false)
    c.in_ok-put_type.ensures
