use Rattle.std.proofs.Common.{[], ◌∷◌}
use Rattle.maxj_syntax.specs.declared.kind.Word.TheVariants as W
use Rattle.maxj_syntax.specs.declared.symbol.TokenClass.TheVariants as C
use Rattle.std.specs.Option.{option_map}
use Rattle.maxj_tokens.specs.Reading.{placed_view}
use Rattle.maxj_syntax.proofs.Expansions.{parent_kernel, parent_manager, asked}
use Rattle.maxj_syntax.proofs.heads.push_parent.Goals as goal

pub returns-then-admits : goal.returns-then-admits
returns-then-admits c = parent_kernel c.args.class.now (option_map placed_view c.args.next) _ _
    (asked (C.Word W.Kernel
    ∷ []) c.admits.ensures c.next_kind-kind.ensures c.if-admits.true) c.in_ok-put_body.ensures

pub returns-then-admits-2 : goal.returns-then-admits-2
returns-then-admits-2 c =
    parent_manager c.args.class.now (option_map placed_view c.args.next) _ _
    (asked (C.Word W.Kernel
    ∷ []) c.admits.ensures c.next_kind-kind.ensures c.if-admits.false)
    (asked (C.Word W.CustomManager
    ∷ []) c.admits-2.ensures c.next_kind-kind.ensures c.if-admits-2.true)
    c.in_ok-put_body-2.ensures
