use Rattle.std.proofs.Common.{arith, ◌≡◌, ◌∙◌, ap}
use Rattle.std.specs.Prelude.{pos, ◌-ℤ◌}
use Rattle.std.specs.Fmt.{signed_decimal}
use Rattle.std.proofs.lemmas.Int.{ints}
use Rattle.offset_edges.proofs.ShownLemmas.{ok_also}
use Rattle.offset_edges.proofs.line.ticks_back.Goals as goal

pub returns : goal.returns
returns c =
    let from = c.from.ensures in
    ok_also c.number.result _ (λ text. text ≡ signed_decimal (pos 0 -ℤ c.args.offset))
    (λ text h. h ∙ ap signed_decimal (omega (arith, ints, from)))
    c.number.ensures
