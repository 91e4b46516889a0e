-- The two values are those that are matched.
use Rattle.std.proofs.Common.{rules, ◌∙◌, ap}
use Rattle.std.specs.Fmt.{signed_decimal}
use Rattle.std.proofs.lemmas.Int.{to_z-of_z}
use mir.Val.{SFits}
use mir.Syntax.{w32}
use Rattle.kernel_meaning.specs.declared.value.Value.TheVariants as V
use Rattle.kernel_rows.proofs.HostPairs.{given_values, given_numbers, given_texts}
use Rattle.kernel_rows.proofs.between.host_between.Goals as goal

pub returns-in-Int-Int : goal.returns-in-Int-Int
returns-in-Int-Int c s =
    let a = c.args in
    let m = c.in-Int-Int in
    let f : SFits w32 m.x = search rules in
    let g : SFits w32 m.y = search rules in
    given_values a.sign a.at a.first.now a.second.now (V.Int m.x) (V.Int m.y) s c.numbers.result
    m.is-0 m.is-1 (given_numbers a.sign a.at _ _ m.x m.y s c.numbers.result
    (to_z-of_z w32 m.x f) (to_z-of_z w32 m.y g) (c.numbers.ensures s))

pub returns-in-Flag-Flag : goal.returns-in-Flag-Flag
returns-in-Flag-Flag c s =
    let a = c.args in
    let m = c.in-Flag-Flag in
    given_values a.sign a.at a.first.now a.second.now (V.Flag m.a) (V.Flag m.b) s c.booleans.result
    m.is-0 m.is-1 (c.booleans.ensures s)

pub returns-in-Str-Str : goal.returns-in-Str-Str
returns-in-Str-Str c s =
    let a = c.args in
    let m = c.in-Str-Str in
    given_values a.sign a.at a.first.now a.second.now (V.Str m.a) (V.Str m.b) s
    c.joined-in-Str-Str.result m.is-0 m.is-1
    (given_texts a.sign a.at _ _ m.a m.b s c.joined-in-Str-Str.result
    c.as_bytes-in-Str-Str.ensures c.as_bytes-in-Str-Str-2.ensures (c.joined-in-Str-Str.ensures s))

pub returns-in_ok-number-in-Int-Str : goal.returns-in_ok-number-in-Int-Str
returns-in_ok-number-in-Int-Str c s =
    let a = c.args in
    let m = c.in-Int-Str in
    let f : SFits w32 m.x = search rules in
    let e = c.in_ok-number-in-Int-Str.ensures.ok in
    given_values a.sign a.at a.first.now a.second.now (V.Int m.x) (V.Str m.b) s c.joined.result
    m.is-0 m.is-1
    (given_texts a.sign a.at _ _ (signed_decimal m.x) m.b s c.joined.result
    (c.as_bytes.ensures ∙ (e ∙ ap signed_decimal (to_z-of_z w32 m.x f)))
    c.as_bytes-in-Int-Str.ensures (c.joined.ensures s))

pub returns-in_ok-number-in-Str-Int : goal.returns-in_ok-number-in-Str-Int
returns-in_ok-number-in-Str-Int c s =
    let a = c.args in
    let m = c.in-Str-Int in
    let f : SFits w32 m.y = search rules in
    let e = c.in_ok-number-in-Str-Int.ensures.ok in
    given_values a.sign a.at a.first.now a.second.now (V.Str m.a) (V.Int m.y) s
    c.joined-in-Str-Int.result m.is-0 m.is-1
    (given_texts a.sign a.at _ _ m.a (signed_decimal m.y) s c.joined-in-Str-Int.result
    c.as_bytes-in-Str-Int.ensures
    (c.as_bytes-in-Str-Int-2.ensures ∙ (e ∙ ap signed_decimal (to_z-of_z w32 m.y f)))
    (c.joined-in-Str-Int.ensures s))
