use Rattle.std.proofs.Common.{◌≡◌, ◌∙◌, Bool, true, false, not, refl, ap, sym, inl, inr}
use Rattle.maxj_tokens.specs.Tokens.{is_hex_integer}
use Rattle.maxj_tokens.proofs.Values.{not_hex}
use Rattle.maxj_tokens.proofs.integer.hex_digits.Goals as goal
use Rattle.maxj_tokens.proofs.integer.hex_digits.Goals.{then-is_empty, else-is_empty}

is_false : (b : Bool) → not b ≡ true → b ≡ false
is_false true e = cc
is_false false e = refl

pub returns-then-not-is_empty-clause-none : goal.returns-then-not-is_empty-clause-none
returns-then-not-is_empty-clause-none c =
    let s = c.split_front-split in
    ap is_hex_integer c.in_ok-digits.ensures.some
    ∙ not_hex c.in_ok-digits.digits.now s.result.front.now s.result.rest.now s.ensures.joined s.ensures.rest (
    elim c.if-is_empty.branch [
      | then-is_empty w ↦ inl (sym c.is_empty.ensures ∙ w.if-is_empty.true)
      | else-is_empty w ↦ inr (sym w.is_empty-else-is_empty.ensures ∙ is_false _ (sym w.value-is ∙ c.if-not-is_empty.true))
    ])
