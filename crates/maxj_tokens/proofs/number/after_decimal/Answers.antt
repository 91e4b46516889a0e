use Rattle.std.proofs.Common.{◌≡◌, ◌∙◌, ◌∷◌, ◌++◌, ◌==◌, length, true, false, sym, ap, append_assoc}
use Rattle.maxj_tokens.specs.Reading.{LacksDecimal}
use Rattle.text_scan.proofs.ByteTests.{if_none}
use Rattle.maxj_tokens.proofs.Numbers.{no_dot, no_part, decimal_word}
use Rattle.maxj_tokens.proofs.number.after_decimal.Goals as goal

pub returns-in_err-after-clause-none : goal.returns-in_err-after-clause-none
returns-in_err-after-clause-none c =
    let s = c.split_front-whole in
    if_none c.from_residual.result (LacksDecimal c.args.text.now)
    (no_dot c.args.text.now s.result.front.now s.result.rest.now s.ensures.joined
    s.ensures.front s.ensures.rest c.in_err-after.ensures.none)

pub returns-then-is_empty-2-clause-none : goal.returns-then-is_empty-2-clause-none
returns-then-is_empty-2-clause-none c =
    let s = c.split_front-whole in
    let p = c.split_front-part in
    let n : (length p.result.front.now == 0) ≡ true = cc in
    no_part c.args.text.now s.result.front.now s.result.rest.now c.in_ok-after.field-0.now
    p.result.front.now p.result.rest.now s.ensures.joined s.ensures.front s.ensures.rest
    c.in_ok-after.ensures.some p.ensures.joined n p.ensures.rest

pub returns-else-is_empty-2-clause-some : goal.returns-else-is_empty-2-clause-some
returns-else-is_empty-2-clause-some c =
    let s = c.split_front-whole in
    let p = c.split_front-part in
    let f = s.result.front.now in
    let n : (length f == 0) ≡ false = cc in
    let m : (length p.result.front.now == 0) ≡ false = cc in (
      f ++ 46 ∷ p.result.front.now,
      s.ensures.joined ∙ ap (λ l. f ++ l) (c.in_ok-after.ensures.some ∙ ap (λ l. 46 ∷ l) p.ensures.joined) ∙ sym (append_assoc f (46 ∷ p.result.front.now) p.result.rest.now),
      decimal_word f p.result.front.now s.ensures.front p.ensures.front n m,
      p.ensures.rest,
    )
