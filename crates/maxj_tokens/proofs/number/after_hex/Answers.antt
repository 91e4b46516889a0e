use Rattle.std.proofs.Common.{◌≡◌, ◌∙◌, ◌∷◌, ◌==◌, length, false, ap}
use Rattle.maxj_tokens.proofs.Numbers.{hex_word}
use Rattle.maxj_tokens.proofs.number.after_hex.Goals as goal

pub returns-else-is_empty-clause-some : goal.returns-else-is_empty-clause-some
returns-else-is_empty-clause-some c =
    let s = c.split_front-digits in
    let n : (length s.result.front.now == 0) ≡ false = cc in
    (48 ∷ 120 ∷ s.result.front.now, c.in_ok-after.ensures.some ∙ ap (λ l. 48 ∷ 120 ∷ l) s.ensures.joined, hex_word s.result.front.now s.ensures.front n, s.ensures.rest)
