use Rattle.std.proofs.Common.{◌≡◌, ◌∙◌, ◌∷◌, [], List, ℕ, length, true, false, ap, ◌==◌}
use Rattle.std.specs.List.{list_all}
use Rattle.grammar.specs.Bytes.{is_hex}
use Rattle.rtl_text.specs.Tokens.{is_hex_part}
use Rattle.verilog_syntax.proofs.token.after_hex_part.Goals as goal

is_part : (ds : List ℕ) → list_all is_hex ds ≡ true → (length ds == 0) ≡ false → is_hex_part (104 ∷ ds) ≡ true
is_part [] h e = cc
is_part (d ∷ ds) h e = h

pub returns-else-is_empty-clause-some : goal.returns-else-is_empty-clause-some
returns-else-is_empty-clause-some c =
    let s = c.split_front-split in
    let n : (length s.result.front.now == 0) ≡ false = cc in
    (104 ∷ s.result.front.now, c.in_ok-after.ensures.some ∙ ap (λ l. 39 ∷ 104 ∷ l) s.ensures.joined, is_part s.result.front.now s.ensures.front n, s.ensures.rest)
