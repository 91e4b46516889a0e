use Rattle.std.proofs.Common.{◌≡◌, ◌∙◌, ◌++◌, append_assoc, ap, sym}
use Rattle.std.specs.Fmt.{decimal}
use Rattle.std.specs.Prelude.{codes}
use Rattle.std.specs.String.{string_bytes}
use Rattle.maxjc_core.specs.ExpectLines.{balanced_line, side_word}
use Rattle.maxjc_core.proofs.SaidLines.{three_more}
use Rattle.maxjc_core.proofs.expect_lines.add_balanced.Goals as goal

pub returns : goal.returns
returns c =
    let lines = c.args.lines.now.items in
    let fault = c.in-Some.fault in
    let number = codes "unbalanced link " ++ decimal fault.link in
    let number_is : string_bytes c.in_ok-format.field-0 ≡ number = c.in_ok-format.ensures.ok in
    let tick = decimal fault.tick ++ codes "\n" in
    let tick_is : string_bytes c.in_ok-format-2.field-0 ≡ tick = c.in_ok-format-2.ensures.ok in
    three_more lines c.as_bytes.result.now c.side_word.result.now c.as_bytes-2.result.now _ _ _
    c.in_ok-extend_from_slice-2.ensures.items c.in_ok-extend_from_slice-3.ensures.items
    c.in_ok-extend_from_slice-4.ensures.items
    ∙ ap (λ n. lines ++ (n ++ c.side_word.result.now ++ c.as_bytes-2.result.now))
    (c.as_bytes.ensures.value ∙ number_is)
    ∙ ap (λ s. lines ++ (number ++ s ++ c.as_bytes-2.result.now)) c.side_word.ensures
    ∙ ap (λ t. lines ++ (number ++ side_word fault.side ++ t)) (c.as_bytes-2.ensures.value ∙ tick_is)
    ∙ ap (λ line. lines ++ line)
    (sym (append_assoc (number ++ side_word fault.side) (decimal fault.tick) (codes "\n"))
    ∙ ap balanced_line (sym c.in-Some.is))
