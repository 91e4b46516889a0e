use Rattle.std.proofs.Common.{◌∙◌, ◌++◌, [], ap}
use Rattle.maxjc_core.specs.Checking.{least_line}
use Rattle.maxjc_core.proofs.SaidLines.{lines_more}
use Rattle.maxjc_core.proofs.summary.least_lines.Goals as goal

pub loop-part-preserved : goal.loop-part-preserved
loop-part-preserved c =
    let part = c.part-item.result in
    c.in_ok-add_bits.ensures ∙ ap (λ lines. lines ++ least_line part) c.loop-part.invariant
    ∙ lines_more least_line [] c.args.parts.now c.loop-part.part-index part c.loop-part-test.true
    c.part-item.is
