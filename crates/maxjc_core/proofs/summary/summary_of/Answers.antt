use Rattle.std.proofs.Common.{◌∙◌, ◌++◌, [], get_or, ap}
use Rattle.std.specs.List.{flat_map}
use Rattle.std.proofs.lemmas.List.{get_or_default}
use Rattle.maxjc_core.specs.Compiling.{fifo_line, link_line}
use Rattle.maxjc_core.proofs.SaidLines.{lines_more, links_more, no_link}
use Rattle.maxjc_core.proofs.summary.summary_of.Goals as goal

pub loop-part-preserved : goal.loop-part-preserved
loop-part-preserved c =
    let part = c.part-item.result in
    c.in_ok-add_bits.ensures ∙ ap (λ lines. lines ++ fifo_line part) c.loop-part.invariant
    ∙ lines_more fifo_line [] c.args.parts.now c.loop-part.part-index part c.loop-part-test.true
    c.part-item.is

pub loop-number-preserved : goal.loop-number-preserved
loop-number-preserved c =
    let links = c.args.links.now in
    let n = c.loop-number.number in
    let link = get_or links n no_link in
    c.in_ok-add_depth.ensures ∙ ap (λ lines. lines ++ link_line n link) c.loop-number.invariant
    ∙ links_more (flat_map fifo_line c.args.parts.now) links n link c.loop-number-test.true
    (get_or_default links n no_link link c.loop-number-test.true)
