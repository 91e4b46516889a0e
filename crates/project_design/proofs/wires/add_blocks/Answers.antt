use Rattle.std.proofs.Common.{◌∙◌, ◌++◌, ap, sym, append-nil}
use Rattle.std.specs.List.{flat_map}
use Rattle.project_rtl.specs.Tops.{block_widths}
use Rattle.project_design.proofs.Ending.{none_more}
use Rattle.project_design.proofs.Widening.{flat_step}
use Rattle.project_design.proofs.wires.add_blocks.Goals as goal

pub loop-kernel-preserved : goal.loop-kernel-preserved
loop-kernel-preserved c =
    let l = c.loop-kernel in
    flat_step block_widths c.args.kernels.now l.kernel-index c.kernel-item.result l.widths.items c.add_block.new.widths.items _
    c.loop-kernel-test.true c.kernel-item.is c.in_ok-add_block.ensures l.invariant

pub returns : goal.returns
returns c =
    let l = c.loop-kernel in
    sym (append-nil l.widths.items)
    ∙ ap (λ xs. l.widths.items ++ flat_map block_widths xs) (sym (none_more c.args.kernels.now l.kernel-index c.loop-kernel-test.false))
    ∙ l.invariant
