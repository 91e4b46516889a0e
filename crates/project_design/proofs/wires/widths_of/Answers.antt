use Rattle.std.proofs.Common.{◌∙◌, length, ap, arith}
use Rattle.project_design.proofs.Widening.{all_widths}
use Rattle.project_design.proofs.Few.{is_few}
use Rattle.project_design.proofs.wires.widths_of.Goals as goal

pub returns : goal.returns
returns c =
    let project = c.args.project.now in
    all_widths project c.kernels.result.now _ _ _ _ _ _
    c.new-widths.ensures.items c.in_ok-add_blocks.ensures c.in_ok-add_bits.ensures c.in_ok-add_bits-2.ensures
    c.kernels.ensures
    (let n = ap length c.kernels-2.ensures in let m = ap length c.outputs.ensures in let s = (is_few project).some in omega arith)
