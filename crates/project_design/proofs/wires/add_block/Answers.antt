use Rattle.std.proofs.Common.{◌∙◌}
use Rattle.project_design.proofs.Widening.{block_made}
use Rattle.project_design.proofs.wires.add_block.Goals as goal

pub returns : goal.returns
returns c =
    block_made c.args.kernel.now c.as_slice.result.now c.as_slice-2.result.now _ _ _ _
    c.in_ok-add_streams.ensures c.in_ok-add_streams-2.ensures c.in_ok-push.ensures.items
    (c.as_slice.ensures.value ∙ c.in_ok-ports.ensures.inputs) (c.as_slice-2.ensures.value ∙ c.in_ok-ports.ensures.outputs)
