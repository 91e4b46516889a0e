use Rattle.std.proofs.Common.{refl}
use Rattle.project_design.proofs.Blocking.{block_made}
use Rattle.project_design.proofs.blocks.Block.of.Goals as goal

pub returns : goal.returns
returns c =
    block_made c.args.kernel.now c.in_ok-ports.ports c.as_slice.result.now c.args.first_scalar c.args.first_net _ c.in_ok-ports.ensures
    refl c.in_ok-extend_from_slice.ensures.items c.as_slice.ensures.value refl refl
