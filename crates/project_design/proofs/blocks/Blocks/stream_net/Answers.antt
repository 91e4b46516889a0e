use Rattle.std.proofs.Common.{◌∙◌, arith}
use Rattle.project_design.proofs.Finding.{place_within}
use Rattle.project_design.proofs.Blocking.{block_read, stream_is}
use Rattle.project_design.proofs.blocks.Blocks.stream_net.Goals as goal

pub net_of-requires-clause-few : goal.net_of-requires-clause-few
net_of-requires-clause-few c =
    (block_read c.args.self.now c.args.port.kernel c.index.result.now c.requires.blocks c.requires.known c.index.ensures).is.is.few_streams

pub net_of-requires-clause-small : goal.net_of-requires-clause-small
net_of-requires-clause-small c =
    (block_read c.args.self.now c.args.port.kernel c.index.result.now c.requires.blocks c.requires.known c.index.ensures).is.net_small

pub returns-clause-is : goal.returns-clause-is
returns-clause-is c =
    c.net_of.ensures
    ∙ stream_is c.args.self.now.project.now c.args.port c.index.result.now
    (block_read c.args.self.now c.args.port.kernel c.index.result.now c.requires.blocks c.requires.known c.index.ensures)

pub returns-clause-small : goal.returns-clause-small
returns-clause-small c =
    let here = block_read c.args.self.now c.args.port.kernel c.index.result.now c.requires.blocks c.requires.known c.index.ensures in
    let few = here.is.is.few_streams in
    let small = here.is.net_small in
    let e = c.net_of.ensures in
    let p = place_within c.index.result.now.streams.items c.args.port.node in
    omega arith
