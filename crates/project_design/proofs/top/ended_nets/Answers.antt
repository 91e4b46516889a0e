use Rattle.std.proofs.Common.{◌≡◌, ◌<◌, ◌∙◌, length, arith}
use Rattle.project_rtl.specs.Blocks.{ended_net}
use Rattle.project_design.proofs.Blocking.{block_read, ended_is}
use Rattle.project_design.proofs.Ending.{mapped_step}
use Rattle.project_design.proofs.top.ended_nets.Goals as goal

pub ended_net-requires-clause-few : goal.ended_net-requires-clause-few
ended_net-requires-clause-few c =
    let e = c.len-number-end.ensures in
    let o = c.args.blocks.now.each.ok.0 in
    let n = c.requires.count in
    let lt = c.loop-number-test.true in
    (block_read c.args.blocks.now c.loop-number.number c.index.result.now c.requires (omega arith) c.index.ensures).is.is.few_streams

pub ended_net-requires-clause-small : goal.ended_net-requires-clause-small
ended_net-requires-clause-small c =
    let e = c.len-number-end.ensures in
    let o = c.args.blocks.now.each.ok.0 in
    let n = c.requires.count in
    let lt = c.loop-number-test.true in
    (block_read c.args.blocks.now c.loop-number.number c.index.result.now c.requires (omega arith) c.index.ensures).is.net_small

pub loop-number-preserved : goal.loop-number-preserved
loop-number-preserved c =
    let e = c.len-number-end.ensures in
    let o = c.args.blocks.now.each.ok.0 in
    let n = c.requires.count in
    let test = c.loop-number-test.true in
    let project = c.args.blocks.now.project.now in
    let number = c.loop-number.number in
    let lt : number < length project.kernels = omega arith in
    mapped_step (ended_net project) number (length project.kernels) c.ended_net.result c.loop-number.nets.items c.push.new.self.items _ lt
    (c.ended_net.ensures ∙ ended_is project number c.index.result.now (block_read c.args.blocks.now number c.index.result.now c.requires lt c.index.ensures))
    c.in_ok-push.ensures.items c.loop-number.invariant
