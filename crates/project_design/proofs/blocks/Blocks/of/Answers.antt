use Rattle.std.proofs.Common.{◌∙◌, ap, length, arith}
use Rattle.manager_links.proofs.Pieces.{read_in}
use Rattle.project_design.proofs.Blocking.{none_yet, one_more, all_blocks, room}
use Rattle.project_design.proofs.blocks.Blocks.of.Goals as goal

pub loop-kernel-init : goal.loop-kernel-init
loop-kernel-init c = none_yet c.args.project.now c.args.first_scalar c.args.first_net _ c.new-each.ensures.items c.requires.scalar c.requires.net

pub size-net-requires : goal.size-net-requires
size-net-requires c = c.in_ok-block.ensures.few_streams

pub overflow_add-scalar : goal.overflow_add-scalar
overflow_add-scalar c =
    let l = c.loop-kernel in
    let r = (room c.args.project.now l.kernel-index l.scalar l.net l.each.items l.invariant).0 in
    let f = c.in_ok-block.ensures.few_scalars in
    let e = c.len.ensures in
    let o = c.in_ok-block.block.scalars.ok.0 in
    omega arith

pub overflow_add-net : goal.overflow_add-net
overflow_add-net c =
    let l = c.loop-kernel in
    let r = (room c.args.project.now l.kernel-index l.scalar l.net l.each.items l.invariant).1 in
    let f = c.in_ok-block.ensures.few_streams in
    let e = c.size-net.ensures in
    omega arith

pub loop-kernel-preserved : goal.loop-kernel-preserved
loop-kernel-preserved c =
    let l = c.loop-kernel in
    let project = c.args.project.now in
    let kernel = c.kernel-item.result in
    let at = read_in c.kernels-kernel-items.result.now project.kernels l.kernel-index kernel c.kernels-kernel-items.ensures c.loop-kernel-test.true c.kernel-item.is in
    one_more project l.kernel-index l.scalar l.net _ _ l.each.items c.push.new.self.items kernel c.in_ok-block.block at.0 at.1 l.invariant c.in_ok-block.ensures c.in_ok-push.ensures.items
    (let e = c.len.ensures in let o = c.in_ok-block.block.scalars.ok.0 in let f = c.in_ok-block.ensures.few_scalars in omega arith)
    (let e = c.size-net.ensures in omega arith)

pub returns-clause-are : goal.returns-clause-are
returns-clause-are c =
    let l = c.loop-kernel in
    let n = ap length c.kernels-kernel-items.ensures in
    let le = c.loop-kernel-test.false in
    all_blocks _ l.kernel-index l.scalar l.net (omega arith) l.invariant
