use Rattle.std.proofs.Common.{◌≡◌, ◌+◌, ◌<◌, ◌∷◌, [], ◌++◌, List, length, sym, ap, ◌∙◌, arith, append-nil, length-append}
use Rattle.std.specs.Prelude.{codes}
use Rattle.rtl_ir.specs.declared.design.Instance.{Instance}
use Rattle.manager_links.proofs.Pieces.{read_in}
use Rattle.project_rtl.specs.Tops.{instance, kernel_instances}
use Rattle.project_design.proofs.Blocking.{block_read, kernel_here}
use Rattle.project_design.proofs.Placing.{counted}
use Rattle.project_design.proofs.Instancing.{kernel_step, kernel_nets_are}
use Rattle.project_design.proofs.instances.add_kernels.Goals as goal

pub loop-number-preserved : goal.loop-number-preserved
loop-number-preserved c =
    let l = c.loop-number in
    let project = c.args.blocks.now.project.now in
    let number = l.number in
    let kernel = c.index-kernels-number.result in
    let block = c.index.result.now in
    let k = ap length c.kernels-kernels.ensures in
    let test = c.loop-number-test.true in
    let lt : number < length project.kernels = omega arith in
    let inside : number < length c.kernels-kernels.result.now = omega arith in
    let at = read_in c.kernels-kernels.result.now project.kernels number kernel c.kernels-kernels.ensures inside c.index-kernels-number.is in
    let here = kernel_here project number kernel block lt at.1 (block_read c.args.blocks.now number block c.requires.blocks lt c.index.ensures) in
    let new = c.add_instance.new.instances in
    let len : length new ≡ length l.instances + 1 =
    ap (λ (a : List Instance). length a) c.in_ok-add_instance.ensures ∙ length-append l.instances (instance (length l.instances) c.in_ok-name.name c.in_ok-nets.nets ∷ []) in
    let q = l.invariant.count in
    record {
      told = kernel_step project number project.kernels kernel c.in_ok-name.name c.in_ok-nets.nets l.instances new _ lt at.1
          (c.in_ok-name.ensures ∙ ap (λ b. codes "kernel$" ++ b) c.name.ensures)
          (c.in_ok-nets.ensures ∙ kernel_nets_are project number kernel block here)
          c.in_ok-add_instance.ensures l.invariant.told;
      count = omega arith;
    }

pub kernel_nets-requires-clause-few_scalars : goal.kernel_nets-requires-clause-few_scalars
kernel_nets-requires-clause-few_scalars c =
    let project = c.args.blocks.now.project.now in
    let k = ap length c.kernels-kernels.ensures in
    let test = c.loop-number-test.true in
    let lt : c.loop-number.number < length project.kernels = omega arith in
    (block_read c.args.blocks.now c.loop-number.number c.index.result.now c.requires.blocks lt c.index.ensures).is.is.few_scalars

pub kernel_nets-requires-clause-few_streams : goal.kernel_nets-requires-clause-few_streams
kernel_nets-requires-clause-few_streams c =
    let project = c.args.blocks.now.project.now in
    let k = ap length c.kernels-kernels.ensures in
    let test = c.loop-number-test.true in
    let lt : c.loop-number.number < length project.kernels = omega arith in
    (block_read c.args.blocks.now c.loop-number.number c.index.result.now c.requires.blocks lt c.index.ensures).is.is.few_streams

pub kernel_nets-requires-clause-scalar_small : goal.kernel_nets-requires-clause-scalar_small
kernel_nets-requires-clause-scalar_small c =
    let project = c.args.blocks.now.project.now in
    let k = ap length c.kernels-kernels.ensures in
    let test = c.loop-number-test.true in
    let lt : c.loop-number.number < length project.kernels = omega arith in
    (block_read c.args.blocks.now c.loop-number.number c.index.result.now c.requires.blocks lt c.index.ensures).is.scalar_small

pub kernel_nets-requires-clause-net_small : goal.kernel_nets-requires-clause-net_small
kernel_nets-requires-clause-net_small c =
    let project = c.args.blocks.now.project.now in
    let k = ap length c.kernels-kernels.ensures in
    let test = c.loop-number-test.true in
    let lt : c.loop-number.number < length project.kernels = omega arith in
    (block_read c.args.blocks.now c.loop-number.number c.index.result.now c.requires.blocks lt c.index.ensures).is.net_small

pub kernel_nets-requires-clause-number : goal.kernel_nets-requires-clause-number
kernel_nets-requires-clause-number c =
    let project = c.args.blocks.now.project.now in
    let k = ap length c.kernels-kernels.ensures in
    let test = c.loop-number-test.true in
    let lt : c.loop-number.number < length project.kernels = omega arith in
    let f = (counted project).few in
    omega arith

pub add_instance-requires : goal.add_instance-requires
add_instance-requires c =
    let project = c.args.blocks.now.project.now in
    let k = ap length c.kernels-kernels.ensures in
    let test = c.loop-number-test.true in
    let lt : c.loop-number.number < length project.kernels = omega arith in
    let f = (counted project).few in
    let n = c.loop-number.invariant.count in
    let r = c.requires.few in
    omega arith
