use Rattle.std.proofs.Common.{◌≡◌, ◌∙◌, length, sym, arith}
use Rattle.manager_links.proofs.JoinEnds.{same_count}
use Rattle.manager_links.proofs.OwnPorts.{carried_alone}
use Rattle.manager_links.proofs.Pieces.{get_read}
use Rattle.manager_links.proofs.joints.alone.Goals as goal

pub returns : goal.returns
returns c =
    let plan = c.args.plan.now in
    let kernels = c.args.kernels.now in
    let alone = c.requires.whole.alone c.requires.manager in
    let one : length kernels ≡ 1 = sym (same_count plan kernels c.requires.named) ∙ alone.one_kernel in
    carried_alone plan kernels c.index-kernels-0.result c.new.result c.in_ok-hosts.hosts.inputs
    c.in_ok-hosts.hosts.outputs c.from_vec.result c.from_vec-2.result c.requires.manager alone
    c.requires.named one (get_read kernels 0 c.index-kernels-0.result (omega arith) c.index-kernels-0.is)
    c.new.ensures c.in_ok-hosts.ensures.inputs c.in_ok-hosts.ensures.outputs
    (c.from_vec.ensures ∙ c.in_ok-vec.ensures.items_if_clones_equal (λ x e. e))
    (c.from_vec-2.ensures ∙ c.in_ok-vec-2.ensures.items_if_clones_equal (λ x e. e))
