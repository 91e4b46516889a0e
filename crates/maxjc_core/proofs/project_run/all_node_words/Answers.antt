-- The words of the nodes of all kernels.
use Rattle.std.proofs.Common.{◌∙◌, ◌+◌, length, take, ap, sym, subst}
use Rattle.std.specs.Prelude.{ℕ, List}
use Rattle.kernel_control.specs.Ports.{scalars_of}
use Rattle.maxjc_core.specs.ExpectStops.{AreNodeLists}
use Rattle.maxjc_core.proofs.NodeWords.{scalars-more, scalars-left, lists-taken}
use Rattle.maxjc_core.proofs.project_run.all_node_words.Goals as goal

pub node_words-requires : goal.node_words-requires
node_words-requires c =
    scalars-left c.args.kernels.now c.loop-kernel.kernel-index c.kernel-item.result
    c.loop-kernel.next (length c.args.scalars.now) c.loop-kernel-test.true c.kernel-item.is
    c.loop-kernel.invariant.next c.requires

pub loop-kernel-preserved : goal.loop-kernel-preserved
loop-kernel-preserved c =
    let kernels = c.args.kernels.now in
    let i = c.loop-kernel.kernel-index in
    let kernel = c.kernel-item.result in
    let all = c.args.scalars.now in
    let next = c.loop-kernel.next in
    let then = c.node_words.new.next in
    let lists = c.loop-kernel.lists in
    let lt = c.loop-kernel-test.true in
    let at = c.kernel-item.is in
    let more = c.in_ok-node_words.ensures.next in
    record {
      next = more
          ∙ ap (λ j. j + length (scalars_of kernel.nodes)) c.loop-kernel.invariant.next
          ∙ sym (scalars-more kernels i kernel lt at);
      lists = subst (λ (ls : List (List ℕ)). AreNodeLists (take (i + 1) kernels) ls (take then all))
          (sym c.in_ok-push.ensures.ok)
          (lists-taken kernels i kernel lists c.in_ok-node_words.field-0 all next then lt at more
          c.loop-kernel.invariant.lists c.in_ok-node_words.ensures.words);
    }
