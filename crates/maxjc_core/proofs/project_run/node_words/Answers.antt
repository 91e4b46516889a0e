-- The words of the nodes of a kernel.
use Rattle.std.proofs.Common.{◌≡◌, ◌∙◌, ◌<◌, true, false, ◌+◌, ◌-◌, ◌∷◌, [], length, map, take, drop, get_or, ap, sym, arith, length-append}
use Rattle.std.specs.Prelude.{slice_index}
use Rattle.stream_graph.specs.Kinds.{is_scalar}
use Rattle.kernel_control.specs.Ports.{scalars_of}
use Rattle.stream_graph.specs.LookUps.{kind_at}
use Rattle.maxjc_core.proofs.NodeWords.{kind_read, no-scalar, counted, passed, has-word, words-passed, word-taken}
use Rattle.maxjc_core.proofs.project_run.node_words.Goals as goal
use Rattle.maxjc_core.proofs.project_run.node_words.Goals.{in-Scalar+in_ok-push-in-Scalar, in_default+in_ok-push-in_default}

pub bounds-scalars-next : goal.bounds-scalars-next
bounds-scalars-next c =
    let nodes = c.args.kernel.now.nodes in
    let n = c.loop-number.number in
    let test = c.loop-number-test.true in
    let count = c.count-number-end.ensures in
    let kind = kind_read nodes c.new.result n c.node.result c.new.ensures c.node.ensures in
    has-word nodes n c.args.next.now c.loop-number.next (length c.args.scalars.now)
    (omega (arith, test, count)) (ap is_scalar (kind ∙ c.in-Scalar.is)) c.loop-number.invariant.next
    c.requires

pub loop-number-preserved : goal.loop-number-preserved
loop-number-preserved c =
    let nodes = c.args.kernel.now.nodes in
    let n = c.loop-number.number in
    let first = c.args.next.now in
    let next = c.loop-number.next in
    let words = c.loop-number.words in
    let all = c.args.scalars.now in
    let now = c.loop-number.invariant in
    let each = now.each in
    let at = now.next in
    let test = c.loop-number-test.true in
    let count = c.count-number-end.ensures in
    let lt : n < length nodes = omega (arith, test, count) in
    let kind = kind_read nodes c.new.result n c.node.result c.new.ensures c.node.ensures in
    elim c.match-node.branch [
      | in-Scalar+in_ok-push-in-Scalar w ↦ (
          let is : is_scalar (kind_at nodes n) ≡ true = ap is_scalar (kind ∙ w.in-Scalar.is) in
          let one = counted nodes n lt is in
          let then = w.next-is in
          let made = w.words-is ∙ w.in_ok-push-in-Scalar.ensures.ok in
          let size = ap length made ∙ length-append words (get_or all next 0 ∷ []) in
          record {
            each = size ∙ ap (λ k. k + 1) each;
            next = omega (arith, then, at, one);
            scalars = ap (λ ws. map (slice_index ws) (scalars_of (take (n + 1) nodes))) made
                ∙ word-taken nodes n words all first next lt is each at now.scalars
                (has-word nodes n first next (length all) lt is at c.requires)
                ∙ ap (λ k. take (k - first) (drop first all)) (sym then);
          })
      | in_default+in_ok-push-in_default w ↦ (
          let is : is_scalar (kind_at nodes n) ≡ false =
          ap is_scalar kind ∙ no-scalar c.node.result.kind w.in_default.not-Scalar in
          let same = passed nodes n lt is in
          let made = w.words-is ∙ w.in_ok-push-in_default.ensures.ok in
          record {
            each = ap length made ∙ length-append words (0 ∷ []) ∙ ap (λ k. k + 1) each;
            next = w.next-is ∙ at ∙ ap (λ l. first + length l) (sym same);
            scalars = ap (λ ws. map (slice_index ws) (scalars_of (take (n + 1) nodes))) made
                ∙ words-passed nodes n words 0 _ lt is each now.scalars
                ∙ ap (λ k. take (k - first) (drop first all)) (sym w.next-is);
          })
    ]
