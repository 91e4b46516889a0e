use Rattle.std.proofs.Common.{◌≡◌, ℕ, ◌+◌, ◌<◌, true, false, List, [], ◌∷◌, ◌++◌, length, drop, ap, sym, ◌∙◌, subst, arith}
use Rattle.std.specs.Prelude.{All}
use Rattle.std.proofs.lemmas.List.Elements.{All-push}
use Rattle.stream_graph.specs.declared.node.NodeView.{NodeView}
use Rattle.stream_graph.specs.LookUps.{kind_at}
use Rattle.stream_graph.specs.KernelPorts.{numbers_from}
use Rattle.stream_graph.specs.Kinds.{is_on}
use Rattle.stream_graph.proofs.Reading.{view_read}
use Rattle.stream_graph.proofs.Numbers.{number_taken, number_passed}
use Rattle.stream_graph.proofs.kernel.Kernel.ports.Goals as goal
use Rattle.stream_graph.proofs.kernel.Kernel.ports.Goals.{then-has+in_ok-push, else-has}

pub loop-number-preserved : goal.loop-number-preserved
loop-number-preserved c =
    let nodes = c.args.self.now.nodes in
    let k = c.loop-number.number in
    let made : List ℕ = c.loop-number.ports.items in
    let side = c.args.side in
    let h = c.loop-number.invariant in
    let all : List ℕ = numbers_from (is_on side) 0 nodes in
    let lt : k < length nodes = let a = c.loop-number-test.true in let b = c.count-number-end.ensures in omega (arith, a, b) in
    let kind : is_on side (kind_at nodes k) ≡ c.has.result =
    ap (λ (x : NodeView). is_on side x.kind) (sym (view_read nodes c.new-node.result k c.node.result c.new-node.ensures c.node.ensures))
    ∙ sym c.has.ensures in
    elim c.if-has.branch [
      | then-has+in_ok-push w ↦ (
          let is : c.if-has.ports.items ≡ made ++ k ∷ [] = let a = w.ports-is in let b = w.in_ok-push.ensures.items in let d = c.new-node.ensures in cc in
          let taken : is_on side (kind_at nodes k) ≡ true = kind ∙ w.if-has.true in
          record {
            told = subst (λ l. l ++ numbers_from (is_on side) (k + 1) (drop (k + 1) nodes) ≡ all) (sym is)
                (number_taken (is_on side) k nodes made all lt taken h.told);
            within = subst (λ l. All (λ n. n < length nodes) l) (sym is) (All-push (λ n. n < length nodes) made k h.within lt);
          })
      | else-has w ↦ (
          let is : c.if-has.ports.items ≡ made = let a = w.ports-is in cc in
          let passed : is_on side (kind_at nodes k) ≡ false = kind ∙ w.if-has.false in
          record {
            told = subst (λ l. l ++ numbers_from (is_on side) (k + 1) (drop (k + 1) nodes) ≡ all) (sym is)
                (number_passed (is_on side) k nodes made all lt passed h.told);
            within = subst (λ l. All (λ n. n < length nodes) l) (sym is) h.within;
          })
    ]
