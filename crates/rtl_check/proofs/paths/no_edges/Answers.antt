use Rattle.std.proofs.Common.{◌≡◌, ◌∷◌, [], ◌++◌, ℕ, List, ap, ◌∙◌, arith}
use Rattle.rtl_check.proofs.Edges.{no_edges_more}
use Rattle.rtl_check.proofs.paths.no_edges.Goals as goal

pub loop-preserved : goal.loop-preserved
loop-preserved c =
    let items : c.push.new.self.items ≡ c.loop.graph.items ++ [] ∷ [] = c.in_ok-push.ensures.items ∙ ap (λ (l : List ℕ). c.loop.graph.items ++ l ∷ []) (c.own.ensures ∙ c.new.ensures) in
    record {
      size = omega (arith, c.in_ok-push.ensures.len);
      none = rw items (no_edges_more c.loop.graph.items c.loop.invariant.none);
    }
