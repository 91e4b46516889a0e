use Rattle.std.proofs.Common.{ap, ◌∙◌, ◌++◌, ◌∷◌, []}
use Rattle.maxj_syntax.proofs.build.memory_local.Goals as goal

pub returns : goal.returns
returns c = record {
  memory = c.leaf-memory.result;
  leaf = c.leaf-memory.ensures;
  nodes = c.in_ok-child.ensures.nodes;
  kind = c.leaf-node.ensures.kind;
  word = c.leaf-node.ensures.word;
  span_is = c.leaf-node.ensures.span_is;
  children = c.in_ok-push.ensures.ok ∙ ap (λ l. l ++ c.in_ok-child.child ∷ []) c.leaf-node.ensures.children
      ∙ ap (λ n. n ∷ []) c.in_ok-child.ensures.number;
}
