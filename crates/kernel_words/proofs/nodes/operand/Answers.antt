use Rattle.std.proofs.Common.{◌≡◌, ◌∙◌, ◌<◌, List, ℕ, length, get_or, refl, ap, sym, subst}
use Rattle.std.proofs.lemmas.List.{get_or_read}
use Rattle.stream_graph.specs.LookUps.{operands_at, operand_at}
use Rattle.stream_graph.proofs.NodeLemmas.{orderly}
use Rattle.stream_graph.proofs.Reading.{operands_read}
use Rattle.kernel_words.proofs.nodes.operand.Goals as goal

pub bounds-operands-place : goal.bounds-operands-place
bounds-operands-place c =
    subst (λ (xs : List ℕ). c.args.place < length xs)
    (sym (operands_read c.args.kernel.now.nodes c.args.node c.args.node c.operands.result.now refl c.operands.ensures)) c.requires.place

is : (c : goal.After-index-operands-place) → c.index-operands-place.result ≡ operand_at c.args.kernel.now.nodes c.args.node c.args.place
is c =
    let same : c.operands.result.now ≡ operands_at c.args.kernel.now.nodes c.args.node =
    operands_read c.args.kernel.now.nodes c.args.node c.args.node c.operands.result.now refl c.operands.ensures in
    get_or_read c.operands.result.now c.args.place c.index-operands-place.result
    (subst (λ (xs : List ℕ). c.args.place < length xs) (sym same) c.requires.place) c.index-operands-place.is 0
    ∙ ap (λ xs. get_or xs c.args.place 0) same

pub returns-clause-is : goal.returns-clause-is
returns-clause-is c = is c

pub returns-clause-inside : goal.returns-clause-inside
returns-clause-inside c =
    let nodes = c.args.kernel.now.nodes in
    subst (λ n. n < length nodes) (sym (is c))
    ((orderly nodes c.args.kernel.now.made).operands c.args.node c.args.place c.requires.node c.requires.place)
