use Rattle.std.proofs.Common.{◌≡◌, ◌<◌, ◌^◌, get_or, refl, subst}
use Rattle.stream_graph.specs.LookUps.{kind_at, width_at}
use Rattle.stream_graph.proofs.NodeLemmas.{orderly}
use Rattle.stream_equations.specs.Equations.{right_side}
use Rattle.kernel_types.proofs.Typing.{typed}
use Rattle.kernel_types.proofs.Counting.{counters}
use Rattle.kernel_words.specs.Streams.{given_of, values_of}
use Rattle.kernel_words.proofs.Taking.{tick_few, taken_few, ready, some_of}
use Rattle.kernel_words.proofs.Putting.{known_here, known_new, filled}
use Rattle.kernel_words.proofs.settle.fill.Goals as goal

pub word_at-word-requires-clause-tick : goal.word_at-word-requires-clause-tick
word_at-word-requires-clause-tick c =
    tick_few c.args.kernel.now.nodes c.args.run.now (orderly c.args.kernel.now.nodes c.args.kernel.now.made) (counters c.args.kernel.now.nodes c.args.kernel.now.made)
    c.args.streams.now c.args.taken.now c.args.place c.requires.filling c.requires.place c.requires.unknown c.requires.known

pub word_at-word-requires-clause-ready : goal.word_at-word-requires-clause-ready
word_at-word-requires-clause-ready c =
    ready c.args.kernel.now.nodes c.args.run.now (orderly c.args.kernel.now.nodes c.args.kernel.now.made) (counters c.args.kernel.now.nodes c.args.kernel.now.made)
    c.args.streams.now c.args.taken.now c.args.place c.requires.filling c.requires.place c.requires.unknown c.requires.known
    c.new-node.result (get_or c.args.taken.now c.args.place.node 0) c.new-node.ensures refl

pub take-requires-clause-few : goal.take-requires-clause-few
take-requires-clause-few c =
    taken_few c.args.kernel.now.nodes c.args.run.now (orderly c.args.kernel.now.nodes c.args.kernel.now.made) (counters c.args.kernel.now.nodes c.args.kernel.now.made)
    c.args.streams.now c.args.taken.now c.args.place c.requires.filling c.requires.place c.requires.unknown c.requires.known

pub returns-clause-filling : goal.returns-clause-filling
returns-clause-filling c =
    filled c.args.kernel.now.nodes c.args.run.now (orderly c.args.kernel.now.nodes c.args.kernel.now.made) (typed c.args.kernel.now.nodes c.args.kernel.now.made)
    _ _ _ _ _ _ c.requires.filling c.requires.place c.requires.unknown c.requires.known c.put.ensures
    (subst (λ n. c.word_at-word.result ≡ right_side c.args.kernel.now.nodes (given_of c.args.run.now) (values_of c.args.streams.now) n c.args.place.tick (kind_at
    c.args.kernel.now.nodes n))
    c.new-node.ensures c.word_at-word.ensures.right)
    (λ x e. subst (λ n. x < 2 ^ width_at c.args.kernel.now.nodes n) c.new-node.ensures (some_of _ _ x c.word_at-word.ensures.small e))
    c.take.ensures

pub returns-clause-put : goal.returns-clause-put
returns-clause-put c = (c.word_at-word.result, c.put.ensures)

pub returns-clause-known : goal.returns-clause-known
returns-clause-known c =
    known_here c.args.kernel.now.nodes c.args.run.now (orderly c.args.kernel.now.nodes c.args.kernel.now.made) (typed c.args.kernel.now.nodes c.args.kernel.now.made)
    _ _ c.args.taken.now c.args.taken.now _ _ c.requires.filling c.requires.place c.requires.unknown c.requires.known c.put.ensures

pub returns-clause-kept : goal.returns-clause-kept
returns-clause-kept c =
    known_new c.args.kernel.now.nodes c.args.run.now (orderly c.args.kernel.now.nodes c.args.kernel.now.made) (typed c.args.kernel.now.nodes c.args.kernel.now.made)
    _ _ c.args.taken.now c.args.taken.now _ _ c.requires.filling c.requires.place c.requires.unknown c.requires.known c.put.ensures
