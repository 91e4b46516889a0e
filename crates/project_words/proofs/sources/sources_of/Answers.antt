use Rattle.std.proofs.Common.{◌≡◌, ◌∙◌, ◌+◌, ◌-◌, length, sym, ap, subst, arith, length-set}
use Rattle.project_streams.specs.Streams.{nodes_at}
use Rattle.project_words.specs.Given.{given_of}
use Rattle.project_words.specs.Open.{settled_values}
use Rattle.project_words.specs.Sources.{AreFrom, AreFromHosts}
use Rattle.project_words.proofs.Placing.{no_link, known_placed}
use Rattle.project_words.proofs.Ports.{no_ends, all_read, nodes_read}
use Rattle.project_words.proofs.Widths.{fit_nodes}
use Rattle.project_words.proofs.sources.sources_of.Goals as goal

pub loop-number-init : goal.loop-number-init
loop-number-init c =
    let project = c.args.project.now in
    let run = c.args.run.now in
    let nodes =
    nodes_read project.kernels c.kernels.result.now c.args.kernel c.index-kernels-kernel.result c.kernels.ensures c.requires.kernel c.index-kernels-kernel.is in
    record {
      nodes = c.in_ok-sources.ensures.nodes ∙ c.count-nodes.ensures ∙ sym (ap length nodes);
      within = omega arith;
      from =
          no_link project (given_of run) (settled_values c.args.settled.now) c.args.kernel (length c.links-links.result.now) c.in_ok-sources.sources.items
          (ap length c.links-links.ensures)
          (subst (λ hosts. AreFromHosts hosts run.words c.args.kernel 0 c.in_ok-sources.sources.items) c.inputs.ensures
          (subst (λ words. AreFromHosts c.inputs.result.now words c.args.kernel 0 c.in_ok-sources.sources.items) c.as_slice.ensures c.in_ok-sources.ensures.from));
    }

pub output_words-requires-clause-node : goal.output_words-requires-clause-node
output_words-requires-clause-node c =
    let within = c.loop-number.invariant.within in
    let some = c.loop-number-test.true in
    let links = all_read c.args.project.now c.links-links.result.now c.links-links.ensures in
    (links (c.loop-number.number - 1) no_ends (omega (arith, within, some))).from.node

pub index_mut-requires : goal.index_mut-requires
index_mut-requires c =
    let within = c.loop-number.invariant.within in
    let some = c.loop-number-test.true in
    let links = all_read c.args.project.now c.links-links.result.now c.links-links.ensures in
    let to = (links (c.loop-number.number - 1) no_ends (omega (arith, within, some))).to.node in
    let own = ap (λ k. length (nodes_at c.args.project.now.kernels k)) c.if-link-kernel.true in
    omega (arith, to, own, c.loop-number.invariant.nodes, c.loop-number.sources.ok.0)

pub loop-number-preserved-then-link-kernel : goal.loop-number-preserved-then-link-kernel
loop-number-preserved-then-link-kernel c =
    let within = c.loop-number.invariant.within in
    let some = c.loop-number-test.true in
    let next : c.loop-number.number ≡ c.loop-number.number - 1 + 1 = omega (arith, some) in
    record {
      nodes = length-set c.loop-number.sources.items _ c.in_ok-words.words ∙ c.loop-number.invariant.nodes;
      within = omega (arith, within);
      from =
          known_placed c.args.project.now (given_of c.args.run.now) c.args.settled.now c.args.kernel c.requires.known c.requires.fed
          c.links-links.result.now c.links-links.ensures (c.loop-number.number - 1) no_ends c.loop-number.sources.items c.in_ok-words.words
          (omega (arith, within, some)) c.if-link-kernel.true (λ g e. c.in_ok-words.ensures g e)
          (subst (λ m. AreFrom c.args.project.now (given_of c.args.run.now) (settled_values c.args.settled.now) c.args.kernel m c.loop-number.sources.items)
          next c.loop-number.invariant.from);
    }

pub returns-clause-fit : goal.returns-clause-fit
returns-clause-fit c =
    let done = c.loop-number-test.false in
    let none : c.loop-number.number ≡ 0 = omega (arith, done) in
    fit_nodes c.args.project.now c.args.run.now c.args.settled.now c.args.kernel c.requires.given c.requires.known c.requires.fed
    c.loop-number.sources.items c.loop-number.invariant.nodes
    (subst (λ m. AreFrom c.args.project.now (given_of c.args.run.now) (settled_values c.args.settled.now) c.args.kernel m c.loop-number.sources.items)
    none c.loop-number.invariant.from)
