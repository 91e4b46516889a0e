use Rattle.std.proofs.Common.{length, get_or, sym, ap, subst, take, take_all, arith}
use Rattle.std.specs.Prelude.{All}
use Rattle.std.proofs.lemmas.List.{take_more}
use Rattle.std.proofs.lemmas.List.Elements.{All-push}
use Rattle.std.proofs.lemmas.Option.{slice_get-get_or}
use Rattle.link_balance.specs.Ports.{port_of, IsEvenBut}
use Rattle.manager_links.specs.Waiting.{AreSmall}
use Rattle.project_streams.specs.Balanced.{IsEvenLink}
use Rattle.project_words.specs.Words.{values_of}
use Rattle.stream_expect.proofs.Balancing.{no_link, link_read, even_read, first_read}
use Rattle.stream_expect.proofs.Starting.{starts_small}
use Rattle.stream_expect.proofs.balanced.unbalanced_link.Goals as goal

pub port_run-requires-clause-small : goal.port_run-requires-clause-small
port_run-requires-clause-small c =
    subst AreSmall (sym c.as_slice-starts.ensures)
    (starts_small c.args.project.now c.args.times.now c.args.links.now c.requires.times c.requires.links)

pub port_run-requires-in-loop-number-clause-small : goal.port_run-requires-in-loop-number-clause-small
port_run-requires-in-loop-number-clause-small c =
    subst AreSmall (sym c.as_slice-starts.ensures)
    (starts_small c.args.project.now c.args.times.now c.args.links.now c.requires.times c.requires.links)

pub port_run-requires-clause-node : goal.port_run-requires-clause-node
port_run-requires-clause-node c =
    (link_read c.args.project.now c.args.times.now c.args.links.now c.as_slice-link-items.result.now
    c.loop-number.number c.requires.links c.as_slice-link-items.ensures c.loop-number-test.true).from.node

pub port_run-requires-in-loop-number-clause-node : goal.port_run-requires-in-loop-number-clause-node
port_run-requires-in-loop-number-clause-node c =
    (link_read c.args.project.now c.args.times.now c.args.links.now c.as_slice-link-items.result.now
    c.loop-number.number c.requires.links c.as_slice-link-items.ensures c.loop-number-test.true).to.node

pub returns-in-Some : goal.returns-in-Some
returns-in-Some c = λ given have.
    let links = c.args.links.now.links in
    let n = c.loop-number.number in
    let size = ap length c.as_slice-link-items.ensures in
    let test = c.loop-number-test.true in
    record {
      link = get_or links n no_link;
      numbered = slice_get-get_or links n no_link (omega (arith, size, test));
      even = c.loop-number.invariant given have;
      first =
          first_read c.args.project.now c.args.times.now c.args.links.now given (values_of c.args.words.now)
          c.as_slice-starts.result.now c.as_slice-link-items.result.now n
          (port_of c.in_ok-producer.producer) (port_of c.in_ok-consumer.consumer)
          c.as_slice-starts.ensures c.as_slice-link-items.ensures
          (c.in_ok-producer.ensures given have) (c.in_ok-consumer.ensures given have)
          c.in-Some.fault.side c.in-Some.fault.tick c.in-Some.ensures;
    }

pub loop-number-preserved : goal.loop-number-preserved
loop-number-preserved c = λ given have.
    let links = c.args.links.now.links in
    let items = c.as_slice-link-items.result.now in
    let n = c.loop-number.number in
    let size = ap length c.as_slice-link-items.ensures in
    let test = c.loop-number-test.true in
    let producer = port_of c.in_ok-producer.producer in
    let consumer = port_of c.in_ok-consumer.consumer in
    let IsEvenHere = IsEvenLink c.args.project.now c.args.times.now c.args.links.now given (values_of c.args.words.now) in
    let even =
    even_read c.args.project.now c.args.times.now c.args.links.now given (values_of c.args.words.now)
    c.as_slice-starts.result.now items n producer consumer
    c.as_slice-starts.ensures c.as_slice-link-items.ensures
    (c.in_ok-producer.ensures given have) (c.in_ok-consumer.ensures given have)
    (subst (IsEvenBut producer consumer (get_or items n no_link).depth) c.in_default.is c.first_fault.ensures) in
    subst (All IsEvenHere) (sym (take_more links n no_link (omega (arith, size, test))))
    (All-push IsEvenHere (take n links) (get_or links n no_link) (c.loop-number.invariant given have) even)

pub returns : goal.returns
returns c = λ given have.
    let links = c.args.links.now.links in
    let size = ap length c.as_slice-link-items.ensures in
    let done = c.loop-number-test.false in
    subst (All (IsEvenLink c.args.project.now c.args.times.now c.args.links.now given (values_of c.args.words.now)))
    (take_all c.loop-number.number links (omega (arith, size, done))) (c.loop-number.invariant given have)
