use Rattle.std.proofs.Common.{List, [], ◌∷◌, ◌++◌, Option, ℕ, length, map, take, take_all, sym, ap, ◌∙◌, subst, arith}
use Rattle.manager_links.specs.declared.hosts.HostPort.{HostPort}
use Rattle.manager_links.proofs.Pieces.{map_step, read_in}
use Rattle.project_streams.specs.Streams.{words_of}
use Rattle.project_words.specs.Words.{values_of}
use Rattle.project_words.proofs.Ports.{IsThere}
use Rattle.stream_expect.proofs.Ports.{output_there}
use Rattle.stream_expect.proofs.outputs.output_words.Goals as goal

pub words_of-requires-clause-node : goal.words_of-requires-clause-node
words_of-requires-clause-node c =
    let project = c.args.project.now in
    let host = c.host-item.result in
    let at = read_in c.outputs-host-items.result.now project.joints.outputs c.loop-host.host-index host c.outputs-host-items.ensures c.loop-host-test.true c.host-item.is in
    let there = subst (λ (h : HostPort). IsThere project.kernels h.port) (sym at.1) (output_there project c.loop-host.host-index host at.0) in
    there.node

pub loop-host-preserved : goal.loop-host-preserved
loop-host-preserved c = λ given have.
    let project = c.args.project.now in
    let words : HostPort → List (Option ℕ) =
    λ host. words_of project.kernels given (values_of c.args.words.now) host.port in
    let host = c.host-item.result in
    let at = read_in c.outputs-host-items.result.now project.joints.outputs c.loop-host.host-index host c.outputs-host-items.ensures c.loop-host-test.true c.host-item.is in
    c.in_ok-push.ensures.ok
    ∙ ap (λ xs. xs ++ c.in_ok-words_of.field-0 ∷ []) (c.loop-host.invariant given have)
    ∙ ap (λ list. map words (take c.loop-host.host-index project.joints.outputs) ++ list ∷ []) (c.in_ok-words_of.ensures given have)
    ∙ map_step words [] project.joints.outputs c.loop-host.host-index host at.0 at.1

pub returns : goal.returns
returns c = λ given have.
    let project = c.args.project.now in
    let words : HostPort → List (Option ℕ) =
    λ host. words_of project.kernels given (values_of c.args.words.now) host.port in
    let size = ap length c.outputs-host-items.ensures in
    let done = c.loop-host-test.false in
    c.loop-host.invariant given have
    ∙ ap (map words) (take_all c.loop-host.host-index project.joints.outputs (omega (arith, size, done)))
