use Rattle.std.proofs.Common.{◌<◌, ◌^◌, length, sym, ap, ◌∙◌, subst, arith}
use Rattle.kernel_words.specs.Streams as OneKernel
use Rattle.manager_links.proofs.Started.{timed_port}
use Rattle.project_streams.specs.Streams.{nodes_at}
use Rattle.project_words.proofs.Ports.{kernel_within, nodes_read}
use Rattle.stream_equations.specs.Equations.{enabled}
use Rattle.stream_expect.proofs.Guarding.{same_values}
use Rattle.stream_expect.proofs.Ports.{node_some, few_ticks}
use Rattle.stream_expect.proofs.port.port_run.Goals as goal

pub first_edge-requires-clause-timed : goal.first_edge-requires-clause-timed
first_edge-requires-clause-timed c =
    timed_port c.args.project.now.kernels c.args.times.now c.args.port c.requires.times
    (node_some c.args.project.now.kernels c.args.port c.requires.node)

pub first_edge-requires-clause-kernel : goal.first_edge-requires-clause-kernel
first_edge-requires-clause-kernel c =
    let kernels = c.args.project.now.kernels in
    let lt = kernel_within kernels c.args.port.kernel c.args.port.node c.requires.node in
    omega (arith, lt, c.requires.starts)

pub due_ticks-requires : goal.due_ticks-requires
due_ticks-requires c =
    let kernels = c.args.project.now.kernels in
    let port = c.args.port in
    let lt = kernel_within kernels port.kernel port.node c.requires.node in
    let nodes = nodes_read kernels c.kernels.result.now port.kernel c.index-kernels-port.result c.kernels.ensures lt c.index-kernels-port.is in
    let size = ap length nodes in
    let node = c.requires.node in
    let new = c.new.ensures in
    record { node = omega (arith, size, node, new) }

pub invariant_of-result : goal.invariant_of-result
invariant_of-result c =
    let kernels = c.args.project.now.kernels in
    let port = c.args.port in
    let streams = c.of-streams.result.now in
    let few = few_ticks (length (nodes_at kernels port.kernel)) streams.ticks port.node (2 ^ 24) c.requires.node
    (c.requires.few port.kernel streams c.of-streams.ensures) in
    let begin = c.first_edge.ensures.few in
    let ticks = c.in_ok-due_ticks.ensures.ticks in
    record { fits = omega (arith, few, begin, ticks) }

pub returns : goal.returns
returns c = λ given have.
    let kernels = c.args.project.now.kernels in
    let port = c.args.port in
    let streams = c.of-streams.result.now in
    let lt = kernel_within kernels port.kernel port.node c.requires.node in
    let nodes = nodes_read kernels c.kernels.result.now port.kernel c.index-kernels-port.result c.kernels.ensures lt c.index-kernels-port.is in
    let ticks = c.in_ok-due_ticks.ensures.ticks in
    record {
      begin = c.first_edge.ensures.is;
      ticks = ticks ∙ have port.kernel streams c.of-streams.ensures;
      due = λ t within.
          c.in_ok-due_ticks.ensures.due t (subst (λ n. t < n) ticks within)
          ∙ ap (λ ns. enabled ns (OneKernel.values_of streams) c.new.result t) (sym nodes)
          ∙ ap (λ n. enabled (nodes_at kernels port.kernel) (OneKernel.values_of streams) n t) c.new.ensures
          ∙ ap (λ val. enabled (nodes_at kernels port.kernel) val port.node t)
          (sym (same_values c.args.words.now port.kernel streams c.of-streams.ensures));
    }
