use Rattle.std.proofs.Common.{None, sym, ap, ◌∙◌}
use Rattle.stream_equations.specs.Words.{port_words}
use Rattle.kernel_words.specs.Streams as OneKernel
use Rattle.project_streams.specs.Streams.{nodes_at, run_from}
use Rattle.project_words.proofs.Ports.{kernel_within, nodes_read}
use Rattle.stream_expect.proofs.Guarding.{same_values}
use Rattle.stream_expect.proofs.outputs.words_of.Goals as goal

pub returns : goal.returns
returns c = λ given have.
    let kernels = c.args.project.now.kernels in
    let port = c.args.port in
    let streams = c.of-streams.result.now in
    let at = c.of-streams.ensures in
    let lt = kernel_within kernels port.kernel port.node c.requires.node in
    let nodes = nodes_read kernels c.kernels.result.now port.kernel c.index-kernels-port.result c.kernels.ensures lt c.index-kernels-port.is in
    let run = run_from given port.kernel (λ _ _. None) in
    c.from_vec.ensures
    ∙ c.in_ok-list.ensures run (sym (have port.kernel streams at))
    ∙ ap (λ ns. port_words ns run (OneKernel.values_of streams) c.new.result) (sym nodes)
    ∙ ap (port_words (nodes_at kernels port.kernel) run (OneKernel.values_of streams)) c.new.ensures
    ∙ ap (λ val. port_words (nodes_at kernels port.kernel) run val port.node)
    (sym (same_values c.args.words.now port.kernel streams at))
