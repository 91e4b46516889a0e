use Rattle.std.proofs.Common.{None, sym, ap, ◌∙◌}
use Rattle.std.specs.Option.{option_map_or}
use Rattle.stream_equations.specs.Words.{port_words}
use Rattle.kernel_words.specs.Streams as OneKernel
use Rattle.kernel_words.specs.declared.streams.Streams.{Streams}
use Rattle.project_streams.specs.Streams.{nodes_at, run_from}
use Rattle.project_words.proofs.Ports.{kernel_within, nodes_read}
use Rattle.project_words.proofs.sources.output_words.Goals as goal

pub returns : goal.returns
returns c = λ given ticks.
    let kernels = c.args.project.now.kernels in
    let port = c.args.port in
    let done = c.done_at-streams.ensures in
    let within = kernel_within kernels port.kernel port.node c.requires.node in
    let nodes = nodes_read kernels c.kernels.result.now port.kernel c.index-kernels-port.result c.kernels.ensures within c.index-kernels-port.is in
    c.from_vec.ensures
    ∙ c.in_ok-words.ensures (run_from given port.kernel (λ _ _. None))
    (ticks ∙ ap (λ o. option_map_or (λ (s : Streams). s.ticks) o 0) done)
    ∙ ap (λ ns. port_words ns (run_from given port.kernel (λ _ _. None)) (OneKernel.values_of c.done_at-streams.result.now) c.new.result) (sym nodes)
    ∙ ap (port_words (nodes_at kernels port.kernel) (run_from given port.kernel (λ _ _. None)) (OneKernel.values_of c.done_at-streams.result.now)) c.new.ensures
    ∙ ap (λ o. port_words (nodes_at kernels port.kernel) (run_from given port.kernel (λ _ _. None)) (option_map_or OneKernel.values_of o (λ n t. None)) port.node)
    (sym done)
