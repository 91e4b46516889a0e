use Rattle.std.proofs.lemmas.Result.{IfOk-weaker}
use Rattle.kernel_ports.proofs.Adding.{port_added, signal_added}
use Rattle.kernel_ports.proofs.streams.add_output.Goals as goal

pub returns-clause-port : goal.returns-clause-port
returns-clause-port c =
    let q = c.requires in
    IfOk-weaker c.output.result _ _ (λ s a. port_added q.alone q.some q.at_most a) c.output.ensures.port

pub returns-clause-signal : goal.returns-clause-signal
returns-clause-signal c = IfOk-weaker c.output.result _ _ (λ s a. signal_added a) c.output.ensures.port
