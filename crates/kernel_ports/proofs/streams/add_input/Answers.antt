use Rattle.std.proofs.lemmas.Result.{IfOk-weaker}
use Rattle.kernel_ports.proofs.Adding.{port_added, signal_added}
use Rattle.kernel_ports.proofs.streams.add_input.Goals as goal

pub returns-clause-port : goal.returns-clause-port
returns-clause-port c =
    let q = c.requires in
    IfOk-weaker c.input.result _ _ (λ s a. port_added q.alone q.some q.at_most a) c.input.ensures.port

pub returns-clause-signal : goal.returns-clause-signal
returns-clause-signal c = IfOk-weaker c.input.result _ _ (λ s a. signal_added a) c.input.ensures.port
