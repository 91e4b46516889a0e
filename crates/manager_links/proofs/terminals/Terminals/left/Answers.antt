use Rattle.std.proofs.Common.{◌∙◌, ap, sym}
use Rattle.std.specs.Prelude.{Some, None}
use Rattle.manager_links.specs.Terminals.{left_terminal}
use Rattle.manager_links.specs.Numbers.{left_of}
use Rattle.manager_links.proofs.Knowing.{finds}
use Rattle.manager_links.proofs.terminals.Terminals.left.Goals as goal

pub returns-in-Kernel : goal.returns-in-Kernel
returns-in-Kernel c = λ plan kernels ends known.
    finds left_of c.args.self.now.lefts ends (Some c.in-Kernel.kernel) c.as_bytes.result.now
    (left_terminal c.args.end.now) c.number.result known.lefts
    (ap left_terminal c.in-Kernel.is ∙ ap (left_of (Some c.in-Kernel.kernel)) (sym c.as_bytes.ensures))
    c.number.ensures

pub returns-in-Cpu : goal.returns-in-Cpu
returns-in-Cpu c = λ plan kernels ends known.
    finds left_of c.args.self.now.lefts ends None c.as_bytes-in-Cpu.result.now
    (left_terminal c.args.end.now) c.number-in-Cpu.result known.lefts
    (ap left_terminal c.in-Cpu.is ∙ ap (left_of None) (sym c.as_bytes-in-Cpu.ensures))
    c.number-in-Cpu.ensures
