use Rattle.std.proofs.Common.{◌∙◌, ap, sym}
use Rattle.std.specs.Prelude.{Some, None}
use Rattle.manager_links.specs.Terminals.{right_terminal}
use Rattle.manager_links.specs.Numbers.{right_of}
use Rattle.manager_links.proofs.Knowing.{finds}
use Rattle.manager_links.proofs.terminals.Terminals.right.Goals as goal

pub returns-in-Kernel : goal.returns-in-Kernel
returns-in-Kernel c = λ plan kernels ends known.
    finds right_of c.args.self.now.rights ends (Some c.in-Kernel.kernel) c.as_bytes.result.now
    (right_terminal c.args.end.now) c.number.result known.rights
    (ap right_terminal c.in-Kernel.is ∙ ap (right_of (Some c.in-Kernel.kernel)) (sym c.as_bytes.ensures))
    c.number.ensures

pub returns-in-Cpu : goal.returns-in-Cpu
returns-in-Cpu c = λ plan kernels ends known.
    finds right_of c.args.self.now.rights ends None c.as_bytes-in-Cpu.result.now
    (right_terminal c.args.end.now) c.number-in-Cpu.result known.rights
    (ap right_terminal c.in-Cpu.is ∙ ap (right_of None) (sym c.as_bytes-in-Cpu.ensures))
    c.number-in-Cpu.ensures
