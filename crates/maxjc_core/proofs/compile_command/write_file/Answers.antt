use Rattle.mx_base.specs.Files.{Holds}
use Rattle.maxjc_core.proofs.Delivering.{on_ok_where}
use Rattle.maxjc_core.proofs.compile_command.write_file.Goals as goal

pub returns-clause-written : goal.returns-clause-written
returns-clause-written g c =
    on_ok_where (Holds (g.F.Files.held c.append.new.self) c.args.name.now c.args.bytes.now)
    c.append.result (λ told. c.append.ensures.grown _ (c.in_ok-create.ensures.made told))
