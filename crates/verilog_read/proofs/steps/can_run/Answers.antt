use Rattle.std.proofs.Common.{sym, subst}
use Rattle.std.proofs.lemmas.Result.{err_from_is_err_and}
use Rattle.rtl_ir.specs.Ports.{ports_of}
use Rattle.top_ports.specs.Shapes.{IsFirstWrong}
use Rattle.verilog_read.specs.Answers.{HasWrongPort}
use Rattle.verilog_read.proofs.FirstUse.{err_is}
use Rattle.verilog_read.proofs.steps.can_run.Goals as goal

pub returns-in_err-name-in-Some-clause-err : goal.returns-in_err-name-in-Some-clause-err
returns-in_err-name-in-Some-clause-err c = rw (err_is (err_from_is_err_and c.from_residual.result c.from_residual.ensures.1)) HasWrongPort.memory

pub returns-in_ok-name-in-Some-clause-err : goal.returns-in_ok-name-in-Some-clause-err
returns-in_ok-name-in-Some-clause-err c =
    HasWrongPort.port c.top-top.result.now c.in_ok-name-in-Some.name c.top-top.ensures (subst (IsFirstWrong (ports_of c.top-top.result.now)) (sym c.in_ok-name-in-Some.ensures) c.in-Some.ensures.wrong)
