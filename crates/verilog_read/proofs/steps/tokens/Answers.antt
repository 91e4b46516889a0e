use Rattle.std.proofs.Common.{subst}
use Rattle.verilog_syntax.specs.Scanning.{Fails}
use Rattle.verilog_read.specs.Answers.{IsScanFault}
use Rattle.verilog_read.proofs.steps.tokens.Goals as goal

pub returns-in-Err-NoToken-clause-err : goal.returns-in-Err-NoToken-clause-err
returns-in-Err-NoToken-clause-err c = IsScanFault.stuck c.in-Err-NoToken.place (subst (Fails c.args.bytes.now) c.in-Err-NoToken.field-0-is c.in-Err-NoToken.ensures.stuck)

pub returns-in-Err-NoMemory-clause-err : goal.returns-in-Err-NoMemory-clause-err
returns-in-Err-NoMemory-clause-err c = IsScanFault.memory
