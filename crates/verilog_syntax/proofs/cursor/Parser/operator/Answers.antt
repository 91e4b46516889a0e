use Rattle.std.proofs.Common.{◌≡◌, Some, None}
use Rattle.verilog_syntax.specs.Pieces.{operator_at}
use Rattle.verilog_syntax.specs.Trees.{left}
use Rattle.verilog_syntax.proofs.Fronts.{operator_read, operator_stop}
use Rattle.verilog_syntax.proofs.cursor.Parser.operator.Goals as goal

pub returns-in-Some-clause-exact : goal.returns-in-Some-clause-exact
returns-in-Some-clause-exact c =
    let e : operator_at (left c.args.self.now) ≡ Some c.in-Some.sign = cc in
    operator_read e c.step.ensures

pub returns-in-None-clause-exact : goal.returns-in-None-clause-exact
returns-in-None-clause-exact c =
    let e : operator_at (left c.args.self.now) ≡ None = cc in
    record { stops = λ _. operator_stop e }
