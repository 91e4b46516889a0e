use Rattle.std.proofs.Common.{◌≡◌, Some, None}
use Rattle.verilog_syntax.specs.Pieces.{number_at}
use Rattle.verilog_syntax.specs.Trees.{left}
use Rattle.verilog_syntax.proofs.Fronts.{number_read, number_stop}
use Rattle.verilog_syntax.proofs.cursor.Parser.number.Goals as goal

pub returns-in-Some-clause-exact : goal.returns-in-Some-clause-exact
returns-in-Some-clause-exact c =
    let e : number_at c.args.limit (left c.args.self.now) ≡ Some c.in-Some.value = cc in
    number_read e c.step.ensures

pub returns-in-None-clause-exact : goal.returns-in-None-clause-exact
returns-in-None-clause-exact c =
    let e : number_at c.args.limit (left c.args.self.now) ≡ None = cc in
    record { stops = λ _. number_stop e }
