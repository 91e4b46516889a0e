use Rattle.std.proofs.Common.{◌≡◌, Some, None}
use Rattle.verilog_syntax.specs.Pieces.{name_at}
use Rattle.verilog_syntax.specs.Trees.{left}
use Rattle.verilog_syntax.proofs.Fronts.{name_read, name_stop}
use Rattle.verilog_syntax.proofs.cursor.Parser.name.Goals as goal

pub returns-in-Some-clause-exact : goal.returns-in-Some-clause-exact
returns-in-Some-clause-exact c =
    let e : name_at (left c.args.self.now) ≡ Some c.in-Some.name.now = cc in
    name_read e c.step.ensures

pub returns-in-None-clause-exact : goal.returns-in-None-clause-exact
returns-in-None-clause-exact c =
    let e : name_at (left c.args.self.now) ≡ None = cc in
    record { stops = λ _. name_stop e }
