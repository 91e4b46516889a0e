use Rattle.verilog_syntax.proofs.Fronts.{literal_read, literal_stop}
use Rattle.verilog_syntax.proofs.cursor.Parser.literal.Goals as goal

pub returns-in-Some-clause-exact : goal.returns-in-Some-clause-exact
returns-in-Some-clause-exact c = literal_read _ c.in-Some.ensures c.step.ensures

pub returns-in-None-clause-exact : goal.returns-in-None-clause-exact
returns-in-None-clause-exact c = record { stops = λ _. literal_stop c.in-None.ensures }
