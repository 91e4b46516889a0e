use Rattle.std.proofs.Common.{refl}
use Rattle.verilog_syntax.proofs.Signs.{double_taken}
use Rattle.verilog_syntax.proofs.token.double.Goals as goal

pub returns-in-Some-clause-some : goal.returns-in-Some-clause-some
returns-in-Some-clause-some c = double_taken c.args.text.now c.in-Some.rest.now 61 c.requires c.in-Some.ensures.some refl refl refl

pub returns-in-Some-after-clause-some : goal.returns-in-Some-after-clause-some
returns-in-Some-after-clause-some c = double_taken c.args.text.now c.in-Some-after.rest.now 60 c.requires c.in-Some-after.ensures.some refl refl refl
