use Rattle.std.proofs.Common.{map, sym}
use Rattle.verilog_read.specs.Walk.{net_name}
use Rattle.verilog_read.proofs.Tables.{net_found, net_missing}
use Rattle.verilog_read.proofs.declared.Declared.net.Goals as goal

pub returns-in-Some : goal.returns-in-Some
returns-in-Some c = λ sc m h t. rw c.new.ensures (net_found c.args.name.now h c.in-Some.net (sym (c.in-Some.ensures (map net_name m.nets) t.nets)))

pub returns-in-None : goal.returns-in-None
returns-in-None c = λ sc m h t. net_missing c.args.name.now h (sym (c.in-None.ensures (map net_name m.nets) t.nets))
