use Rattle.std.proofs.Common.{map, sym}
use Rattle.verilog_read.specs.Walk.{register_name}
use Rattle.verilog_read.proofs.Tables.{register_found, register_missing}
use Rattle.verilog_read.proofs.declared.Declared.register.Goals as goal

pub returns-in-Some : goal.returns-in-Some
returns-in-Some c = λ sc m h t. rw c.new.ensures (register_found c.args.name.now h c.in-Some.register (sym (c.in-Some.ensures (map register_name m.nets) t.registers)))

pub returns-in-None : goal.returns-in-None
returns-in-None c = λ sc m h t. register_missing c.args.name.now h (sym (c.in-None.ensures (map register_name m.nets) t.registers))
