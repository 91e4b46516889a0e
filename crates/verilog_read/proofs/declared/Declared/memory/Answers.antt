use Rattle.std.proofs.Common.{map, sym}
use Rattle.verilog_read.specs.Walk.{memory_name}
use Rattle.verilog_read.proofs.Tables.{memory_found, memory_missing}
use Rattle.verilog_read.proofs.declared.Declared.memory.Goals as goal

pub returns-in-Some : goal.returns-in-Some
returns-in-Some c = λ sc m h t. rw c.new.ensures (memory_found c.args.name.now h c.in-Some.memory (sym (c.in-Some.ensures (map memory_name m.mems) t.memories)))

pub returns-in-None : goal.returns-in-None
returns-in-None c = λ sc m h t. memory_missing c.args.name.now h (sym (c.in-None.ensures (map memory_name m.mems) t.memories))
