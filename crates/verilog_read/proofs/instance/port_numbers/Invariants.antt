use Rattle.std.proofs.Common.{map, take}
use Rattle.verilog_syntax.specs.Trees.{port_view}
use Rattle.rtl_reading.specs.Uses.{port_name}
use Rattle.verilog_read.specs.Tables.{IsTable}
use Rattle.verilog_read.specs.Joined.{some_name}
use Rattle.verilog_read.proofs.instance.port_numbers.Given as goal

abbrev pub invariant-loop-place : goal.invariant-loop-place
invariant-loop-place l = IsTable l.numbers (map some_name (map port_name (map port_view (take l.place l.ports))))
