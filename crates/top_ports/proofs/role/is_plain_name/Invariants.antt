use Rattle.std.proofs.Common.{◌≡◌, true, take}
use Rattle.std.specs.List.{list_all}
use Rattle.rtl_ir.specs.Ports.{is_plain_byte}
use Rattle.top_ports.proofs.role.is_plain_name.Given as goal

abbrev pub invariant-loop-byte : goal.invariant-loop-byte
invariant-loop-byte l = list_all is_plain_byte (take l.byte-index l.rest) ≡ true
