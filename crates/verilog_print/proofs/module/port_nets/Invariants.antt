use Rattle.std.proofs.Common.{◌≡◌, ◌<◌, ℕ, length, false, take}
use Rattle.std.specs.List.{slice_index_or}
use Rattle.rtl_text.specs.Text.{is_port}
use Rattle.verilog_print.proofs.module.port_nets.Given as goal

abbrev pub invariant-loop-i : goal.invariant-loop-i
invariant-loop-i l = (length l.joined.items ≡ l._i) × ((n : ℕ) → slice_index_or l.joined.items n false ≡ false)

abbrev pub invariant-loop-port : goal.invariant-loop-port
invariant-loop-port l = (length l.joined.items ≡ l.count) × ((n : ℕ) → n < l.count → slice_index_or l.joined.items n false ≡ is_port (take l.port-index l.ports) n)
