use Rattle.std.proofs.Common.{◌≡◌, not, is_some, map, take, drop}
use Rattle.std.specs.List.{find}
use Rattle.serde_json.specs.View.{view}
use Rattle.latency_table.specs.Tables.{rows_under, range_fault}
use Rattle.latency_table.proofs.EntryLemmas.{read_beside, kept_beside}
use Rattle.latency_table.proofs.reading.read_rows.Given as goal

-- the entries so far are read, and a fault is among the operations that are left
abbrev pub invariant-loop-op : goal.invariant-loop-op
invariant-loop-op l = record {
  kept : map (read_beside (view l.file)) (take l.op-index l.op-items) ≡ map kept_beside l.entries;
  left : range_fault (view l.file) ≡ find (λ op. not (is_some (rows_under op (view l.file)))) (drop l.op-index l.op-items);
}
