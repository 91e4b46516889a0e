use Rattle.std.proofs.Common.{◌≡◌, map, drop}
use Rattle.std.specs.List.{list_all}
use Rattle.serde_json.specs.View.{view}
use Rattle.latency_table.specs.Rows.{is_pair}
use Rattle.latency_table.proofs.rows.are_pairs.Given as goal

-- the items that are left decide
abbrev pub invariant-loop-pair : goal.invariant-loop-pair
invariant-loop-pair l = list_all is_pair (map view l.pair-items) ≡ list_all is_pair (map view (drop l.pair-index l.pair-items))
