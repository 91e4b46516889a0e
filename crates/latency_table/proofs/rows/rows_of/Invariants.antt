use Rattle.std.proofs.Common.{◌≡◌, ◌++◌, map, drop, option_map}
use Rattle.serde_json.specs.View.{view}
use Rattle.latency_table.proofs.RowLemmas.{rows_above}
use Rattle.latency_table.proofs.rows.rows_of.Given as goal

-- the rows so far and those that are left are the rows of all
abbrev pub invariant-loop-pair : goal.invariant-loop-pair
invariant-loop-pair l =
    rows_above 0 (map view l.pair-items)
    ≡ option_map (λ rest. l.rows ++ rest) (rows_above l.above (map view (drop l.pair-index l.pair-items)))
