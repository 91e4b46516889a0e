use Rattle.std.proofs.Common.{◌≡◌, not}
use Rattle.std.specs.List.{find}
use Rattle.serde_json.specs.View.{members_view}
use Rattle.latency_table.specs.Tables.{pairs, is_entry}
use Rattle.latency_table.proofs.reading.refuse_other_shape.Given as goal

-- a faulty key is among those left
abbrev pub invariant-loop-key : goal.invariant-loop-key
invariant-loop-key l =
    find (λ m. not (is_entry m)) (pairs (members_view l.initial.key-iterator))
    ≡ find (λ m. not (is_entry m)) (pairs (members_view l.key-iterator))
