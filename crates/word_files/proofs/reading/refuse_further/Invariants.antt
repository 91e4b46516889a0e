use Rattle.std.proofs.Common.{◌≡◌, map, not}
use Rattle.std.specs.List.{find}
use Rattle.serde_json.specs.View.{members_view}
use Rattle.word_files.specs.RunFiles.{pairs, is_key}
use Rattle.word_files.proofs.reading.refuse_further.Given as goal

-- a further key is among those left
abbrev pub invariant-loop-key : goal.invariant-loop-key
invariant-loop-key l =
    find (λ key. not (is_key key)) (map (λ m. m.0) (pairs (members_view l.initial.key-iterator)))
    ≡ find (λ key. not (is_key key)) (map (λ m. m.0) (pairs (members_view l.key-iterator)))
