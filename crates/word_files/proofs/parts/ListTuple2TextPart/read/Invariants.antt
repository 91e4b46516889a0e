use Rattle.std.proofs.Common.{◌≡◌, ◌++◌, option_map}
use Rattle.serde_json.specs.View.{members_view}
use Rattle.word_files.specs.RunFiles.{pairs, all_read}
use Rattle.word_files.proofs.parts.ListTuple2TextPart.read.Given as goal

-- the parts so far and what the members left say are what all say
abbrev pub invariant-loop-key : goal.invariant-loop-key
invariant-loop-key g l =
    all_read g.T.Part.reads (pairs (members_view l.initial.key-iterator))
    ≡ option_map (λ rest. l.parts ++ rest) (all_read g.T.Part.reads (pairs (members_view l.key-iterator)))
