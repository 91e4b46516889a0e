use Rattle.std.proofs.Common.{◌≡◌, List, ℕ, take, drop}
use Rattle.word_files.specs.RunFiles.{files, is_shared}
use Rattle.word_files.specs.Keys.{HasKeys}
use Rattle.word_files.proofs.reading.share_files.Given as goal

-- the set has the files of the inputs so far
abbrev pub invariant-loop-file : goal.invariant-loop-file
invariant-loop-file l = HasKeys l.taken (files (take l.file-index l.file-items))

-- the set has the files taken so far, beside which the outputs left share what all do
abbrev pub invariant-loop-file-2 : goal.invariant-loop-file-2
invariant-loop-file-2 l =
    (taken : List (List ℕ)) × HasKeys l.taken taken
    × (is_shared taken (files (drop l.file-index l.file-items)) ≡ is_shared (files l.fn.inputs) (files l.fn.outputs))
