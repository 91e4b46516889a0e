use Rattle.std.proofs.Common.{◌≡◌, ◌≤◌, ◌<◌, ◌-◌, ◌^◌, ℕ, List, length, None}
use Rattle.std.specs.Prelude.{All}
use Rattle.mx_base.specs.Files.{Holds, Lacks}
use Rattle.word_files.specs.WordFiles.{Follows, IsUnread}
use Rattle.word_lists.specs.Read.{said_by}
use Rattle.word_lists.proofs.Saying.{Begins}
use Rattle.word_lists.proofs.reading.read_words.Given as goal

-- as many lines are read as there are words, and say them
abbrev pub invariant-loop-reader : goal.invariant-loop-reader
invariant-loop-reader g l = record {
  name : l.reader.name ≡ l.name;
  width : l.reader.width ≡ l.width;
  unrefused : l.reader.refusal ≡ None;
  same : g.F.Files.held l.files ≡ g.F.Files.held l.fn.files;
  read_quiet : g.F.Files.read_faults l.files ≡ g.F.Files.read_faults l.fn.files;
  write_quiet : g.F.Files.write_faults l.files ≡ g.F.Files.write_faults l.fn.files;
  lines : l.reader.lines ≡ length l.words;
  within : length l.words ≤ l.most;
  fit : All (λ w. w < 2 ^ l.width) l.words;
  follows : (file : List ℕ) → Holds (g.F.Files.held l.fn.files) l.name file → Follows file l.reader;
  says : (file : List ℕ) → Holds (g.F.Files.held l.fn.files) l.name file → Begins (said_by file) l.words;
  lacking : Lacks (g.F.Files.held l.fn.files) l.name → (length l.words ≡ 0) × IsUnread l.reader;
}

abbrev pub decreases-loop-reader : goal.decreases-loop-reader
decreases-loop-reader g l = l.most - length l.words
