use Rattle.std.proofs.Common.{◌≡◌, ◌≤◌, ◌+◌, ◌-◌, ℕ, List, [], length, take, drop}
use Rattle.mx_base.specs.Files.{Holds, Lacks}
use Rattle.word_files.specs.Ahead.{IsAhead}
use Rattle.word_files.specs.Lines.{lines_from}
use Rattle.word_files.proofs.bytes.FileBytes.take_line.Given as goal

-- the line is begun by the bytes taken so far
abbrev pub invariant-loop-count : goal.invariant-loop-count
invariant-loop-count g l = record {
  bound : l.count ≤ 33;
  size : length l.piece ≡ 33;
  same : g.F.Files.held l.files ≡ g.F.Files.held l.fn.files;
  read_quiet : g.F.Files.read_faults l.files ≡ g.F.Files.read_faults l.fn.files;
  write_quiet : g.F.Files.write_faults l.files ≡ g.F.Files.write_faults l.fn.files;
  place : l.self.place ≡ l.fn.self.place + l.count;
  ahead : (file : List ℕ) → Holds (g.F.Files.held l.fn.files) l.name file → IsAhead file l.fn.self → IsAhead file l.self;
  lacking : Lacks (g.F.Files.held l.fn.files) l.name → l.fn.self.filled ≡ l.fn.self.from → (l.count ≡ 0) × (l.self.filled ≡ l.self.from);
  begun : (file : List ℕ) → Holds (g.F.Files.held l.fn.files) l.name file → IsAhead file l.fn.self →
      lines_from [] (drop l.fn.self.place file) ≡ lines_from (take l.count l.piece) (drop l.self.place file);
}

abbrev pub decreases-loop-count : goal.decreases-loop-count
decreases-loop-count g l = 33 - l.count
