use Rattle.std.proofs.Common.{◌≡◌, take}
use Rattle.std.specs.Prelude.{IsSome}
use Rattle.mx_base.specs.Files.{ChangesOnly}
use Rattle.word_lists.specs.Written.{word_lines}
use Rattle.word_lists.proofs.Written.{IsPut}
use Rattle.word_lists.proofs.writing.write_words.Given as goal

-- the lines of the words so far are put
abbrev pub invariant-loop-bits : goal.invariant-loop-bits
invariant-loop-bits g l = record {
  name : l.writer.name ≡ l.name;
  width : l.writer.width ≡ l.width;
  only : ChangesOnly l.name (g.F.Files.held l.fn.files) (g.F.Files.held l.files);
  read_quiet : g.F.Files.read_faults l.files ≡ g.F.Files.read_faults l.fn.files;
  write_quiet : g.F.Files.write_faults l.files ≡ g.F.Files.write_faults l.fn.files;
  put : IsSome (g.F.Files.held l.fn.files) → IsPut (g.F.Files.held l.files) l.name l.writer.waiting.items (word_lines l.width (take l.bits-index l.words));
}
