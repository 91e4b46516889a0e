-- What a file's reader has read ahead.
use Rattle.std.specs.Prelude.{ℕ, ◌≡◌, ◌≤◌, ◌+◌, ◌-◌, List, length, take, drop}
use Rattle.word_files.specs.declared.bytes.FileBytes.{FileBytes}

-- the bytes that are read and not yet taken are those of the file from the reader's place on
pub record IsAhead (file : List ℕ) (bytes : FileBytes) : Type 0 where
  pub same : take (bytes.filled - bytes.from) (drop bytes.from bytes.buffer.items) ≡ take (bytes.filled - bytes.from) (drop bytes.place file)
  pub within : bytes.place + (bytes.filled - bytes.from) ≤ length file
