use Rattle.std.proofs.Common.{◌≡◌, ◌+◌, ◌-◌, refl, ◌∙◌, arith}
use Rattle.std.proofs.lemmas.Option.{slice_get_read}
use Rattle.word_files.proofs.AheadLemmas.{ahead_first, ahead_rest}
use Rattle.word_files.proofs.bytes.FileBytes.take.Goals as goal

pub returns-clause-byte : goal.returns-clause-byte
returns-clause-byte c = λ file ahead.
    let s = c.args.self.now in
    let first = ahead_first s.buffer.items file s.from s.place (s.filled - s.from) c.index-byte.result.now ahead.same (omega arith) in
    slice_get_read file _ s.place c.index-byte.result.now refl (omega (arith, ahead.within)) (c.index-byte.ensures ∙ first)

pub returns-clause-ahead : goal.returns-clause-ahead
returns-clause-ahead c = λ file ahead.
    let s = c.args.self.now in
    let n : s.filled - s.from ≡ 1 + (s.filled - (s.from + 1)) = omega arith in
    record {
      same = ahead_rest s.buffer.items file s.from s.place (s.filled - (s.from + 1)) (rw n at ahead.same);
      within = omega (arith, ahead.within);
    }
