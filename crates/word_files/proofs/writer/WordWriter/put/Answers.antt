use Rattle.std.proofs.Common.{◌++◌, inr, refl}
use Rattle.word_files.specs.Written.{line_of}
use Rattle.word_files.proofs.writer.WordWriter.put.Goals as goal

pub returns-clause-put : goal.returns-clause-put
returns-clause-put g c = λ file held.
    let s = c.args.self.now in
    let written = c.in_ok-write.ensures.written file held in
    (file ++ (s.waiting.items ++ line_of s.width c.args.word), rw c.in_ok-add_line.ensures.line at written, inr (refl, c.in_ok-write.ensures.waiting))
