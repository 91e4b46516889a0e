use Rattle.std.proofs.Common.{◌≡◌, List, ℕ, Bor, drop}
use Rattle.std.specs.List.{list_any}
use Rattle.std.specs.Str.{bytes_eq}
use Rattle.maxj_tokens.proofs.word.is_among.Given as goal

-- the words so far are others
abbrev pub invariant-loop-other : goal.invariant-loop-other
invariant-loop-other l =
    let same = λ (w : Bor (List ℕ)). bytes_eq l.word w.now in list_any same l.words ≡ list_any same (drop l.other-index l.words)
