use Rattle.std.proofs.Common.{◌≡◌, ◌++◌, take}
use Rattle.std.specs.Prelude.{codes}
use Rattle.std.specs.List.{flat_map}
use Rattle.refusal_line.specs.Lines.{after_blank, words_of}
use Rattle.refusal_line.proofs.line.refusal_line.Given as goal

-- the values so far stand behind the code
abbrev pub invariant-loop-value : goal.invariant-loop-value
invariant-loop-value l = l.line.items ≡ (codes "refused " ++ l.fn.code) ++ flat_map after_blank (flat_map words_of (take l.value-index l.values))
