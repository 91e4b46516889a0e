use Rattle.std.proofs.Common.{◌≡◌, ◌++◌, take}
use Rattle.std.specs.List.{flat_map}
use Rattle.refusal_line.specs.Lines.{after_blank}
use Rattle.refusal_line.proofs.line.push_names.Given as goal

-- the names so far stand behind the line
abbrev pub invariant-loop-name : goal.invariant-loop-name
invariant-loop-name l = l.line.items ≡ l.initial.line.items ++ flat_map after_blank (take l.name-index l.names)
