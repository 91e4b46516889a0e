use Rattle.std.proofs.Common.{◌≡◌, true, take}
use Rattle.std.specs.List.{list_all}
use Rattle.top_ports.proofs.CutLemmas.{is_other}
use Rattle.top_ports.proofs.cut.cut_name.Given as goal

-- no byte so far is a '$'
abbrev pub invariant-loop-place : goal.invariant-loop-place
invariant-loop-place l = list_all is_other (take l.place l.name) ≡ true
