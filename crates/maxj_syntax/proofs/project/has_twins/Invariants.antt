use Rattle.std.proofs.Common.{Bor, ◌≡◌, ℕ, List, take, false}
use Rattle.std.specs.List.{list_any}
use Rattle.std.specs.Str.{bytes_eq}
use Rattle.std.specs.HashSet as bag
use Rattle.maxj_syntax.proofs.Twins.{is, names, twice}
use Rattle.maxj_syntax.proofs.project.has_twins.Given as goal

-- the set has the names so far, and these differ
abbrev pub invariant-loop-class : goal.invariant-loop-class
invariant-loop-class l = record {
  seen : (q : Bor (List ℕ)) → bag.contains is l.names q ≡ list_any (bytes_eq q.now) (names (take l.class-index l.classes));
  none : twice (names (take l.class-index l.classes)) ≡ false;
}
