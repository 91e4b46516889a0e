use Rattle.std.proofs.Common.{◌≡◌}
use Rattle.std.specs.BTreeMap.{get_by}
use Rattle.std.specs.Cmp.Lexicographic.{slice_cmp}
use Rattle.std.specs.Option.{option_copied, option_or}
use Rattle.std.specs.Ordering.{nat_cmp}
use Rattle.mx_base.specs.Files.{Name}
use Rattle.simulation.specs.Plans.{look_up}
use Rattle.simulation.proofs.planning.by_name.Given as goal

-- the pairs left come before those that the map has
abbrev pub invariant-loop-name : goal.invariant-loop-name
invariant-loop-name g l =
    (name : Name) → look_up l.fn.list name ≡ option_or (look_up l.name-iterator.iter.rest.now name) (option_copied (get_by (λ k. slice_cmp nat_cmp name k.now) l.named))
