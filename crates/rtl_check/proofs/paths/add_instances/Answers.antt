use Rattle.std.proofs.Common.{ℕ, List, refl, sym, subst}
use Rattle.rtl_check.specs.Paths.{HasPath}
use Rattle.rtl_check.proofs.Places.{item_at}
use Rattle.rtl_check.proofs.Edges.{parted_more}
use Rattle.rtl_check.proofs.paths.add_instances.Goals as goal

pub loop-place-preserved : goal.loop-place-preserved
loop-place-preserved c =
    let m = c.args.module.now in let tables = c.args.tables.now in let k = c.loop-place.place in let i = c.at-instance.result.now in
    let paths = c.index-tables-number.result in
    let table = item_at tables tables i.module paths refl (c.requires.earlier k i c.at-instance.ensures) (rw (sym c.index-number.ensures.number) c.index-tables-number.is) in
    let same = c.as_slice-table.ensures in
    record {
      added = parted_more m tables k i paths c.args.graph.now c.loop-place.graph
          c.add_paths.new.graph c.at-instance.ensures table c.loop-place.invariant.added
          (rw (sym same) c.in_ok-add_paths.ensures.added);
      small = λ s. c.in_ok-add_paths.ensures.small (c.loop-place.invariant.small s);
    }

pub add_paths-requires-clause-inputs : goal.add_paths-requires-clause-inputs
add_paths-requires-clause-inputs c = λ x has.
    let tables = c.args.tables.now in let k = c.loop-place.place in let i = c.at-instance.result.now in
    let table = c.index-tables-number.result in
    let at = item_at tables tables i.module table refl (c.requires.earlier k i c.at-instance.ensures) (rw (sym c.index-number.ensures.number) c.index-tables-number.is) in
    (c.requires.ports k i table x c.at-instance.ensures at (subst (λ (l : List (List ℕ)). HasPath l x) c.as_slice-table.ensures has)).0

pub add_paths-requires-clause-outputs : goal.add_paths-requires-clause-outputs
add_paths-requires-clause-outputs c = λ x has.
    let tables = c.args.tables.now in let k = c.loop-place.place in let i = c.at-instance.result.now in
    let table = c.index-tables-number.result in
    let at = item_at tables tables i.module table refl (c.requires.earlier k i c.at-instance.ensures) (rw (sym c.index-number.ensures.number) c.index-tables-number.is) in
    (c.requires.ports k i table x c.at-instance.ensures at (subst (λ (l : List (List ℕ)). HasPath l x) c.as_slice-table.ensures has)).1
