use Rattle.std.proofs.Common.{◌≡◌, ◌+◌, ◌<◌, ℕ, List, [], ◌∷◌, ◌++◌, length, true, inr, sym, ◌∙◌, ap, subst, arith}
use Rattle.std.proofs.lemmas.List.{length_push}
use Rattle.std.proofs.lemmas.Option.{get_or_from_slice_get}
use Rattle.std.proofs.lemmas.Result.{err_from_is_err_and}
use Rattle.rtl_ir.specs.declared.error.RtlError.TheVariants.{SameName}
use Rattle.rtl_ir.specs.Rules.{IsSound}
use Rattle.rtl_check.specs.FirstFault.{IsNamedAgain}
use Rattle.rtl_check.specs.Paths.{IsInRange}
use Rattle.rtl_check.specs.Checked.{IsPart}
use Rattle.rtl_check.proofs.Places.{more_hold}
use Rattle.rtl_check.proofs.Sound.{Before, named_fault, part_error, loop_error, accepted_error, accepted_free, formed_at, part_at, range_at, tables_more, accepted_at, HasPaths}
use Rattle.rtl_check.proofs.check.Goals as goal

pub returns-then-number-again-clause-err : goal.returns-then-number-again-clause-err
returns-then-number-again-clause-err c =
    let d = c.args.design.now in let m = c.at-module.result.now in let n = c.loop-number.number in let again = c.in_ok-again.again in
    let before : Before d again n m = record { earlier = c.in_ok-again.ensures.earlier; upto = c.loop-number.invariant.fresh; sound = c.loop-number.invariant.sound; at = c.at-module.ensures } in
    let named : IsNamedAgain d n = subst (IsNamedAgain d) (sym c.if-number-again.true) (c.in_ok-again.ensures.again (omega arith)) in
    inr (named_fault d again n m _ before named c.in_ok-name.ensures)

pub returns-then-number-again-clause-accepted : goal.returns-then-number-again-clause-accepted
returns-then-number-again-clause-accepted c = λ h.
    let d = c.args.design.now in let m = c.at-module.result.now in let n = c.loop-number.number in let again = c.in_ok-again.again in
    let before : Before d again n m = record { earlier = c.in_ok-again.ensures.earlier; upto = c.loop-number.invariant.fresh; sound = c.loop-number.invariant.sound; at = c.at-module.ensures } in
    let named : IsNamedAgain d n = subst (IsNamedAgain d) (sym c.if-number-again.true) (c.in_ok-again.ensures.again (omega arith)) in
    absurd (accepted_free d h (SameName c.in_ok-name.name) (named_fault d again n m c.in_ok-name.name before named c.in_ok-name.ensures))

pub test_parts-requires : goal.test_parts-requires
test_parts-requires c = formed_at c.args.design.now c.requires c.loop-number.number c.at-module.result.now c.at-module.ensures

pub returns-in_err-test_parts-clause-err : goal.returns-in_err-test_parts-clause-err
returns-in_err-test_parts-clause-err c =
    let d = c.args.design.now in let m = c.at-module.result.now in let n = c.loop-number.number in let again = c.in_ok-again.again in
    let before : Before d again n m = record { earlier = c.in_ok-again.ensures.earlier; upto = c.loop-number.invariant.fresh; sound = c.loop-number.invariant.sound; at = c.at-module.ensures } in
    let lt : n < again = omega (arith, c.loop-number.invariant.fresh, c.if-number-again.false) in
    let p = err_from_is_err_and c.from_residual-in_err-test_parts.result c.from_residual-in_err-test_parts.ensures.1 in
    rw (p.1, p.2) (part_error d again n m _ before (c.in_ok-again.ensures.earlier n lt) c.in_err-test_parts.ensures.err)

pub returns-in_err-test_parts-clause-accepted : goal.returns-in_err-test_parts-clause-accepted
returns-in_err-test_parts-clause-accepted c = λ h.
    let d = c.args.design.now in let m = c.at-module.result.now in let n = c.loop-number.number in let again = c.in_ok-again.again in
    let before : Before d again n m = record { earlier = c.in_ok-again.ensures.earlier; upto = c.loop-number.invariant.fresh; sound = c.loop-number.invariant.sound; at = c.at-module.ensures } in
    let lt : n < again = omega (arith, c.loop-number.invariant.fresh, c.if-number-again.false) in
    let p = err_from_is_err_and c.from_residual-in_err-test_parts.result c.from_residual-in_err-test_parts.ensures.1 in
    rw (p.1, p.2) (accepted_error d h _ (part_error d again n m _ before (c.in_ok-again.ensures.earlier n lt) c.in_err-test_parts.ensures.err))

pub paths_or_loop-requires : goal.paths_or_loop-requires
paths_or_loop-requires c =
    let d = c.args.design.now in let m = c.at-module.result.now in let n = c.loop-number.number in let tables = c.loop-number.tables in
    let part = part_at d n m c.in_ok-wanted.wanted.items tables c.requires c.at-module.ensures c.in_ok-wanted.ensures.marked c.loop-number.invariant.paths in
    subst (IsInRange m) (sym c.as_slice.ensures) (range_at d n m tables c.requires c.at-module.ensures c.loop-number.invariant.count part)

pub returns-in_err-paths-clause-err : goal.returns-in_err-paths-clause-err
returns-in_err-paths-clause-err c =
    let d = c.args.design.now in let m = c.at-module.result.now in let n = c.loop-number.number in let again = c.in_ok-again.again in let tables = c.loop-number.tables in
    let before : Before d again n m = record { earlier = c.in_ok-again.ensures.earlier; upto = c.loop-number.invariant.fresh; sound = c.loop-number.invariant.sound; at = c.at-module.ensures } in
    let lt : n < again = omega (arith, c.loop-number.invariant.fresh, c.if-number-again.false) in
    let part = subst (λ (t : List (List (List ℕ))). IsPart m t d) (sym c.as_slice.ensures)
    (part_at d n m c.in_ok-wanted.wanted.items tables c.requires c.at-module.ensures
    c.in_ok-wanted.ensures.marked c.loop-number.invariant.paths) in
    let p = err_from_is_err_and c.from_residual-in_err-paths.result c.from_residual-in_err-paths.ensures.1 in
    rw (p.1, p.2) (loop_error d again n m c.as_slice.result.now _ before (c.in_ok-again.ensures.earlier n lt) c.in_ok-test_parts.ensures.ok part c.in_err-paths.ensures.err)

pub returns-in_err-paths-clause-accepted : goal.returns-in_err-paths-clause-accepted
returns-in_err-paths-clause-accepted c = λ h.
    let d = c.args.design.now in let m = c.at-module.result.now in let n = c.loop-number.number in let again = c.in_ok-again.again in let tables = c.loop-number.tables in
    let before : Before d again n m = record { earlier = c.in_ok-again.ensures.earlier; upto = c.loop-number.invariant.fresh; sound = c.loop-number.invariant.sound; at = c.at-module.ensures } in
    let lt : n < again = omega (arith, c.loop-number.invariant.fresh, c.if-number-again.false) in
    let part = subst (λ (t : List (List (List ℕ))). IsPart m t d) (sym c.as_slice.ensures)
    (part_at d n m c.in_ok-wanted.wanted.items tables c.requires c.at-module.ensures
    c.in_ok-wanted.ensures.marked c.loop-number.invariant.paths) in
    let p = err_from_is_err_and c.from_residual-in_err-paths.result c.from_residual-in_err-paths.ensures.1 in
    rw (p.1, p.2) (accepted_error d h _ (loop_error d again n m c.as_slice.result.now _ before (c.in_ok-again.ensures.earlier n lt) c.in_ok-test_parts.ensures.ok part c.in_err-paths.ensures.err))

pub loop-number-preserved : goal.loop-number-preserved
loop-number-preserved c =
    let d = c.args.design.now in let m = c.at-module.result.now in let n = c.loop-number.number in let tables = c.loop-number.tables in
    let part = subst (λ (t : List (List (List ℕ))). IsPart m t d) (sym c.as_slice.ensures)
    (part_at d n m c.in_ok-wanted.wanted.items tables c.requires c.at-module.ensures
    c.in_ok-wanted.ensures.marked c.loop-number.invariant.paths) in
    let keeps = c.in_ok-test_parts.ensures.ok in
    let here : IsSound d m = record { names = keeps.names; driven = keeps.driven; updated = keeps.updated; widths = keeps.widths; levelled = c.in_ok-paths.ensures.levelled d part } in
    let is : c.push.new.self ≡ tables ++ c.in_ok-paths.paths ∷ [] = c.in_ok-push.ensures.ok in
    let more = tables_more d c.in_ok-wanted.wanted.items tables n m c.in_ok-paths.paths
    c.at-module.ensures c.loop-number.invariant.count
    (λ w. c.in_ok-paths.ensures.paths
    (c.index.ensures ∙ get_or_from_slice_get c.in_ok-wanted.wanted.items n true
    c.index.result.now w) d part) c.loop-number.invariant.paths in
    record {
      fresh = omega (arith, c.loop-number.invariant.fresh, c.if-number-again.false);
      count = ap length is ∙ length_push tables c.in_ok-paths.paths ∙ ap (λ k. k + 1) c.loop-number.invariant.count;
      sound = more_hold (IsSound d) d.modules n m c.at-module.ensures here c.loop-number.invariant.sound;
      paths = subst (λ (t : List (List (List ℕ))). HasPaths d c.in_ok-wanted.wanted.items t (n + 1)) (sym is) more;
    }

pub returns-clause-ok : goal.returns-clause-ok
returns-clause-ok c =
    let d = c.args.design.now in
    accepted_at d c.in_ok-again.again c.requires c.in_ok-again.ensures.earlier (omega (arith, c.loop-number.invariant.fresh)) (λ k m lt at. c.loop-number.invariant.sound k m (omega arith) at)
