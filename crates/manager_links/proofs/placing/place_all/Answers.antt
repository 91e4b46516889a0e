use Rattle.std.proofs.Common.{◌<◌, ◌++◌, ◌∷◌, [], length, take, get_or, refl, sym, subst, arith}
use Rattle.manager_links.specs.Numbers.{AreEnds}
use Rattle.manager_links.specs.Placed.{ArePlaced}
use Rattle.manager_links.specs.Terminals.{terminals, ends_of, left_terminal, right_terminal}
use Rattle.manager_links.proofs.Pieces.{differ_none, read_in, zip_length}
use Rattle.manager_links.proofs.JoinEnds.{ends_take}
use Rattle.manager_links.proofs.Distinct.{terminals_differ}
use Rattle.manager_links.proofs.OnlyPort.{no_ends}
use Rattle.manager_links.proofs.Places.{AreOnce, none_placed, put_more, ends_at, again_left, again_right}
use Rattle.manager_links.proofs.placing.place_all.Goals as goal

pub loop-number-init : goal.loop-number-init
loop-number-init c = record {
  placed = subst (ArePlaced (terminals c.args.plan.now c.args.kernels.now) c.args.ends.now []) (sym c.requires.places)
      (none_placed (terminals c.args.plan.now c.args.kernels.now) c.args.ends.now);
  once = differ_none;
}

pub bounds-ends-number : goal.bounds-ends-number
bounds-ends-number c =
    let same = zip_length (AreEnds (terminals c.args.plan.now c.args.kernels.now)) c.args.plan.now.joins
    c.args.ends.now c.requires.ends in
    let lt = subst (λ xs. c.loop-number.number < length xs) c.as_slice-joins.ensures c.loop-number-test.true in
    omega arith

pub place-requires : goal.place-requires
place-requires c =
    let own = ends_at (terminals c.args.plan.now c.args.kernels.now) c.args.plan.now.joins
    c.as_slice-joins.result.now c.args.ends.now c.loop-number.number c.index-joins-number.result
    c.requires.ends c.as_slice-joins.ensures c.loop-number-test.true c.index-joins-number.is in
    let a = own.within_left in let b = c.loop-number.invariant.placed.size in omega arith

pub place-requires-in-loop-number : goal.place-requires-in-loop-number
place-requires-in-loop-number c =
    let own = ends_at (terminals c.args.plan.now c.args.kernels.now) c.args.plan.now.joins
    c.as_slice-joins.result.now c.args.ends.now c.loop-number.number c.index-joins-number.result
    c.requires.ends c.as_slice-joins.ensures c.loop-number-test.true c.index-joins-number.is in
    let a = own.within_right in let b = c.loop-number.invariant.placed.size in
    let d = c.place.auto.places in omega arith

pub returns-then-not-place-clause-err : goal.returns-then-not-place-clause-err
returns-then-not-place-clause-err c =
    let plan = c.args.plan.now in
    let ends = terminals plan c.args.kernels.now in
    let i = c.loop-number.number in
    let join = c.index-joins-number.result in
    let at = read_in c.as_slice-joins.result.now plan.joins i join c.as_slice-joins.ensures
    c.loop-number-test.true c.index-joins-number.is in
    let own = ends_at ends plan.joins c.as_slice-joins.result.now c.args.ends.now i join
    c.requires.ends c.as_slice-joins.ensures c.loop-number-test.true c.index-joins-number.is in
    let so_far = subst (λ xs. AreOnce ends c.args.ends.now (ends_of (take i xs)) c.loop-number.places)
    c.as_slice-joins.ensures
    (record { placed = c.loop-number.invariant.placed; once = c.loop-number.invariant.once }) in
    let taken = c.if-not-place.ensures.taken refl in
    record {
      end = left_terminal join.left;
      first = again_left plan.joins i join at.0 at.1 so_far.once
          (so_far.placed.taken (get_or c.args.ends.now i no_ends).left taken.0 (left_terminal join.left)
          own.are.left taken.1);
      is = c.in_ok-end_name.ensures.left;
    }

pub returns-then-not-place-2-clause-err : goal.returns-then-not-place-2-clause-err
returns-then-not-place-2-clause-err c =
    let plan = c.args.plan.now in
    let ends = terminals plan c.args.kernels.now in
    let i = c.loop-number.number in
    let join = c.index-joins-number.result in
    let at = read_in c.as_slice-joins.result.now plan.joins i join c.as_slice-joins.ensures
    c.loop-number-test.true c.index-joins-number.is in
    let own = ends_at ends plan.joins c.as_slice-joins.result.now c.args.ends.now i join
    c.requires.ends c.as_slice-joins.ensures c.loop-number-test.true c.index-joins-number.is in
    let so_far = subst (λ xs. AreOnce ends c.args.ends.now (ends_of (take i xs)) c.loop-number.places)
    c.as_slice-joins.ensures
    (record { placed = c.loop-number.invariant.placed; once = c.loop-number.invariant.once }) in
    let more = put_more ends c.args.ends.now (ends_of (take i plan.joins)) c.loop-number.places c.place.new.places
    (get_or c.args.ends.now i no_ends).left i (left_terminal join.left)
    (terminals_differ plan c.args.kernels.now c.requires.ready.names) so_far own.are.left own.left
    (c.if-not-place.ensures.placed refl) in
    let taken = c.if-not-place-2.ensures.taken refl in
    record {
      end = right_terminal join.right;
      first = again_right plan.joins i join at.0 at.1 more.once
          (more.placed.taken (get_or c.args.ends.now i no_ends).right taken.0 (right_terminal join.right)
          own.are.right taken.1);
      is = c.in_ok-end_name-2.ensures.right;
    }

pub loop-number-preserved : goal.loop-number-preserved
loop-number-preserved c =
    let plan = c.args.plan.now in
    let ends = terminals plan c.args.kernels.now in
    let differ = terminals_differ plan c.args.kernels.now c.requires.ready.names in
    let joins = c.as_slice-joins.result.now in
    let i = c.loop-number.number in
    let join = c.index-joins-number.result in
    let own = ends_at ends plan.joins joins c.args.ends.now i join
    c.requires.ends c.as_slice-joins.ensures c.loop-number-test.true c.index-joins-number.is in
    let one = put_more ends c.args.ends.now (ends_of (take i joins)) c.loop-number.places c.place.new.places
    (get_or c.args.ends.now i no_ends).left i (left_terminal join.left) differ
    (record { placed = c.loop-number.invariant.placed; once = c.loop-number.invariant.once })
    own.are.left own.left (c.if-not-place.ensures.placed refl) in
    let two = put_more ends c.args.ends.now (ends_of (take i joins) ++ left_terminal join.left ∷ [])
    c.place.new.places c.place-in-loop-number.new.places
    (get_or c.args.ends.now i no_ends).right i (right_terminal join.right) differ one
    own.are.right own.right (c.if-not-place-2.ensures.placed refl) in
    let all = subst (λ xs. AreOnce ends c.args.ends.now xs c.place-in-loop-number.new.places)
    (sym (ends_take joins i join c.loop-number-test.true c.index-joins-number.is)) two in
    record { placed = all.placed; once = all.once }
