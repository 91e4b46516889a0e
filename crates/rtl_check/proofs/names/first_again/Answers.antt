use Rattle.std.proofs.Common.{Bor, ℕ, List, [], true, cond, get_or, ◌∙◌, ap, arith}
use Rattle.rtl_check.proofs.Again.{texts, is, again_at, not_again, seen_more, more_not_again, all_differ, again_within}
use Rattle.rtl_check.proofs.names.first_again.Goals as goal

abbrev nothing : Bor (List ℕ)
nothing = record { ref_ptr = (0, 0); now = [] }

pub returns-then-not-branch-clause-found : goal.returns-then-not-branch-clause-found
returns-then-not-branch-clause-found c =
    let names = c.args.names.now in let i = c.loop-place.place in
    record {
      holds = again_at names nothing i _ c.in_ok-insert.field-0 (omega arith) c.in_ok-insert.ensures.added (c.loop-place.invariant.seen (get_or names i nothing)) c.if-not-branch.true;
      earlier = c.loop-place.invariant.none;
    }

pub loop-place-preserved : goal.loop-place-preserved
loop-place-preserved c =
    let names = c.args.names.now in let i = c.loop-place.place in
    record {
      seen = λ q. c.in_ok-insert.ensures.updates.0 q ∙ ap (λ b. cond (is (get_or names i nothing) q) true b) (c.loop-place.invariant.seen q) ∙ seen_more names nothing q i (omega arith);
      none = more_not_again (texts names) i c.loop-place.invariant.none
          (not_again names nothing i _ c.in_ok-insert.field-0
          (omega arith) c.in_ok-insert.ensures.added (c.loop-place.invariant.seen
          (get_or names i nothing)) c.if-not-branch.false);
    }

pub returns-clause-none : goal.returns-clause-none
returns-clause-none c =
    let names = c.args.names.now in
    all_differ (texts names) (λ k a. c.loop-place.invariant.none k (let w = again_within names k a in omega arith) a)
