use Rattle.std.proofs.Common.{◌≡◌, ◌∙◌, ℕ, Option, Some, None, take, subst, sym, ap, arith}
use Rattle.std.specs.Int.{from_bool}
use Rattle.maxj_tokens.specs.Faults.{IsExcess, is_opening, is_closing}
use Rattle.maxj_tokens.proofs.FirstFaults.{none_at_all}
use Rattle.maxj_tokens.proofs.Excesses.{Behind, counted_none, counted_more, deep_at, far_at, count_within, byte_fits, none_behind, one_behind, break_behind, behind_within, near, no_break, first_break}
use Rattle.maxj_tokens.proofs.excess.first_excess.Goals as goal
use Rattle.maxj_tokens.proofs.excess.first_excess.Goals.{in-true-default-2, in-true-default, in-false-Some, in-false-None}

pub loop-number-init : goal.loop-number-init
loop-number-init c = counted_none

pub overflow_add-opened : goal.overflow_add-opened
overflow_add-opened c =
    let l = c.loop-number in
    let some = byte_fits c.is_opening.result in
    let few = count_within is_opening c.args.tokens.now l.number in
    omega (arith, l.invariant.opened_is, c.from-opened.ensures)

pub overflow_add-closed : goal.overflow_add-closed
overflow_add-closed c =
    let l = c.loop-number in
    let some = byte_fits c.is_closing.result in
    let few = count_within is_closing c.args.tokens.now l.number in
    omega (arith, l.invariant.closed_is, c.from-closed.ensures)

pub returns-then-saturating_sub-gt-MOST_OPEN-clause-some : goal.returns-then-saturating_sub-gt-MOST_OPEN-clause-some
returns-then-saturating_sub-gt-MOST_OPEN-clause-some c =
    let l = c.loop-number in
    deep_at c.args.tokens.now l.number _ l.opened l.closed _ _ l.behind_break c.at-token.ensures
    l.invariant (c.from-opened.ensures ∙ ap from_bool c.is_opening.ensures)
    (c.from-closed.ensures ∙ ap from_bool c.is_closing.ensures) (omega arith)

pub returns-in-true-Some-clause-some : goal.returns-in-true-Some-clause-some
returns-in-true-Some-clause-some c =
    let l = c.loop-number in
    let e = c.in-true-Some in
    far_at c.args.tokens.now l.number _ l.opened l.closed l.behind_break e.between c.at-token.ensures l.invariant e.is-1 (omega arith) (sym e.ensures)

pub overflow_add-behind_break : goal.overflow_add-behind_break
overflow_add-behind_break c =
    let l = c.loop-number in
    let e = c.in-false-Some in
    let few = behind_within c.args.tokens.now l.number e.between (subst (Behind (take l.number c.args.tokens.now)) e.is-1 l.invariant.behind_is) in
    omega arith

pub loop-number-preserved : goal.loop-number-preserved
loop-number-preserved c =
    let l = c.loop-number in
    let ts = take l.number c.args.tokens.now in
    let o = c.from-opened.ensures ∙ ap from_bool c.is_opening.ensures in
    let q = c.from-closed.ensures ∙ ap from_bool c.is_closing.ensures in
    let behind = λ (n : Option ℕ) (e : l.behind_break ≡ n). subst (Behind ts) e l.invariant.behind_is in
    let more = counted_more c.args.tokens.now l.number _ l.opened l.closed _ _ l.behind_break c.at-token.ensures l.invariant o q (omega arith) c.if-is_break.behind_break in
    elim c.if-is_break.branch [
      | in-true-default-2 w ↦ (let e = w.in-true-Some in more (Some 0) (near ts _ e.between (behind _ e.is-1) (omega arith)) w.behind_break-is (break_behind ts _ (sym e.ensures)))
      | in-true-default w ↦ (let e = w.in-true-default in more (Some 0) (first_break ts _ (behind _ e.is-1)) w.behind_break-is (break_behind ts _ (sym e.ensures)))
      | in-false-Some w ↦ (let e = w.in-false-Some in more _ (no_break ts _ (sym e.ensures)) w.behind_break-is (one_behind ts _ e.between (behind _ e.is-1) (sym e.ensures)))
      | in-false-None w ↦ (let e = w.in-false-None in more None (no_break ts _ (sym e.ensures)) w.behind_break-is (none_behind ts _ (behind _ e.is-1) (sym e.ensures)))
    ]

pub returns-clause-none : goal.returns-clause-none
returns-clause-none c = none_at_all IsExcess c.args.tokens.now c.loop-number.number (omega arith) c.loop-number.invariant.none
