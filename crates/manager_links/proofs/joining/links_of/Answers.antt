use Rattle.std.proofs.Common.{◌≡◌, ◌∙◌, ◌+◌, ◌≤◌, ◌<◌, false, ◌++◌, ◌∷◌, [], length, take, length-append, sym, subst, arith}
use Rattle.std.specs.Prelude.{All, filter}
use Rattle.std.specs.List.{AllZip}
use Rattle.std.proofs.lemmas.List.Elements.{All-push}
use Rattle.kernel_meaning.specs.declared.plan.Join.{Join}
use Rattle.manager_links.specs.Joined.{is_link, IsLinkOf}
use Rattle.manager_links.specs.Numbers.{AreEnds}
use Rattle.stream_graph.specs.Kinds.{is_input, is_output}
use Rattle.manager_links.specs.Rules.{HasTwoTypes}
use Rattle.manager_links.specs.Steps.{HaveOneType}
use Rattle.manager_links.specs.Terminals.{terminals}
use Rattle.manager_links.proofs.Pieces.{take_read, zip_push, zip_length, read_in, kept_more, dropped_more, first_read}
use Rattle.manager_links.proofs.OnlyPort.{read_link, named_some, one_type, no_type}
use Rattle.manager_links.proofs.joining.links_of.Goals as goal
use Rattle.manager_links.proofs.joining.links_of.Goals.{then-is_link+else-not-have_one_type+in_ok-push, else-is_link}

pub bounds-ends-number : goal.bounds-ends-number
bounds-ends-number c =
    let same = zip_length (AreEnds (terminals c.args.plan.now c.args.kernels.now)) c.args.plan.now.joins
    c.args.ends.now c.requires.ends in
    let lt = subst (λ xs. c.loop-number.number < length xs) c.as_slice-joins.ensures c.loop-number-test.true in
    omega arith

pub link_at-link-requires-clause-left : goal.link_at-link-requires-clause-left
link_at-link-requires-clause-left c =
    (read_link c.args.plan.now c.args.kernels.now c.args.slots.now c.as_slice-joins.result.now c.args.ends.now
    c.loop-number.number c.index-joins-number.result c.requires.slots c.requires.ends c.as_slice-joins.ensures
    c.loop-number-test.true c.index-joins-number.is (sym c.if-is_link.ensures)).left

pub link_at-link-requires-clause-right : goal.link_at-link-requires-clause-right
link_at-link-requires-clause-right c =
    (read_link c.args.plan.now c.args.kernels.now c.args.slots.now c.as_slice-joins.result.now c.args.ends.now
    c.loop-number.number c.index-joins-number.result c.requires.slots c.requires.ends c.as_slice-joins.ensures
    c.loop-number-test.true c.index-joins-number.is (sym c.if-is_link.ensures)).right

pub have_one_type-requires-clause-from : goal.have_one_type-requires-clause-from
have_one_type-requires-clause-from c =
    let is = (read_link c.args.plan.now c.args.kernels.now c.args.slots.now c.as_slice-joins.result.now c.args.ends.now
    c.loop-number.number c.index-joins-number.result c.requires.slots c.requires.ends c.as_slice-joins.ensures
    c.loop-number-test.true c.index-joins-number.is (sym c.if-is_link.ensures)).is
    c.link_at-link.result c.link_at-link.ensures.from c.link_at-link.ensures.to in
    named_some c.args.kernels.now is_output c.index-joins-number.result.right c.link_at-link.result.from is.from

pub have_one_type-requires-clause-to : goal.have_one_type-requires-clause-to
have_one_type-requires-clause-to c =
    let is = (read_link c.args.plan.now c.args.kernels.now c.args.slots.now c.as_slice-joins.result.now c.args.ends.now
    c.loop-number.number c.index-joins-number.result c.requires.slots c.requires.ends c.as_slice-joins.ensures
    c.loop-number-test.true c.index-joins-number.is (sym c.if-is_link.ensures)).is
    c.link_at-link.result c.link_at-link.ensures.from c.link_at-link.ensures.to in
    named_some c.args.kernels.now is_input c.index-joins-number.result.left c.link_at-link.result.to is.to

pub returns-then-not-have_one_type-clause-err : goal.returns-then-not-have_one_type-clause-err
returns-then-not-have_one_type-clause-err c =
    let kernels = c.args.kernels.now in
    let join = c.index-joins-number.result in
    let at = read_in c.as_slice-joins.result.now c.args.plan.now.joins c.loop-number.number join
    c.as_slice-joins.ensures c.loop-number-test.true c.index-joins-number.is in
    let is = (read_link c.args.plan.now kernels c.args.slots.now c.as_slice-joins.result.now c.args.ends.now
    c.loop-number.number join c.requires.slots c.requires.ends c.as_slice-joins.ensures
    c.loop-number-test.true c.index-joins-number.is (sym c.if-is_link.ensures)).is
    c.link_at-link.result c.link_at-link.ensures.from c.link_at-link.ensures.to in
    let types = c.have_one_type.ensures in
    let no = c.if-not-have_one_type.true in
    record {
      join = join;
      first = first_read (HasTwoTypes kernels) c.args.plan.now.joins c.loop-number.number join at.0 at.1
          (subst (λ xs. All (λ (j : Join). HasTwoTypes kernels j → ⊥) (take c.loop-number.number xs))
          c.as_slice-joins.ensures c.loop-number.invariant.one)
          (record {
            to = c.link_at-link.result.to;
            from = c.link_at-link.result.from;
            left = is.to;
            right = is.from;
            differ = λ e. let yes = types.1 (sym e) in cc;
          });
      is = c.in_ok-end.ensures.left;
    }

pub loop-number-preserved : goal.loop-number-preserved
loop-number-preserved c =
    let kernels = c.args.kernels.now in
    let joins = c.as_slice-joins.result.now in
    let i = c.loop-number.number in
    let join = c.index-joins-number.result in
    let lt = c.loop-number-test.true in
    let is = c.index-joins-number.is in
    let h = c.loop-number.invariant in
    elim c.if-is_link.branch [
      | then-is_link+else-not-have_one_type+in_ok-push w ↦ (
          let link = w.link_at-link.result in
          let of = (read_link c.args.plan.now kernels c.args.slots.now joins c.args.ends.now i join c.requires.slots
          c.requires.ends c.as_slice-joins.ensures lt is (sym w.if-is_link.ensures)).is
          link w.link_at-link.ensures.from w.link_at-link.ensures.to in
          let same = w.have_one_type.ensures.0 w.if-not-have_one_type.false in
          let now : c.if-is_link.links ≡ c.loop-number.links ++ link ∷ [] = w.links-is ∙ w.in_ok-push.ensures.ok in
          record {
            joined = subst (λ xs. AllZip (IsLinkOf kernels) xs c.if-is_link.links)
                (sym (kept_more is_link joins i join lt is (sym w.if-is_link.ensures)))
                (subst (AllZip (IsLinkOf kernels) (filter is_link (take i joins) ++ join ∷ [])) (sym now)
                (zip_push (IsLinkOf kernels) (filter is_link (take i joins)) c.loop-number.links join link h.joined of));
            count = subst (λ xs. length xs ≤ i + 1) (sym now) (let a = h.count in rw length-append (omega arith));
            types = subst (All (HaveOneType kernels)) (sym now)
                (All-push (HaveOneType kernels) c.loop-number.links link h.types same);
            one = subst (All (λ (j : Join). HasTwoTypes kernels j → ⊥)) (sym (take_read joins i join lt is))
                (All-push (λ (j : Join). HasTwoTypes kernels j → ⊥) (take i joins) join h.one (one_type kernels join link of same));
          })
      | else-is_link w ↦ (
          let other : is_link join ≡ false = sym w.if-is_link.ensures in
          record {
            joined = subst (λ xs. AllZip (IsLinkOf kernels) xs c.if-is_link.links)
                (sym (dropped_more is_link joins i join lt is other))
                (subst (AllZip (IsLinkOf kernels) (filter is_link (take i joins))) (sym w.links-is) h.joined);
            count = subst (λ xs. length xs ≤ i + 1) (sym w.links-is) (let a = h.count in omega arith);
            types = subst (All (HaveOneType kernels)) (sym w.links-is) h.types;
            one = subst (All (λ (j : Join). HasTwoTypes kernels j → ⊥)) (sym (take_read joins i join lt is))
                (All-push (λ (j : Join). HasTwoTypes kernels j → ⊥) (take i joins) join h.one (no_type kernels join other));
          })
    ]
