use Rattle.std.proofs.Common.{◌+◌, ◌++◌, ◌∷◌, [], length, take, sym, subst}
use Rattle.std.specs.List.{AllZip}
use Rattle.manager_links.specs.declared.ends.Ends.{Ends}
use Rattle.manager_links.specs.Numbers.{AreEnds}
use Rattle.manager_links.specs.Rules.{IsUnknown}
use Rattle.manager_links.specs.Terminals.{terminals, left_terminal}
use Rattle.manager_links.proofs.Pieces.{take_read, zip_push, stands_in, read_in}
use Rattle.manager_links.proofs.JoinEnds.{left_kernel, right_kernel, left_known, right_known, first_left, first_right, none_unknown, says_left, says_right}
use Rattle.manager_links.proofs.ends.number_joins.Goals as goal

pub unknown_port-requires-clause-port : goal.unknown_port-requires-clause-port
unknown_port-requires-clause-port c =
    let plan = c.args.plan.now in
    let kernels = c.args.kernels.now in
    let i = c.loop-join.join-index in
    let join = c.join-item.result in
    let at = read_in c.as_slice-join-items.result.now plan.joins i join c.as_slice-join-items.ensures
    c.loop-join-test.true c.join-item.is in
    left_kernel plan kernels (length plan.kernels) join.left
    (left_known plan i join c.requires.ready.managed at.0 at.1)
    (c.in_default.ensures plan kernels (terminals plan kernels) c.requires.known)

pub unknown_port-requires-in_default-right-clause-port :
    goal.unknown_port-requires-in_default-right-clause-port
unknown_port-requires-in_default-right-clause-port c =
    let plan = c.args.plan.now in
    let kernels = c.args.kernels.now in
    let i = c.loop-join.join-index in
    let join = c.join-item.result in
    let at = read_in c.as_slice-join-items.result.now plan.joins i join c.as_slice-join-items.ensures
    c.loop-join-test.true c.join-item.is in
    right_kernel plan kernels (length plan.kernels) join.right
    (right_known plan i join c.requires.ready.managed at.0 at.1)
    (c.in_default-right.ensures plan kernels (terminals plan kernels) c.requires.known)

pub loop-join-preserved : goal.loop-join-preserved
loop-join-preserved c =
    let plan = c.args.plan.now in
    let ends = terminals plan c.args.kernels.now in
    let i = c.loop-join.join-index in
    let join = c.join-item.result in
    let at = read_in c.as_slice-join-items.result.now plan.joins i join c.as_slice-join-items.ensures
    c.loop-join-test.true c.join-item.is in
    let numbers : Ends = record { left = c.in-Some.left; right = c.in-Some-right.right } in
    subst (λ xs. AllZip (AreEnds ends) (take (i + 1) plan.joins) xs) (sym c.in_ok-push.ensures.items)
    (subst (λ xs. AllZip (AreEnds ends) xs (c.loop-join.ends.items ++ numbers ∷ []))
    (sym (take_read plan.joins i join at.0 at.1))
    (zip_push (AreEnds ends) (take i plan.joins) c.loop-join.ends.items join numbers c.loop-join.invariant
    (record {
      left = c.in-Some.ensures plan c.args.kernels.now ends c.requires.known;
      right = c.in-Some-right.ensures plan c.args.kernels.now ends c.requires.known;
    })))

pub returns-in_default-clause-err : goal.returns-in_default-clause-err
returns-in_default-clause-err c =
    let plan = c.args.plan.now in
    let kernels = c.args.kernels.now in
    let i = c.loop-join.join-index in
    let join = c.join-item.result in
    let at = read_in c.as_slice-join-items.result.now plan.joins i join c.as_slice-join-items.ensures
    c.loop-join-test.true c.join-item.is in
    says_left plan kernels join.left c.in_ok-unknown_port.field-0
    (first_left (IsUnknown plan kernels) plan.joins i join at.0 at.1
    (none_unknown plan kernels (take i plan.joins) c.loop-join.ends.items c.loop-join.invariant)
    (c.in_default.ensures plan kernels (terminals plan kernels) c.requires.known))
    c.in_ok-unknown_port.ensures

pub returns-in_default-right-clause-err : goal.returns-in_default-right-clause-err
returns-in_default-right-clause-err c =
    let plan = c.args.plan.now in
    let kernels = c.args.kernels.now in
    let ends = terminals plan kernels in
    let i = c.loop-join.join-index in
    let join = c.join-item.result in
    let at = read_in c.as_slice-join-items.result.now plan.joins i join c.as_slice-join-items.ensures
    c.loop-join-test.true c.join-item.is in
    let left = stands_in ends c.in-Some.left (left_terminal join.left)
    (c.in-Some.ensures plan kernels ends c.requires.known) in
    says_right plan kernels join.right c.in_ok-unknown_port-2.field-0
    (first_right (IsUnknown plan kernels) plan.joins i join at.0 at.1
    (none_unknown plan kernels (take i plan.joins) c.loop-join.ends.items c.loop-join.invariant)
    (λ unknown. unknown left)
    (c.in_default-right.ensures plan kernels ends c.requires.known))
    c.in_ok-unknown_port-2.ensures
