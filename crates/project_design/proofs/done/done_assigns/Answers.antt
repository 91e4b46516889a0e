use Rattle.std.proofs.Common.{◌∙◌, ◌∷◌, [], ◌++◌, ap, sym, arith}
use Rattle.project_rtl.specs.Tops.{ended_assigns}
use Rattle.project_design.proofs.Ending.{ended_step, none_more}
use Rattle.project_design.proofs.done.done_assigns.Goals as goal

pub loop-net-preserved : goal.loop-net-preserved
loop-net-preserved c =
    let l = c.loop-net in
    let n = l.invariant.next in
    let lt = c.loop-net-test.true in
    record {
      told = ended_step c.args.done l.next l.last l.net-index c.args.ended.now c.args.valids.now l.assigns c.ended_too.new.assigns _ c.loop-net-test.true c.in_ok-ended_too.ensures l.invariant.told;
      next = omega arith;
      index = omega arith;
    }

pub returns : goal.returns
returns c =
    let l = c.loop-net in
    c.in_ok-add_empty.ensures
    ∙ ap (λ xs. l.assigns ++ ended_assigns c.args.done l.next l.last xs c.args.valids.now) (sym (none_more c.args.ended.now l.net-index c.loop-net-test.false))
    ∙ l.invariant.told

pub overflow_add-next : goal.overflow_add-next
overflow_add-next c =
    let n = c.loop-net.invariant.next in
    let lt = c.loop-net-test.true in
    let r = c.requires in
    omega arith

pub add_empty-requires : goal.add_empty-requires
add_empty-requires c =
    let n = c.loop-net.invariant.next in
    let le = c.loop-net.invariant.index in
    let r = c.requires in
    omega arith
