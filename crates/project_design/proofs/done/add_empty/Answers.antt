use Rattle.std.proofs.Common.{◌∙◌, ◌∷◌, [], ◌++◌, ap, sym, arith}
use Rattle.rtl_ir.specs.declared.design.Expr.TheVariants as exprs
use Rattle.link_fifo.specs.Netlist.{gets}
use Rattle.project_rtl.specs.Tops.{empty_assigns}
use Rattle.project_design.proofs.Ending.{empty_step, none_more}
use Rattle.project_design.proofs.done.add_empty.Goals as goal

pub loop-valid-preserved : goal.loop-valid-preserved
loop-valid-preserved c =
    let l = c.loop-valid in
    let n = l.invariant.next in
    record {
      told = empty_step c.args.done l.next l.last l.valid-index c.args.valids.now l.assigns c.empty_too.new.assigns _ c.loop-valid-test.true c.in_ok-empty_too.ensures l.invariant.told;
      next = omega arith;
    }

pub returns : goal.returns
returns c =
    let l = c.loop-valid in
    c.in_ok-push.ensures.ok
    ∙ ap (λ x. l.assigns ++ x ∷ []) (c.gets.ensures ∙ ap (λ n. gets c.args.done (exprs.Net n)) c.new.ensures)
    ∙ ap (λ xs. l.assigns ++ empty_assigns c.args.done l.next l.last xs) (sym (none_more c.args.valids.now l.valid-index c.loop-valid-test.false))
    ∙ l.invariant.told

pub empty_too-requires : goal.empty_too-requires
empty_too-requires c =
    let n = c.loop-valid.invariant.next in
    let lt = c.loop-valid-test.true in
    let r = c.requires in
    omega arith

pub overflow_add-last : goal.overflow_add-last
overflow_add-last c =
    let n = c.loop-valid.invariant.next in
    let lt = c.loop-valid-test.true in
    let r = c.requires in
    omega arith

pub overflow_add-next : goal.overflow_add-next
overflow_add-next c =
    let n = c.loop-valid.invariant.next in
    let lt = c.loop-valid-test.true in
    let r = c.requires in
    omega arith
