use Rattle.std.proofs.Common.{◌≡◌, Bool, true, false, refl, sym, subst, ◌∙◌, get_or}
use Rattle.std.specs.Prelude.{not, ◌&&◌}
use Rattle.rtl_ir.specs.declared.design.Assign.{Assign}
use Rattle.verilog_sim.specs.Feeding.{is_marked, is_literal}
use Rattle.verilog_sim.proofs.Pushing.{picked_more, left_out}
use Rattle.verilog_sim.proofs.order.marked.Goals.{then-marks-index+then-not-is_literal+in_ok-push, else-marks-index}
use Rattle.verilog_sim.proofs.order.marked.Goals.{else-marks-index-via-then-marks-index+else-not-is_literal}
use Rattle.verilog_sim.proofs.order.marked.Goals.{else-marks-index-via-else-marks-index}
use Rattle.verilog_sim.proofs.order.marked.Goals as goal

passes : (x y : Bool) → x ≡ true → y ≡ false → (x && not y) ≡ true
passes x y e f = rw (e, f) refl

is_unmarked : (x y : Bool) → x ≡ false → (x && not y) ≡ false
is_unmarked x y e = rw (e) refl

is_known : (x y : Bool) → x ≡ true → y ≡ true → (x && not y) ≡ false
is_known x y e f = rw (e, f) refl

pub loop-assign-preserved : goal.loop-assign-preserved
loop-assign-preserved c =
    let marks = c.args.marks.now in
    let order = c.args.order.now in
    let i = c.loop-assign.assign-index in
    let a = c.assign-item.result in
    let picked = c.loop-assign.picked.items in
    elim c.if-marks-index.branch [
      | then-marks-index+then-not-is_literal+in_ok-push w ↦ (
          let marked = subst (λ n. get_or marks n false ≡ true) c.index.ensures.number w.if-marks-index.true in
          let other = sym w.is_literal.ensures ∙ w.if-not-is_literal.true in
          rw (w.picked-is) (picked_more (λ (x : Assign). is_marked marks x.target && not (is_literal x.expr)) order i a picked
          w.push.new.self.items c.loop-assign-test.true c.assign-item.is c.loop-assign.invariant
          (passes (is_marked marks a.target) (is_literal a.expr) marked other) w.in_ok-push.ensures.items))
      | else-marks-index w ↦ (
          rw (w.picked-is) (left_out (λ (x : Assign). is_marked marks x.target && not (is_literal x.expr)) order i a picked
          c.loop-assign-test.true c.assign-item.is c.loop-assign.invariant
          (elim w.else-marks-index.branch [
            | else-marks-index-via-then-marks-index+else-not-is_literal w' ↦ (
                is_known (is_marked marks a.target) (is_literal a.expr)
                (subst (λ n. get_or marks n false ≡ true) c.index.ensures.number w'.if-marks-index.true)
                (sym w'.is_literal.ensures ∙ w'.if-not-is_literal.false))
            | else-marks-index-via-else-marks-index w' ↦ (
                is_unmarked (is_marked marks a.target) (is_literal a.expr)
                (subst (λ n. get_or marks n false ≡ false) c.index.ensures.number w'.if-marks-index.false))
          ])))
    ]
