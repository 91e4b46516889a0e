use Rattle.std.proofs.Common.{◌≡◌, ℕ, true, List, subst, sym, ◌∙◌, arith}
use Rattle.rtl_ir.specs.declared.design.Assign.{Assign}
use Rattle.verilog_sim.specs.Feeding.{is_marked, IsFeeding}
use Rattle.verilog_sim.proofs.Marking.{feeding_fewer}
use Rattle.verilog_sim.specs.Runnable.{IsOrderOf}
use Rattle.verilog_sim.proofs.order.both_orders.Goals as goal

pub returns : goal.returns
returns c =
    record {
      order = c.in_ok-all.all.items;
      ordered = c.in_ok-all.ensures;
      sees = feeding_fewer _ _ _ _ c.in_ok-seen.ensures.seen
          (subst (λ (l : List Assign). IsFeeding l c.in_ok-feeding.field-0.items
          (λ n. is_marked c.in_ok-seen.seen.items n
          ≡ true)) c.as_slice-2.ensures.value c.in_ok-feeding.ensures);
      feeds = feeding_fewer _ _ _ _
          (λ n e. subst (λ (k : ℕ). is_marked c.in_ok-one.one.items k ≡ true) (sym e) c.in_ok-one.ensures.net)
          (subst (λ (l : List Assign). IsFeeding l c.in_ok-feeding-2.field-0.items (λ n. is_marked c.in_ok-one.one.items n ≡ true)) c.as_slice-3.ensures.value c.in_ok-feeding-2.ensures);
    }

pub by_level-requires-clause-order : goal.by_level-requires-clause-order
by_level-requires-clause-order c =
    subst (λ (l : List Assign). IsOrderOf c.args.module.now l) (sym c.as_slice.ensures) c.requires.ordered

pub feeding-requires-clause-order : goal.feeding-requires-clause-order
feeding-requires-clause-order c =
    subst (λ (l : List Assign). IsOrderOf c.args.module.now l) (sym c.as_slice-2.ensures.value) c.in_ok-all.ensures

pub feeding-requires-2-clause-order : goal.feeding-requires-2-clause-order
feeding-requires-2-clause-order c =
    subst (λ (l : List Assign). IsOrderOf c.args.module.now l) (sym c.as_slice-3.ensures.value) c.in_ok-all.ensures

pub feeding-requires-2-clause-size : goal.feeding-requires-2-clause-size
feeding-requires-2-clause-size c = c.in_ok-one.ensures.size ∙ c.len.ensures
