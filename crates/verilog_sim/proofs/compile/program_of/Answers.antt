use Rattle.std.proofs.Common.{List, sym, subst}
use Rattle.rtl_ir.specs.declared.design.Assign.{Assign}
use Rattle.verilog_sim.specs.Runnable.{IsPartOf}
use Rattle.verilog_sim.specs.Compiled.{AreInstructionsOf}
use Rattle.verilog_sim.specs.Batches.{instructions_of_all}
use Rattle.verilog_sim.proofs.Answering.{part_of_feeding}
use Rattle.verilog_sim.proofs.compile.program_of.Goals as goal

pub compile-requires-clause-order : goal.compile-requires-clause-order
compile-requires-clause-order c =
    let orders = c.in_ok-orders.ensures in
    subst (λ (l : List Assign). IsPartOf c.args.module.now l) (sym c.as_slice.ensures.value)
    (part_of_feeding _ _ _ _ orders.ordered orders.sees)

pub compile-requires-2-clause-order : goal.compile-requires-2-clause-order
compile-requires-2-clause-order c =
    let orders = c.in_ok-orders.ensures in
    subst (λ (l : List Assign). IsPartOf c.args.module.now l) (sym c.as_slice-2.ensures.value)
    (part_of_feeding _ _ _ _ orders.ordered orders.feeds)

pub returns : goal.returns
returns c =
    let m = c.args.module.now in
    let orders = c.in_ok-orders.ensures in
    record {
      order = orders.order;
      ordered = orders.ordered;
      edge = c.in_ok-orders.orders.edge.items;
      sees = orders.sees;
      edge_are = subst (λ (l : List Assign). AreInstructionsOf m l (instructions_of_all c.in_ok-compile.field-0.items))
          c.as_slice.ensures.value c.in_ok-compile.ensures;
      feeding = c.in_ok-orders.orders.feeding.items;
      feeds = orders.feeds;
      feeding_are = subst (λ (l : List Assign). AreInstructionsOf m l (instructions_of_all c.in_ok-compile-2.field-0.items))
          c.as_slice-2.ensures.value c.in_ok-compile-2.ensures;
      narrow = c.are_narrow.ensures;
    }
