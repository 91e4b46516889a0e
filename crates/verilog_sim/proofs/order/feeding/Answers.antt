use Rattle.std.proofs.Common.{◌≡◌, true, Bool, List, length, subst, sym, ap, ◌∙◌, arith}
use Rattle.std.specs.Vec.{with_items}
use Rattle.std.proofs.lemmas.Result.{IfOk-weaker}
use Rattle.verilog_sim.specs.Feeding.{is_marked, marked_of}
use Rattle.verilog_sim.proofs.Edges.{back}
use Rattle.verilog_sim.proofs.order.feeding.Goals as goal

pub marked-requires : goal.marked-requires
marked-requires c = λ i a at.
    let from = c.requires.order.from i a at in
    let lt = (c.requires.runnable.assigns from.0 a from.1).target in
    let items : (with_items c.args.marks c.mark_fed.new.marks).items
    ≡ c.mark_fed.new.marks = back c.args.marks c.mark_fed.new.marks
    c.as_mut_slice.result.now c.mark_fed.auto.marks c.as_mut_slice.ensures.value in
    omega (arith, lt, ap length c.as_slice.ensures.value, ap length items, c.mark_fed.auto.marks, ap length c.as_mut_slice.ensures.value, c.requires.size)

pub returns : goal.returns
returns c =
    let new = c.mark_fed.new.marks in
    let items : (with_items c.args.marks new).items ≡ new = back c.args.marks new c.as_mut_slice.result.now c.mark_fed.auto.marks c.as_mut_slice.ensures.value in
    let same : c.as_slice.result.now ≡ new = c.as_slice.ensures.value ∙ items in
    IfOk-weaker c.marked.result _ _
    (λ l are. record {
      marks = new;
      wanted = λ n h. c.mark_fed.ensures.kept n (subst (λ (ms : List Bool). is_marked ms n ≡ true) (sym c.as_mut_slice.ensures.value) h);
      marked = c.mark_fed.ensures.marked;
      are = are ∙ ap (λ (ms : List Bool). marked_of ms c.args.order.now) same;
    }) c.marked.ensures
