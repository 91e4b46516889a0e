use Rattle.std.proofs.Common.{◌≡◌, ◌<◌, ℕ, true, Bool, List, Some, length, get_or, subst, sym, ap, ◌∙◌, arith}
use Rattle.std.specs.Prelude.{slice_get}
use Rattle.std.specs.Vec.{with_items}
use Rattle.rtl_ir.specs.declared.design.Port.{Port}
use Rattle.rtl_ir.specs.declared.design.Update.{Update}
use Rattle.verilog_sim.specs.Feeding.{is_marked, AreNetsMarked, AreNetsBelow}
use Rattle.verilog_sim.proofs.Edges.{back}
use Rattle.verilog_sim.proofs.Marking.{seen_marked}
use Rattle.verilog_sim.proofs.order.seen_nets.Goals as goal

pub mark_ports-requires : goal.mark_ports-requires
mark_ports-requires c = λ i p at.
    let lt = c.requires.ports i p (subst (λ (l : List Port). slice_get l i ≡ Some p) c.as_slice.ensures at) in
    omega (arith, lt, ap length c.as_mut_slice.ensures.value, c.in_ok-marks.ensures.size, c.requires.origins)

pub mark_updates-requires : goal.mark_updates-requires
mark_updates-requires c = λ i u at.
    let m = c.args.module.now in
    let f = c.requires.runnable.updates i u (subst (λ (l : List Update). slice_get l i ≡ Some u) c.as_slice-2.ensures at) in
    let items = back c.in_ok-marks.marks c.mark_ports.new.marks c.as_mut_slice.result.now c.mark_ports.auto.marks c.as_mut_slice.ensures.value in
    let size : length c.as_mut_slice-2.result.now ≡ length m.nets = omega (
      arith,
      ap length c.as_mut_slice-2.ensures.value,
      ap length items,
      c.mark_ports.auto.marks,
      ap length c.as_mut_slice.ensures.value,
      c.in_ok-marks.ensures.size,
      c.requires.origins,
    ) in
    subst (λ (n : ℕ). AreNetsBelow n u) (sym size) (record { enable = f.enable; value = f.value; net = f.net })

pub returns-clause-seen : goal.returns-clause-seen
returns-clause-seen c =
    let m = c.args.module.now in
    let os = c.args.origins.now in
    let new = c.mark_updates.new.marks in
    let items = back c.in_ok-marks.marks c.mark_ports.new.marks c.as_mut_slice.result.now c.mark_ports.auto.marks c.as_mut_slice.ensures.value in
    let before : c.as_mut_slice-2.result.now ≡ c.mark_ports.new.marks = c.as_mut_slice-2.ensures.value ∙ items in
    let last : (with_items (with_items c.in_ok-marks.marks c.mark_ports.new.marks) new).items
    ≡ new = back (with_items c.in_ok-marks.marks c.mark_ports.new.marks) new
    c.as_mut_slice-2.result.now c.mark_updates.auto.marks c.as_mut_slice-2.ensures.value in
    let on : (n : ℕ) → is_marked c.mark_ports.new.marks n ≡ true → is_marked new n ≡ true = λ n h.
    c.mark_updates.ensures.kept n (subst (λ (l : List Bool). is_marked l n ≡ true) (sym before) h) in
    let own : (n : ℕ) → n < length os → get_or os n 0 ≡ n → is_marked new n ≡ true = λ n lt e. on n
    (c.mark_ports.ensures.kept n (subst (λ (l : List Bool). is_marked l n ≡ true)
    (sym c.as_mut_slice.ensures.value) (c.in_ok-marks.ensures.own n lt e))) in
    let ports : (i : ℕ) (p : Port) → slice_get m.ports i ≡ Some p → is_marked new p.net ≡ true = λ i p at. on p.net
    (c.mark_ports.ensures.ports i p (subst (λ (l : List Port). slice_get l i ≡ Some p) (sym c.as_slice.ensures) at)) in
    let updates = subst (λ (l : List Update). (j : ℕ) (u : Update) → slice_get l j ≡ Some u → AreNetsMarked new u) c.as_slice-2.ensures c.mark_updates.ensures.updates in
    λ n seen. subst (λ (l : List Bool). is_marked l n ≡ true) (sym last) (seen_marked m os new own ports updates n seen)
