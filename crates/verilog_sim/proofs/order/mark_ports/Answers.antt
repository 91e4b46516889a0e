use Rattle.std.proofs.Common.{◌≡◌, ◌<◌, ◌+◌, ℕ, Some, List, true, length, set, refl, sym, ap, subst, ◌∙◌, ⊎_elim, arith}
use Rattle.std.specs.Prelude.{slice_get}
use Rattle.std.proofs.lemmas.Bool.{cases_lt}
use Rattle.std.proofs.lemmas.List.{length-set}
use Rattle.std.proofs.lemmas.Option.{slice_get_read}
use Rattle.rtl_ir.specs.declared.design.Port.{Port}
use Rattle.verilog_sim.specs.Feeding.{is_marked}
use Rattle.verilog_sim.proofs.Marking.{keeps_marked, now_marked}
use Rattle.verilog_sim.proofs.order.mark_ports.Goals as goal

pub loop-port-preserved : goal.loop-port-preserved
loop-port-preserved c =
    let ports = c.args.ports.now in
    let marks = c.loop-port.marks in
    let i = c.loop-port.port-index in
    let p = c.port-item.result in
    let k = c.index.result in
    let at = slice_get_read ports (length ports) i p refl c.loop-port-test.true c.port-item.is in
    let lt : k < length marks = omega (arith, c.requires i p at, c.index.ensures.number, c.loop-port.invariant.0) in (
      length-set marks k true ∙ c.loop-port.invariant.0,
      λ n h. keeps_marked marks k n lt (c.loop-port.invariant.1 n h),
      λ j q less qt. ⊎_elim (λ before. keeps_marked marks k q.net lt (c.loop-port.invariant.2 j q before qt)) (λ ge. (
          let here : j ≡ i = omega (arith, less, ge) in
          let there : slice_get ports i ≡ Some q = subst (λ (n : ℕ). slice_get ports n ≡ Some q) here qt in
          let same : p ≡ q = (let one = at in cc) in
          subst (λ (n : ℕ). is_marked (set marks k true) n ≡ true) (c.index.ensures.number ∙ ap (λ (x : Port). x.net) same)
          (now_marked marks k lt)
          )) (cases_lt j i),
    )
