use Rattle.std.proofs.Common.{◌≡◌, ◌∙◌, ◌%◌, ◌^◌, ℕ, length, set, cond, inl, inr, sym, ap, arith}
use Rattle.std.proofs.lemmas.List.{length-set}
use Rattle.verilog_sim.specs.Start.{held_at_start}
use Rattle.verilog_sim.proofs.Starting.{filled_more}
use Rattle.verilog_sim.proofs.start.registers.Goals.{then-net, else-net}
use Rattle.verilog_sim.proofs.start.registers.Goals as goal

pub loop-k-preserved : goal.loop-k-preserved
loop-k-preserved c =
    let fill = c.args.fill in
    let items = c.as_slice-net-items.result.now in
    let k = c.loop-k.k in
    let x = c.net-item.result in
    let size : length c.loop-k.held ≡ length items = c.loop-k.invariant.0 ∙ sym (ap length c.as_slice-net-items.ensures) in
    elim c.if-net.branch [
      | then-net w ↦ (
          let number : w.new.result ≡ k = omega (arith, w.new.ensures, c.loop-k-test.true, c.requires.small, ap length c.as_slice-net-items.ensures) in
          let word : w.reduce.result ≡ held_at_start fill x = w.reduce.ensures
          ∙ sym (ap (λ b. cond b (fill % 2 ^ x.width) 0) w.if-net.true) in
          let now : c.if-net.held ≡ set c.loop-k.held k (held_at_start fill x) = w.held-is ∙ w.set.ensures
          ∙ ap (λ i. set c.loop-k.held i w.reduce.result) number ∙ ap (set c.loop-k.held k) word in (
            ap length now ∙ length-set c.loop-k.held k (held_at_start fill x) ∙ c.loop-k.invariant.0,
            filled_more fill items k x c.loop-k.held c.if-net.held c.loop-k-test.true c.net-item.is size
                c.loop-k.invariant.1 (inl now),
          ))
      | else-net w ↦ (
        ap length w.held-is ∙ c.loop-k.invariant.0,
        filled_more fill items k x c.loop-k.held c.if-net.held c.loop-k-test.true c.net-item.is size c.loop-k.invariant.1
            (inr (w.held-is, ap (λ b. cond b (fill % 2 ^ x.width) 0) w.if-net.false)),
      )
    ]
