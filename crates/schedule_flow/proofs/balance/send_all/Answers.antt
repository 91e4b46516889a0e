use Rattle.std.proofs.Common.{◌≡◌, ◌≢◌, ⊎_elim, ℕ, pos, ◌≤ℤ◌, sym, subst, arith}
use Rattle.std.proofs.lemmas.Bool.{cases_eq}
use Rattle.schedule_problem.specs.Flow.{flow_of, excess}
use Rattle.schedule_flow.proofs.balance.send_all.Goals as goal

pub loop-source-preserved : goal.loop-source-preserved
loop-source-preserved c =
    let e = c.in_ok-send_out.ensures in
    let P : ℕ → Type 0 = λ v. excess c.args.problem.now (flow_of c.send_out.new.net.flow) v ≤ℤ pos 0 in
    record {
      on_way = e.on_way;
      tree = e.tree;
      sent = λ v l. ⊎_elim
          (λ (q : v ≡ c.loop-source.source). subst P (sym q) e.sent)
          (λ (n : v ≢ c.loop-source.source). e.keeps v (c.loop-source.invariant.sent v (omega (arith, l, n))))
          (cases_eq v c.loop-source.source);
    }
