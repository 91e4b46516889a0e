use Rattle.std.proofs.Common.{◌≡◌, ◌+◌, ◌++◌, ◌∷◌, [], ℕ, take, get_or, sym, ap, ◌∙◌}
use Rattle.std.proofs.lemmas.List.{take_more}
use Rattle.rtl_ir.specs.declared.design.Assign.{Assign}
use Rattle.verilog_sim.proofs.Levelling.{ranked_more}
use Rattle.verilog_sim.proofs.level.rank_all.Goals as goal

pub loop-assign-preserved : goal.loop-assign-preserved
loop-assign-preserved c =
    let order = c.args.order.now in
    let i = c.loop-assign.assign-index in
    let a = c.assign-item.result in
    let more : take (i + 1) order ≡ take i order ++ a ∷ [] = take_more order i a c.loop-assign-test.true ∙ ap (λ (x : Assign). take i order ++ x ∷ []) (sym c.assign-item.is) in
    rw (more, c.in_ok-push.ensures.items) (ranked_more c.args.levels.now
    (take i order) c.loop-assign.items.items _ (ap (λ
    (k : ℕ). get_or c.args.levels.now k 0) c.index.ensures.number) c.loop-assign.invariant)
