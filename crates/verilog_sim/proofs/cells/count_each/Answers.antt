use Rattle.std.proofs.Common.{◌≡◌, ℕ, suc, ◌+◌, ◌-◌, ◌^◌, [], ◌∷◌, ◌++◌, take, min, map, length, get_or, Some, refl, sym, ap, ◌∙◌, arith}
use Rattle.std.specs.Prelude.{slice_get}
use Rattle.std.proofs.lemmas.List.{length-map, map-append}
use Rattle.std.proofs.lemmas.Option.{slice_get_read}
use Rattle.verilog_sim.specs.Start.{cells_with, cells_after}
use Rattle.verilog_sim.proofs.CellNumbers.{cells_length, cells_suc}
use Rattle.verilog_sim.proofs.cells.count_each.Goals as goal

pub with_instances-count-requires : goal.with_instances-count-requires
with_instances-count-requires c = λ k i at.
    let ms = c.args.modules.now in
    let n = c.loop-module.module-index in
    let e : slice_get ms n ≡ Some c.module-item.result = slice_get_read ms (length ms) n c.module-item.result refl c.loop-module-test.true c.module-item.is in
    let lt = ((c.requires.each n c.module-item.result e).instances k i at).is_earlier in
    omega (arith, lt, ap length c.as_slice.ensures.value, ap length c.loop-module.invariant, length-map (cells_after [] (take n ms)) (λ i. min i (2 ^ 64 - 1)), cells_length [] (take n ms))

pub loop-module-preserved : goal.loop-module-preserved
loop-module-preserved c =
    let ms = c.args.modules.now in
    let n = c.loop-module.module-index in
    let sat : ℕ → ℕ = λ i. min i (2 ^ 64 - 1) in
    let all = cells_after [] (take n ms) in
    let next : suc n ≡ n + 1 = omega arith in
    let count = c.with_instances-count.ensures all (c.as_slice.ensures.value ∙ c.loop-module.invariant) in
    let m = c.module-item.result in
    c.in_ok-push.ensures.items
    ∙ ap (λ l. l ++ c.with_instances-count.result ∷ []) c.loop-module.invariant
    ∙ ap (λ x. map sat all ++ x ∷ []) (count ∙ ap (λ x. sat (cells_with all x)) c.module-item.is)
    ∙ sym (map-append sat all (cells_with all (get_or ms n m) ∷ []))
    ∙ ap (map sat) (sym (cells_suc [] ms n m c.loop-module-test.true) ∙ ap (λ i. cells_after [] (take i ms)) next)
