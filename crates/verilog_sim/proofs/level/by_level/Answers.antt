use Rattle.std.proofs.Common.{rules, ℕ, List, map, length, subst, sym, ap, ◌∙◌, arith}
use Rattle.std.proofs.lemmas.List.Sorted.{IsNonDecreasingBy-from_sort_by_key, IsPermutation-trans}
use Rattle.std.proofs.lemmas.Result.{IfOk-weaker}
use Rattle.verilog_sim.specs.declared.level.Ranked.{Ranked}
use Rattle.verilog_sim.specs.Levels.{AreRanked, assign_of}
use Rattle.verilog_sim.specs.Runnable.{IsOrderOf}
use Rattle.verilog_sim.proofs.Levelling.{sorted_order}
use Rattle.verilog_sim.proofs.level.by_level.Goals as goal

pub rank_all-requires : goal.rank_all-requires
rank_all-requires c = λ i a at.
    let from = c.requires.order.from i a at in
    let lt = (c.requires.runnable.assigns from.0 a from.1).target in
    omega (arith, lt, ap length c.as_slice.ensures.value, c.in_ok-levels.ensures.nets)

pub returns : goal.returns
returns c =
    let sorted = c.sort_by_key-2.new.self.items in
    let rising = IsNonDecreasingBy-from_sort_by_key (λ (r : Ranked). r.level) sorted c.in_ok-sort_by_key-2.ensures.sorted (λ a r q k. search rules) in
    let moved = IsPermutation-trans _ _ _ c.in_ok-sort_by_key.ensures.permutation c.in_ok-sort_by_key-2.ensures.permutation in
    let ranked = subst (λ (l : List ℕ). AreRanked l c.args.order.now c.in_ok-ranked.ranked.items) c.as_slice.ensures.value c.in_ok-ranked.ensures in
    let order = sorted_order c.args.module.now c.args.order.now c.in_ok-levels.levels.items c.in_ok-ranked.ranked.items sorted c.requires.order c.in_ok-levels.ensures.levels ranked moved rising in
    IfOk-weaker c.assigns_of.result _ _ (λ l e. subst (IsOrderOf c.args.module.now) (sym (e ∙ ap (map assign_of) c.as_slice-2.ensures.value)) order) c.assigns_of.ensures
