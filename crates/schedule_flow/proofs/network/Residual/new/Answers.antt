use Rattle.std.proofs.Common.{◌≡◌, ℕ, ℤ, List, replicate, ◌++◌, take, drop, length, get_or, sym, ap, ◌∙◌, subst, arith, rules}
use Rattle.schedule_problem.specs.declared.problem.Problem.{Problem}
use Rattle.schedule_problem.specs.Flow.{flow_of}
use Rattle.schedule_flow.specs.Network.{IsKept}
use Rattle.schedule_flow.proofs.Starting.{kept_at_first, all_zero}
use Rattle.schedule_flow.proofs.Sending.{written_back}
use Rattle.schedule_flow.proofs.network.Residual.new.Goals as goal

pub invariant_of-result : goal.invariant_of-result
invariant_of-result c =
    let p = c.args.problem.now in
    let flow = c.in_ok-flow.flow.items in
    let old = c.in_ok-rest.rest.items in
    let rest = c.surpluses.new.rest in
    let len : c.in_ok-rest.rest.len ≡ length rest = omega (arith, c.in_ok-rest.rest.ok.0, c.surpluses.auto.rest, c.as_mut_slice.ensures.len) in
    let new : take c.in_ok-rest.rest.len (rest ++ drop (length rest) old) ≡ rest = written_back c.in_ok-rest.rest.len rest old len in
    let P : List ℤ → Type 0 = λ l. IsKept p flow l 0 0 in
    let Q : Problem → Type 0 = λ q. IsKept q flow (take c.in_ok-rest.rest.len (rest ++ drop (length rest) old)) 0 0 in
    let zeros : flow ≡ replicate c.len.result 0 = search rules in
    let none : (j : ℕ) → flow_of flow j ≡ 0 = λ j. ap (λ l. get_or l j 0) zeros ∙ all_zero c.len.result j in
    let arcs : length flow ≡ length p.arcs.list = search rules in
    let nodes : length rest ≡ p.arcs.nodes = search rules in
    subst Q (sym c.in_ok-copy.ensures) (subst P (sym new)
    (kept_at_first p flow rest c.requires.problem.arcs.ends c.requires.problem.ends arcs
    nodes none c.surpluses.ensures.rest c.surpluses.ensures.light))
