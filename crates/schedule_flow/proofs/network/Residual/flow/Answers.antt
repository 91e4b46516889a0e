use Rattle.std.proofs.Common.{◌≡◌, get_or, ap, arith}
use Rattle.schedule_flow.proofs.Sending.{carried_small}
use Rattle.schedule_flow.proofs.network.Residual.flow.Goals as goal

pub returns-clause-small : goal.returns-clause-small
returns-clause-small c =
    let kept = c.self.invariant in
    let small = carried_small c.self.inside.problem c.self.inside.flow.items c.self.inside.rest.items c.self.inside.sends c.self.inside.moved kept in
    λ j.
    let e : get_or c.as_slice.result.now j 0 ≡ get_or c.self.inside.flow.items j 0 = ap (λ l. get_or l j 0) c.as_slice.ensures.value in
    omega (arith, e, kept.carried j, small)
