use Rattle.std.proofs.Common.{cond, ap, sym, ◌∙◌}
use Rattle.std.proofs.lemmas.Result.{err_from_is_err_and}
use Rattle.simulation.specs.Inward.{offer_of}
use Rattle.verilog_sim.specs.Calls.{nothing}
use Rattle.simulation.proofs.input.Input.look.Goals as goal

pub returns-clause-ready : goal.returns-clause-ready
returns-clause-ready g c = λ f left at. record {
  offer_is = c.offer.ensures.offer ∙ sym (ap (λ t. cond t nothing (offer_of c.read.new.self.waiting)) c.if-stalled.false);
  looked = λ told free none. c.in_ok-read.ensures.ended f left at none told;
}

pub returns-in_err-read-clause-stopped : goal.returns-in_err-read-clause-stopped
returns-in_err-read-clause-stopped g c = λ f left at.
    let p = err_from_is_err_and c.from_residual.result c.from_residual.ensures.1 in
    rw (p.1, p.2) (c.in_err-read.ensures.stopped f left at)
