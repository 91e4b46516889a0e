-- How a run that was stopped ends the command.
use Rattle.std.proofs.Common.{◌≡◌, ◌∙◌, inl, inr, refl, sym, ⊎_elim}
use Rattle.maxjc_core.specs.RunStops.{stop_status}
use Rattle.maxjc_core.specs.declared.status.Status.TheVariants.{Refused}
use Rattle.simulation.specs.declared.stop.Stop.{Stop}
use Rattle.simulation.specs.declared.stop.Stop.TheVariants as stops
use Rattle.maxjc_core.proofs.simulate_command.stopped.Goals as goal

-- what is no fault of a call and no want of memory is a refusal
refuses : (stop : Stop) → (stop ≡ stops.ReadFault → ⊥) → (stop ≡ stops.WriteFault → ⊥)
    → (stop ≡ stops.NoMemory → ⊥) → stop_status stop ≡ Refused
refuses (stops.TooManyCells n) read write memory = refl
refuses (stops.BadLine file line) read write memory = refl
refuses (stops.WordRange file line) read write memory = refl
refuses stops.ReadFault read write memory = absurd (read refl)
refuses stops.WriteFault read write memory = absurd (write refl)
refuses stops.NoMemory read write memory = absurd (memory refl)

pub returns-in_default-clause-ends : goal.returns-in_default-clause-ends
returns-in_default-clause-ends g c =
    let d = c.in_default in
    let refused = refuses c.args.stop d.not-ReadFault d.not-WriteFault d.not-NoMemory in
    ⊎_elim (λ e. inl (e ∙ sym refused)) (λ other. inr (refused, other)) c.refuse.ensures.ends

pub returns-in_default-clause-quiet : goal.returns-in_default-clause-quiet
returns-in_default-clause-quiet g c = λ never.
    ⊎_elim c.refuse.ensures.quiet
    (λ other. ⊎_elim (λ e. absurd (never e)) (λ e. (c.refuse.ensures.silent e).1) other)
    c.refuse.ensures.ends

pub returns-in_default-clause-fault : goal.returns-in_default-clause-fault
returns-in_default-clause-fault g c = λ ended.
    let d = c.in_default in
    let refused = refuses c.args.stop d.not-ReadFault d.not-WriteFault d.not-NoMemory in
    inr (refused, c.refuse.ensures.fault ended)
