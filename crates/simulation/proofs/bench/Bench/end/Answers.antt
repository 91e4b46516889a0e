use Rattle.std.proofs.Common.{ℕ, List, map, subst}
use Rattle.std.specs.Prelude.{IsSome}
use Rattle.std.proofs.lemmas.Result.{err_from_is_err_and}
use Rattle.simulation.specs.Outputs.{HoldLinesBut}
use Rattle.simulation.specs.Outward.{output_of}
use Rattle.simulation.specs.declared.output.Output.{Output}
use Rattle.simulation.proofs.bench.Bench.end.Goals as goal

pub returns-in_err-flush_all-clause-stopped : goal.returns-in_err-flush_all-clause-stopped
returns-in_err-flush_all-clause-stopped g c =
    let p = err_from_is_err_and c.from_residual.result c.from_residual.ensures.1 in
    rw (p.1) (subst (λ (l : List Output). IsSome (g.F.Files.held c.args.files.now) → (n : ℕ)
    × HoldLinesBut n (map output_of l)
    (g.F.Files.held c.flush_all.new.files)) c.deref_mut.ensures.value
    c.in_err-flush_all.ensures.stopped)
