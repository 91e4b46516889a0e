-- The ports of a top module, and the plan of a run file for them.
use Rattle.std.proofs.Common.{ℕ, map, sym, subst}
use Rattle.mx_base.specs.Files.{Name}
use Rattle.rtl_ir.specs.Ports.{Shape}
use Rattle.rtl_ir.specs.Rules.{AllDiffer}
use Rattle.simulation.specs.Plans.{FitsShape}
use Rattle.maxjc_core.specs.CompileStops.{IfRefused}
use Rattle.maxjc_core.specs.RunFiles.{IsPlanOfBytes, HasNoPlan}
use Rattle.maxjc_core.proofs.load.ports_and_plan.Goals as goal

pub interface-requires : goal.interface-requires
interface-requires c = c.requires

pub returns-in-Ok-clause-planned : goal.returns-in-Ok-clause-planned
returns-in-Ok-clause-planned c s top =
    subst (λ (t : Shape). IsPlanOfBytes c.args.run.now t c.in-Ok.plan)
    (c.in_ok-ports.ensures.shape s top) c.in-Ok.ensures.planned

pub returns-in-Ok-clause-fits : goal.returns-in-Ok-clause-fits
returns-in-Ok-clause-fits c s top =
    subst (FitsShape c.in-Ok.plan) (c.in_ok-ports.ensures.shape s top) c.in-Ok.ensures.fits

pub returns-in-Ok-clause-apart : goal.returns-in-Ok-clause-apart
returns-in-Ok-clause-apart c s top differ =
    c.in-Ok.ensures.apart
    (subst (λ (t : Shape). AllDiffer (map (λ (y : Name × ℕ). y.0) t.outputs))
    (sym (c.in_ok-ports.ensures.shape s top)) differ)

pub returns-clause-refused : goal.returns-clause-refused
returns-clause-refused c s top =
    subst (λ (t : Shape). IfRefused c.in-Err.stop (HasNoPlan c.args.run.now t))
    (c.in_ok-ports.ensures.shape s top) c.in-Err.ensures.refused
