-- The plan of a run file for the ports of a project.
use Rattle.std.proofs.Common.{ℕ, map, sym, subst}
use Rattle.mx_base.specs.Files.{Name}
use Rattle.project_rtl.specs.Shapes.{shape_of}
use Rattle.rtl_ir.specs.Interfaces as Ports
use Rattle.rtl_ir.specs.Ports.{Shape}
use Rattle.rtl_ir.specs.Rules.{AllDiffer}
use Rattle.simulation.specs.Plans.{FitsShape, AreApart}
use Rattle.maxjc_core.specs.ExpectStops.{FitsPorts}
use Rattle.maxjc_core.proofs.Linking.{outputs-differ, both-ok}
use Rattle.maxjc_core.proofs.begin.plan_of_project.Goals as goal

pub returns-clause-planned : goal.returns-clause-planned
returns-clause-planned c =
    rw c.in_ok-ports.ensures.shape at c.plan_of_bytes.ensures.planned

pub returns-clause-fits : goal.returns-clause-fits
returns-clause-fits c =
    let project = c.args.project.now in
    let same = c.in_ok-ports.ensures.shape in
    both-ok c.plan_of_bytes.result (λ plan. FitsShape plan (Ports.shape_of c.in_ok-ports.ports))
    (λ plan. AreApart plan) (FitsPorts project)
    (λ plan fits apart. record { fits = subst (FitsShape plan) same fits; apart = apart })
    c.plan_of_bytes.ensures.fits
    (c.plan_of_bytes.ensures.apart
    (subst (λ (s : Shape). AllDiffer (map (λ (y : Name × ℕ). y.0) s.outputs)) (sym same)
    (outputs-differ project)))

pub returns-clause-refused : goal.returns-clause-refused
returns-clause-refused c =
    rw c.in_ok-ports.ensures.shape at c.plan_of_bytes.ensures.refused
