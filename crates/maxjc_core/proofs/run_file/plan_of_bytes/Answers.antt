-- The plan of a run file's bytes.
use Rattle.std.proofs.lemmas.Result.{IfOk-weaker, IfErr-weaker}
use Rattle.rtl_ir.specs.Interfaces.{shape_of}
use Rattle.maxjc_core.specs.RunFiles.{IsRunFault, IsPlanned, IsPlanOfBytes, IsUnfit, HasNoPlan}
use Rattle.maxjc_core.specs.CompileStops.{IfRefused}
use Rattle.maxjc_core.proofs.Refusing.{refused-so}
use Rattle.maxjc_core.proofs.run_file.plan_of_bytes.Goals as goal

pub returns-in-Err-clause-refused : goal.returns-in-Err-clause-refused
returns-in-Err-clause-refused c =
    let bytes = c.args.bytes.now in
    let shape = shape_of c.args.ports.now in
    refused-so c.in-Err.stop (IsRunFault bytes) (HasNoPlan bytes shape) HasNoPlan.of_form
    c.in-Err.ensures.refused

pub returns-in-Ok-clause-planned : goal.returns-in-Ok-clause-planned
returns-in-Ok-clause-planned c =
    let shape = shape_of c.args.ports.now in
    IfOk-weaker c.plan_for.result (λ plan. IsPlanned c.in-Ok.run' shape plan)
    (IsPlanOfBytes c.args.bytes.now shape)
    (λ plan planned. record { run = c.in-Ok.run'; says = c.in-Ok.ensures.read; planned = planned })
    c.plan_for.ensures.planned

pub returns-in-Ok-clause-refused : goal.returns-in-Ok-clause-refused
returns-in-Ok-clause-refused c =
    let run = c.in-Ok.run' in
    let bytes = c.args.bytes.now in
    let shape = shape_of c.args.ports.now in
    IfErr-weaker c.plan_for.result (λ stop. IfRefused stop (IsUnfit run shape))
    (λ stop. IfRefused stop (HasNoPlan bytes shape))
    (λ stop unfit.
    refused-so stop (IsUnfit run shape) (HasNoPlan bytes shape)
    (λ cause u. HasNoPlan.unfit run cause c.in-Ok.ensures.read u) unfit)
    c.plan_for.ensures.unfit

pub returns-in-Ok-clause-fits : goal.returns-in-Ok-clause-fits
returns-in-Ok-clause-fits c =
    let says = c.in-Ok.ensures.read in
    c.plan_for.ensures.fits says.0 says.2

pub returns-in-Ok-clause-apart : goal.returns-in-Ok-clause-apart
returns-in-Ok-clause-apart c = λ differ.
    let says = c.in-Ok.ensures.read in
    c.plan_for.ensures.apart says.0 says.2 differ
