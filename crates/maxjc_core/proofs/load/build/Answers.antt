use Rattle.std.proofs.Common.{◌≡◌, subst}
use Rattle.rtl_ir.specs.declared.design.Module.{Module}
use Rattle.rtl_ir.specs.Interfaces.{IsInterface}
use Rattle.maxjc_core.specs.RunFiles.{HasNoPlan}
use Rattle.maxjc_core.specs.SimulateCauses.{BreaksForm}
use Rattle.simulation.proofs.OutputNames.{names_differ}
use Rattle.maxjc_core.proofs.RunExclusion.{fit_apart, plan_not_refused}
use Rattle.maxjc_core.proofs.RunReading.{refused_so, text_breaks, plan_breaks, fit_as, top_is}
use Rattle.maxjc_core.proofs.load.build.Goals as goal

pub ports_and_plan-requires : goal.ports_and_plan-requires
ports_and_plan-requires c =
    let is = c.in-Ok.ensures.read in
    (is.shape, top_is c.args.text.now c.in-Ok.design is c.top.result.now c.top.ensures)

pub returns-in-Err-clause-refused : goal.returns-in-Err-clause-refused
returns-in-Err-clause-refused c = refused_so c.in-Err.stop _ (BreaksForm c.args.text.now c.args.run.now) (text_breaks c.args.text.now c.args.run.now) c.in-Err.ensures.refused

pub returns-in-Ok-ports_and_plan-clause-fit : goal.returns-in-Ok-ports_and_plan-clause-fit
returns-in-Ok-ports_and_plan-clause-fit c =
    let is = c.in-Ok.ensures.read in
    let top = top_is c.args.text.now c.in-Ok.design is c.top.result.now c.top.ensures in
    let planned = c.in-Ok-ports_and_plan.ensures.planned is.shape top in
    fit_as c.args.text.now c.args.run.now c.in-Ok.design is planned.run planned.says
    c.in-Ok-ports_and_plan.plan planned.planned c.in-Ok.ensures.only

pub returns-in-Ok-ports_and_plan-clause-can_run : goal.returns-in-Ok-ports_and_plan-clause-can_run
returns-in-Ok-ports_and_plan-clause-can_run c =
    let is = c.in-Ok.ensures.read in
    let top = top_is c.args.text.now c.in-Ok.design is c.top.result.now c.top.ensures in
    record {
      bytes = c.args.text.now;
      is = is;
      fits = c.in-Ok-ports_and_plan.ensures.fits is.shape top;
      apart = c.in-Ok-ports_and_plan.ensures.apart is.shape top
          (names_differ c.in-Ok.design is.top is.shape is.accepted is.is_top is.is_run.has);
    }

pub returns-clause-refused : goal.returns-clause-refused
returns-clause-refused c =
    let is = c.in-Ok.ensures.read in
    let top = top_is c.args.text.now c.in-Ok.design is c.top.result.now c.top.ensures in
    refused_so c.in-Err-ports_and_plan.stop (HasNoPlan c.args.run.now is.shape)
    (BreaksForm c.args.text.now c.args.run.now)
    (plan_breaks c.args.text.now c.args.run.now c.in-Ok.design is)
    (c.in-Err-ports_and_plan.ensures.refused is.shape top)

pub returns-in-Err-clause-loads : goal.returns-in-Err-clause-loads
returns-in-Err-clause-loads c = λ f. c.in-Err.ensures.every f.design f.is

pub returns-in-Ok-ports_and_plan-clause-faulty : goal.returns-in-Ok-ports_and_plan-clause-faulty
returns-in-Ok-ports_and_plan-clause-faulty c = λ cause breaks.
    let is = c.in-Ok.ensures.read in
    let top = top_is c.args.text.now c.in-Ok.design is c.top.result.now c.top.ensures in
    let planned = c.in-Ok-ports_and_plan.ensures.planned is.shape top in
    let made = fit_as c.args.text.now c.args.run.now c.in-Ok.design is planned.run planned.says
    c.in-Ok-ports_and_plan.plan planned.planned c.in-Ok.ensures.only in
    fit_apart c.args.text.now c.args.run.now cause c.in-Ok.design c.in-Ok.ensures.only c.in-Ok.ensures.exact made.fit breaks

pub returns-clause-loads : goal.returns-clause-loads
returns-clause-loads c = λ f.
    let is = c.in-Ok.ensures.read in
    let top = top_is c.args.text.now c.in-Ok.design is c.top.result.now c.top.ensures in
    plan_not_refused c.args.text.now c.args.run.now f c.in-Ok.design c.in-Ok.ensures.only is
    c.in-Err-ports_and_plan.stop (c.in-Err-ports_and_plan.ensures.refused is.shape top)

pub returns-in-Ok-ports_and_plan-clause-ports : goal.returns-in-Ok-ports_and_plan-clause-ports
returns-in-Ok-ports_and_plan-clause-ports c = λ m e.
    let same : c.top.result.now ≡ m = (let f = c.top.ensures in cc) in
    subst (λ (x : Module). IsInterface x c.in-Ok-ports_and_plan.ports) same
    c.in-Ok-ports_and_plan.ensures.is
