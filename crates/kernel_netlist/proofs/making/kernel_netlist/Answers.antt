use Rattle.std.proofs.Common.{◌∙◌, subst}
use Rattle.kernel_netlist.specs.Modules.{IsModuleOf}
use Rattle.kernel_netlist.proofs.Whole.{plan_refused, memory_refused, bits_cost, netlist_is}
use Rattle.kernel_netlist.proofs.making.kernel_netlist.Goals as goal

pub returns-in_err-plan-clause-refused : goal.returns-in_err-plan-clause-refused
returns-in_err-plan-clause-refused c =
    plan_refused c.args.table.now c.args.kernel.now.nodes c.args.schedule.now c.requires.best
    c.in_err-plan.field-0.0 c.in_err-plan.ensures.refused
    c.from_residual.result c.from_residual.ensures.1

pub part_of-requires-clause-bits : goal.part_of-requires-clause-bits
part_of-requires-clause-bits c =
    c.in_ok-plan.ensures.bits
    ∙ bits_cost c.args.table.now c.args.kernel.now.nodes c.args.schedule.now c.requires.best

pub returns-clause-made : goal.returns-clause-made
returns-clause-made c =
    let schedule = c.args.schedule.now in
    let plan = c.in_ok-plan.plan in
    let part = c.in_ok-part.ensures in
    let kernel = c.args.kernel.now in
    let is = subst (λ xs. IsModuleOf kernel xs plan.layout c.in_ok-inner.inner) c.as_slice-times.ensures c.in_ok-inner.ensures in
    netlist_is c.args.table.now kernel schedule c.requires.best
    plan.bits plan.layout c.in_ok-plan.ensures.bits c.in_ok-plan.ensures.fits
    c.in_ok-plan.ensures.laid c.in_ok-plan.ensures.stored c.in_ok-plan.ensures.pipelines
    c.in_ok-plan.ensures.registers c.in_ok-plan.ensures.waits c.in_ok-plan.ensures.rings
    (record { part = c.in_ok-part.part; inner = c.in_ok-inner.inner }) is
    part.part part.shown part.times part.begins

pub returns-in_err-part-clause-refused : goal.returns-in_err-part-clause-refused
returns-in_err-part-clause-refused c =
    memory_refused c.args.table.now c.args.kernel.now.nodes c.args.schedule.now c.requires.best
    c.in_ok-plan.plan.bits c.in_ok-plan.ensures.bits c.in_ok-plan.ensures.fits
    c.from_residual-in_err-part.result c.from_residual-in_err-part.ensures.1

pub returns-in_err-inner-clause-refused : goal.returns-in_err-inner-clause-refused
returns-in_err-inner-clause-refused c =
    memory_refused c.args.table.now c.args.kernel.now.nodes c.args.schedule.now c.requires.best
    c.in_ok-plan.plan.bits c.in_ok-plan.ensures.bits c.in_ok-plan.ensures.fits
    c.from_residual-in_err-inner.result c.from_residual-in_err-inner.ensures.1
