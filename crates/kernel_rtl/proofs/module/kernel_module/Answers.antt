use Rattle.std.proofs.Common.{◌<◌, ◌≤◌, ◌^◌, ◌∙◌, length, sym, ap, subst, arith}
use Rattle.rtl_ir.specs.declared.design.Module.{Module}
use Rattle.rtl_delays.specs.Partial.{IsPartial}
use Rattle.rtl_delays.specs.Stored.{stored_bits}
use Rattle.rtl_reading.specs.Reads.{IsPortsFirst}
use Rattle.kernel_control.specs.Refines.{Refines}
use Rattle.kernel_stages.specs.Numbers.{ring_count}
use Rattle.kernel_rtl.specs.Planned.{times_of, most_nets}
use Rattle.kernel_rtl.proofs.module.kernel_module.Goals as goal

pub returns-clause-refines : goal.returns-clause-refines
returns-clause-refines c =
    let whole = c.finished.ensures.whole in
    let f = c.add_kernel.new.netlist in
    let nets : length f.nets < 2 ^ 64 = let lt = c.finished.ensures.nets in let same = ap (λ (x : Module). length x.nets) whole in
    omega (arith, lt, same) in
    let mems : length f.mems < 2 ^ 64 = let lt = c.finished.ensures.mems in let same = ap (λ (x : Module). length x.mems) whole in
    omega (arith, lt, same) in
    subst (λ (x : Module). Refines x c.args.kernel.now (times_of c.args.times.now)) (sym whole)
    (c.in_ok-add_kernel.ensures.refines nets mems)

pub returns-clause-ports_first : goal.returns-clause-ports_first
returns-clause-ports_first c =
    subst (λ (x : Module). IsPortsFirst x) (sym c.finished.ensures.whole) c.in_ok-add_kernel.ensures.ports_first

pub returns-clause-stored : goal.returns-clause-stored
returns-clause-stored c = ap stored_bits c.finished.ensures.whole ∙ c.in_ok-add_kernel.ensures.stored

pub returns-clause-nets : goal.returns-clause-nets
returns-clause-nets c =
    subst (λ (x : Module). length x.nets ≤ most_nets c.args.kernel.now.nodes c.args.layout.now) (sym c.finished.ensures.whole)
    c.in_ok-add_kernel.ensures.nets

pub returns-clause-mems : goal.returns-clause-mems
returns-clause-mems c =
    subst (λ (x : Module). length x.mems ≤ ring_count c.args.layout.now.waits) (sym c.finished.ensures.whole)
    c.in_ok-add_kernel.ensures.mems

pub returns-clause-partial : goal.returns-clause-partial
returns-clause-partial c = subst IsPartial (sym c.finished.ensures.whole) c.in_ok-add_kernel.ensures.partial
