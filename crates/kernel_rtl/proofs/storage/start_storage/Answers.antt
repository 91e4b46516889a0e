use Rattle.std.proofs.Common.{◌∙◌, sym, subst}
use Rattle.std.specs.Prelude.{All}
use Rattle.kernel_stages.specs.Numbers.{AreRising}
use Rattle.kernel_stages.specs.Starting.{AddsChains}
use Rattle.kernel_rtl.proofs.Starting.{storage_added, are_widths}
use Rattle.kernel_rtl.proofs.storage.start_storage.Goals as goal

pub start_stages-requires-clause-widths : goal.start_stages-requires-clause-widths
start_stages-requires-clause-widths c = are_widths c.args.kernel.now c.as_slice.result.now (c.as_slice.ensures.value ∙ c.in_ok-widths.ensures)

pub start_stages-requires-clause-waits : goal.start_stages-requires-clause-waits
start_stages-requires-clause-waits c = subst (All AreRising) (sym c.as_slice-waits.ensures) c.requires.waits

pub returns : goal.returns
returns c =
    let m = c.start_position.new.netlist in
    let k = c.start_states.new.netlist in
    let n = c.start_stages.new.netlist in
    let widths = c.as_slice.result.now in
    let layout = c.args.layout.now in
    let delays = c.in_ok-delays.delays in
    storage_added c.args.netlist.now m k n c.args.kernel.now.nodes widths layout
    (record { position = c.in_ok-position.position; states = c.in_ok-states.states; delays = delays }) c.requires.alone
    (c.as_slice.ensures.value ∙ c.in_ok-widths.ensures) c.in_ok-position.ensures c.in_ok-states.ensures
    (subst (λ latencies. AddsChains k n widths latencies layout.waits delays) c.as_slice-latencies.ensures
    (subst (λ waits. AddsChains k n widths c.as_slice-latencies.result.now waits delays) c.as_slice-waits.ensures c.in_ok-delays.ensures))
