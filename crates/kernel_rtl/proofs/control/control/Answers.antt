use Rattle.std.proofs.Common.{◌∙◌, List, ℕ, ap}
use Rattle.std.specs.Prelude.{slice_index}
use Rattle.kernel_wiring.specs.Timing.{time_at}
use Rattle.kernel_rtl.specs.Handshakes.{enable_at, handshakes_of, control_nets}
use Rattle.kernel_rtl.proofs.Controlled.{control_added}
use Rattle.kernel_rtl.proofs.control.control.Goals as goal

pub returns : goal.returns
returns c =
    let e = c.add_control.ensures in
    let ports = c.args.ports.now in
    let timing = c.args.timing.now in
    let enables = enable_at c.args.enables.now in
    control_added c.add_control.result c.args.netlist.now c.add_control.new.netlist (control_nets ports timing.position) c.as_slice-2.result.now
    (handshakes_of (time_at timing) enables ports)
    (c.as_slice-2.ensures.value ∙ c.in_ok-made.ensures ∙ ap (λ (times : List ℕ). handshakes_of (slice_index times) enables ports) c.as_slice.ensures)
    e.extends e.still e.others e.written e.stored e.undriven e.driven e.nets e.run e.control
