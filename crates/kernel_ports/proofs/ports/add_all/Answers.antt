use Rattle.std.proofs.Common.{◌<◌, length, All, sym, subst, ◌∙◌}
use Rattle.kernel_ports.proofs.Chaining.{AddsAll, chain_ports, chain_signals}
use Rattle.kernel_ports.proofs.ports.add_all.Goals as goal

pub add_scalars-requires-clause-nodes : goal.add_scalars-requires-clause-nodes
add_scalars-requires-clause-nodes c =
    subst (λ l. All (λ n. n < length c.args.kernel.now.nodes) l) (sym c.as_slice.ensures.value) c.in_ok-nodes.ensures.within

pub add_inputs-requires-clause-nodes : goal.add_inputs-requires-clause-nodes
add_inputs-requires-clause-nodes c =
    subst (λ l. All (λ n. n < length c.args.kernel.now.nodes) l) (sym c.as_slice-2.ensures.value) c.in_ok-nodes-2.ensures.within

pub add_outputs-requires-clause-nodes : goal.add_outputs-requires-clause-nodes
add_outputs-requires-clause-nodes c =
    subst (λ l. All (λ n. n < length c.args.kernel.now.nodes) l) (sym c.as_slice-3.ensures.value) c.in_ok-nodes-3.ensures.within

pub returns-clause-ports : goal.returns-clause-ports
returns-clause-ports c =
    let all : AddsAll c.args.kernel.now.nodes c.args.netlist.now c.add_own_input.new.netlist c.add_own_input-2.new.netlist
    c.add_own_input-3.new.netlist c.add_own_input-4.new.netlist c.add_scalars.new.netlist c.add_inputs.new.netlist
    c.add_outputs.new.netlist c.add_own_output.new.netlist c.as_slice.result.now c.as_slice-2.result.now c.as_slice-3.result.now = record {
      clock = c.in_ok-add_own_input.ensures.port;
      reset = c.in_ok-reset.ensures.port;
      hold = c.in_ok-hold.ensures.port;
      ticks = c.in_ok-ticks.ensures.port;
      scalars = c.in_ok-scalars.ensures.ports;
      inputs = c.in_ok-inputs.ensures.ports;
      outputs = c.in_ok-outputs.ensures.ports;
      ended = c.in_ok-ended.ensures.port;
      all_scalars = c.as_slice.ensures.value ∙ c.in_ok-nodes.ensures.nodes;
      all_inputs = c.as_slice-2.ensures.value ∙ c.in_ok-nodes-2.ensures.nodes;
      all_outputs = c.as_slice-3.ensures.value ∙ c.in_ok-nodes-3.ensures.nodes;
    } in
    chain_ports all

pub returns-clause-signals : goal.returns-clause-signals
returns-clause-signals c =
    let all : AddsAll c.args.kernel.now.nodes c.args.netlist.now c.add_own_input.new.netlist c.add_own_input-2.new.netlist
    c.add_own_input-3.new.netlist c.add_own_input-4.new.netlist c.add_scalars.new.netlist c.add_inputs.new.netlist
    c.add_outputs.new.netlist c.add_own_output.new.netlist c.as_slice.result.now c.as_slice-2.result.now c.as_slice-3.result.now = record {
      clock = c.in_ok-add_own_input.ensures.port;
      reset = c.in_ok-reset.ensures.port;
      hold = c.in_ok-hold.ensures.port;
      ticks = c.in_ok-ticks.ensures.port;
      scalars = c.in_ok-scalars.ensures.ports;
      inputs = c.in_ok-inputs.ensures.ports;
      outputs = c.in_ok-outputs.ensures.ports;
      ended = c.in_ok-ended.ensures.port;
      all_scalars = c.as_slice.ensures.value ∙ c.in_ok-nodes.ensures.nodes;
      all_inputs = c.as_slice-2.ensures.value ∙ c.in_ok-nodes-2.ensures.nodes;
      all_outputs = c.as_slice-3.ensures.value ∙ c.in_ok-nodes-3.ensures.nodes;
    } in
    chain_signals c.requires.none all (record {
      reset = c.in_ok-reset.ensures.signal;
      hold = c.in_ok-hold.ensures.signal;
      ticks = c.in_ok-ticks.ensures.signal;
      scalars = c.in_ok-scalars.ensures.signals;
      inputs = c.in_ok-inputs.ensures.signals;
      outputs = c.in_ok-outputs.ensures.signals;
      ended = c.in_ok-ended.ensures.signal;
    })
