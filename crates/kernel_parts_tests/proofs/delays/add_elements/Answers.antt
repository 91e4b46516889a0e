use Rattle.kernel_parts_tests.proofs.delays.add_elements.Goals as goal

pub add_delay-requires-clause-inputs : goal.add_delay-requires-clause-inputs
add_delay-requires-clause-inputs c = c.in_ok-inputs.ensures.has

pub add_delay-requires-2-clause-inputs : goal.add_delay-requires-2-clause-inputs
add_delay-requires-2-clause-inputs c = c.in_ok-add_delay.ensures
