use Rattle.kernel_rtl.proofs.Driving.{AreDrivenSo}
use Rattle.kernel_rtl.proofs.outputs.drive_words.Given as goal

-- what holds of the ports that are left makes all of them
abbrev pub invariant-loop-port : goal.invariant-loop-port
invariant-loop-port l = AreDrivenSo l.fn.netlist l.netlist l.words l.port-index l.outputs
