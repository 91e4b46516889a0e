use Rattle.std.proofs.Common.{◌≡◌, List, length, map}
use Rattle.rtl_ir.specs.Ports.{kernel_ports, port_view}
use Rattle.top_ports.specs.Shapes.{Name}
use Rattle.top_ports.specs.Stages.{from_kernel}
use Rattle.top_ports.proofs.stage.from_kernel.Given as goal

-- the kernels before have other names
abbrev pub invariant-loop-rest : goal.invariant-loop-rest
invariant-loop-rest l =
    (ks : List Name)
    → map (port_view l.top) l.kernels ≡ kernel_ports ks
    → (js : List Name) × (map (port_view l.top) l.rest ≡ kernel_ports js) × (from_kernel ks l.name ≡ from_kernel js l.name)

abbrev pub decreases-loop-rest : goal.decreases-loop-rest
decreases-loop-rest l = length l.rest
