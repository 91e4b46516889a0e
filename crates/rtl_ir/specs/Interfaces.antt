-- The ports of a top module by what they are for.
use Rattle.std.specs.Prelude.{◌≡◌, ℕ, List, ◌++◌, map}
use Rattle.rtl_ir.specs.declared.interface.Interface.{Interface}
use Rattle.rtl_ir.specs.declared.interface.KernelPorts.{KernelPorts}
use Rattle.rtl_ir.specs.declared.interface.ScalarPort.{ScalarPort}
use Rattle.rtl_ir.specs.declared.interface.StreamPorts.{StreamPorts}
use Rattle.rtl_ir.specs.declared.design.Module.{Module}
use Rattle.rtl_ir.specs.Run.{Channel, Outer}
use Rattle.rtl_ir.specs.Ports.{Shape, HasShape, outer_of}

-- a stream's name and the width of its words
abbrev pub stream_shape : StreamPorts → List ℕ × ℕ
stream_shape x = (x.name, x.width)

-- a scalar's kernel, its name and its width
abbrev pub scalar_shape : ScalarPort → List ℕ × List ℕ × ℕ
scalar_shape s = (s.kernel, s.name, s.width)

-- the names and widths alone
abbrev pub shape_of : Interface → Shape
shape_of i = record {
  kernels = map (λ (k : KernelPorts). k.name) i.kernels;
  scalars = map scalar_shape i.scalars;
  inputs = map stream_shape i.inputs;
  outputs = map stream_shape i.outputs;
}

-- the nets of a stream
abbrev pub stream_channel : StreamPorts → Channel
stream_channel x = record { word = x.word; valid = x.valid; ready = x.ready }

-- the nets alone
abbrev pub nets_of : Interface → Outer
nets_of i = record {
  clock = i.clock;
  reset = i.reset;
  holds = map (λ (k : KernelPorts). k.hold) i.kernels;
  steady = map (λ (k : KernelPorts). k.ticks) i.kernels ++ map (λ (s : ScalarPort). s.net) i.scalars;
  inputs = map stream_channel i.inputs;
  outputs = map stream_channel i.outputs;
  done = i.done;
}

-- these are the ports of the module, by name, width and net
pub record IsInterface (m : Module) (i : Interface) : Type 0 where
  pub shape : HasShape m (shape_of i)
  pub nets : nets_of i ≡ outer_of (shape_of i) m
