-- A kernel with a loop, and a netlist with its parts: the sum of all words so far, which takes one
-- advance.
use Rattle.std.specs.Prelude.{
  ℕ,
  Bool,
  true,
  false,
  if◌then◌else◌,
  nat_eq,
  List,
  [],
  ◌∷◌,
  codes,
  negsuc,
}
use Rattle.mx_bits.specs.declared.word.Word.{Word}
use Rattle.mx_bits.specs.declared.op.Op.TheVariants as ops
use Rattle.fix_arith.specs.declared.types.StreamType.TheVariants.{UInt}
use Rattle.fix_arith.specs.declared.types.RoundMode.TheVariants.{Truncate}
use Rattle.rtl_ir.specs.declared.design.Net.{Net}
use Rattle.rtl_ir.specs.declared.design.Port.{Port}
use Rattle.rtl_ir.specs.declared.design.Module.{Module}
use Rattle.rtl_ir.specs.declared.design.Assign.{Assign}
use Rattle.rtl_ir.specs.declared.design.Update.{Update}
use Rattle.rtl_ir.specs.declared.design.Target.TheVariants.{Reg}
use Rattle.rtl_ir.specs.declared.design.Expr.{Expr}
use Rattle.rtl_ir.specs.declared.design.Expr.TheVariants.{
  Net as Plain,
  Literal,
  Not,
  Binary,
  Choose,
}
use Rattle.rtl_ir.specs.declared.design.Sign.TheVariants.{Add, And, Or, Lt}
use Rattle.stream_graph.specs.declared.node.Kind.{Kind}
use Rattle.stream_graph.specs.declared.node.Kind.TheVariants as K
use Rattle.stream_graph.specs.declared.node.Node.{Node}
use Rattle.kernel_control.specs.Ports.{ModuleNets}

-- a node without a control
abbrev pub node : ℕ → Kind → List ℕ → Node
node w kind operands = record {
  view = record { kind = kind; t = UInt w; controlled = false };
  operands = operands;
  name = [];
  digits = [];
}

-- Node 0 is the input, 1 what is fed back, 2 that one tick ago, 3 the sum of 0 and 2, 4 the output.
abbrev pub sum_nodes : ℕ → List Node
sum_nodes w =
    node w K.Input []
    ∷ node w K.Feed (3 ∷ [])
    ∷ node w (K.Offset (negsuc 0)) (1 ∷ [])
    ∷ node w (K.Operation ops.Add Truncate 0) (0 ∷ 2 ∷ [])
    ∷ node w K.Output (3 ∷ [])
    ∷ []

-- the feed and the output come one advance later
abbrev pub sum_times : ℕ → ℕ
sum_times n = if nat_eq n 1 then 1 else if nat_eq n 4 then 1 else 0

-- a net without a name
abbrev pub net : ℕ → Bool → Net
net w kept = record { name = []; width = w; reg = kept }

abbrev pub bit_net : Net
bit_net = net 1 false

-- a net of as many bits as the position has
abbrev pub wide_net : Net
wide_net = net 48 false

abbrev pub port : ℕ → Bool → Port
port n out = record { net = n; output = out }

abbrev pub gets : ℕ → Expr → Assign
gets n e = record { target = n; expr = e }

-- From 0 on: clock, reset, hold, ticks, three nets of the input, three of the output, whether it
-- has ended; 11 the position, 12 the sum one advance ago, 13 the sum; 14 one, 15 nothing, 16 whether
-- the input is due, 17 the end, 18 not ended, 19 at the start, 20 not there, 21 whether the output
-- is due; 22 not held, 23 to 26 the input and the output are served, 27 to 29 these together: it
-- advances; 30 the next position, 31 that after a reset, 32 whether it changes.
abbrev pub sum_nets : ℕ → List Net
sum_nets w =
    bit_net ∷ bit_net ∷ bit_net ∷ wide_net
    ∷ net w false ∷ bit_net ∷ bit_net
    ∷ net w false ∷ bit_net ∷ bit_net
    ∷ bit_net
    ∷ net 48 true ∷ net w true ∷ net w false
    ∷ wide_net ∷ wide_net ∷ bit_net ∷ wide_net ∷ bit_net ∷ bit_net ∷ bit_net ∷ bit_net
    ∷ bit_net ∷ bit_net ∷ bit_net ∷ bit_net ∷ bit_net ∷ bit_net ∷ bit_net ∷ bit_net
    ∷ wide_net ∷ wide_net ∷ bit_net
    ∷ []

-- `one` and `nothing` are words of 48 bits
abbrev pub sum_assigns : Word → Word → List Assign
sum_assigns one nothing =
    gets 13 (Binary Add 4 12) ∷ gets 14 (Literal one) ∷ gets 15 (Literal nothing)
    ∷ gets 16 (Binary Lt 11 3) ∷ gets 17 (Binary Add 14 3) ∷ gets 18 (Binary Lt 11 17)
    ∷ gets 19 (Binary Lt 11 14) ∷ gets 20 (Not 19) ∷ gets 21 (Binary And 20 18)
    ∷ gets 10 (Not 18) ∷ gets 22 (Not 2) ∷ gets 23 (Not 16)
    ∷ gets 24 (Binary Or 23 5) ∷ gets 25 (Not 21) ∷ gets 26 (Binary Or 25 9)
    ∷ gets 27 (Binary And 24 26) ∷ gets 28 (Binary And 18 27) ∷ gets 29 (Binary And 22 28)
    ∷ gets 6 (Binary And 29 16) ∷ gets 8 (Binary And 29 21) ∷ gets 7 (Plain 12)
    ∷ gets 30 (Binary Add 11 14) ∷ gets 31 (Choose 1 15 30) ∷ gets 32 (Binary Or 1 29)
    ∷ []

-- the position changes after a reset and an advance, the kept sum after an advance
abbrev pub sum_updates : List Update
sum_updates =
    record { enable = 32; target = Reg 11; value = 31 }
    ∷ record { enable = 29; target = Reg 12; value = 13 }
    ∷ []

-- ports 0 to 10, of which 6, 7, 8 and 10 are outputs
abbrev pub sum_module_ports : List Port
sum_module_ports =
    port 0 false ∷ port 1 false ∷ port 2 false ∷ port 3 false ∷ port 4 false ∷ port 5 false
    ∷ port 6 true ∷ port 7 true ∷ port 8 true ∷ port 9 false ∷ port 10 true
    ∷ []

abbrev pub sum_module : ℕ → Word → Word → Module
sum_module w one nothing = record {
  name = codes "kernel$Sum";
  ports = sum_module_ports;
  nets = sum_nets w;
  mems = [];
  assigns = sum_assigns one nothing;
  updates = sum_updates;
  instances = [];
}

-- its ports and its position
abbrev pub sum_nets_of : ModuleNets
sum_nets_of = record {
  clock = 0;
  reset = 1;
  hold = 2;
  ticks = 3;
  scalars = [];
  inputs = record { node = 0; channel = record { word = 4; valid = 5; ready = 6 } } ∷ [];
  outputs = record { node = 4; channel = record { word = 7; valid = 8; ready = 9 } } ∷ [];
  ended = 10;
  position = 11;
}
