-- No operation takes more wires than any may.
use Rattle.std.proofs.Common.{◌+◌, ◌*◌, ◌≤◌, List, length, arith}
use Rattle.mx_bits.specs.declared.op.Op.{Op}
use Rattle.fix_arith.specs.declared.types.StreamType.{StreamType}
use Rattle.rtl_ops.specs.Costs.{most_wires, wires_a_part}

pub few_wires : (op : Op) (types : List StreamType) → most_wires op types ≤ wires_a_part * (1 + length types)
few_wires op types = omega arith
