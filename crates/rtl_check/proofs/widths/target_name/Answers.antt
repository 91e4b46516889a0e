use Rattle.std.proofs.Common.{ap}
use Rattle.rtl_ir.specs.Operands.{target_mem}
use Rattle.rtl_check.proofs.widths.target_name.Goals as goal

pub mem_name-requires : goal.mem_name-requires
mem_name-requires c = c.requires.mem c.in-Cell.mem (ap target_mem c.in-Cell.is)
