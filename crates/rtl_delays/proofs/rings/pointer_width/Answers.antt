use Rattle.std.proofs.Common.{arith}
use Rattle.rtl_delays.proofs.Pointers.{pointer_is}
use Rattle.rtl_delays.proofs.rings.pointer_width.Goals as goal

pub returns : goal.returns
returns c = let q = c.requires in let f = c.ranges.words.fits in pointer_is c.args.words q (omega (arith, f))
