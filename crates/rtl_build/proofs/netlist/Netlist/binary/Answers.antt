use Rattle.rtl_build.proofs.netlist.Netlist.binary.Goals as goal

pub returns : goal.returns
returns c = rw (← c.sign_width.ensures, ← c.net.ensures, ← c.net-2.ensures) c.wire.ensures
