use Rattle.rtl_build.proofs.netlist.Netlist.choose.Goals as goal

pub returns : goal.returns
returns c = rw (← c.net.ensures, ← c.net-2.ensures, ← c.net-3.ensures) c.wire.ensures
