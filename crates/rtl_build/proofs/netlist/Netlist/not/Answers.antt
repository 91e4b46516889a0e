use Rattle.rtl_build.proofs.netlist.Netlist.not.Goals as goal

pub returns : goal.returns
returns c = rw (← c.net.ensures) c.wire.ensures
