use Rattle.std.proofs.Common.{arith}
use Rattle.kernel_netlist.proofs.making.module_at.Goals as goal

pub returns : goal.returns
returns c =
    let made = c.in_ok-inner.ensures in
    let nets = c.len.ensures in
    let nets_most = c.if-prove.false in
    let mems = c.len-2.ensures in
    let mems_most = c.if-prove-2.false in
    record {
      refines = made.refines;
      ports_first = made.ports_first;
      stored = made.stored;
      nets = made.nets;
      mems = made.mems;
      partial = made.partial;
      few_nets = omega (arith, nets, nets_most);
      few_mems = omega (arith, mems, mems_most);
    }
