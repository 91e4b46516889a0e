use Rattle.std.proofs.Common.{◌≡◌, ◌+◌, ◌*◌, ◌++◌, drop}
use Rattle.project_rtl.specs.Tops.{valid_nets}
use Rattle.project_design.proofs.top.valid_nets.Given as goal

abbrev pub invariant-loop-host : goal.invariant-loop-host
invariant-loop-host l = record {
  told : l.nets.items ++ valid_nets l.port (drop l._host-index l.hosts) ≡ valid_nets l.first l.hosts;
  port : l.port ≡ l.first + 3 * l._host-index;
}
