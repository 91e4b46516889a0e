use Rattle.std.proofs.Common.{◌≡◌, Some, map, take}
use Rattle.simulation.specs.Plans.{look_up}
use Rattle.simulation.proofs.planning.values.Given as goal

-- the values of the ports so far
abbrev pub invariant-loop-port : goal.invariant-loop-port
invariant-loop-port g l = map (λ x. Some x) l.values ≡ map (λ p. look_up l.fn.list (g.P.Named.name_of p)) (take l.port-index l.port-items)
