use Rattle.std.proofs.Common.{[], ◌∷◌, ◌++◌, Some, map, sym, ap, ◌∙◌}
use Rattle.simulation.proofs.LookUps.{found_value, port_there, has_name, one_mapped}
use Rattle.simulation.specs.Plans.{look_up}
use Rattle.simulation.proofs.planning.values.Goals as goal

pub index-requires : goal.index-requires
index-requires g c =
    has_name c.in_ok-named.named c.args.list.now c.name.result.now (g.P.Named.name_of c.port-item.result) c.name.ensures c.in_ok-named.ensures
    (port_there c.args.list.now g.P.Named.name_of c.args.ports.now
    c.as_slice-port-items.result.now c.loop-port.port-index c.port-item.result c.requires
    c.as_slice-port-items.ensures c.loop-port-test.true c.port-item.is)

pub loop-port-preserved : goal.loop-port-preserved
loop-port-preserved g c =
    let found = found_value c.in_ok-named.named c.args.list.now c.name.result.now (g.P.Named.name_of c.port-item.result) c.index.result.now c.name.ensures c.in_ok-named.ensures c.index.ensures in
    ap (map (λ x. Some x)) {x = c.push.new.self} {y = c.loop-port.values ++ c.index.result.now.now ∷ []} c.in_ok-push.ensures.ok
    ∙ one_mapped (λ x. Some x) (λ p. look_up c.args.list.now
    (g.P.Named.name_of p)) c.loop-port.values c.index.result.now.now
    c.as_slice-port-items.result.now c.loop-port.port-index c.port-item.result
    c.loop-port-test.true c.port-item.is (sym found) c.loop-port.invariant
