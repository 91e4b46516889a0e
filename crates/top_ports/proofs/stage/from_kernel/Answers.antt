use Rattle.std.proofs.Common.{◌≡◌, subst, codes, ◌++◌}
use Rattle.std.specs.Prelude.{bytes_eq}
use Rattle.rtl_ir.specs.declared.design.Port.{Port}
use Rattle.rtl_ir.specs.Ports.{port_view, input_port}
use Rattle.top_ports.specs.Shapes.{Name}
use Rattle.top_ports.proofs.PlaceLemmas.{from_found, from_behind, from_none}
use Rattle.top_ports.proofs.stage.from_kernel.Goals as goal

pub returns-then-is_hold_of-clause-some : goal.returns-then-is_hold_of-clause-some
returns-then-is_hold_of-clause-some c = λ ks e. from_found c.args.top.now ks c.args.name.now
    c.loop-rest.rest.now c.index-rest-0.result c.is_hold_of.result
    (c.loop-rest.invariant ks e) c.loop-rest-test.true
    (subst (λ (p : Port). (k : Name) → port_view c.args.top.now p ≡ input_port (codes "hold$"
    ++ k) 1 → c.is_hold_of.result
    ≡ bytes_eq k c.args.name.now) c.index-rest-0.is c.is_hold_of.ensures) c.if-is_hold_of.true

pub loop-rest-preserved : goal.loop-rest-preserved
loop-rest-preserved c = λ ks e. from_behind c.args.top.now ks c.args.name.now c.loop-rest.rest.now c.index-rest-0.result c.is_hold_of.result (c.loop-rest.invariant ks e) c.loop-rest-test.true
    (subst (λ (p : Port). (k : Name) → port_view c.args.top.now p ≡ input_port (codes "hold$"
    ++ k) 1 → c.is_hold_of.result
    ≡ bytes_eq k c.args.name.now) c.index-rest-0.is c.is_hold_of.ensures) c.if-is_hold_of.false

pub returns-clause-none : goal.returns-clause-none
returns-clause-none c = λ ks e. from_none c.args.top.now ks c.args.name.now c.loop-rest.rest.now (c.loop-rest.invariant ks e) c.loop-rest-test.false
