use Rattle.std.proofs.Common.{map, sym, subst, arith}
use Rattle.std.proofs.lemmas.List.{take_all}
use Rattle.verilog_syntax.specs.Trees.{port_view}
use Rattle.verilog_read.specs.Walk.{IsBuilt, port_scope}
use Rattle.verilog_read.proofs.Seq.{get_split, map_more}
use Rattle.verilog_read.proofs.builder.Builder.ports.Goals as goal

pub loop-port-preserved : goal.loop-port-preserved
loop-port-preserved c = λ named modules b.
    subst (λ l. IsBuilt named (port_scope modules l) c.port.new.self)
    (sym (map_more port_view (get_split c.args.ports.now c.loop-port.port-index _
    (omega arith)))) (c.in_ok-port.ensures named modules _
    (c.loop-port.invariant named modules b))

pub returns : goal.returns
returns c = λ named modules b.
    subst (λ l. IsBuilt named (port_scope modules (map port_view l)) c.loop-port.self) (take_all c.loop-port.port-index c.args.ports.now (omega arith)) (c.loop-port.invariant named modules b)
