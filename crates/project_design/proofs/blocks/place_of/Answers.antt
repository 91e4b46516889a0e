use Rattle.std.proofs.Common.{◌∙◌, sym, arith}
use Rattle.project_design.proofs.Finding.{found_here, not_found}
use Rattle.project_design.proofs.blocks.place_of.Goals as goal

pub returns-then-number-node-clause-is : goal.returns-then-number-node-clause-is
returns-then-number-node-clause-is c =
    found_here c.args.nodes.now c.args.node c.loop-place.place c.index-nodes-place.result (omega (arith, c.loop-place-test.true))
    c.index-nodes-place.is (sym c.number.ensures ∙ c.if-number-node.true) c.loop-place.invariant

pub returns-clause-is : goal.returns-clause-is
returns-clause-is c =
    sym (not_found c.args.nodes.now c.args.node c.loop-place.place (omega (arith, c.loop-place-test.false)) c.loop-place.invariant)
