-- A turn without a condition begins with the body.
use Rattle.std.proofs.Common.{arith}
use Rattle.kernel_machine.specs.Going.{go, standing, leaving, after}
use Rattle.kernel_machine.proofs.Moves.{leads-by, turns-always, turns-holds}
use Rattle.kernel_machine.proofs.machine.Machine.turn.Goals as goal

pub returns-in-Always-clause-does : goal.returns-in-Always-clause-does
returns-in-Always-clause-does c =
    leads-by c.args.class.now _ _ c.turn_body.result c.turn_body.new.self
    (turns-always c.args.class.now.cells (standing c.args.class.now c.args.self.now)
    (leaving c.args.class.now c.args.self.now) c.args.repeat c.args.more c.in-Some.more
    c.args.self.now.state (after c.args.class.now c.args.self.now)
    c.in-Always.is (omega arith))
    c.turn_body.ensures.does

pub returns-in-Holds-clause-does : goal.returns-in-Holds-clause-does
unfolding go
returns-in-Holds-clause-does c =
    leads-by c.args.class.now _ _ c.evaluate_for.result c.evaluate_for.new.self
    (turns-holds c.args.class.now.cells (standing c.args.class.now c.args.self.now)
    (leaving c.args.class.now c.args.self.now) c.args.repeat c.in-Holds.part c.args.more
    c.in-Some.more c.args.self.now.state (after c.args.class.now c.args.self.now)
    c.in-Holds.is (omega arith))
    c.evaluate_for.ensures.does
