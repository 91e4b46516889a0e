-- An expression begins.
use Rattle.std.proofs.Common.{◌∙◌, refl, sym}
use Rattle.kernel_machine.specs.Going.{rest, standing}
use Rattle.kernel_machine.proofs.Moves
use Rattle.kernel_machine.proofs.machine.Machine.evaluate.Goals as goal

pub returns-then-is_mute_part-clause-does : goal.returns-then-is_mute_part-clause-does
returns-then-is_mute_part-clause-does c =
    let place = c.mute_place_of.ensures in
    rw place (Moves.tree-mute c.args.class.now.cells (standing c.args.class.now c.args.self.now)
    c.args.part c.node_at-expression.result c.args.self.now.state (rest c.args.class.now
    c.args.self.now)
    c.node_at-expression.ensures.tree (sym c.if-is_mute_part.ensures))

pub returns-then-not-count-clause-does : goal.returns-then-not-count-clause-does
returns-then-not-count-clause-does c =
    Moves.tree-formed c.args.class.now.cells (standing c.args.class.now c.args.self.now)
    c.args.part c.node_at-expression.result c.args.self.now.state (rest c.args.class.now
    c.args.self.now) _
    c.node_at-expression.ensures.tree (sym c.if-is_mute_part.ensures) refl
    ∙ Moves.counted-stop c.args.self.now.state _ c.if-not-count.ensures.0

pub returns-in-Choice-clause-does : goal.returns-in-Choice-clause-does
returns-in-Choice-clause-does c =
    Moves.leads-by c.args.class.now _ _ c.choice.result c.choice.new.self
    (Moves.begins-choice c.args.class.now c.args.self.now c.count.new.self c.args.part
    c.node_at-expression.result
    c.node_at-expression.ensures.tree (sym c.if-is_mute_part.ensures) (sym c.in-Choice.ensures)
    c.if-not-count.ensures)
    c.choice.ensures.does

pub returns-in-Short-clause-does : goal.returns-in-Short-clause-does
returns-in-Short-clause-does c =
    Moves.leads-by c.args.class.now _ _ c.short.result c.short.new.self
    (Moves.begins-short c.args.class.now c.args.self.now c.count.new.self c.args.part
    c.node_at-expression.result c.in-Short.either
    c.node_at-expression.ensures.tree (sym c.if-is_mute_part.ensures) (sym c.in-Short.ensures)
    c.if-not-count.ensures)
    c.short.ensures.does

pub returns-in-AllOperands-clause-does : goal.returns-in-AllOperands-clause-does
returns-in-AllOperands-clause-does c =
    Moves.leads-by c.args.class.now _ _ c.planned.result c.planned.new.self
    (Moves.begins-all c.args.class.now c.args.self.now c.count.new.self c.args.part
    c.node_at-expression.result
    c.node_at-expression.ensures.tree (sym c.if-is_mute_part.ensures) (sym
    c.in-AllOperands.ensures) c.if-not-count.ensures)
    c.planned.ensures.does
