use Rattle.std.proofs.Common.{◌≡◌, ℕ, Some, refl, sym, subst}
use Rattle.std.specs.Prelude.{slice_get}
use Rattle.rtl_ir.specs.declared.design.Expr.{Expr}
use Rattle.rtl_ir.specs.Operands.{reads, IsRead}
use Rattle.verilog_sim.proofs.origin.expr_at.Goals as goal

-- what stands in the list of the operands is read
read : (e f : Expr) (i n : ℕ) → e ≡ f → slice_get (reads f) i ≡ Some n → IsRead e n
read e f i n is at = subst (λ (x : Expr). IsRead x n) (sym is) (i, at)

pub origin-requires : goal.origin-requires
origin-requires c = c.requires c.in-Net.a (read c.args.expr.now _ 0 c.in-Net.a c.in-Net.is refl)

pub origin-requires-in-Not : goal.origin-requires-in-Not
origin-requires-in-Not c = c.requires c.in-Not.a (read c.args.expr.now _ 0 c.in-Not.a c.in-Not.is refl)

pub origin-requires-in-Binary : goal.origin-requires-in-Binary
origin-requires-in-Binary c = c.requires c.in-Binary.a (read c.args.expr.now _ 0 c.in-Binary.a c.in-Binary.is refl)

pub origin-requires-in-Binary-2 : goal.origin-requires-in-Binary-2
origin-requires-in-Binary-2 c = c.requires c.in-Binary.b (read c.args.expr.now _ 1 c.in-Binary.b c.in-Binary.is refl)

pub origin-requires-in-Concat : goal.origin-requires-in-Concat
origin-requires-in-Concat c = c.requires c.in-Concat.a (read c.args.expr.now _ 0 c.in-Concat.a c.in-Concat.is refl)

pub origin-requires-in-Concat-2 : goal.origin-requires-in-Concat-2
origin-requires-in-Concat-2 c = c.requires c.in-Concat.b (read c.args.expr.now _ 1 c.in-Concat.b c.in-Concat.is refl)

pub origin-requires-in-Repeat : goal.origin-requires-in-Repeat
origin-requires-in-Repeat c = c.requires c.in-Repeat.a (read c.args.expr.now _ 0 c.in-Repeat.a c.in-Repeat.is refl)

pub origin-requires-in-Part : goal.origin-requires-in-Part
origin-requires-in-Part c = c.requires c.in-Part.a (read c.args.expr.now _ 0 c.in-Part.a c.in-Part.is refl)

pub origin-requires-in-Choose : goal.origin-requires-in-Choose
origin-requires-in-Choose c = c.requires c.in-Choose.a (read c.args.expr.now _ 0 c.in-Choose.a c.in-Choose.is refl)

pub origin-requires-in-Choose-2 : goal.origin-requires-in-Choose-2
origin-requires-in-Choose-2 c = c.requires c.in-Choose.b (read c.args.expr.now _ 1 c.in-Choose.b c.in-Choose.is refl)

pub origin-requires-in-Choose-3 : goal.origin-requires-in-Choose-3
origin-requires-in-Choose-3 c = c.requires c.in-Choose.c (read c.args.expr.now _ 2 c.in-Choose.c c.in-Choose.is refl)

pub origin-requires-in-Cell : goal.origin-requires-in-Cell
origin-requires-in-Cell c = c.requires c.in-Cell.a (read c.args.expr.now _ 0 c.in-Cell.a c.in-Cell.is refl)
