-- Numbers of a module fit 32 bits where the moved ones of all its nets and memories do.
use Rattle.std.proofs.Common.{◌≡◌, ℕ, ◌+◌, ◌^◌, ◌<◌, length, Some, refl, arith}
use Rattle.rtl_ir.specs.declared.design.Module.{Module}
use Rattle.rtl_ir.specs.declared.design.Assign.{Assign}
use Rattle.rtl_ir.specs.declared.design.Update.{Update}
use Rattle.rtl_ir.specs.declared.design.Target.{Target}
use Rattle.rtl_ir.specs.declared.design.Target.TheVariants.{Reg, Cell as Place}
use Rattle.rtl_ir.specs.declared.design.Expr.{Expr}
use Rattle.rtl_ir.specs.declared.design.Expr.TheVariants.{Net as Plain, Literal, Not, Binary, Concat, Repeat, Part, Choose, Cell}
use Rattle.rtl_ir.specs.Operands.{target_net, target_mem}
use Rattle.rtl_ir.specs.Formed.{IsFormedExpr, IsFormedAssign, IsFormedUpdate}
use Rattle.verilog_sim.specs.Relocation.{IsExprMovable, IsAssignMovable, IsTargetMovable, IsUpdateMovable}

module _ (b c : ℕ) (m : Module) (nets : b + length m.nets < 2 ^ 32) (mems : c + length m.mems < 2 ^ 32) where
  expr_movable : (e : Expr) → IsFormedExpr m e → IsExprMovable b c e
  expr_movable (Plain n) f = omega (arith, nets, f.nets n (0, refl))
  expr_movable (Literal x) f = tt
  expr_movable (Not n) f = omega (arith, nets, f.nets n (0, refl))
  expr_movable (Binary s n o) f = (omega (arith, nets, f.nets n (0, refl)), omega (arith, nets, f.nets o (1, refl)))
  expr_movable (Concat n o) f = (omega (arith, nets, f.nets n (0, refl)), omega (arith, nets, f.nets o (1, refl)))
  expr_movable (Repeat k n) f = omega (arith, nets, f.nets n (0, refl))
  expr_movable (Part n hi lo) f = omega (arith, nets, f.nets n (0, refl))
  expr_movable (Choose n o p) f = (omega (arith, nets, f.nets n (0, refl)), omega (arith, nets, f.nets o (1, refl)), omega (arith, nets, f.nets p (2, refl)))
  expr_movable (Cell k n) f = (omega (arith, mems, f.mem k refl), omega (arith, nets, f.nets n (0, refl)))

  pub assign_movable : (a : Assign) → IsFormedAssign m a → IsAssignMovable b c a
  assign_movable a f = record { target = omega (arith, nets, f.target); expr = expr_movable a.expr f.expr }

  target_movable : (t : Target) → target_net t < length m.nets → ((k : ℕ) → target_mem t ≡ Some k → k < length m.mems) → IsTargetMovable b c t
  target_movable (Reg n) net mem = omega (arith, nets, net)
  target_movable (Place k a) net mem = (omega (arith, mems, mem k refl), omega (arith, nets, net))

  pub update_movable : (u : Update) → IsFormedUpdate m u → IsUpdateMovable b c u
  update_movable u f = record { enable = omega (arith, nets, f.enable); value = omega (arith, nets, f.value); target = target_movable u.target f.net f.mem }
