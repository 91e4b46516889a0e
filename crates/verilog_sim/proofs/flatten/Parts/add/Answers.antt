use Rattle.std.proofs.Common.{◌≡◌, List, Some, subst, arith}
use Rattle.std.specs.Prelude.{slice_get}
use Rattle.rtl_ir.specs.declared.design.Assign.{Assign}
use Rattle.rtl_ir.specs.declared.design.Update.{Update}
use Rattle.verilog_sim.proofs.Movable.{assign_movable, update_movable}
use Rattle.verilog_sim.proofs.flatten.Parts.add.Goals as goal

pub add_assigns-requires : goal.add_assigns-requires
add_assigns-requires c = λ k a at.
    assign_movable c.len.result c.len-2.result c.args.part.now (omega (
      arith,
      c.requires.nets,
      c.len.ensures,
      c.args.self.now.nets.ok,
    )) (omega (
      arith,
      c.requires.mems,
      c.len-2.ensures,
      c.args.self.now.mems.ok,
    )) a
    (c.requires.ranged.assigns k a (subst (λ (l : List Assign). slice_get l k ≡ Some a) c.as_slice-3.ensures at))

pub add_updates-requires : goal.add_updates-requires
add_updates-requires c = λ k u at.
    update_movable c.len.result c.len-2.result c.args.part.now (omega (
      arith,
      c.requires.nets,
      c.len.ensures,
      c.args.self.now.nets.ok,
    )) (omega (
      arith,
      c.requires.mems,
      c.len-2.ensures,
      c.args.self.now.mems.ok,
    )) u
    (c.requires.ranged.updates k u (subst (λ (l : List Update). slice_get l k ≡ Some u) c.as_slice-4.ensures at))
