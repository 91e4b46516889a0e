use Rattle.std.proofs.Common.{◌≡◌, ◌≢◌, ℕ, length, get_or, drop, Some}
use Rattle.std.specs.Prelude.{slice_get}
use Rattle.rtl_ir.specs.declared.design.Module.{Module}
use Rattle.rtl_ir.specs.declared.design.Update.{Update}
use Rattle.rtl_ir.specs.declared.design.Target.TheVariants.{Reg}
use Rattle.rtl_ir.specs.Edge.{updated_all}
use Rattle.verilog_sim.specs.Contents.{family_of, contents_of, HasDepths}
use Rattle.verilog_sim.specs.Updates.{held_by}
use Rattle.verilog_sim.proofs.clock.clock.Given as goal

abbrev pub invariant-loop-update : goal.invariant-loop-update
invariant-loop-update l =
    (length l.ahead ≡ length l.fn.ahead)
    × ((n : ℕ) → ((j : ℕ) (u : Update) → slice_get l.updates j ≡ Some u → u.target ≢ Reg n) → get_or l.ahead n 0 ≡ get_or l.fn.ahead n 0)
    × ((m : Module)
    → HasDepths m l.initial.memories
    → HasDepths m l.memories
    × (updated_all m (family_of l.values) (drop l.update-index l.updates) (contents_of (held_by l.updates l.ahead) l.memories)
    ≡ updated_all m (family_of l.values) l.updates (contents_of (held_by l.updates l.fn.ahead) l.initial.memories)))
