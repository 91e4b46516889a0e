-- The class is that of its number, and its run is the kernel's.
use Rattle.std.proofs.Common.{[], sym, subst, ap}
use Rattle.kernel_meaning.specs.Answer.{calls_of}
use Rattle.kernel_meaning.specs.Sound.{AreSound}
use Rattle.kernel_rows.specs.Fit.{AreFit}
use Rattle.kernel_plans.specs.Classes.{ClassView, library_of}
use Rattle.kernel_eval.specs.Building.{Builds}
use Rattle.kernel_eval.specs.Sending.{HasRoomBelow}
use Rattle.kernel_eval.proofs.Programs.{number-in-range, run-by, fit-args, sound-args}
use Rattle.kernel_eval.proofs.kernel.eval.Goals as goal

pub at-requires : goal.at-requires
at-requires g c =
    number-in-range c.args.program.now c.args.class c.requires.kernel.0 c.requires.kernel.1

pub run_class-requires-clause-kernel : goal.run_class-requires-clause-kernel
run_class-requires-clause-kernel g c =
    ap (λ (class : ClassView). library_of class.library) c.in_ok-class.ensures

pub run_class-requires-clause-fit : goal.run_class-requires-clause-fit
run_class-requires-clause-fit g c =
    subst AreFit (sym c.in_ok-values.ensures) (fit-args c.args.args.now c.requires.typed)

pub run_class-requires-clause-sound : goal.run_class-requires-clause-sound
run_class-requires-clause-sound g c =
    subst (AreSound []) (sym c.in_ok-values.ensures) (sound-args c.args.args.now c.requires.typed)

pub run_class-requires-clause-room : goal.run_class-requires-clause-room
run_class-requires-clause-room g c =
    let kernel = c.requires.kernel in
    subst (λ run. HasRoomBelow g.B.Builder.made g.B.Builder.has_room g.B.Builder.receives
    c.args.builder.now (calls_of run))
    (sym (run-by c.args.program.now c.args.class kernel.0 _ c.in_ok-class.class c.args.args.now
    c.in_ok-values.values kernel.1 c.at.ensures c.in_ok-class.ensures c.in_ok-values.ensures))
    (c.requires.room kernel.0 kernel.1)

pub returns : goal.returns
returns g c kernel at =
    subst (λ run. Builds g.B.Builder.receives c.args.builder.now run c.run_class.result
    c.run_class.new.builder)
    (run-by c.args.program.now c.args.class kernel _ c.in_ok-class.class c.args.args.now
    c.in_ok-values.values at c.at.ensures c.in_ok-class.ensures c.in_ok-values.ensures)
    c.run_class.ensures
