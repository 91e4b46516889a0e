use Rattle.rtl_ir.specs.Interfaces.{shape_of}
use Rattle.std.proofs.Common.{refl}
use Rattle.maxjc_core.specs.RunFiles.{IsUnfit, IsUnfitFor}
use Rattle.maxjc_core.proofs.RunReading.{refused_so}
use Rattle.maxjc_core.proofs.run_file.plan_for.Goals as goal

pub returns-in-Err-clause-unfit : goal.returns-in-Err-clause-unfit
returns-in-Err-clause-unfit c =
    refused_so c.in-Err.stop (IsUnfitFor c.args.run.now c.args.ports.now) (IsUnfit c.args.run.now (shape_of c.args.ports.now))
    (λ cause u. record { ports = c.args.ports.now; are = refl; unfit = u }) c.in-Err.ensures.unfit
