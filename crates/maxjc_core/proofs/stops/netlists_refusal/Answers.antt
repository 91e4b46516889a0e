-- The refusal of a project by the name of its kernel.
use Rattle.std.proofs.Common.{◌≡◌, ◌∙◌, Option, Some, None, ap}
use Rattle.std.specs.Option.{option_map}
use Rattle.std.specs.Prelude.{slice_get}
use Rattle.mx_base.specs.Files.{Name}
use Rattle.stream_graph.specs.declared.kernel.Kernel.{Kernel}
use Rattle.maxjc_core.specs.CauseLines.{Cause, NoSchedule, TooManyBits}
use Rattle.maxjc_core.specs.CompileCauses.{netlists_cause}
use Rattle.maxjc_core.proofs.stops.netlists_refusal.Goals as goal

-- what names a kernel says its cause
named : (kernel : Option Kernel) (name : Name) (cause : Name → Cause)
    → option_map (λ (k : Kernel). k.name) kernel ≡ Some name
    → option_map (λ (k : Kernel). cause k.name) kernel ≡ Some (cause name)
named (Some kernel) name cause e =
    let same : kernel.name ≡ name = cc in ap (λ (n : Name). Some (cause n)) same
named None name cause e = absurd (cc)

pub returns-in_ok-name-in-Schedule : goal.returns-in_ok-name-in-Schedule
returns-in_ok-name-in-Schedule c =
    let kernels = c.args.project.now.kernels in
    ap (netlists_cause kernels) c.in-Schedule.is
    ∙ named (slice_get kernels c.in-Schedule.number) c.in_ok-name-in-Schedule.name
    (λ n. NoSchedule n c.in-Schedule.error)
    (rw c.kernels.ensures at c.in_ok-name-in-Schedule.ensures)

pub returns-in_ok-name-in-TooManyBits : goal.returns-in_ok-name-in-TooManyBits
returns-in_ok-name-in-TooManyBits c =
    let kernels = c.args.project.now.kernels in
    ap (netlists_cause kernels) c.in-TooManyBits.is
    ∙ named (slice_get kernels c.in-TooManyBits.number) c.in_ok-name-in-TooManyBits.name
    (λ n. TooManyBits n c.in-TooManyBits.bits)
    (rw c.kernels-in-TooManyBits.ensures at c.in_ok-name-in-TooManyBits.ensures)
