-- The clauses of `expect`, from what its parts say.
use Rattle.std.proofs.Common.{◌≡◌, ◌<◌, ◌⊎◌, inl, inr, List, length, arith, sym, subst}
use Rattle.std.specs.Prelude.{All, IsSome}
use Rattle.manager_links.specs.declared.hosts.HostPort.{HostPort}
use Rattle.manager_links.specs.declared.project.Project.{Project}
use Rattle.mx_base.specs.Files.{Held}
use Rattle.project_words.proofs.Ports.{IsThere, host_there}
use Rattle.simulation.specs.declared.plan.Plan.{Plan}
use Rattle.std.proofs.lemmas.List.Elements.{All-weaker}
use Rattle.maxjc_core.specs.CheckCauses.{IsCheckable, LacksChecked}
use Rattle.maxjc_core.specs.Command.{ExpectNames}
use Rattle.maxjc_core.specs.ExpectCauses.{ExpectStands, LacksFile, LacksExpected}
use Rattle.maxjc_core.specs.ExpectStops.{BeginsIn, FitsPorts, readings_in}
use Rattle.maxjc_core.specs.Expecting.{IsExpectable, CanBegin, readings}
use Rattle.maxjc_core.specs.InputWords.{IsFirstLineFault, LacksWords}
use Rattle.maxjc_core.specs.CauseLines.{Cause}
use Rattle.maxjc_core.specs.CompileStops.{IfRefused}
use Rattle.maxjc_core.specs.declared.begin.Begun.{Begun}
use Rattle.maxjc_core.specs.declared.stop.Stop.{Stop}
use Rattle.maxjc_core.specs.declared.stop.Stop.TheVariants as stops
use Rattle.maxjc_core.proofs.CheckExclusion.{told_lacks}
use Rattle.maxjc_core.proofs.ExpectExclusion.{same-files, same-readings, not-of-expect}
use Rattle.maxjc_core.proofs.Expecting.{can-begin}
use Rattle.maxjc_core.proofs.ExpectMissing.{no-cause-left, no-file-cause}
use Rattle.maxjc_core.proofs.Exclusion.{told}
use Rattle.maxjc_core.proofs.Giving.{counted-ticks}
use Rattle.maxjc_core.proofs.InputReading.{fault-or-lack, not-both, told-by-lack}

-- each stream from the CPU goes to a kernel that has ticks
pub ticks-for : (project : Project) (plan : Plan) (hosts : List HostPort)
    → hosts ≡ project.joints.inputs → FitsPorts project plan
    → All (λ (host : HostPort). host.port.kernel < length plan.ticks) hosts
ticks-for project plan hosts same f =
    let count = counted-ticks project plan f in
    subst (All (λ (host : HostPort). host.port.kernel < length plan.ticks)) (sym same)
    (All-weaker (λ (host : HostPort). IsThere project.kernels host.port)
    (λ (host : HostPort). host.port.kernel < length plan.ticks)
    (λ host there. let lt = there.kernel in omega (arith, count, lt))
    project.joints.inputs (host_there project))

-- files that are held aren't missing
none-lacks-checked : (names : ExpectNames) (held : Held) → IsCheckable names.check held
    → LacksChecked names.check held → ⊥
none-lacks-checked names held files (inl (inl l)) =
    not-both held names.check.source files.project.source l files.project.source_is.holds
none-lacks-checked names held files (inl (inr after)) =
    not-both held names.check.table files.project.table after.then_table files.project.table_is.holds
none-lacks-checked names held files (inr after) =
    not-both held names.check.report files.report after.then_report files.report_is.holds

pub none-lacks : (names : ExpectNames) (held : Held) → IsExpectable names held
    → LacksFile names held → ⊥
none-lacks names held files (inl lacks) = none-lacks-checked names held files.check lacks
none-lacks names held files (inr after) =
    not-both held names.run files.run after.then_run files.run_is.holds

-- where one of the files of `expect` isn't held, what files hold is told
told-lacks-four : (names : ExpectNames) (held : Held) → LacksFile names held → IsSome held
told-lacks-four names held (inl (inl (inl l))) = told_lacks held names.check.source l
told-lacks-four names held (inl (inl (inr after))) =
    told held names.check.source after.source after.source_is.holds
told-lacks-four names held (inl (inr after)) =
    told held names.check.source after.project.source after.project.source_is.holds
told-lacks-four names held (inr after) =
    told held names.check.source after.check.project.source after.check.project.source_is.holds

-- where an input file isn't held, no cause stands
no-cause-beside : (names : ExpectNames) (held : Held) (begun : CanBegin names held) (cause : Cause)
    → LacksWords held (readings begun) → ExpectStands names held cause → ⊥
no-cause-beside names held begun _ lacks (ExpectStands.too_large cause large) =
    no-file-cause names held begun cause large
no-cause-beside names held begun _ lacks (ExpectStands.of_files files cause is) =
    let same = same-files files begun.files in
    not-of-expect cause same.sources same.tables same.reports same.runs is begun.fit begun.few
no-cause-beside names held begun _ lacks (ExpectStands.of_words other cause fault) =
    fault-or-lack held (readings begun) cause
    (subst (λ rs. IsFirstLineFault held rs cause) (same-readings other begun) fault) lacks

-- where a file isn't held, what stops before the inputs are read is a read fault or want of memory
pub missing-four : (names : ExpectNames) (held : Held) (stop : Stop)
    → (LacksFile names held → (stop ≡ stops.ReadFault) ⊎ (stop ≡ stops.NoMemory))
    → IfRefused stop (λ cause. IsSome held → ExpectStands names held cause)
    → LacksExpected names held → (stop ≡ stops.ReadFault) ⊎ (stop ≡ stops.NoMemory)
missing-four names held stop missing refused (inl lacks) = missing lacks
missing-four names held stop missing refused (inr (begun, lacks)) =
    no-cause-left stop (λ cause. IsSome held → ExpectStands names held cause)
    (λ cause stands. no-cause-beside names held begun cause lacks
    (stands (told-by-lack held (readings begun) lacks)))
    refused

-- where a file isn't held, and the run began, it is an input file
pub read-lacks-none : (names : ExpectNames) (held : Held) (begun : Begun) {A : Type 0}
    → (IsSome held → BeginsIn names held begun) → (LacksWords held (readings_in begun) → A)
    → LacksExpected names held → A
read-lacks-none names held begun begins missing (inl lacks) =
    absurd (none-lacks names held (begins (told-lacks-four names held lacks)).files lacks)
read-lacks-none names held begun begins missing (inr (other, lacks)) =
    let told = told-by-lack held (readings other) lacks in
    missing (subst (LacksWords held) (same-readings other (can-begin names held begun (begins told))) lacks)
