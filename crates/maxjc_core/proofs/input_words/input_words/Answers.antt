-- The words of all input files.
use Rattle.std.proofs.Common.{◌∙◌, ◌+◌, Err, inl, inr, take, drop, arith, ap, sym, subst, ⊎_elim}
use Rattle.std.specs.Prelude.{IsSome}
use Rattle.std.specs.List.{AllZip}
use Rattle.std.proofs.lemmas.List.{take_all}
use Rattle.mx_base.specs.Files.{Held}
use Rattle.project_check.proofs.Pieces.{zip_made}
use Rattle.maxjc_core.specs.ExpectStops.{AreWithin}
use Rattle.maxjc_core.specs.InputWords.{readings_of, reading_of, HasWords, HaveWords, IsFirstLineFault, IsLineFault, LacksWords}
use Rattle.maxjc_core.proofs.CheckExclusion.{told_lacks}
use Rattle.maxjc_core.proofs.ExpectMissing.{no-cause-left}
use Rattle.maxjc_core.proofs.InputReading.{err-same, reading-read, reading-split, readings-count, later-fault, later-lack, have-no-lack, fault-or-lack, told-by-lack}
use Rattle.maxjc_core.proofs.Refusing.{refused-so}
use Rattle.maxjc_core.proofs.input_words.input_words.Goals as goal

pub loop-number-preserved : goal.loop-number-preserved
loop-number-preserved g c =
    let held : Held = g.F.Files.held c.args.files.now in
    let plan = c.args.plan.now in
    let hosts = c.args.hosts.now in
    let rs = readings_of plan.ticks hosts plan.inputs in
    let n = c.loop-number.number in
    let r = reading_of c.at.result.now c.at-most.result.now in
    let now = c.loop-number.invariant in
    let at = reading-read plan.ticks hosts plan.inputs n c.index-hosts-number.result
    c.at.result.now c.at-most.result.now c.loop-number-test.true c.requires.each
    c.index-hosts-number.is c.at.ensures c.at-most.ensures in
    record {
      same = c.in-Ok.ensures.same ∙ now.same;
      read_quiet = c.in-Ok.ensures.quiet (λ e. absurd (cc)) ∙ now.read_quiet;
      write_quiet = c.in-Ok.ensures.write_quiet ∙ now.write_quiet;
      words = λ told.
          subst (HaveWords held (take (n + 1) rs)) (sym c.in_ok-push-in-Ok.ensures.ok)
          (zip_made (HasWords held) rs c.loop-number.lists n r c.in-Ok.words at.0 at.1
          (now.words told)
          ((rw (now.same) at c.in-Ok.ensures.words) told));
      within =
          subst (AllZip AreWithin (take (n + 1) rs)) (sym c.in_ok-push-in-Ok.ensures.ok)
          (zip_made AreWithin rs c.loop-number.lists n r c.in-Ok.words at.0 at.1 now.within
          c.in-Ok.ensures.within);
    }

pub returns-in-Err-clause-fault : goal.returns-in-Err-clause-fault
returns-in-Err-clause-fault g c = λ fault.
    let held : Held = g.F.Files.held c.args.files.now in
    let plan = c.args.plan.now in
    let hosts = c.args.hosts.now in
    let rs = readings_of plan.ticks hosts plan.inputs in
    let n = c.loop-number.number in
    let r = reading_of c.at.result.now c.at-most.result.now in
    let now = c.loop-number.invariant in
    ⊎_elim (λ rose. inl rose)
    (λ lacks. inr (subst (LacksWords held)
    (sym (reading-split plan.ticks hosts plan.inputs n c.index-hosts-number.result
    c.at.result.now c.at-most.result.now c.loop-number-test.true c.requires.each
    c.index-hosts-number.is c.at.ensures c.at-most.ensures))
    (later-lack held (take n rs) c.loop-number.lists r (drop (n + 1) rs)
    (now.words (told_lacks held c.at.result.now.0 lacks.lacks)) lacks)))
    (rw (now.same, now.read_quiet) at (c.in-Err.ensures.fault (ap Err (err-same fault))))

pub returns-in-Err-clause-refused : goal.returns-in-Err-clause-refused
returns-in-Err-clause-refused g c =
    let held : Held = g.F.Files.held c.args.files.now in
    let plan = c.args.plan.now in
    let hosts = c.args.hosts.now in
    let rs = readings_of plan.ticks hosts plan.inputs in
    let n = c.loop-number.number in
    let r = reading_of c.at.result.now c.at-most.result.now in
    let now = c.loop-number.invariant in
    refused-so c.in-Err.stop (λ cause. IsSome held → IsLineFault held r cause)
    (λ cause. IsSome held → IsFirstLineFault held rs cause)
    (λ cause is told. subst (λ all. IsFirstLineFault held all cause)
    (sym (reading-split plan.ticks hosts plan.inputs n c.index-hosts-number.result
    c.at.result.now c.at-most.result.now c.loop-number-test.true c.requires.each
    c.index-hosts-number.is c.at.ensures c.at-most.ensures))
    (later-fault held (take n rs) c.loop-number.lists r (drop (n + 1) rs) cause (now.words told)
    (is told)))
    (rw (now.same) at c.in-Err.ensures.refused)

pub returns-in-Err-clause-missing : goal.returns-in-Err-clause-missing
returns-in-Err-clause-missing g c = λ lacks.
    let held : Held = g.F.Files.held c.args.files.now in
    let rs = readings_of c.args.plan.now.ticks c.args.hosts.now c.args.plan.now.inputs in
    ⊎_elim (λ e. inl (ap Err e)) (λ e. inr (ap Err e))
    (no-cause-left c.in-Err.stop (λ cause. IsSome held → IsFirstLineFault held rs cause)
    (λ cause is. fault-or-lack held rs cause (is (told-by-lack held rs lacks)) lacks)
    (returns-in-Err-clause-refused g c))

pub returns-clause-words : goal.returns-clause-words
returns-clause-words g c = λ told.
    let held : Held = g.F.Files.held c.args.files.now in
    let plan = c.args.plan.now in
    let rs = readings_of plan.ticks c.args.hosts.now plan.inputs in
    let count = readings-count plan.ticks c.args.hosts.now plan.inputs c.requires.each in
    let test = c.loop-number-test.false in
    subst (λ all. HaveWords held all c.loop-number.lists)
    (take_all c.loop-number.number rs (omega (arith, count, test)))
    (c.loop-number.invariant.words told)

pub returns-clause-within : goal.returns-clause-within
returns-clause-within g c =
    let plan = c.args.plan.now in
    let rs = readings_of plan.ticks c.args.hosts.now plan.inputs in
    let count = readings-count plan.ticks c.args.hosts.now plan.inputs c.requires.each in
    let test = c.loop-number-test.false in
    subst (λ all. AllZip AreWithin all c.loop-number.lists)
    (take_all c.loop-number.number rs (omega (arith, count, test)))
    c.loop-number.invariant.within

pub returns-clause-missing : goal.returns-clause-missing
returns-clause-missing g c = λ lacks.
    let held : Held = g.F.Files.held c.args.files.now in
    let rs = readings_of c.args.plan.now.ticks c.args.hosts.now c.args.plan.now.inputs in
    absurd (have-no-lack held rs c.loop-number.lists
    (returns-clause-words g c (told-by-lack held rs lacks)) lacks)
