use Rattle.std.proofs.Common.{ap, sym, ◌∙◌, arith}
use Rattle.std.proofs.lemmas.Result.{on_ok_weaker}
use Rattle.rtl_ir.specs.declared.design.Module.{Module}
use Rattle.rtl_delays.proofs.Extends.{makes_extends, drive_extends, extends_on}
use Rattle.rtl_delays.proofs.Undriven.{wires_undriven, drive_undriven}
use Rattle.rtl_delays.proofs.Stored.{wires_stored, drive_stored}
use Rattle.kernel_control.proofs.Kept.{more_nets, drive_nets, bit_output_kept}
use Rattle.kernel_control.proofs.Outs.{driven_last}
use Rattle.kernel_control.proofs.answers.answer.Goals as goal

pub drive-requires-clause-output : goal.drive-requires-clause-output
drive-requires-clause-output c = (bit_output_kept c.in_ok-told.ensures.adds.grows c.requires.port.answer).output

pub drive-requires-clause-same : goal.drive-requires-clause-same
drive-requires-clause-same c = let a = c.in_ok-told.ensures.width in let b = c.requires.run.width in let d = c.requires.port.answer.bit in omega
    (arith, a, b, d)

pub returns : goal.returns
returns c =
    let q = c.requires in
    let told = c.in_ok-told.ensures in
    let g = told.adds.grows in
    let port = c.args.port in
    let e1 = makes_extends q.sound told in
    let same = let a = told.width in let b = q.run.width in let d = q.port.answer.bit in a ∙ b ∙ sym d in
    let free = wires_undriven told.adds port.answer.net q.port.answer.output.net q.undriven in
    on_ok_weaker c.drive.result (λ d. record {
      extends = extends_on e1 (drive_extends e1.sound (bit_output_kept g q.port.answer).output told.signal same free d);
      updates = ap (λ (x : Module). x.updates) d.is ∙ told.adds.updates;
      stored = drive_stored d ∙ wires_stored told.adds;
      leaves = λ k lt h apart. drive_undriven d k (let a = more_nets g in omega (arith, a, lt)) (wires_undriven told.adds k lt h) apart;
      driven = driven_last d;
      told = λ s v h. d.value s v h ∙ told.value s v (d.before s v h);
      nets = let same = drive_nets d in let one = told.adds.count in omega (arith, same, one);
    }) c.drive.ensures
