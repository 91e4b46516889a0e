use Rattle.std.proofs.Common.{refl}
use Rattle.rtl_delays.proofs.Extends.{extends_same}
use Rattle.kernel_rtl.proofs.Driving.{no_stream, may_kept, one_driven, none_left, none_shown}
use Rattle.kernel_rtl.proofs.outputs.drive_words.Goals as goal

pub loop-port-init : goal.loop-port-init
loop-port-init c =
    let q = c.requires in
    record {
      extends = extends_same q.sound;
      updates = refl;
      stored = refl;
      nets = refl;
      registers = λ n h. h;
      leaves = λ n lt h o. h;
      undriven = q.undriven;
      driven = λ m e h. h;
      shows = λ m e h. h;
    }

pub drive-requires-clause-output : goal.drive-requires-clause-output
drive-requires-clause-output c =
    (may_kept c.args.netlist.now c.loop-port.netlist c.args.words.now _ c.loop-port.invariant.extends
    (c.requires.outputs c.loop-port.port-index no_stream c.loop-port-test.true)).output

pub drive-requires-clause-source : goal.drive-requires-clause-source
drive-requires-clause-source c =
    (may_kept c.args.netlist.now c.loop-port.netlist c.args.words.now _ c.loop-port.invariant.extends
    (c.requires.outputs c.loop-port.port-index no_stream c.loop-port-test.true)).source

pub drive-requires-clause-same : goal.drive-requires-clause-same
drive-requires-clause-same c = (c.requires.outputs c.loop-port.port-index no_stream c.loop-port-test.true).same

pub loop-port-preserved : goal.loop-port-preserved
loop-port-preserved c =
    one_driven c.args.netlist.now c.loop-port.netlist c.drive.new.self c.args.words.now c.loop-port.port-index c.args.outputs.now c.loop-port.invariant
    c.loop-port-test.true
    c.requires.outputs c.in_ok-drive.ensures

pub returns : goal.returns
returns c =
    let i = c.loop-port.invariant in
    let m = c.loop-port.netlist in
    let words = c.args.words.now in
    let same = extends_same i.extends.sound in
    record {
      extends = i.extends;
      updates = i.updates;
      stored = i.stored;
      nets = i.nets;
      registers = i.registers;
      leaves = i.leaves;
      driven = i.driven m same (none_left m words c.loop-port.port-index c.args.outputs.now c.loop-port-test.false);
      shows = i.shows m same (none_shown m words c.loop-port.port-index c.args.outputs.now c.loop-port-test.false);
    }
