-- The run begins, and each step leads on.
use Rattle.std.proofs.Common.{◌≡◌}
use Rattle.kernel_machine.specs.Going.{answer_of, with_calls}
use Rattle.kernel_eval.specs.Runs.{run_in}
use Rattle.kernel_eval.proofs.Way
use Rattle.kernel_eval.proofs.driver.run_class.Goals as goal

pub loop-vars-init : goal.loop-vars-init
loop-vars-init g c =
    let class = c.args.class.now in
    record {
      way =
          rw c.new-vars.ensures.items
          (Way.way_begins g.B.Builder.has_room g.B.Builder.receives g.B.Builder.made
          g.B.Var.Numbered.number c.args.builder.now class c.args.args c.in_ok-machine.machine
          c.requires.fresh c.requires.kernel c.requires.sound c.requires.room
          c.in_ok-machine.ensures.begins);
      fit = c.in_ok-machine.ensures.fit;
    }

pub send_all-requires-clause-room : goal.send_all-requires-clause-room
send_all-requires-clause-room g c =
    let class = c.args.class.now in
    let run = run_in class c.args.args in
    let rest = with_calls c.in-Makes.calls (answer_of class c.step.new.self) in
    let does : answer_of class c.loop-vars.machine ≡ rest =
    rw c.in-Makes.is at c.in_ok-step.ensures.does in
    Way.way_room g.B.Builder.has_room g.B.Builder.receives g.B.Builder.made
    g.B.Var.Numbered.number c.args.builder.now run c.loop-vars.builder c.loop-vars.vars.items
    c.in-Makes.calls (answer_of class c.step.new.self)
    (Way.on_way g.B.Builder.has_room g.B.Builder.receives g.B.Builder.made
    g.B.Var.Numbered.number c.args.builder.now run c.loop-vars.builder c.loop-vars.vars.items
    (answer_of class c.loop-vars.machine) rest c.loop-vars.invariant.way does)

pub send_all-requires-clause-sendable : goal.send_all-requires-clause-sendable
send_all-requires-clause-sendable g c =
    let class = c.args.class.now in
    let run = run_in class c.args.args in
    let rest = with_calls c.in-Makes.calls (answer_of class c.step.new.self) in
    let does : answer_of class c.loop-vars.machine ≡ rest =
    rw c.in-Makes.is at c.in_ok-step.ensures.does in
    Way.way_sendable g.B.Builder.has_room g.B.Builder.receives g.B.Builder.made
    g.B.Var.Numbered.number c.args.builder.now run c.loop-vars.builder c.loop-vars.vars.items
    c.in-Makes.calls (answer_of class c.step.new.self)
    (Way.on_way g.B.Builder.has_room g.B.Builder.receives g.B.Builder.made
    g.B.Var.Numbered.number c.args.builder.now run c.loop-vars.builder c.loop-vars.vars.items
    (answer_of class c.loop-vars.machine) rest c.loop-vars.invariant.way does)

pub loop-vars-preserved : goal.loop-vars-preserved
loop-vars-preserved g c =
    let class = c.args.class.now in
    let run = run_in class c.args.args in
    let rest = with_calls c.in-Makes.calls (answer_of class c.step.new.self) in
    let does : answer_of class c.loop-vars.machine ≡ rest =
    rw c.in-Makes.is at c.in_ok-step.ensures.does in
    record {
      way =
          Way.way_sent g.B.Builder.has_room g.B.Builder.receives g.B.Builder.made
          g.B.Var.Numbered.number c.args.builder.now run c.loop-vars.builder
          c.send_all.new.builder c.loop-vars.vars.items c.send_all.new.vars.items
          c.in-Makes.calls (answer_of class c.step.new.self)
          (Way.on_way g.B.Builder.has_room g.B.Builder.receives g.B.Builder.made
          g.B.Var.Numbered.number c.args.builder.now run c.loop-vars.builder
          c.loop-vars.vars.items (answer_of class c.loop-vars.machine) rest
          c.loop-vars.invariant.way does) c.in_ok-send_all-in-Makes.ensures;
      fit = c.in_ok-step.ensures.fit;
    }

pub returns-in_err-step : goal.returns-in_err-step
returns-in_err-step g c =
    let class = c.args.class.now in
    let r = c.from_residual-in_err-step in
    Way.way_handed g.B.Builder.has_room g.B.Builder.receives g.B.Builder.made
    g.B.Var.Numbered.number c.args.builder.now (run_in class c.args.args) c.loop-vars.builder
    c.loop-vars.vars.items (answer_of class c.loop-vars.machine) r.result c.in_err-step.field-0.0
    c.loop-vars.invariant.way c.step.new.self class c.in_err-step.ensures.does r.ensures.0
    r.ensures.1

pub returns-in_err-send_all-in-Makes : goal.returns-in_err-send_all-in-Makes
returns-in_err-send_all-in-Makes g c =
    let r = c.from_residual-in_err-send_all-in-Makes in
    Way.no_memory g.B.Builder.receives c.args.builder.now c.send_all.new.builder
    (run_in c.args.class.now c.args.args) r.result r.ensures.0 r.ensures.1
