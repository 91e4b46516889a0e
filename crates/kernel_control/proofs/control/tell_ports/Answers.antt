use Rattle.std.proofs.Common.{◌≡◌, ℕ, ◌+◌, ◌*◌, ◌≤◌, ◌%◌, ◌^◌, List, ltb, eqb, not, length, sym, ap, ◌∙◌, subst, arith}
use Rattle.std.specs.Prelude.{All}
use Rattle.rtl_ir.specs.declared.design.Module.{Module}
use Rattle.rtl_ir.specs.Value.{bit}
use Rattle.rtl_ir.specs.Grow.{Grows}
use Rattle.rtl_ir.proofs.Grow.{grows_on}
use Rattle.rtl_build.specs.declared.signal.Signal.{Signal}
use Rattle.rtl_build.specs.Signals.{HasSignal}
use Rattle.rtl_build.specs.Wires.{AddsWires}
use Rattle.rtl_build.specs.Ports.{Drives}
use Rattle.rtl_build.proofs.Growing.{adds_on}
use Rattle.rtl_delays.specs.Steps.{IsSound}
use Rattle.rtl_delays.specs.Extends.{Extends}
use Rattle.rtl_delays.proofs.Extends.{wires_extends, drive_extends, extends_on}
use Rattle.rtl_delays.proofs.Undriven.{wires_undriven, drive_undriven}
use Rattle.rtl_delays.proofs.Stored.{wires_stored, drive_stored}
use Rattle.kernel_control.specs.declared.handshakes.Handshake.{Handshake}
use Rattle.kernel_control.specs.declared.handshakes.ControlNets.{ControlNets}
use Rattle.kernel_control.specs.declared.serving.DuePort.{DuePort}
use Rattle.kernel_control.specs.Nets.{IsHandshake, AreControlNets, told_ports, told_nets}
use Rattle.kernel_control.specs.Outputs.{is_one_of, AreUndriven, AreDriven}
use Rattle.kernel_control.specs.Due.{AreDuePorts}
use Rattle.kernel_control.specs.Serving.{IsDuePort}
use Rattle.kernel_control.specs.Answers.{AnswersAll}
use Rattle.kernel_control.proofs.Kept.{more_nets, drive_nets, has_width_kept, bit_output_kept, due_ports_kept, handshakes_kept}
use Rattle.kernel_control.proofs.Listing.{due_ports_on, each_due_port, due_ports_length, same_answers}
use Rattle.kernel_control.proofs.Outs.{told_under, under_more, undriven_kept, undriven_left, driven_kept, driven_last, or_front, or_rest}
use Rattle.kernel_control.proofs.Built.{are_small, latest_small}
use Rattle.kernel_control.proofs.Telling.{controls}
use Rattle.kernel_control.proofs.control.tell_ports.Goals as goal

-- wires, and twice more wires
three : {l m n o : Module} {i j k : ℕ} → AddsWires l m i → AddsWires m n j → AddsWires n o k → AddsWires l o (i + (j + k))
three {l} {m} {n} {o} {i} {j} {k} a b d = adds_on l m o i (j + k) (i + (j + k)) a (adds_on m n o j k (j + k) b d (omega arith)) (omega arith)

due_of :
    (m : Module) (nets : ControlNets) (hs : List Handshake) (made ss : List DuePort) → ss ≡ made → AreDuePorts m nets.position.net nets.ticks.net hs made
    → AreDuePorts m nets.position.net nets.ticks.net hs ss
due_of m nets hs made ss e a = subst (AreDuePorts m nets.position.net nets.ticks.net hs) (sym e) a

-- the ports that are due in a module that grew further
waiting_on :
    {l m n : Module} → Grows l m → Grows m n → (nets : ControlNets) (hs : List Handshake) (ss : List DuePort)
    → AreDuePorts m nets.position.net nets.ticks.net hs ss → All (IsHandshake l) hs → All (IsDuePort n) ss
waiting_on {l} {m} {n} g h nets hs ss due w = due_ports_kept h ss (each_due_port m nets.position.net nets.ticks.net hs ss due (handshakes_kept g hs w))

told_of :
    {l m : Module} {k : ℕ} {nets : ControlNets} (hs : List Handshake) → AddsWires l m k → AreControlNets l nets → All (IsHandshake l) hs → AreUndriven l
    (told_nets nets hs) → AreUndriven m (told_nets nets hs)
told_of {l} {m} {k} {nets} hs adds q w free = undriven_kept l m (wires_undriven adds) (told_nets nets hs) (q.ended.output.net, told_under l hs w) free

-- once it is said whether the kernel has ended
ended_extends :
    {l m n : Module} {k : ℕ} {nets : ControlNets} {s : Signal} (hs : List Handshake) → IsSound l → AddsWires l m k → AreControlNets l nets → All
    (IsHandshake l) hs → AreUndriven l (told_nets nets hs) → HasSignal m s → s.width ≡ 1
    → Drives m n nets.ended s → Extends m n
ended_extends {l} {m} {n} {k} {nets} {s} hs sound adds q w free has one d =
    drive_extends (wires_extends sound adds).sound (bit_output_kept adds.grows q.ended).output has (one ∙ sym q.ended.bit) (told_of hs adds q w free).0 d

-- the ports have no answers yet
told_free :
    {l m n : Module} {k : ℕ} {nets : ControlNets} {s : Signal} (hs : List Handshake) → AddsWires l m k → AreControlNets l nets → All (IsHandshake l) hs
    → AreUndriven l (told_nets nets hs) → Drives m n nets.ended s → AreUndriven n (told_ports hs)
told_free {l} {m} {n} {k} {nets} hs adds q w free d =
    let f = told_of hs adds q w free in
    undriven_left m n nets.ended.net (drive_undriven d) (told_ports hs) f.1
    (under_more (length l.nets) (length m.nets) (told_ports hs) (more_nets adds.grows) (told_under l hs w)) f.2

-- the wires of the control, for so many ports, and one for each port's answer
told_nets_count :
    {l m n o : Module} {output s : Signal} {run : ℕ} (k : ℕ) (ss : List DuePort) → AddsWires l m (7 * k + (4 + (3 * length ss + 3))) → Drives m n output s
    → AnswersAll n o run ss → length ss ≡ k → length o.nets ≤ length l.nets + 11 * k + 7
told_nets_count k ss adds d a size =
    let wires = adds.count in
    let drives = drive_nets d in
    let answers = a.nets in
    omega (arith, wires, drives, answers, size)

pub due_ports-requires-clause-position : goal.due_ports-requires-clause-position
due_ports-requires-clause-position c = record { signal = c.requires.nets.position.signal; width = c.requires.nets.position.width }

pub past-requires-clause-position : goal.past-requires-clause-position
past-requires-clause-position c = has_width_kept c.in_ok-made.ensures.adds.grows
    (record { signal = c.requires.nets.position.signal; width = c.requires.nets.position.width })

pub past-requires-clause-ticks : goal.past-requires-clause-ticks
past-requires-clause-ticks c = has_width_kept c.in_ok-made.ensures.adds.grows c.requires.nets.ticks

pub past-requires-clause-small : goal.past-requires-clause-small
past-requires-clause-small c =
    let a = latest_small c.args.ports.now (are_small c.args.netlist.now c.args.ports.now c.requires.ports) in
    omega (arith, a, c.latest.ensures)

pub advance-requires-clause-hold : goal.advance-requires-clause-hold
advance-requires-clause-hold c = has_width_kept (grows_on _ _ _ c.in_ok-made.ensures.adds.grows c.in_ok-ended.ensures.adds.grows) c.requires.nets.hold

pub advance-requires-clause-ended : goal.advance-requires-clause-ended
advance-requires-clause-ended c = record { signal = c.in_ok-ended.ensures.signal; width = c.in_ok-ended.ensures.width }

pub advance-requires-clause-ports : goal.advance-requires-clause-ports
advance-requires-clause-ports c =
    let made = c.in_ok-made.ensures in
    let due = due_of c.due_ports.new.netlist c.args.nets c.args.ports.now _ c.as_slice-waiting.result.now c.as_slice-waiting.ensures.value made.due in
    waiting_on made.adds.grows c.in_ok-ended.ensures.adds.grows c.args.nets c.args.ports.now c.as_slice-waiting.result.now due c.requires.ports

pub drive-requires-clause-output : goal.drive-requires-clause-output
drive-requires-clause-output c =
    let adds = three c.in_ok-made.ensures.adds c.in_ok-ended.ensures.adds c.in_ok-run.ensures.adds in
    (bit_output_kept adds.grows c.requires.nets.ended).output

pub drive-requires-clause-source : goal.drive-requires-clause-source
drive-requires-clause-source c = c.in_ok-run.ensures.keeps _ c.in_ok-ended.ensures.signal

pub drive-requires-clause-same : goal.drive-requires-clause-same
drive-requires-clause-same c = c.in_ok-ended.ensures.width ∙ sym c.requires.nets.ended.bit

pub answer_all-requires-clause-sound : goal.answer_all-requires-clause-sound
answer_all-requires-clause-sound c =
    let q = c.requires in
    let adds = three c.in_ok-made.ensures.adds c.in_ok-ended.ensures.adds c.in_ok-run.ensures.adds in
    let ended = c.in_ok-ended.ensures in
    (ended_extends c.args.ports.now q.sound adds q.nets q.ports q.undriven (c.in_ok-run.ensures.keeps _ ended.signal) ended.width c.in_ok-drive.ensures).sound

pub answer_all-requires-clause-run : goal.answer_all-requires-clause-run
answer_all-requires-clause-run c =
    let q = c.requires in
    let adds = three c.in_ok-made.ensures.adds c.in_ok-ended.ensures.adds c.in_ok-run.ensures.adds in
    let ended = c.in_ok-ended.ensures in
    let run = c.in_ok-run.ensures in
    has_width_kept (ended_extends c.args.ports.now q.sound adds q.nets q.ports q.undriven
    (run.keeps _ ended.signal) ended.width c.in_ok-drive.ensures).grows (record { signal = run.signal; width = run.width })

pub answer_all-requires-clause-ports : goal.answer_all-requires-clause-ports
answer_all-requires-clause-ports c =
    let q = c.requires in
    let made = c.in_ok-made.ensures in
    let ended = c.in_ok-ended.ensures in
    let run = c.in_ok-run.ensures in
    let adds = three made.adds ended.adds run.adds in
    let last = (ended_extends c.args.ports.now q.sound adds q.nets q.ports q.undriven (run.keeps _ ended.signal) ended.width c.in_ok-drive.ensures).grows in
    let due = due_of c.due_ports.new.netlist c.args.nets c.args.ports.now _ c.as_slice-waiting.result.now c.as_slice-waiting.ensures.value made.due in
    waiting_on made.adds.grows
    (grows_on _ _ _ ended.adds.grows (grows_on _ _ _ run.adds.grows last)) c.args.nets c.args.ports.now c.as_slice-waiting.result.now due q.ports

pub answer_all-requires-clause-undriven : goal.answer_all-requires-clause-undriven
answer_all-requires-clause-undriven c =
    let q = c.requires in
    let made = c.in_ok-made.ensures in
    let adds = three made.adds c.in_ok-ended.ensures.adds c.in_ok-run.ensures.adds in
    let due = due_of c.due_ports.new.netlist c.args.nets c.args.ports.now _ c.as_slice-waiting.result.now c.as_slice-waiting.ensures.value made.due in
    let same = same_answers c.due_ports.new.netlist c.args.nets.position.net c.args.nets.ticks.net c.args.ports.now c.as_slice-waiting.result.now due in
    subst (AreUndriven c.drive.new.self) (sym same) (told_free c.args.ports.now adds q.nets q.ports q.undriven c.in_ok-drive.ensures)

pub returns : goal.returns
returns c =
    let q = c.requires in
    let nets = c.args.nets in
    let hs = c.args.ports.now in
    let p = nets.position.net in
    let t = nets.ticks.net in
    let made = c.in_ok-made.ensures in
    let ended = c.in_ok-ended.ensures in
    let run = c.in_ok-run.ensures in
    let d = c.in_ok-drive.ensures in
    let a = c.in_ok-answer_all.ensures in
    let r = c.in_ok-run.run' in
    let adds = three made.adds ended.adds run.adds in
    let e3 = wires_extends q.sound adds in
    let e4 = ended_extends c.args.ports.now q.sound adds q.nets q.ports q.undriven (run.keeps _ ended.signal) ended.width d in
    let e45 = extends_on e4 a.extends in
    let m1 = c.due_ports.new.netlist in
    let m5 = c.answer_all.new.netlist in
    let ss = c.as_slice-waiting.result.now in
    let due = due_of m1 nets hs _ ss c.as_slice-waiting.ensures.value made.due in
    let same = same_answers m1 p t hs ss due in
    record {
      extends = extends_on e3 e45;
      run = has_width_kept e45.grows (record { signal = run.signal; width = run.width });
      updates = a.updates ∙ ap (λ (x : Module). x.updates) d.is ∙ adds.updates;
      stored = a.stored ∙ drive_stored d ∙ wires_stored adds;
      leaves = λ k lt h o.
          let n3 = more_nets adds.grows in
          let n4 = more_nets e4.grows in
          a.leaves k (omega (arith, lt, n3, n4))
          (drive_undriven d k (omega (arith, lt, n3)) (wires_undriven adds k lt h) (or_front (eqb nets.ended.net k) (is_one_of (told_ports hs) k) o))
          (ap (λ ns. is_one_of ns k) same ∙ or_rest (eqb nets.ended.net k) (is_one_of (told_ports hs) k) o);
      driven = (driven_kept a.extends.grows nets.ended.net (driven_last d), subst (AreDriven m5) same a.driven);
      added = told_nets_count (length hs) ss adds d a (due_ports_length m1 p t hs ss due);
      shows = λ k v h.
          let h4 = a.extends.before k v h in
          let h3 = d.before k v h4 in
          let h2 = run.before k v h3 in
          controls m5 p t nets.hold.net nets.ended.net c.in_ok-ended.ended.net r.net hs ss
          (due_ports_on m1 m5 p t (grows_on _ _ _ ended.adds.grows (grows_on _ _ _ run.adds.grows e45.grows))
          (λ k v h. ended.before k v (run.before k v (e45.before k v h))) hs ss due)
          a.told k v h
          (ended.value k v h2 ∙ ap (λ n. bit (not (ltb (v p) ((n + v t) % 2 ^ 48)))) c.latest.ensures) (d.value k v h4) (run.value k v h3);
    }
