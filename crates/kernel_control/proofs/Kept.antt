-- Nets that a growing module keeps.
use Rattle.std.proofs.Common.{◌≡◌, ℕ, ◌+◌, ◌≤◌, List, Option, Some, None, length, ap, ◌∙◌, arith, length-append}
use Rattle.std.specs.Prelude.{All}
use Rattle.rtl_ir.specs.declared.design.Module.{Module}
use Rattle.rtl_ir.specs.declared.design.Update.{Update}
use Rattle.rtl_ir.specs.Grow.{Grows}
use Rattle.rtl_ir.proofs.Grow.{width_kept}
use Rattle.rtl_build.specs.declared.signal.Signal.{Signal}
use Rattle.rtl_build.specs.Wires.{is_output}
use Rattle.rtl_build.specs.Ports.{HasOutput, Drives}
use Rattle.rtl_build.specs.Storage.{AddsUpdate}
use Rattle.rtl_build.proofs.Growing.{signal_kept}
use Rattle.kernel_control.specs.declared.handshakes.Handshake.{Handshake}
use Rattle.kernel_control.specs.declared.serving.DuePort.{DuePort}
use Rattle.kernel_control.specs.Nets.{HasWidth, HasBitOutput, MayEnable, IsHandshake}
use Rattle.kernel_control.specs.Serving.{IsDuePort}

pub more_nets : {m n : Module} → Grows m n → length m.nets ≤ length n.nets
more_nets {m} {n} g = let size : length n.nets ≡ length m.nets + length g.more_nets = ap length g.nets ∙ length-append m.nets g.more_nets in omega (arith, size)

-- an output that is given its value is no new net
pub drive_nets : {m n : Module} {output source : Signal} → Drives m n output source → length n.nets ≡ length m.nets
drive_nets d = ap (λ (x : Module). length x.nets) d.is

-- nor is a register that is written
pub update_nets : {m n : Module} {u : Update} → AddsUpdate m n u → length n.nets ≡ length m.nets
update_nets a = ap (λ (x : Module). length x.nets) a.is

output_kept : {m n : Module} {s : Signal} → Grows m n → HasOutput m s → HasOutput n s
output_kept {m} {n} {s} g h = record {
  net = let a = more_nets g in let b = h.net in omega (arith, a, b);
  output = ap (λ ps. is_output ps s.net) g.ports ∙ h.output;
  width = width_kept m n g s.net h.net ∙ h.width;
}

pub has_width_kept : {m n : Module} {w : ℕ} {s : Signal} → Grows m n → HasWidth m w s → HasWidth n w s
has_width_kept {m} {n} {w} {s} g h = record { signal = signal_kept m n g s h.signal; width = h.width }

pub bit_output_kept : {m n : Module} {s : Signal} → Grows m n → HasBitOutput m s → HasBitOutput n s
bit_output_kept g h = record { output = output_kept g h.output; bit = h.bit }

pub due_port_kept : {m n : Module} {s : DuePort} → Grows m n → IsDuePort m s → IsDuePort n s
due_port_kept g h = record {
  due = has_width_kept g h.due;
  waits_for = has_width_kept g h.waits_for;
  answer = bit_output_kept g h.answer;
}

pub may_enable_kept : {m n : Module} → Grows m n → (enable : Option Signal) → MayEnable m enable → MayEnable n enable
may_enable_kept g None h = tt
may_enable_kept g (Some s) h = has_width_kept g h

pub handshake_kept : {m n : Module} {h : Handshake} → Grows m n → IsHandshake m h → IsHandshake n h
handshake_kept {h = h} g q = record {
  small = q.small;
  enable = may_enable_kept g h.enable q.enable;
  waits_for = has_width_kept g q.waits_for;
  answer = bit_output_kept g q.answer;
}

pub due_ports_kept : {m n : Module} → Grows m n → (ss : List DuePort) → All (IsDuePort m) ss → All (IsDuePort n) ss
due_ports_kept g ss h i d lt = due_port_kept g (h i d lt)

pub handshakes_kept : {m n : Module} → Grows m n → (hs : List Handshake) → All (IsHandshake m) hs → All (IsHandshake n) hs
handshakes_kept g hs h i d lt = handshake_kept g (h i d lt)
