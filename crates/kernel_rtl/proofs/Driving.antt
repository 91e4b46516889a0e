-- Outputs that are given the words of their nodes.
use Rattle.std.proofs.Common.{◌≡◌, ℕ, zero, suc, ◌+◌, ◌<◌, ◌≤◌, false, eqb, List, [], ◌∷◌, length, drop, get_or, sym, ap, ◌∙◌, subst, arith}
use Rattle.std.specs.Prelude.{All}
use Rattle.std.proofs.lemmas.List.Elements.{All-nil, All-cons}
use Rattle.rtl_ir.specs.declared.design.Module.{Module}
use Rattle.rtl_build.specs.declared.signal.Signal.{Signal}
use Rattle.rtl_build.specs.Ports.{Drives}
use Rattle.rtl_delays.specs.Extends.{Extends, AddsNoRegister}
use Rattle.rtl_delays.specs.Stored.{stored_bits}
use Rattle.rtl_delays.proofs.Extends.{more_nets, extends_on, drive_extends}
use Rattle.rtl_delays.proofs.Kept.{drive_no_register, no_register_on}
use Rattle.rtl_delays.proofs.Lists.{or_first, or_second}
use Rattle.rtl_delays.proofs.Stored.{drive_stored}
use Rattle.rtl_delays.proofs.Undriven.{drive_undriven}
use Rattle.kernel_control.specs.Outputs.{is_one_of, AreUndriven, AreDriven, DrivesAtMost}
use Rattle.kernel_control.proofs.Outs.{AllUnder, undriven_left, driven_last, driven_kept}
use Rattle.kernel_stages.proofs.Lists.{drop_front, drop_all}
use Rattle.kernel_ports.specs.declared.signals.StreamSignals.{StreamSignals}
use Rattle.kernel_wiring.specs.Words.{signal_at}
use Rattle.kernel_rtl.specs.Words.{data_nets, MayBeDriven, IsDriven}

-- what stands past the last port
abbrev pub no_stream : StreamSignals
no_stream = record { node = 0; word = record { net = 0; width = 0 }; valid = record { net = 0; width = 0 }; ready = record { net = 0; width = 0 } }

pub may_kept : (m n : Module) (words : List Signal) (port : StreamSignals) → Extends m n → MayBeDriven m words port → MayBeDriven n words port
may_kept m n words port e h = record {
  node = h.node;
  output = e.outputs port.word h.output;
  source = e.keeps (signal_at words port.node) h.source;
  same = h.same;
}

data_under : (m : Module) (words : List Signal) (ys : List StreamSignals) → All (MayBeDriven m words) ys → AllUnder (length m.nets) (data_nets ys)
data_under m words [] h = tt
data_under m words (y ∷ ys) h = ((h 0 y (omega arith)).output.net, data_under m words ys (λ i d lt. h (suc i) d (omega arith)))

all_left : {A : Type 0} (P : A → Type 0) (k : ℕ) (xs : List A) → All P xs → All P (drop k xs)
all_left P zero xs h = h
all_left P (suc k) [] h = All-nil P
all_left P (suc k) (x ∷ xs) h = all_left P k xs (λ i d lt. h (suc i) d (omega arith))

data_among : (ys : List StreamSignals) (i n : ℕ) (d : StreamSignals) → i < length ys → is_one_of (data_nets ys) n ≡ false
    → eqb (get_or ys i d).word.net n ≡ false
data_among [] i n d lt h = absurd (omega arith)
data_among (y ∷ ys) zero n d lt h = or_first (eqb y.word.net n) (is_one_of (data_nets ys) n) h
data_among (y ∷ ys) (suc i) n d lt h = data_among ys i n d (omega arith) (or_second (eqb y.word.net n) (is_one_of (data_nets ys) n) h)

-- what holds after some of the ports
pub record AreDrivenSo (old now : Module) (words : List Signal) (k : ℕ) (outputs : List StreamSignals) : Type 0 where
  pub extends : Extends old now
  pub updates : now.updates ≡ old.updates
  pub stored : stored_bits now ≡ stored_bits old
  pub nets : now.nets ≡ old.nets
  pub registers : AddsNoRegister old now
  pub leaves : DrivesAtMost old now (data_nets outputs)
  pub undriven : AreUndriven now (data_nets (drop k outputs))
  pub driven : (m : Module) → Extends now m → AreDriven m (data_nets (drop k outputs)) → AreDriven m (data_nets outputs)
  pub shows : (m : Module) → Extends now m → All (IsDriven m words) (drop k outputs) → All (IsDriven m words) outputs

pub one_undriven : (old now : Module) (words : List Signal) (k : ℕ) (outputs : List StreamSignals) → AreDrivenSo old now words k outputs → k < length outputs
    → AreUndriven now (data_nets (get_or outputs k no_stream ∷ drop (k + 1) outputs))
one_undriven old now words k outputs h lt = subst (λ ss. AreUndriven now (data_nets ss)) (drop_front outputs k no_stream lt) h.undriven

pub one_driven : (old now new : Module) (words : List Signal) (k : ℕ) (outputs : List StreamSignals) → AreDrivenSo old now words k outputs
    → k < length outputs
    → All (MayBeDriven old words) outputs
    → Drives now new (get_or outputs k no_stream).word (signal_at words (get_or outputs k no_stream).node)
    → AreDrivenSo old new words (k + 1) outputs
one_driven old now new words k outputs h lt may d =
    let port = get_or outputs k no_stream in
    let may_now = may_kept old now words port h.extends (may k no_stream lt) in
    let free = one_undriven old now words k outputs h lt in
    let e = drive_extends h.extends.sound may_now.output may_now.source may_now.same free.0 d in
    let all_now : All (MayBeDriven now words) outputs = λ i x li. may_kept old now words (get_or outputs i x) h.extends (may i x li) in
    let under = data_under now words (drop (k + 1) outputs) (all_left (MayBeDriven now words) (k + 1) outputs all_now) in
    let front = drop_front outputs k no_stream lt in
    record {
      extends = extends_on h.extends e;
      updates = ap (λ (x : Module). x.updates) d.is ∙ h.updates;
      stored = drive_stored d ∙ h.stored;
      nets = ap (λ (x : Module). x.nets) d.is ∙ h.nets;
      registers = no_register_on old now new h.registers (drive_no_register d);
      leaves = λ x lx free_x none. drive_undriven d x (let a = more_nets h.extends.grows in omega (arith, a, lx)) (h.leaves x lx free_x none)
          (data_among outputs k x no_stream lt none);
      undriven = undriven_left now new port.word.net (drive_undriven d) (data_nets (drop (k + 1) outputs)) free.1 under free.2;
      driven = λ m x q. h.driven m (extends_on e x) (subst (λ ss. AreDriven m (data_nets ss)) (sym front)
          (driven_kept x.grows port.word.net (driven_last d), q));
      shows = λ m x q. h.shows m (extends_on e x) (subst (All (IsDriven m words)) (sym front)
          (All-cons (IsDriven m words) port (drop (k + 1) outputs) (λ c v held. d.value c v (x.before c v held)) q));
    }

pub none_left : (m : Module) (words : List Signal) (k : ℕ) (outputs : List StreamSignals) → length outputs ≤ k → AreDriven m (data_nets (drop k outputs))
none_left m words k outputs le = subst (λ ss. AreDriven m (data_nets ss)) (sym (drop_all outputs k le)) tt

pub none_shown : (m : Module) (words : List Signal) (k : ℕ) (outputs : List StreamSignals) → length outputs ≤ k → All (IsDriven m words) (drop k outputs)
none_shown m words k outputs le = subst (All (IsDriven m words)) (sym (drop_all outputs k le)) (All-nil (IsDriven m words))
