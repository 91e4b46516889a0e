-- What stays where a module grows, and what is so of the modules of the tests.
use Rattle.std.proofs.Common.{
  ◌≡◌,
  ℕ,
  zero,
  suc,
  ◌+◌,
  ◌-◌,
  ◌<◌,
  ◌≤◌,
  ◌^◌,
  Bool,
  false,
  ◌||◌,
  eqb,
  List,
  [],
  ◌∷◌,
  Option,
  Some,
  None,
  length,
  refl,
  ap,
  ◌∙◌,
  arith,
  length-append,
}
use Rattle.std.specs.Prelude.{All, codes}
use Rattle.std.proofs.lemmas.Bool.{ne_eqb}
use Rattle.rtl_ir.specs.declared.design.Module.{Module}
use Rattle.rtl_build.specs.declared.signal.Signal.{Signal}
use Rattle.rtl_build.specs.Signals.{HasSignal}
use Rattle.rtl_build.specs.Ports.{HasOutput, AddsPort}
use Rattle.rtl_build.specs.Storage.{AddsRegister}
use Rattle.rtl_delays.specs.declared.elements.Element.{Element}
use Rattle.rtl_delays.specs.declared.elements.Element.TheVariants.{Register, Ring}
use Rattle.rtl_delays.specs.Extends.{Extends}
use Rattle.rtl_delays.specs.Driven.{is_driven}
use Rattle.rtl_delays.specs.Names.{Position}
use Rattle.rtl_delays.specs.Partial.{HasPortsAlone}
use Rattle.rtl_delays.specs.Elements.{shown, HasElement}
use Rattle.rtl_delays.proofs.Extends.{register_extends}
use Rattle.rtl_delays.proofs.Begun.{port_alone, no_position}
use Rattle.kernel_stages.specs.Numbers.{AreRising, IsWidth}
use Rattle.kernel_stages.specs.declared.node.NodeDelays.{NodeDelays}
use Rattle.kernel_stages.specs.Closing.{AreWords}
use Rattle.kernel_control.specs.declared.handshakes.Handshake.{Handshake}
use Rattle.kernel_control.specs.Nets.{HasWidth, HasBitOutput, MayEnable, IsHandshake}
use Rattle.kernel_control.specs.Outputs.{AreUndriven}
use Rattle.kernel_parts_tests.specs.declared.signals.Inputs.{Inputs}
use Rattle.kernel_parts_tests.specs.declared.signals.Frame.{Frame}
use Rattle.kernel_parts_tests.specs.Beds.{AddsPorts, HasInputs, HasFrame}

-- a width and its signal
pub width_on : {m n : Module} {w : ℕ} {s : Signal} → ((t : Signal) → HasSignal m t → HasSignal n t) → HasWidth m w s → HasWidth n w s
width_on {m} {n} {w} {s} k h = record { signal = k s h.signal; width = h.width }

pub bit_on : {m n : Module} {s : Signal} → ((t : Signal) → HasOutput m t → HasOutput n t) → HasBitOutput m s → HasBitOutput n s
bit_on {m} {n} {s} k h = record { output = k s h.output; bit = h.bit }

pub inputs_on : {m n : Module} {i : Inputs} → Extends m n → HasInputs m i → HasInputs n i
inputs_on e h = record { sound = e.sound; run = width_on e.keeps h.run; reset = width_on e.keeps h.reset; narrow = width_on e.keeps h.narrow; wide = width_on e.keeps h.wide }

pub frame_on : {m n : Module} {f : Frame} → ((t : Signal) → HasSignal m t → HasSignal n t) → ((t : Signal) → HasOutput m t → HasOutput n t) → HasFrame m f → HasFrame n f
frame_on k o h = record { reset = width_on k h.reset; ticks = width_on k h.ticks; hold = width_on k h.hold; ended = bit_on o h.ended }

pub may_enable_on : {m n : Module} → (enable : Option Signal) → ((t : Signal) → HasSignal m t → HasSignal n t) → MayEnable m enable → MayEnable n enable
may_enable_on None k h = tt
may_enable_on (Some s) k h = width_on k h

pub handshake_on : {m n : Module} {h : Handshake} → ((t : Signal) → HasSignal m t → HasSignal n t) → ((t : Signal) → HasOutput m t → HasOutput n t)
    → IsHandshake m h → IsHandshake n h
handshake_on {h = p} k o h = record {
  small = h.small;
  enable = may_enable_on p.enable k h.enable;
  waits_for = width_on k h.waits_for;
  answer = bit_on o h.answer;
}

-- ---- ports

pub adds_port : {m n : Module} {name : List ℕ} {w : ℕ} {output : Bool} {s : Signal} → HasPortsAlone m → 1 ≤ w → w ≤ 128 → AddsPort m n name w output s → AddsPorts m n
adds_port {m} {n} {name} {w} {output} {s} h some most a = record {
  alone = port_alone h some most a;
  nets = let e : length n.nets ≡ length m.nets + 1 = ap (λ (x : Module). length x.nets) a.is ∙ length-append m.nets _ in omega (arith, e);
  keeps = a.keeps;
  outputs = a.outputs;
}

pub adds_on : {l m n : Module} → AddsPorts l m → AddsPorts m n → AddsPorts l n
adds_on {l} {m} {n} a b = record {
  alone = b.alone;
  nets = let x = a.nets in let y = b.nets in omega (arith, x, y);
  keeps = λ t h. b.keeps t (a.keeps t h);
  outputs = λ t h. b.outputs t (a.outputs t h);
}

-- ---- the control's outputs

either_false : (x y : Bool) → x ≡ false → y ≡ false → x || y ≡ false
either_false x y e f = ap (λ z. z || y) e ∙ f

pub three_undriven : (m : Module) (a b c : ℕ) → m.assigns ≡ [] → a < b → b < c → AreUndriven m (a ∷ b ∷ c ∷ [])
three_undriven m a b c e x y = (
  ap (is_driven a) e,
  either_false (eqb b a) (eqb c a || false) (ne_eqb b a (λ q. omega (arith, q, x))) (either_false (eqb c a) false (ne_eqb c a (λ q. omega (arith, q, x, y))) refl),
  (
    ap (is_driven b) e,
    either_false (eqb c b) false (ne_eqb c b (λ q. omega (arith, q, y))) refl,
    (ap (is_driven c) e, refl, tt),
  ),
)

pub all_two : {A : Type 0} (P : A → Type 0) (a b : A) → P a → P b → All P (a ∷ b ∷ [])
all_two P a b p q zero d lt = p
all_two P a b p q (suc zero) d lt = q
all_two P a b p q (suc (suc i)) d lt = absurd (omega (arith, lt))

-- the position is the first net past the ports
pub position_extends : {m n : Module} {name : List ℕ} {s : Signal} → HasPortsAlone m → name ≡ codes "position" → AddsRegister m n name 48 s → Extends m n
position_extends {m} h is a = register_extends h.partial.sound (Position is (no_position m h.nets)) a

-- ---- delays

pub shown_signal : (m : Module) (e : Element) → HasElement m e → HasSignal m (shown e)
shown_signal m (Register s) h = h.0
shown_signal m (Ring r) h = h.word

-- ---- stages

all_one : {A : Type 0} (P : A → Type 0) (a : A) → P a → All P (a ∷ [])
all_one P a p zero d lt = p
all_one P a p (suc i) d lt = absurd (omega (arith, lt))

rising_one : (wait : ℕ) → 0 < wait → wait ≤ 2 ^ 28 → AreRising (wait ∷ [])
rising_one wait some few = record {
  rising = λ k lt. absurd (omega (arith, lt));
  positive = all_one (λ s. 0 < s) wait some;
  near = all_one (λ d. d ≤ 2 ^ 28) (wait - 0) (omega (arith, few));
}

pub all_rising : All AreRising ((5 ∷ []) ∷ (3 ∷ []) ∷ [])
all_rising = all_two AreRising (5 ∷ []) (3 ∷ []) (rising_one 5 (omega arith) (omega arith)) (rising_one 3 (omega arith) (omega arith))

pub all_widths : All IsWidth (8 ∷ 16 ∷ [])
all_widths = all_two IsWidth 8 16 (record { some = omega arith; at_most = omega arith }) (record { some = omega arith; at_most = omega arith })

-- the words of two nodes
pub two_words : (m : Module) (a b : Signal) (delays : List NodeDelays) → length delays ≡ 2 → HasWidth m 8 a → HasWidth m 16 b
    → AreWords m (8 ∷ 16 ∷ []) (a ∷ b ∷ []) delays
two_words m a b [] size x y u lt = absurd (omega (arith, size))
two_words m a b (c ∷ ds) size x y zero lt = (x.signal, x.width)
two_words m a b (c ∷ ds) size x y (suc zero) lt = (y.signal, y.width)
two_words m a b (c ∷ []) size x y (suc (suc u)) lt = absurd (omega (arith, size))
two_words m a b (c ∷ d ∷ []) size x y (suc (suc u)) lt = absurd (omega (arith, lt))
two_words m a b (c ∷ d ∷ e ∷ es) size x y (suc (suc u)) lt = absurd (omega (arith, size))
