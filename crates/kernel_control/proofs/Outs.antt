-- Outputs that are given their values.
use Rattle.std.proofs.Common.{◌≡◌, ℕ, zero, suc, ◌<◌, ◌≤◌, Bool, true, false, ◌||◌, eqb, List, [], ◌∷◌, ◌++◌, length, drop, get_or, refl, sym, ap, ◌∙◌, arith}
use Rattle.std.specs.Prelude.{All}
use Rattle.std.proofs.lemmas.Bool.{false≢true}
use Rattle.rtl_ir.specs.declared.design.Module.{Module}
use Rattle.rtl_ir.specs.declared.design.Assign.{Assign}
use Rattle.rtl_ir.specs.Grow.{Grows}
use Rattle.rtl_build.specs.declared.signal.Signal.{Signal}
use Rattle.rtl_build.specs.Ports.{Drives}
use Rattle.rtl_delays.specs.Driven.{is_driven, KeepsUndriven, LeavesUndriven}
use Rattle.rtl_delays.proofs.Lists.{or_first, or_second}
use Rattle.kernel_control.specs.declared.handshakes.Handshake.{Handshake}
use Rattle.kernel_control.specs.declared.serving.DuePort.{DuePort}
use Rattle.kernel_control.specs.Nets.{IsHandshake, told_ports}
use Rattle.kernel_control.specs.Serving.{IsDuePort}
use Rattle.kernel_control.specs.Answers.{answers_of}
use Rattle.kernel_control.specs.Outputs.{is_one_of, AreUndriven, AreDriven}

-- nets of a module of so many
abbrev pub AllUnder : ℕ → List ℕ → Type 0
AllUnder k [] = Unit {0}
AllUnder k (n ∷ ns) = (n < k) × AllUnder k ns

pub under_more : (j k : ℕ) (ns : List ℕ) → j ≤ k → AllUnder j ns → AllUnder k ns
under_more j k [] le h = tt
under_more j k (n ∷ ns) le h = (let a = h.0 in omega (arith, a), under_more j k ns le h.1)

pub told_under : (m : Module) (hs : List Handshake) → All (IsHandshake m) hs → AllUnder (length m.nets) (told_ports hs)
told_under m [] w = tt
told_under m (h ∷ hs) w = ((w 0 h (omega arith)).answer.output.net, told_under m hs (λ i d lt. w (suc i) d (omega arith)))

pub answers_under : (m : Module) (ss : List DuePort) → All (IsDuePort m) ss → AllUnder (length m.nets) (answers_of ss)
answers_under m [] w = tt
answers_under m (s ∷ ss) w = ((w 0 s (omega arith)).answer.output.net, answers_under m ss (λ i d lt. w (suc i) d (omega arith)))

pub under_left : (j k : ℕ) (ss : List DuePort) → AllUnder j (answers_of ss) → AllUnder j (answers_of (drop k ss))
under_left j zero ss h = h
under_left j (suc k) [] h = tt
under_left j (suc k) (s ∷ ss) h = under_left j k ss h.1

-- ---- what has no value yet

pub undriven_kept : (m n : Module) → KeepsUndriven m n → (ns : List ℕ) → AllUnder (length m.nets) ns → AreUndriven m ns → AreUndriven n ns
undriven_kept m n k [] u a = tt
undriven_kept m n k (x ∷ ns) u a = (k x u.0 a.0, a.1, undriven_kept m n k ns u.1 a.2)

-- two nets are the same either way
other_way : (a b : ℕ) → eqb a b ≡ false → eqb b a ≡ false
other_way a b h = by_test (eqb b a) refl
  where
    by_test : (t : Bool) → eqb b a ≡ t → eqb b a ≡ false
    by_test t e = grind (arith, e, h)

-- a net that is none of these is another one than each
not_among : (k n : ℕ) (ns : List ℕ) → is_one_of (n ∷ ns) k ≡ false → eqb k n ≡ false
not_among k n ns h = other_way n k (or_first (eqb n k) (is_one_of ns k) h)

pub undriven_left :
    (m n : Module) (k : ℕ) → LeavesUndriven m n k → (ns : List ℕ) → is_one_of ns k ≡ false → AllUnder (length m.nets) ns → AreUndriven m ns
    → AreUndriven n ns
undriven_left m n k l [] o u a = tt
undriven_left m n k l (x ∷ ns) o u a =
    (l x u.0 a.0 (not_among k x ns o), a.1, undriven_left m n k l ns (or_second (eqb x k) (is_one_of ns k) o) u.1 a.2)

-- ---- what has a value

or_more : (a b c : Bool) → (b ≡ true → c ≡ true) → a || b ≡ true → a || c ≡ true
or_more true b c f h = refl
or_more false b c f h = f h

driven_front : (n : ℕ) (xs ys : List Assign) → is_driven n xs ≡ true → is_driven n (xs ++ ys) ≡ true
driven_front n [] ys h = absurd (false≢true h)
driven_front n (x ∷ xs) ys h = or_more (eqb x.target n) (is_driven n xs) (is_driven n (xs ++ ys)) (driven_front n xs ys) h

pub driven_kept : {m n : Module} → Grows m n → (k : ℕ) → is_driven k m.assigns ≡ true → is_driven k n.assigns ≡ true
driven_kept {m} {n} g k h = ap (is_driven k) g.assigns ∙ driven_front k m.assigns g.more_assigns h

pub all_driven_kept : {m n : Module} → Grows m n → (ns : List ℕ) → AreDriven m ns → AreDriven n ns
all_driven_kept g [] h = tt
all_driven_kept g (n ∷ ns) h = (driven_kept g n h.0, all_driven_kept g ns h.1)

or_last : (a b : Bool) → b ≡ true → a || b ≡ true
or_last true b h = refl
or_last false b h = h

driven_back : (n : ℕ) (xs ys : List Assign) → is_driven n ys ≡ true → is_driven n (xs ++ ys) ≡ true
driven_back n [] ys h = h
driven_back n (x ∷ xs) ys h = or_last (eqb x.target n) (is_driven n (xs ++ ys)) (driven_back n xs ys h)

or_true : (a b : Bool) → a ≡ true → a || b ≡ true
or_true true b h = refl
or_true false b h = absurd (false≢true h)

same_net : (n : ℕ) → eqb n n ≡ true
same_net n = grind arith

pub driven_last : {m n : Module} {output source : Signal} → Drives m n output source → is_driven output.net n.assigns ≡ true
driven_last {m} {n} {output} d =
    ap (λ (x : Module). is_driven output.net x.assigns) d.is ∙ driven_back output.net m.assigns _
    (or_true (eqb output.net output.net) false (same_net output.net))

pub driven_left : (m : Module) (k : ℕ) (ss : List DuePort) → length ss ≤ k → AreDriven m (answers_of (drop k ss))
driven_left m zero [] h = tt
driven_left m (suc k) [] h = tt
driven_left m zero (s ∷ ss) h = absurd (omega arith)
driven_left m (suc k) (s ∷ ss) h = driven_left m k ss (omega arith)

-- a port is one of those that are told
pub or_front : (a b : Bool) → a || b ≡ false → a ≡ false
or_front true b h = h
or_front false b h = refl

pub or_rest : (a b : Bool) → a || b ≡ false → b ≡ false
or_rest true b h = absurd (false≢true (sym h))
or_rest false b h = h

pub answer_among : (ss : List DuePort) (i n : ℕ) (d : DuePort) → i < length ss → is_one_of (answers_of ss) n ≡ false → eqb (get_or ss i d).answer.net n ≡ false
answer_among [] i n d lt h = absurd (omega arith)
answer_among (s ∷ ss) zero n d lt h = or_front (eqb s.answer.net n) (is_one_of (answers_of ss) n) h
answer_among (s ∷ ss) (suc i) n d lt h = answer_among ss i n d (omega arith) (or_second (eqb s.answer.net n) (is_one_of (answers_of ss) n) h)
