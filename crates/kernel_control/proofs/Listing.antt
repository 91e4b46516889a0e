-- Ports one after another.
use Rattle.std.proofs.Common.{
  ◌≡◌,
  ℕ,
  zero,
  suc,
  ◌+◌,
  ◌<◌,
  ◌≤◌,
  Bool,
  None,
  List,
  [],
  ◌∷◌,
  ◌++◌,
  length,
  take,
  drop,
  get_or,
  refl,
  sym,
  ap,
  ◌∙◌,
  subst,
  arith,
  add-one,
  drop-cons,
}
use Rattle.std.specs.Prelude.{All}
use Rattle.rtl_ir.specs.declared.design.Module.{Module}
use Rattle.rtl_ir.specs.Value.{Family, Contents}
use Rattle.rtl_ir.specs.Grow.{Grows, Holds}
use Rattle.rtl_build.specs.declared.signal.Signal.{Signal}
use Rattle.kernel_control.specs.declared.handshakes.Handshake.{Handshake}
use Rattle.kernel_control.specs.declared.serving.DuePort.{DuePort}
use Rattle.kernel_control.specs.Nets.{HasWidth, HasBitOutput, IsHandshake, told_ports}
use Rattle.kernel_control.specs.Serving.{all_serve, IsDuePort}
use Rattle.kernel_control.specs.Due.{latest_time, IsDuePortOf, AreDuePorts}
use Rattle.kernel_control.specs.Answers.{answers_of, AreTold}
use Rattle.kernel_control.proofs.Kept.{has_width_kept}

abbrev no_signal : Signal
no_signal = record { net = 0; width = 0 }

abbrev pub no_port : DuePort
no_port = record { due = record { net = 0; width = 0 }; waits_for = record { net = 0; width = 0 }; answer = record { net = 0; width = 0 } }

abbrev pub no_handshake : Handshake
no_handshake = record { time = 0; enable = None; waits_for = record { net = 0; width = 0 }; answer = record { net = 0; width = 0 } }

-- ---- lists

pub drop_front : (ss : List DuePort) (i : ℕ) (d : DuePort) → i < length ss → drop i ss ≡ get_or ss i d ∷ drop (i + 1) ss
drop_front ss i d h = rw (add-one, drop-cons ss i d) refl

pub handshakes_front : (hs : List Handshake) (i : ℕ) (d : Handshake) → i < length hs → drop i hs ≡ get_or hs i d ∷ drop (i + 1) hs
handshakes_front hs i d h = rw (add-one, drop-cons hs i d) refl

take_suc : (xs : List Handshake) (i : ℕ) (d : Handshake) → i < length xs → take (suc i) xs ≡ take i xs ++ get_or xs i d ∷ []
take_suc [] i d h = absurd (omega arith)
take_suc (x ∷ xs) zero d h = refl
take_suc (x ∷ xs) (suc i) d h = ap (λ ys. x ∷ ys) (take_suc xs i d (omega arith))

pub take_next : (xs : List Handshake) (i : ℕ) (d : Handshake) → i < length xs → take (i + 1) xs ≡ take i xs ++ get_or xs i d ∷ []
take_next xs i d h = ap (λ k. take k xs) (add-one i) ∙ take_suc xs i d h

pub take_whole : (xs : List Handshake) (k : ℕ) → length xs ≤ k → take k xs ≡ xs
take_whole [] zero h = refl
take_whole [] (suc k) h = refl
take_whole (x ∷ xs) zero h = absurd (omega arith)
take_whole (x ∷ xs) (suc k) h = ap (λ ys. x ∷ ys) (take_whole xs k (omega arith))

pub none_left : (b : Bool) (v : Family) (k : ℕ) (ss : List DuePort) → length ss ≤ k → all_serve b (drop k ss) v ≡ b
none_left b v zero [] h = refl
none_left b v (suc k) [] h = refl
none_left b v zero (s ∷ ss) h = absurd (omega arith)
none_left b v (suc k) (s ∷ ss) h = none_left b v k ss (omega arith)

-- ---- ports that are due

pub due_ports_on : (m n : Module) (p t : ℕ) → Grows m n → ((c : Contents) (v : Family) → Holds n c v → Holds m c v)
    → (hs : List Handshake) (ss : List DuePort) → AreDuePorts m p t hs ss → AreDuePorts n p t hs ss
due_ports_on m n p t g before [] [] a = tt
due_ports_on m n p t g before [] (s ∷ ss) a = absurd a
due_ports_on m n p t g before (h ∷ hs) [] a = absurd a
due_ports_on m n p t g before (h ∷ hs) (s ∷ ss) a = (
  record { due = has_width_kept g a.0.due; waits_for = a.0.waits_for; answer = a.0.answer; value = λ c v q. a.0.value c v (before c v q) },
  due_ports_on m n p t g before hs ss a.1,
)

pub due_ports_more :
    (m : Module) (p t : ℕ) (hs : List Handshake) (ss : List DuePort) (h : Handshake) (s : DuePort) → AreDuePorts m p t hs ss → IsDuePortOf m p t h s
    → AreDuePorts m p t (hs ++ h ∷ []) (ss ++ s ∷ [])
due_ports_more m p t [] [] h s a k = (k, tt)
due_ports_more m p t [] (r ∷ ss) h s a k = absurd a
due_ports_more m p t (y ∷ hs) [] h s a k = absurd a
due_ports_more m p t (y ∷ hs) (r ∷ ss) h s a k = (a.0, due_ports_more m p t hs ss h s a.1 k)

one_due_port : (m : Module) (p t : ℕ) (h : Handshake) (s : DuePort) → IsDuePortOf m p t h s → IsHandshake m h → IsDuePort m s
one_due_port m p t h s a w = record {
  due = a.due;
  waits_for = subst (HasWidth m 1) (sym a.waits_for) w.waits_for;
  answer = subst (HasBitOutput m) (sym a.answer) w.answer;
}

pub each_due_port : (m : Module) (p t : ℕ) (hs : List Handshake) (ss : List DuePort) → AreDuePorts m p t hs ss → All (IsHandshake m) hs → All (IsDuePort m) ss
each_due_port m p t [] [] a w i d lt = absurd (omega arith)
each_due_port m p t [] (s ∷ ss) a w i d lt = absurd a
each_due_port m p t (h ∷ hs) [] a w i d lt = absurd a
each_due_port m p t (h ∷ hs) (s ∷ ss) a w zero d lt = one_due_port m p t h s a.0 (w 0 h (omega arith))
each_due_port m p t (h ∷ hs) (s ∷ ss) a w (suc i) d lt = each_due_port m p t hs ss a.1 (λ j e q. w (suc j) e (omega arith)) i d (omega arith)

-- there are as many as handshakes
pub due_ports_length : (m : Module) (p t : ℕ) (hs : List Handshake) (ss : List DuePort) → AreDuePorts m p t hs ss → length ss ≡ length hs
due_ports_length m p t [] [] a = refl
due_ports_length m p t [] (s ∷ ss) a = absurd a
due_ports_length m p t (h ∷ hs) [] a = absurd a
due_ports_length m p t (h ∷ hs) (s ∷ ss) a = ap suc (due_ports_length m p t hs ss a.1)

-- they are told by the outputs of the handshakes
pub same_answers : (m : Module) (p t : ℕ) (hs : List Handshake) (ss : List DuePort) → AreDuePorts m p t hs ss → answers_of ss ≡ told_ports hs
same_answers m p t [] [] a = refl
same_answers m p t [] (s ∷ ss) a = absurd a
same_answers m p t (h ∷ hs) [] a = absurd a
same_answers m p t (h ∷ hs) (s ∷ ss) a =
    let e : s.answer.net ≡ h.answer.net = ap (λ (z : Signal). z.net) a.0.answer in
    ap (λ n. n ∷ answers_of ss) e ∙ ap (λ ns. h.answer.net ∷ ns) (same_answers m p t hs ss a.1)

-- ---- ports that are told

pub told_left : (m : Module) (run k : ℕ) (ss : List DuePort) → length ss ≤ k → AreTold m run (drop k ss)
told_left m run zero [] h = tt
told_left m run (suc k) [] h = tt
told_left m run zero (s ∷ ss) h = absurd (omega arith)
told_left m run (suc k) (s ∷ ss) h = told_left m run k ss (omega arith)

-- ---- times

pub small_latest : (m : Module) (hs : List Handshake) (k : ℕ) → ((i : ℕ) (d : Handshake) → i < length hs → (get_or hs i d).time ≤ k) → latest_time hs ≤ k
small_latest m [] k w = omega arith
small_latest m (h ∷ hs) k w =
    let a : h.time ≤ k = w 0 h (omega arith) in
    let b = small_latest m hs k (λ i d lt. w (suc i) d (omega arith)) in
    omega (arith, a, b)
