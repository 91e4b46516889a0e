-- The control of an edge, by the ports that are due.
use Rattle.std.proofs.Common.{◌≡◌, ℕ, Bool, true, false, not, ◌&&◌, ◌||◌, eqb, List, [], ◌∷◌, refl, sym, ap, ◌∙◌}
use Rattle.std.specs.Prelude.{bit_and}
use Rattle.rtl_ir.specs.declared.design.Module.{Module}
use Rattle.rtl_ir.specs.Value.{Family, Contents, bit}
use Rattle.rtl_ir.specs.Grow.{Holds}
use Rattle.rtl_build.specs.declared.signal.Signal.{Signal}
use Rattle.kernel_control.specs.declared.handshakes.Handshake.{Handshake}
use Rattle.kernel_control.specs.declared.serving.DuePort.{DuePort}
use Rattle.kernel_control.specs.Due.{is_due, AreDuePorts}
use Rattle.kernel_control.specs.Serving.{serves, all_serve}
use Rattle.kernel_control.specs.Answers.{AreTold, are_served, Told, is_over, goes, Controls}
use Rattle.kernel_control.proofs.Bits.{test_bit, and_bits, and_true}

pub and_assoc : (a b c : Bool) → (a && b) && c ≡ a && (b && c)
and_assoc true b c = refl
and_assoc false b c = refl

-- the ports are served where the handshakes are
serve_ports :
    (m : Module) (position ticks : ℕ) (c : Contents) (v : Family) → Holds m c v → (hs : List Handshake) (ss : List DuePort) (b : Bool)
    → AreDuePorts m position ticks hs ss
    → all_serve b ss v ≡ b && are_served v (v position) (v ticks) hs
serve_ports m position ticks c v q [] [] b a = and_true b
serve_ports m position ticks c v q [] (s ∷ ss) b a = absurd a
serve_ports m position ticks c v q (h ∷ hs) [] b a = absurd a
serve_ports m position ticks c v q (h ∷ hs) (s ∷ ss) b a =
    let due = is_due v (v position) (v ticks) h in
    let one : serves v s ≡ not due || eqb (v h.waits_for.net) 1 =
    ap (λ n. not (eqb n 1) || eqb (v s.waits_for.net) 1) (a.0.value c v q) ∙ ap (λ d. not d || eqb (v s.waits_for.net) 1) (test_bit due) ∙ ap
    (λ (z : Signal). not due || eqb (v z.net) 1) a.0.waits_for in
    serve_ports m position ticks c v q hs ss (b && serves v s) a.1
    ∙ and_assoc b (serves v s) (are_served v (v position) (v ticks) hs)
    ∙ ap (λ d. b && (d && are_served v (v position) (v ticks) hs)) one

-- what the ports are told
told_is :
    (m : Module) (position ticks run : ℕ) (c : Contents) (v : Family) (go : Bool) → Holds m c v → v run ≡ bit go → (hs : List Handshake)
    (ss : List DuePort) → AreDuePorts m position ticks hs ss → AreTold m run ss
    → Told v (v position) (v ticks) go hs
told_is m position ticks run c v go q e [] [] a t = tt
told_is m position ticks run c v go q e [] (s ∷ ss) a t = absurd a
told_is m position ticks run c v go q e (h ∷ hs) [] a t = absurd a
told_is m position ticks run c v go q e (h ∷ hs) (s ∷ ss) a t =
    let due = is_due v (v position) (v ticks) h in (
      ap (λ (z : Signal). v z.net) (sym a.0.answer) ∙ t.0 c v q ∙ ap (λ n. bit_and n (v s.due.net)) e ∙ ap (bit_and (bit go)) (a.0.value c v q)
          ∙ and_bits go due,
      told_is m position ticks run c v go q e hs ss a.1 t.1,
    )

-- the control in an edge of a module that has all of it
pub controls :
    (m : Module) (position ticks hold over past go : ℕ) (hs : List Handshake) (ss : List DuePort) → AreDuePorts m position ticks hs ss → AreTold m go ss
    → (c : Contents) (v : Family) → Holds m c v → v past ≡ bit (is_over (v position) (v ticks) hs) → v over ≡ v past
    → v go ≡ bit (all_serve (not (eqb (v hold) 1) && not (eqb (v past) 1)) ss v)
    → Controls v (v position) (v ticks) hold over go hs
controls m position ticks hold over past go hs ss a t c v h e d r =
    let p = v position in
    let n = v ticks in
    let held = eqb (v hold) 1 in
    let gone : eqb (v past) 1 ≡ is_over p n hs = ap (λ x. eqb x 1) e ∙ test_bit (is_over p n hs) in
    let runs : v go ≡ bit (goes v p n hold hs) =
    r
    ∙ ap bit (
    serve_ports m position ticks c v h hs ss (not held && not (eqb (v past) 1)) a
    ∙ and_assoc (not held) (not (eqb (v past) 1)) (are_served v p n hs)
    ∙ ap (λ x. not held && (not x && are_served v p n hs)) gone) in
    record {
      runs = runs;
      ended = d ∙ e;
      told = told_is m position ticks go c v (goes v p n hold hs) h runs hs ss a t;
    }
