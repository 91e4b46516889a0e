-- The control that is built is that of each kernel whose nets it has.
use Rattle.std.proofs.Common.{
  ◌≡◌,
  ℕ,
  suc,
  ◌+◌,
  ◌%◌,
  ◌^◌,
  ◌≤◌,
  max,
  Bool,
  not,
  ◌&&◌,
  ◌||◌,
  eqb,
  ltb,
  leb,
  List,
  [],
  ◌∷◌,
  ◌++◌,
  Option,
  refl,
  sym,
  ap,
  ◌∙◌,
  subst,
  arith,
}
use Rattle.std.specs.Prelude.{All}
use Rattle.std.proofs.Math.Nat.{mod-eq_of_lt}
use Rattle.rtl_ir.specs.declared.design.Module.{Module}
use Rattle.rtl_ir.specs.Value.{Family, bit}
use Rattle.rtl_build.specs.declared.signal.Signal.{Signal}
use Rattle.rtl_delays.specs.Extends.{Extends}
use Rattle.stream_graph.specs.declared.node.Node.{Node}
use Rattle.kernel_control.specs.declared.handshakes.Handshake.{Handshake}
use Rattle.kernel_control.specs.declared.handshakes.ControlNets.{ControlNets}
use Rattle.kernel_control.specs.Ports.{PortChannel, ModuleNets, inputs_of, channels_of}
use Rattle.kernel_control.specs.Refines.{TimedRun, is_active, greatest_time, last_time, all_valid, all_ready, advances, Takes}
use Rattle.kernel_control.specs.Nets.{net_of, IsHandshake, IsHandshakeOf, AreHandshakesOf, nodes_of, AreNetsOf}
use Rattle.kernel_control.specs.Due.{is_let, is_due, latest_time}
use Rattle.kernel_control.specs.Answers.{are_served, Told, is_over, goes, Controls, HasControl}
use Rattle.kernel_control.specs.Position.{IsPosition}
use Rattle.kernel_control.specs.IsControl.{AreValid, ControlAt, IsControl}
use Rattle.kernel_control.proofs.Bits.{not_below}
use Rattle.kernel_control.proofs.Telling.{and_assoc}

-- ---- times

-- each of these times is at most 2^46
abbrev pub AreSmall : List Handshake → Type 0
AreSmall [] = Unit {0}
AreSmall (h ∷ hs) = (h.time ≤ 2 ^ 46) × AreSmall hs

pub are_small : (m : Module) (hs : List Handshake) → All (IsHandshake m) hs → AreSmall hs
are_small m [] w = tt
are_small m (h ∷ hs) w = ((w 0 h (omega arith)).small, are_small m hs (λ i d lt. w (suc i) d (omega arith)))

pub latest_small : (hs : List Handshake) → AreSmall hs → latest_time hs ≤ 2 ^ 46
latest_small [] s = omega arith
latest_small (h ∷ hs) s = let a = s.0 in let b = latest_small hs s.1 in omega (arith, a, b)

latest_is :
    (times : ℕ → ℕ) (controls : ℕ → Option ℕ) (xs ys : List PortChannel) (hs : List Handshake) → AreHandshakesOf times controls xs ys hs
    → latest_time hs ≡ greatest_time times (nodes_of xs ++ nodes_of ys)
latest_is times controls [] [] [] a = refl
latest_is times controls [] [] (h ∷ hs) a = absurd a
latest_is times controls [] (y ∷ ys) [] a = absurd a
latest_is times controls [] (y ∷ ys) (h ∷ hs) a = ap (λ n. max n (latest_time hs)) a.0.time ∙ ap (max (times y.node)) (latest_is times controls [] ys hs a.1)
latest_is times controls (x ∷ xs) ys [] a = absurd a
latest_is times controls (x ∷ xs) ys (h ∷ hs) a = ap (λ n. max n (latest_time hs)) a.0.time ∙ ap (max (times x.node)) (latest_is times controls xs ys hs a.1)

-- a sum that isn't cut
whole : (a ticks : ℕ) → a ≤ 2 ^ 46 → ticks ≤ 2 ^ 40 → (a + ticks) % 2 ^ 48 ≡ a + ticks
whole a ticks h k = mod-eq_of_lt (omega (arith, h, k))

-- ---- ports that are due

-- a run whose ports are due where they are active and let
abbrev Dues : TimedRun → (ℕ → ℕ) → (ℕ → Option ℕ) → ℕ → ℕ → Family → Type 0
Dues k times controls ticks p v = (n : ℕ) → k.due n p ≡ is_active (times n) ticks p && is_let (controls n) v

port_due :
    (k : TimedRun) (times : ℕ → ℕ) (controls : ℕ → Option ℕ) (p ticks : ℕ) (v : Family) (node wait tell : ℕ) (h : Handshake) → ticks ≤ 2 ^ 40
    → Dues k times controls ticks p v → h.time ≤ 2 ^ 46 → IsHandshakeOf times controls node wait tell h → is_due v p ticks h ≡ k.due node p
port_due k times controls p ticks v node wait tell h le due small q =
    ap (λ n. (leb h.time p && ltb p n) && is_let (net_of h.enable) v) (whole h.time ticks small le)
    ∙ ap (λ n. (leb n p && ltb p (n + ticks)) && is_let (net_of h.enable) v) q.time
    ∙ ap (λ o. is_active (times node) ticks p && is_let o v) q.enable
    ∙ sym (due node)

one_served : (v : Family) (d e : Bool) (a b : ℕ) → d ≡ e → a ≡ b → not d || eqb (v a) 1 ≡ not e || eqb (v b) 1
one_served v d e a b f g = ap (λ x. not x || eqb (v a) 1) f ∙ ap (λ n. not e || eqb (v n) 1) g

served_is : (k : TimedRun) (times : ℕ → ℕ) (controls : ℕ → Option ℕ) (p ticks : ℕ) (v : Family) → ticks ≤ 2 ^ 40 → Dues k times controls ticks p v
    → (xs ys : List PortChannel) (hs : List Handshake) → AreSmall hs → AreHandshakesOf times controls xs ys hs
    → are_served v p ticks hs ≡ all_valid k p xs v && all_ready k p ys v
served_is k times controls p ticks v le due [] [] [] s a = refl
served_is k times controls p ticks v le due [] [] (h ∷ hs) s a = absurd a
served_is k times controls p ticks v le due [] (y ∷ ys) [] s a = absurd a
served_is k times controls p ticks v le due [] (y ∷ ys) (h ∷ hs) s a =
    ap (λ b. b && are_served v p ticks hs)
    (one_served v (is_due v p ticks h) (k.due y.node p) h.waits_for.net y.channel.ready
    (port_due k times controls p ticks v y.node y.channel.ready y.channel.valid h le due s.0 a.0) a.0.waits_for)
    ∙ ap (λ b. (not (k.due y.node p) || eqb (v y.channel.ready) 1) && b) (served_is k times controls p ticks v le due [] ys hs s.1 a.1)
served_is k times controls p ticks v le due (x ∷ xs) ys [] s a = absurd a
served_is k times controls p ticks v le due (x ∷ xs) ys (h ∷ hs) s a =
    let one = not (k.due x.node p) || eqb (v x.channel.valid) 1 in
    ap (λ b. b && are_served v p ticks hs)
    (one_served v (is_due v p ticks h) (k.due x.node p) h.waits_for.net x.channel.valid
    (port_due k times controls p ticks v x.node x.channel.valid x.channel.ready h le due s.0 a.0) a.0.waits_for)
    ∙ ap (λ b. one && b) (served_is k times controls p ticks v le due xs ys hs s.1 a.1)
    ∙ sym (and_assoc one (all_valid k p xs v) (all_ready k p ys v))

told_one : (v : Family) (go : Bool) (n answer : ℕ) (b d : Bool) → v n ≡ bit (go && b) → n ≡ answer → b ≡ d → v answer ≡ bit (go && d)
told_one v go n answer b d e f g = ap v (sym f) ∙ e ∙ ap (λ x. bit (go && x)) g

takes_is : (k : TimedRun) (times : ℕ → ℕ) (controls : ℕ → Option ℕ) (p ticks : ℕ) (v : Family) (go : Bool) → ticks ≤ 2 ^ 40 → Dues k times controls ticks p v
    → (xs ys : List PortChannel) (hs : List Handshake) → AreSmall hs → AreHandshakesOf times controls xs ys hs → Told v p ticks go hs → Takes k p go xs v
takes_is k times controls p ticks v go le due [] ys hs s a t = tt
takes_is k times controls p ticks v go le due (x ∷ xs) ys [] s a t = absurd a
takes_is k times controls p ticks v go le due (x ∷ xs) ys (h ∷ hs) s a t = (
  told_one v go h.answer.net x.channel.ready (is_due v p ticks h) (k.due x.node p) t.0 a.0.answer
      (port_due k times controls p ticks v x.node x.channel.valid x.channel.ready h le due s.0 a.0),
  takes_is k times controls p ticks v go le due xs ys hs s.1 a.1 t.1,
)

valid_is : (k : TimedRun) (times : ℕ → ℕ) (controls : ℕ → Option ℕ) (p ticks : ℕ) (v : Family) (go : Bool) → ticks ≤ 2 ^ 40 → Dues k times controls ticks p v
    → (xs ys : List PortChannel) (hs : List Handshake) → AreSmall hs → AreHandshakesOf times controls xs ys hs → Told v p ticks go hs → AreValid k p go ys v
valid_is k times controls p ticks v go le due [] [] hs s a t = tt
valid_is k times controls p ticks v go le due [] (y ∷ ys) [] s a t = absurd a
valid_is k times controls p ticks v go le due [] (y ∷ ys) (h ∷ hs) s a t = (
  told_one v go h.answer.net y.channel.valid (is_due v p ticks h) (k.due y.node p) t.0 a.0.answer
      (port_due k times controls p ticks v y.node y.channel.ready y.channel.valid h le due s.0 a.0),
  valid_is k times controls p ticks v go le due [] ys hs s.1 a.1 t.1,
)
valid_is k times controls p ticks v go le due (x ∷ xs) ys [] s a t = absurd a
valid_is k times controls p ticks v go le due (x ∷ xs) ys (h ∷ hs) s a t = valid_is k times controls p ticks v go le due xs ys hs s.1 a.1 t.1

-- ---- the control of an edge

control_at : (q : ModuleNets) (run : ℕ) (k : TimedRun) (times : ℕ → ℕ) (controls : ℕ → Option ℕ) (last p ticks : ℕ) (v : Family) (hs : List Handshake)
    → ticks ≤ 2 ^ 40 → Dues k times controls ticks p v → k.ends p ≡ leb (ticks + last) p → latest_time hs ≡ last → AreSmall hs
    → AreHandshakesOf times controls q.inputs q.outputs hs
    → Controls v p ticks q.hold q.ended run hs → ControlAt q run k p v
control_at q run k times controls last p ticks v hs le due ends is small a c =
    let held = eqb (v q.hold) 1 in
    let sum : (latest_time hs + ticks) % 2 ^ 48 ≡ ticks + last = let e = whole (latest_time hs) ticks (latest_small hs small) le in omega (arith, e, is) in
    let gone : is_over p ticks hs ≡ k.ends p = ap (λ n. not (ltb p n)) sum ∙ not_below p (ticks + last) ∙ sym ends in
    let go : goes v p ticks q.hold hs ≡ advances k q p v =
    ap (λ x. not held && (not x && are_served v p ticks hs)) gone
    ∙ ap (λ x. not held && (not (k.ends p) && x)) (served_is k times controls p ticks v le due q.inputs q.outputs hs small a) in
    record {
      runs = c.runs ∙ ap bit go;
      ended = c.ended ∙ ap bit gone;
      takes = takes_is k times controls p ticks v (advances k q p v) le due q.inputs q.outputs hs small a (subst (λ b. Told v p ticks b hs) go c.told);
      valid = valid_is k times controls p ticks v (advances k q p v) le due q.inputs q.outputs hs small a (subst (λ b. Told v p ticks b hs) go c.told);
    }

-- whatever the nets are called
controls_named :
    (v : Family) (p ticks hold hold' over over' run : ℕ) (hs : List Handshake) → hold' ≡ hold → over' ≡ over → Controls v p ticks hold over run hs
    → Controls v p ticks hold' over' run hs
controls_named v p ticks hold hold' over over' run hs e f c =
    let P : ℕ → ℕ → Type 0 = λ x y. Controls v p ticks x y run hs in
    subst (λ x. P x over') (sym e) (subst (P hold) (sym f) c)

controls_at :
    (v : Family) (position position' ticks ticks' hold hold' over over' run t : ℕ) (hs : List Handshake) → position' ≡ position → ticks' ≡ ticks
    → hold' ≡ hold → over' ≡ over → v ticks' ≡ t
    → Controls v (v position) (v ticks) hold over run hs → Controls v (v position') t hold' over' run hs
controls_at v position position' ticks ticks' hold hold' over over' run t hs a b c d e h =
    let P : ℕ → ℕ → Type 0 = λ p n. Controls v p n hold' over' run hs in
    let to : v ticks ≡ t = ap v (sym b) ∙ e in
    subst (λ p. P p t) (ap v (sym a)) (subst (P (v position)) to (controls_named v (v position) (v ticks) hold hold' over over' run hs c d h))

position_named :
    (m : Module) (position position' run reset reset' : ℕ) → position' ≡ position → reset' ≡ reset → IsPosition m position run reset
    → IsPosition m position' run reset'
position_named m position position' run reset reset' a b h =
    let P : ℕ → ℕ → Type 0 = λ p r. IsPosition m p run r in
    subst (λ p. P p reset') (sym a) (subst (P position) (sym b) h)

pub control_built :
    (old m n : Module) (nets : ControlNets) (hs : List Handshake) (run : Signal) → AreSmall hs → HasControl old m nets hs run → Extends m n
    → IsPosition n nets.position.net run.net nets.reset.net
    → (nodes : List Node) (times : ℕ → ℕ) (controls : ℕ → Option ℕ) (q : ModuleNets) → AreNetsOf nodes times controls q nets hs
    → IsControl n nodes times controls q run.net
control_built old m n nets hs run small has e at nodes times controls q a =
    let p = position_named n nets.position.net q.position run.net nets.reset.net q.reset a.position a.reset at in
    let last : latest_time hs ≡ last_time nodes times =
    latest_is times controls q.inputs q.outputs hs a.ports
    ∙ ap (λ ns. greatest_time times (ns ++ nodes_of q.outputs)) a.inputs
    ∙ ap (λ ns. greatest_time times (inputs_of nodes ++ ns)) a.outputs in
    record {
      position = p.register;
      cleared = p.cleared;
      steps = p.steps;
      shows = λ k c v t h is le within due ends.
          control_at q run.net k times controls (last_time nodes times) (v q.position) t v hs le due ends last small a.ports
          (controls_at v nets.position.net q.position nets.ticks.net q.ticks nets.hold.net q.hold nets.ended.net q.ended run.net t hs a.position a.ticks
          a.hold a.ended is (has.shows c v (e.before c v h)));
    }

-- the control stays what it is where the module grows
pub control_kept :
    (m n : Module) (nodes : List Node) (times : ℕ → ℕ) (controls : ℕ → Option ℕ) (q : ModuleNets) (run : ℕ) → Extends m n
    → IsControl m nodes times controls q run → IsControl n nodes times controls q run
control_kept m n nodes times controls q run e h = record {
  position = e.regs q.position h.position;
  cleared = λ c v d s r. h.cleared c v d (e.steps c v d s) r;
  steps = λ c v d s r. h.steps c v d (e.steps c v d s) r;
  shows = λ k c v t s is le within due ends. h.shows k c v t (e.before c v s) is le within due ends;
}

-- the nodes of the channels of some nodes
pub nodes_channels : (m : Module) (k : ℕ) (ns : List ℕ) → nodes_of (channels_of m k ns) ≡ ns
nodes_channels m k [] = refl
nodes_channels m k (n ∷ ns) = ap (λ xs. n ∷ xs) (nodes_channels m (k + 3) ns)
